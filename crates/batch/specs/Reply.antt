-- Replies, and their bytes (R49).
use Rattle.std.specs.Prelude.{ℕ, List, []}
use Rattle.model.specs.declared.Entry.{Entry}
use Rattle.model.specs.Model.{shown}
use Rattle.words.specs.Bytes.{bytes_then}
use Rattle.batch.specs.Batch.{Command, Store, Load, Erase, Mark, Unmark, Find, Reserve}
pub use Rattle.batch.specs.declared.Reply.{Reply}

abbrev pub reply_bytes : ℕ
reply_bytes = 24

-- the tags of replies, 128 more than those of commands
abbrev pub store_reply : ℕ
store_reply = 129

abbrev pub load_reply : ℕ
load_reply = 130

abbrev pub erase_reply : ℕ
erase_reply = 131

abbrev pub mark_reply : ℕ
mark_reply = 132

abbrev pub unmark_reply : ℕ
unmark_reply = 133

abbrev pub find_reply : ℕ
find_reply = 134

abbrev pub reserve_reply : ℕ
reserve_reply = 135

-- the tag of the reply to a command
abbrev pub reply_tag : Command → ℕ
reply_tag (Store i k w) = store_reply
reply_tag (Load i) = load_reply
reply_tag (Erase i) = erase_reply
reply_tag (Mark i m) = mark_reply
reply_tag (Unmark i m) = unmark_reply
reply_tag (Find a z f k) = find_reply
reply_tag (Reserve i) = reserve_reply

-- the 24 bytes of a reply
abbrev pub encode : Reply → List ℕ
encode r =
    bytes_then 1 r.tag
    (bytes_then 2 21
    (bytes_then 1 r.answer
    (bytes_then 8 r.index
    (bytes_then 1 r.order
    (bytes_then 8 r.word
    (bytes_then 1 r.marks
    (bytes_then 2 r.count [])))))))

-- an answer with an index and a count, or with an entry or a reservation and a count; other fields are 0 (R54, R202)
abbrev pub answered : (tag answer index count : ℕ) → Reply
answered t a i n = record { tag = t; answer = a; index = i; order = 0; word = 0; marks = 0; count = n }

abbrev pub answered_by : (tag : ℕ) → Entry → (count : ℕ) → Reply
answered_by t e n =
    record { tag = t; answer = 0; index = e.base; order = e.order; word = shown e; marks = e.marks; count = n }
