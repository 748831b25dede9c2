-- What the visits of nodes and slots promise each other.
use Rattle.std.specs.Prelude.{ℕ, suc, ◌+◌, ◌*◌, ◌≤◌, ◌≡◌, List, [], ◌∷◌, leb, ltb, length}
use Rattle.blocks.specs.Choice.{pick, both}
use Rattle.blocks.specs.Lists.{keep}
use Rattle.model.specs.declared.Entry.{Entry}
use Rattle.words.specs.Bytes.{overwrite}
use Rattle.tree.specs.Slots.{Numbering}
use Rattle.lookup.specs.Views.{AtNode}
use Rattle.listing.specs.Listing.{entry_bytes, encode_entry}

-- the entries whose base is x or more and below y
abbrev pub between : List Entry → ℕ → ℕ → List Entry
between l x y = keep (λ e. both (leb x e.base) (ltb e.base y)) l

-- an entry as number k of the listing, where so many may be written
abbrev pub put_at : (room : ℕ) → List ℕ → ℕ → Entry → List ℕ
put_at room bs k e = pick (ltb k room) (overwrite bs (entry_bytes * k) (encode_entry e)) bs

-- entries from number k on
unfoldable pub emit : (room : ℕ) → List ℕ → ℕ → List Entry → List ℕ
emit room bs k [] = bs
emit room bs k (e ∷ es) = emit room (put_at room bs k e) (suc k) es

-- the entries es, from number k on, went into the buffer; r is the number after them
pub record Emits (room : ℕ) (es : List Entry) (bs : List ℕ) (k : ℕ) (bs' : List ℕ) (r : ℕ) : Type 0 where
  pub bytes_are : bs' ≡ emit room bs k es
  pub count_is : r ≡ k + length es

-- at node n of block b, whose slots are of tier v, with k entries listed of those below index x
pub record Ready (l : List Entry) (ν : Numbering) (v b n x k : ℕ) : Type 0 where
  pub at_node_lem : AtNode l ν v b n
  pub counted : k ≤ length (between l 0 x)
