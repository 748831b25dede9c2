-- The bytes of a reply, written number by number.
use Prim.Native.Nat.{ℕ, ◌+◌}
use mathlib.Core.Path.{◌≡◌, sym, ◌∙◌}
use mathlib.Core.List.{List, []}
use Rattle.words.specs.Bytes.{bytes_then, write_from, overwrite}
use Rattle.words.proofs.WriteLaws.{written}
use Rattle.batch.specs.Reply.{Reply, encode}

-- the eight numbers of a reply, one after the other
pub reply_written : (s : List ℕ) {a b c d e f g h : List ℕ} (at : ℕ) (r : Reply) →
    a ≡ overwrite s (at + 0) (bytes_then 1 r.tag []) → b ≡ overwrite a (at + 1) (bytes_then 2 21 []) →
    c ≡ overwrite b (at + 3) (bytes_then 1 r.answer []) → d ≡ overwrite c (at + 4) (bytes_then 8 r.index []) →
    e ≡ overwrite d (at + 12) (bytes_then 1 r.order []) → f ≡ overwrite e (at + 13) (bytes_then 8 r.word []) →
    g ≡ overwrite f (at + 21) (bytes_then 1 r.marks []) → h ≡ overwrite g (at + 22) (bytes_then 2 r.count []) →
    h ≡ overwrite s at (encode r)
unfolding write_from
reply_written s {a} {b} {c} {d} {e} {f} {g} at r ha hb hc hd he hf hg hh =
    let m₇ : List ℕ = bytes_then 2 r.count [] in
    let m₆ : List ℕ = bytes_then 1 r.marks m₇ in
    let m₅ : List ℕ = bytes_then 8 r.word m₆ in
    let m₄ : List ℕ = bytes_then 1 r.order m₅ in
    let m₃ : List ℕ = bytes_then 8 r.index m₄ in
    let m₂ : List ℕ = bytes_then 1 r.answer m₃ in
    let m₁ : List ℕ = bytes_then 2 21 m₂ in
    sym
    (written s at 0 1 r.tag m₁ ha
    ∙ written a at 1 2 21 m₂ hb
    ∙ written b at 3 1 r.answer m₃ hc
    ∙ written c at 4 8 r.index m₄ hd
    ∙ written d at 12 1 r.order m₅ he
    ∙ written e at 13 8 r.word m₆ hf
    ∙ written f at 21 1 r.marks m₇ hg
    ∙ written g at 22 2 r.count [] hh)
