-- Searches and maps after an entry is inserted.
use mathlib.Core.Path.{◌≡◌, refl, ap₂, ◌∙◌}
use mathlib.Core.Bool.{Bool, true, false}
use mathlib.Core.List.{List, [], ◌∷◌, map}
use mathlib.Core.Option.{some}
use lib.Dec.{ltb}
use Rattle.blocks.specs.Choice.{either}
use Rattle.blocks.specs.Lists.{any, first, All, end, also}
use Rattle.blocks.proofs.BoolLaws.{by_t, either_swap, is_false}
use Rattle.model.specs.declared.Entry.{Entry}
use Rattle.model.specs.Model.{insert}

pub any_insert : (p : Entry → Bool) (e : Entry) (l : List Entry) → any p (insert e l) ≡ either (p e) (any p l)
any_insert p e [] = refl
any_insert p e (x ∷ l) =
    by_t (ltb e.base x.base) (λ t. rw t) (λ t. rw (t, any_insert p e l) (either_swap (p x) (p e) (any p l)))

pub All-insert : {P : Entry → Type 0} (e : Entry) {l : List Entry} → P e → All P l → All P (insert e l)
All-insert e h end = also h end
All-insert e h (also {x} {l} g a) =
    by_t (ltb e.base x.base) (λ t. rw t (also h (also g a))) (λ t. rw t (also g (All-insert e h a)))

pub first_insert_not : (p : Entry → Bool) {e : Entry} (l : List Entry) → p e ≡ false →
    first p (insert e l) ≡ first p l
first_insert_not p [] h = rw h
first_insert_not p {e} (x ∷ l) h =
    by_t (ltb e.base x.base) (λ t. rw (t, h)) (λ t. rw (t, first_insert_not p l h))

pub first_insert : (p : Entry → Bool) {e : Entry} {l : List Entry} → p e ≡ true → All (λ x. p x ≡ true → ⊥) l →
    first p (insert e l) ≡ some e
first_insert p h end = rw h
first_insert p {e} h (also {x} {l} g a) =
    by_t (ltb e.base x.base) (λ t. rw (t, h)) (λ t. rw (t, is_false g, first_insert p h a))

pub map_insert : (f : Entry → Entry) → ((x : Entry) → (f x).base ≡ x.base) → (e : Entry) (l : List Entry) →
    map f (insert e l) ≡ insert (f e) (map f l)
map_insert f fb e [] = refl
map_insert f fb e (x ∷ l) =
    let q : ltb (f e).base (f x).base ≡ ltb e.base x.base = ap₂ ltb (fb e) (fb x) in
    by_t (ltb e.base x.base) (λ t. rw (t, q ∙ t)) (λ t. rw (t, q ∙ t, map_insert f fb e l))
