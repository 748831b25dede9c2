-- What the steps of an erase write into the rows.
use Prim.Native.Nat.{ℕ, ◌+◌, ◌≤◌, ◌<◌}
use mathlib.Core.Path.{◌≡◌, refl, sym, ap, subst, ◌∙◌}
use mathlib.Core.Bool.{Bool, true, false}
use mathlib.Core.Logic.{inl, inr}
use mathlib.Core.List.{List, [], ◌∷◌}
use native.Mathlib.Omega.{arith}
use lib.Dec.{eqb, leb}
use lib.ListN.{length, get_or, set}
use lib.Seq.{get_or-set_same, get_or-set_other}
use borrow.Author.Tests.{eqb-true, eqb-false, leb-true, leb-false}
use Rattle.blocks.specs.Choice.{pick}
use Rattle.blocks.proofs.BoolLaws.{by_t, clash}
use Rattle.layout.specs.Words.{place, pool_words, node_end, last_place, owner_place, filled_place, slot_place, IsField}
use Rattle.layout.specs.Fill.{cleared}
use Rattle.layout.specs.Reading.{is_node}
use Rattle.layout.proofs.FillLaws.{length_cleared, cleared_before, cleared_after, cleared_in}
use Rattle.script_rows.specs.Row.{Copies}
use Rattle.script_erase.specs.Erased.{HeadRow, Swept, Drops, Taken, chain_row}
use Rattle.script_erase.proofs.LoweredLaws.{row_or}

-- WHETHER THE HEAD GOES
no_way : {C : Type 0} → false ≡ true → C
no_way e = absurd (clash {b = false} e refl)

module _ {rs : List ℕ} {r u : ℕ} where
  pub drops_more : (get_or rs (filled_place r) 0 ≡ 1 → ⊥) → Drops rs r u false
  drops_more n = record { alone = no_way; full = no_way; can = no_way; cannot = λ _ e. absurd (n e) }

  pub drops_empty : get_or rs (slot_place r 0) 0 ≡ 0 → Drops rs r u false
  drops_empty z = record { alone = no_way; full = no_way; can = no_way; cannot = λ _ _ n. absurd (n z) }

  module _ (one : get_or rs (filled_place r) 0 ≡ 1) (ne : get_or rs (slot_place r 0) 0 ≡ 0 → ⊥) where
    pub drops_low : u ≡ 1 → Drops rs r u true
    drops_low e = record { alone = λ _. one; full = λ _. ne; can = λ _. inr e; cannot = λ t. absurd (clash refl t) }

    pub drops_node : (u ≡ 1 → ⊥) → {b : Bool} → b ≡ is_node (get_or rs (slot_place r 0) 0) → Drops rs r u b
    drops_node n e = record {
      alone = λ _. one;
      full = λ _. ne;
      can = λ t. inl (sym e ∙ t);
      cannot = λ t _ _. (sym e ∙ t, n);
    }

-- ROWS WITHOUT A FILLED SLOT
pub swept_start : (rs : List ℕ) (v : ℕ) → Swept rs rs v (v + 1)
swept_start rs v = record { same_length = refl; below = λ _ _. refl; rows = λ x a b. absurd (omega arith); above = λ _ _. refl }

module _ {rs rs₁ rs₂ : List ℕ} {v u : ℕ} (w : Swept rs rs₁ v u) (low : v < u) (long : last_place u < length rs)
    (e : rs₂ ≡ pick (eqb (get_or rs₁ (filled_place u) 0) 0) (cleared rs₁ u) rs₁) where
  -- the row of tier u alone changes
  either_way : (P : List ℕ → Type 0) → (get_or rs₁ (filled_place u) 0 ≡ 0 → P (cleared rs₁ u)) →
      ((get_or rs₁ (filled_place u) 0 ≡ 0 → ⊥) → P rs₁) → P rs₂
  either_way P a b = by_t (eqb (get_or rs₁ (filled_place u) 0) 0)
      (λ t. subst P (sym (e ∙ rw t refl)) (a (eqb-true _ _ t))) (λ t. subst P (sym (e ∙ rw t refl)) (b (eqb-false _ _ t)))

  before : (p : ℕ) → p < pool_words u → get_or rs₂ p 0 ≡ get_or rs₁ p 0
  before p h = either_way (λ x. get_or x p 0 ≡ get_or rs₁ p 0) (λ _. cleared_before rs₁ u p h) (λ _. refl)

  after : (p : ℕ) → node_end u ≤ p → get_or rs₂ p 0 ≡ get_or rs₁ p 0
  after p h = either_way (λ x. get_or x p 0 ≡ get_or rs₁ p 0) (λ _. cleared_after rs₁ u p h) (λ _. refl)

  filled_then_lem : get_or rs₁ (filled_place u) 0 ≡ get_or rs (filled_place u) 0
  filled_then_lem = w.above (filled_place u) (omega arith)

  here : (f : ℕ) → IsField f →
      get_or rs₂ (place u f) 0 ≡ pick (eqb (get_or rs (filled_place u) 0) 0) 0 (get_or rs (place u f) 0)
  here f q = rw (sym filled_then_lem) (go (get_or rs₁ (filled_place u) 0) refl)
    where
      go : (n : ℕ) → get_or rs₁ (filled_place u) 0 ≡ n → get_or rs₂ (place u f) 0 ≡ pick (eqb n 0) 0 (get_or rs (place u f) 0)
      go n z = by_t (eqb n 0)
          (λ t. rw t (either_way (λ x. get_or x (place u f) 0 ≡ 0)
          (λ _. cleared_in rs₁ u (omega (arith, w.same_length)) (place u f) (omega arith) (omega arith))
          (λ y. absurd (y (z ∙ eqb-true _ _ t)))))
          (λ t. rw t (either_way (λ x. get_or x (place u f) 0 ≡ get_or rs (place u f) 0)
          (λ y. absurd (eqb-false _ _ t (sym z ∙ y))) (λ _. w.above (place u f) (omega arith))))

  pub swept_step : Swept rs rs₂ v (u + 1)
  swept_step = record {
    same_length = either_way (λ x. length x ≡ length rs) (λ _. length_cleared rs₁ u ∙ w.same_length) (λ _. w.same_length);
    below = λ p h. before p (omega arith) ∙ w.below p h;
    rows = λ x a b f q. by_t (eqb x u)
        (λ t. subst (λ (y : ℕ). get_or rs₂ (place y f) 0 ≡ pick (eqb (get_or rs (filled_place y) 0) 0) 0 (get_or rs (place y f) 0))
        (sym (eqb-true _ _ t)) (here f q))
        (λ t. let ne : x ≡ u → ⊥ = eqb-false _ _ t in before (place x f) (omega arith) ∙ w.rows x a (omega arith) f q);
    above = λ p h. after p (omega arith) ∙ w.above p (omega arith);
  }

-- THE NEW HEAD
module _ {ws : List ℕ} {i v u n : ℕ} {rs : List ℕ} {r : ℕ} (h : HeadRow i v u r) where
  -- is on the path
  pub taken_on : (ns : List ℕ) → r ≡ u → owner_place r < length rs → Taken ws i v u n rs (set rs (owner_place r) 0) ns ns r
  taken_on ns e long = record {
    row_is = h;
    owner_is = get_or-set_same rs (owner_place r) 0 0 long;
    stays = λ _ _ f q ne. get_or-set_other rs (owner_place r) (place u f) 0 0 (λ z. ne (omega arith));
    copied = λ o. absurd (omega (arith, h.off o));
    rest = λ p out. get_or-set_other rs (owner_place r) p 0 0 (λ z. out (omega arith) (omega arith));
    number_is = λ o. absurd (omega (arith, h.off o));
    numbers_stay = λ _ _ q. refl;
    numbers_rest = λ q _. refl;
  }

  -- is not, and has its row as a copy
  pub taken_off : {rs₁ : List ℕ} → (ns : List ℕ) → (r ≡ u → ⊥) → Copies ws n rs rs₁ r → last_place r < length rs → r < length ns →
      Taken ws i v u n rs (set rs₁ (owner_place r) 0) ns (set ns r n) r
  taken_off {rs₁} ns ne c long g = record {
    row_is = h;
    owner_is = get_or-set_same rs₁ (owner_place r) 0 0 (omega (arith, c.others.same_length));
    stays = λ a z. absurd (ne (h.on a z));
    copied = λ o f q y. let e : r ≡ chain_row u = h.off o in
        get_or-set_other rs₁ (owner_place r) (place (chain_row u) f) 0 0 (λ z. y (omega arith))
        ∙ (ap (λ (x : ℕ). get_or rs₁ (place x f) 0) (sym e) ∙ c.fields f q);
    rest = λ p out. get_or-set_other rs₁ (owner_place r) p 0 0 (λ z. out (omega arith) (omega arith)) ∙ other p out;
    number_is = λ o. ap (λ (x : ℕ). get_or (set ns r n) x 0) (sym (h.off o)) ∙ get_or-set_same ns r n 0 g;
    numbers_stay = λ a z. absurd (ne (h.on a z));
    numbers_rest = λ q y. get_or-set_other ns r q n 0 (λ z. row_or h (λ _ _ e. ne e) (λ _ e. y (z ∙ e)));
  }
    where
      other : (p : ℕ) → (pool_words r ≤ p → p < node_end r → ⊥) → get_or rs₁ p 0 ≡ get_or rs p 0
      other p out = by_t (leb (pool_words r) p)
          (λ t. let a : pool_words r ≤ p = leb-true _ _ t in
          by_t (leb (node_end r) p) (λ z. c.others.after p (leb-true _ _ z))
          (λ z. let b : p < node_end r = leb-false _ _ z in absurd (out a b)))
          (λ t. c.others.before p (leb-false _ _ t))

-- THE ANCHOR OF NO ENTRIES
pub anchor_bare : (rs : List ℕ) (n : ℕ) → 4 ≤ length rs →
    (get_or (set (set (set (set rs 0 n) 1 0) 2 0) 3 0) 0 0 ≡ n) × (get_or (set (set (set (set rs 0 n) 1 0) 2 0) 3 0) 1 0 ≡ 0) ×
    (get_or (set (set (set (set rs 0 n) 1 0) 2 0) 3 0) 2 0 ≡ 0) × (get_or (set (set (set (set rs 0 n) 1 0) 2 0) 3 0) 3 0 ≡ 0)
anchor_bare (a ∷ b ∷ c ∷ d ∷ rs) n h = (refl, refl, refl, refl)
anchor_bare (a ∷ b ∷ c ∷ []) n h = absurd (omega arith)
anchor_bare (a ∷ b ∷ []) n h = absurd (omega arith)
anchor_bare (a ∷ []) n h = absurd (omega arith)
anchor_bare [] n h = absurd (omega arith)
