-- The head goes, and the node below it, or an entry, becomes the head.
use Prim.Native.Nat.{ℕ, suc, ◌/◌, ◌≤◌, ◌<◌}
use mathlib.Core.Path.{◌≡◌, sym, ap, subst, ◌∙◌}
use mathlib.Core.Bool.{true}
use mathlib.Core.Logic.{◌⊎◌, inl, inr}
use mathlib.Core.List.{List}
use native.Mathlib.Omega.{arith}
use native.Mathlib.Nat.{le_refl}
use lib.Dec.{eqb, leb}
use lib.ListN.{length, get_or}
use borrow.Author.Tests.{eqb-true, eqb-false, leb-true, leb-false}
use Rattle.blocks.specs.Blocks.{block}
use Rattle.blocks.proofs.BoolLaws.{by_t}
use Rattle.model.specs.declared.Entry.{Entry}
use Rattle.tree.proofs.NodeListLaws.{has_tier}
use Rattle.tree.specs.Tree.{slot_bits, top_tier, tier_order, height, has}
use Rattle.layout.specs.Words.{place, last_place, IsField, owner_field}
use Rattle.layout.specs.Fill.{cleared}
use Rattle.layout.specs.WellFormed.{WellFormed, num}
use Rattle.layout.proofs.FillLaws.{cleared_before, cleared_after, cleared_in}
use Rattle.script_table.specs.Table.{row_count}
use Rattle.script_erase.specs.Erased.{Erases, Off, HeadRow, chain_row, tall_field, InChain, Lowered, Taken}
use Rattle.script_erase.proofs.LoweredLaws.{row_or, tall_above, tall_less, tall_owner, off_words}

module _ {ws : List ℕ} (s : WellFormed ws) {i k top u : ℕ} {l' : List Entry} (E : Erases s i k top l') {rs ns : List ℕ} {r : ℕ}
    (L : Lowered s i (k / slot_bits) top (suc u) l' rs ns) (h : HeadRow i (k / slot_bits) (suc u) r) (le : suc u ≤ top)
    (top_le : top ≤ top_tier) (long : last_place r < length rs) (fit : height l' ≤ u) where
  abbrev v : ℕ
  v = k / slot_bits

  abbrev rs₁ : List ℕ
  rs₁ = cleared rs r

  -- the row of the old head is 0, the others stay
  row_zero : (f : ℕ) → IsField f → get_or rs₁ (place r f) 0 ≡ 0
  row_zero f q = cleared_in rs r (omega arith) (place r f) (omega arith) (omega arith)

  row_other : (x f : ℕ) → (x ≡ r → ⊥) → IsField f → get_or rs₁ (place x f) 0 ≡ get_or rs (place x f) 0
  row_other x f n q = by_t (leb x r)
      (λ z. let g : x ≤ r = leb-true _ _ z in cleared_before rs r (place x f) (omega arith))
      (λ z. let g : r < x = leb-false _ _ z in cleared_after rs r (place x f) (omega arith))

  path_then : (x : ℕ) → v < x → x ≤ top → (f : ℕ) → IsField f → (x ≡ u → block (tier_order x) i ≡ 0 → f ≡ owner_field → ⊥) →
      get_or rs₁ (place x f) 0 ≡ tall_field u l' (num s) x (block (tier_order x) i) f
  path_then x a z f q n = by_t (eqb x r)
      (λ t. let e : x ≡ r = eqb-true _ _ t in
      row_or h
      (λ _ _ y. ap (λ (w : ℕ). get_or rs₁ (place w f) 0) e ∙ (row_zero f q
      ∙ sym (tall_above s E fit u x (block (tier_order x) i) f (omega arith))))
      (λ _ y. absurd (omega arith)))
      (λ t. let ne : x ≡ r → ⊥ = eqb-false _ _ t in
      row_other x f ne q ∙ (L.path x a z f q
      ∙ tall_less s E fit x (block (tier_order x) i) f (λ y w. ne (y ∙ sym (on_at y w a))) n))
    where
      on_at : {x : ℕ} → x ≡ suc u → block (tier_order x) i ≡ 0 → v < x → r ≡ suc u
      on_at y w a = h.on (subst (λ (m : ℕ). v < m) y a) (subst (λ (m : ℕ). block (tier_order m) i ≡ 0) y w)

  chain_then : (x : ℕ) → suc u ≤ x → x ≤ top → Off i v x → has s.list x 0 ≡ true → (f : ℕ) → IsField f →
      get_or rs₁ (place (chain_row x) f) 0 ≡ tall_field u l' (num s) x 0 f
  chain_then x a z o t f q = by_t (eqb (chain_row x) r)
      (λ y. let e : chain_row x ≡ r = eqb-true _ _ y in
      ap (λ (w : ℕ). get_or rs₁ (place w f) 0) e ∙ (row_zero f q ∙ sym (tall_above s E fit u x 0 f (omega arith))))
      (λ y. let ne : chain_row x ≡ r → ⊥ = eqb-false _ _ y in
      row_other (chain_row x) f ne q ∙ (L.chain x a z o t f q
      ∙ tall_less s E fit x 0 f (λ w _. ne (ap chain_row w ∙ sym (h.off (subst (Off i v) w o)))) (λ w. absurd (omega arith))))

  lower : {q : ℕ} → ((v < q) × (q ≤ top)) ⊎ InChain s i v top (suc u) q → ((v < q) × (q ≤ top)) ⊎ InChain s i v top u q
  lower (inl p) = inl p
  lower (inr c) = inr (record {
    tier = c.tier;
    low = omega (arith, c.low);
    high = c.high;
    off = c.off;
    there = c.there;
    row_is = c.row_is;
  })

  -- an entry becomes the head
  pub lowered_flat : u ≡ 0 → Lowered s i v top u l' rs₁ ns
  lowered_flat flat = record {
    fit = fit;
    path = λ x a z f q. path_then x a z f q (λ e. absurd (omega arith));
    path_number = L.path_number;
    chain = λ x a z o t f q. chain_then x (omega (arith, (has_tier s.list x 0 t).0)) z o t f q;
    chain_number = λ x a z o t. L.chain_number x (omega (arith, (has_tier s.list x 0 t).0)) z o t;
    only = λ q g z. lower (L.only q g z);
  }

  -- a node does
  module _ (there : has s.list u 0 ≡ true) {n : ℕ} (n_is : n ≡ num s u 0) {rs₂ ns₂ : List ℕ} {r' : ℕ}
      (T : Taken ws i v u n (cleared rs r) rs₂ ns ns₂ r') where
    outside : (x f : ℕ) → (x ≡ r' → ⊥) → IsField f → get_or rs₂ (place x f) 0 ≡ get_or rs₁ (place x f) 0
    outside x f ne q = T.rest (place x f) (λ a b. ne (omega arith))

    own : (x c f : ℕ) → x ≡ u → f ≡ owner_field → get_or rs₂ (place r' f) 0 ≡ tall_field u l' (num s) x c f
    own x c f a e = ap (λ (y : ℕ). get_or rs₂ (place r' y) 0) e ∙ (T.owner_is
        ∙ sym (ap (λ (y : ℕ). tall_field u l' (num s) y c f) a ∙ (ap (tall_field u l' (num s) u c) e ∙ tall_owner s E fit c)))

    path_now : (x : ℕ) → v < x → x ≤ top → (f : ℕ) → IsField f →
        get_or rs₂ (place x f) 0 ≡ tall_field u l' (num s) x (block (tier_order x) i) f
    path_now x a z f q = by_t (eqb x r')
        (λ t. let e : x ≡ r' = eqb-true _ _ t in
        row_or T.row_is
        (λ b w y. let xu : x ≡ u = e ∙ y in
        by_t (eqb f owner_field)
        (λ g. ap (λ (m : ℕ). get_or rs₂ (place m f) 0) e ∙ own x (block (tier_order x) i) f xu (eqb-true _ _ g))
        (λ g. let ne : f ≡ owner_field → ⊥ = eqb-false _ _ g in
        ap (λ (m : ℕ). get_or rs₂ (place m f) 0) xu ∙ (T.stays b w f q ne
        ∙ (ap (λ (m : ℕ). get_or rs₁ (place m f) 0) (sym xu) ∙ path_then x a z f q (λ _ _. ne)))))
        (λ _ y. absurd (omega arith)))
        (λ t. let ne : x ≡ r' → ⊥ = eqb-false _ _ t in
        outside x f ne q ∙ path_then x a z f q (λ y w _. ne (y ∙ sym (on_at y w a))))
      where
        on_at : {x : ℕ} → x ≡ u → block (tier_order x) i ≡ 0 → v < x → r' ≡ u
        on_at y w a = T.row_is.on (subst (λ (m : ℕ). v < m) y a) (subst (λ (m : ℕ). block (tier_order m) i ≡ 0) y w)

    -- tier u itself, or above it
    at_or_above : (x : ℕ) {C : Type 0} → u ≤ x → (x ≡ u → C) → (suc u ≤ x → (x ≡ u → ⊥) → C) → C
    at_or_above x h here over = by_t (eqb x u) (λ t. here (eqb-true _ _ t))
        (λ t. let ne : x ≡ u → ⊥ = eqb-false _ _ t in over (omega arith) ne)

    chain_now : (x : ℕ) → u ≤ x → x ≤ top → Off i v x → has s.list x 0 ≡ true → (f : ℕ) → IsField f →
        get_or rs₂ (place (chain_row x) f) 0 ≡ tall_field u l' (num s) x 0 f
    chain_now x a z o t f q = at_or_above x a
        (λ e. let o' : Off i v u = subst (Off i v) e o in
        let y : r' ≡ chain_row u = T.row_is.off o' in
        let y' : chain_row x ≡ r' = ap chain_row e ∙ sym y in
        by_t (eqb f owner_field)
        (λ g. ap (λ (m : ℕ). get_or rs₂ (place m f) 0) y' ∙ own x 0 f e (eqb-true _ _ g))
        (λ g. let ne : f ≡ owner_field → ⊥ = eqb-false _ _ g in
        ap (λ (m : ℕ). get_or rs₂ (place (chain_row m) f) 0) e ∙ (T.copied o' f q ne
        ∙ (ap (λ (m : ℕ). get_or ws (place m f) 0) n_is ∙ (off_words s E fit f o' there q ne
        ∙ ap (λ (m : ℕ). tall_field u l' (num s) m 0 f) (sym e))))))
        (λ b ne. outside (chain_row x) f (λ e. row_or T.row_is (λ _ _ y. omega arith) (λ _ y. ne (omega arith))) q
        ∙ chain_then x b z o t f q)

    only_now : (q : ℕ) → q < row_count → get_or ns₂ q 0 < s.n → ((v < q) × (q ≤ top)) ⊎ InChain s i v top u q
    only_now q g z = by_t (eqb q (chain_row u))
        (λ t. let e : q ≡ chain_row u = eqb-true _ _ t in
        row_or T.row_is
        (λ a b _. lower (L.only q g (subst (λ (x : ℕ). x < s.n) (T.numbers_stay a b q) z)))
        (λ o _. inr (record { tier = u; low = le_refl u; high = omega arith; off = o; there = there; row_is = e })))
        (λ t. lower (L.only q g (subst (λ (x : ℕ). x < s.n) (T.numbers_rest q (eqb-false _ _ t)) z)))

    pub lowered_taken : Lowered s i v top u l' rs₂ ns₂
    lowered_taken = record {
      fit = fit;
      path = path_now;
      path_number = λ x a z. T.numbers_rest x (omega arith) ∙ L.path_number x a z;
      chain = chain_now;
      chain_number = λ x a z o t. at_or_above x a
          (λ e. ap (λ (m : ℕ). get_or ns₂ (chain_row m) 0) e ∙ (T.number_is (subst (Off i v) e o)
          ∙ (n_is ∙ ap (λ (m : ℕ). num s m 0) (sym e))))
          (λ b ne. T.numbers_rest (chain_row x) (λ e. ne (omega arith)) ∙ L.chain_number x b z o t);
      only = only_now;
    }
