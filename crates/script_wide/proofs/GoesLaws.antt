-- Which nodes lie inside a range, by their first word and their first index.
use Prim.Native.Nat.{ℕ, ◌+◌, ◌*◌, ◌/◌, ◌^◌, ◌≤◌, ◌<◌}
use mathlib.Core.Path.{◌≡◌, refl, sym, ap, subst, ◌∙◌}
use mathlib.Core.Bool.{Bool, true, false}
use mathlib.Core.List.{List}
use mathlib.Core.Option.{Option, none, some}
use native.Mathlib.Omega.{arith}
use lib.Dec.{eqb}
use lib.ListN.{get_or}
use borrow.Author.Tests.{eqb-true, eqb-false}
use Rattle.blocks.specs.Blocks.{block}
use Rattle.blocks.proofs.BoolLaws.{clash}
use Rattle.blocks.proofs.BlockLaws.{block_at, block_up}
use Rattle.tree.specs.Tree.{Node, tier_order}
use Rattle.layout.specs.Words.{shift_place, shift_field, shift_word, field_at, count_word}
use Rattle.layout.specs.WellFormed.{WellFormed, num}
use Rattle.layout.proofs.FieldLaws.{field_shift}
use Rattle.layout.proofs.RenderWordLaws.{pool_node, pool_anchor}
use Rattle.script_wide.specs.Climb.{At, Stands}
use Rattle.script_wide.specs.Wide.{GoesAt}
use Rattle.script_wide.proofs.ClimbLaws.{at_below, at_fits}

-- the pool's count is the number of nodes
pub count_is : {ws : List ℕ} (s : WellFormed ws) → get_or ws count_word 0 ≡ s.n
count_is s = pool_anchor s count_word (omega arith)

abbrev pub Tells : {ws : List ℕ} → WellFormed ws → (i k m : ℕ) → Bool → Type 0
Tells s i k m r = (r ≡ true → GoesAt s i k m) × (r ≡ false → GoesAt s i k m → ⊥)

pub goes_node : {ws : List ℕ} {s : WellFormed ws} {i k m : ℕ} (g : GoesAt s i k m) → At s m g.node.tier g.node.number
goes_node g = record { place_is = g.place_is }

module _ {ws : List ℕ} (s : WellFormed ws) {m w : ℕ} (e : w ≡ get_or ws (shift_place m) 0) where
  word_is : {u b : ℕ} → At s m u b → w + 5 ≡ tier_order u
  word_is {u} {b} a =
      let d : w ≡ shift_word u = e ∙ (pool_node s m shift_field (at_below s a) (omega arith)
      ∙ (ap (λ (o : Option Node). field_at s.list (num s) o shift_field) a.place_is ∙ field_shift s.list (num s) u b)) in
      omega (arith, (at_fits s a).1)

  tier_is : {u b : ℕ} → At s m u b → u ≡ (w + 5) / 6
  tier_is a = omega (arith, word_is a)

  pub stands_word : m < s.n → (w ≡ 0 → ⊥) → Stands s m ((w + 5) / 6)
  stands_word lt z = go (get_or s.places m none) refl
    where
      go : (o : Option Node) → get_or s.places m none ≡ o → Stands s m ((w + 5) / 6)
      go none q = absurd (z (e ∙ (pool_node s m shift_field lt (omega arith) ∙ rw q refl)))
      go (some p) q =
          let a : At s m p.tier p.number = record { place_is = q } in
          record { block = p.number; at = subst (λ (u : ℕ). At s m u p.number) (tier_is a) a }

  pub word_small : m < s.n → w < 62
  word_small lt = go (get_or s.places m none) refl
    where
      go : (o : Option Node) → get_or s.places m none ≡ o → w < 62
      go none q = let z : w ≡ 0 = e ∙ (pool_node s m shift_field lt (omega arith) ∙ rw q refl) in omega arith
      go (some p) q =
          let a : At s m p.tier p.number = record { place_is = q } in omega (arith, word_is a, (at_fits s a).2)

  module _ (i k : ℕ) where
    pub free_tells : w ≡ 0 → Tells s i k m false
    free_tells z = (λ f. absurd (clash f refl), λ f g. omega (arith, word_is (goes_node g), (at_fits s (goes_node g)).1))

    pub high_tells : k < w + 5 → Tells s i k m false
    high_tells h = (λ f. absurd (clash f refl), λ f g. omega (arith, word_is (goes_node g), g.low))

    pub low_tells : m < s.n → (w ≡ 0 → ⊥) → w + 5 ≤ k → {x : ℕ} → ((b : ℕ) → At s m ((w + 5) / 6) b → x ≡ b * 2 ^ tier_order ((w + 5) / 6)) →
        Tells s i k m (eqb (x / 2 ^ k) (i / 2 ^ k))
    low_tells lt z le {x} f = (yes_goes, no_stays)
      where
        st : Stands s m ((w + 5) / 6)
        st = stands_word lt z

        in_low : tier_order ((w + 5) / 6) ≤ k
        in_low = omega arith

        yes_goes : eqb (x / 2 ^ k) (i / 2 ^ k) ≡ true → GoesAt s i k m
        yes_goes t = record {
          node = record { tier = (w + 5) / 6; number = st.block };
          place_is = st.at.place_is;
          low = in_low;
          inside = λ y q.
              block_up y (st.block * 2 ^ tier_order ((w + 5) / 6)) in_low (q ∙ sym (block_at (tier_order ((w + 5) / 6)) st.block))
              ∙ (ap (block k) (sym (f st.block st.at)) ∙ eqb-true _ _ t);
        }

        no_stays : eqb (x / 2 ^ k) (i / 2 ^ k) ≡ false → GoesAt s i k m → ⊥
        no_stays t g =
            let a = goes_node g in
            let b : ℕ = g.node.number in
            let q : x ≡ b * 2 ^ tier_order g.node.tier =
            subst (λ (v : ℕ). x ≡ b * 2 ^ tier_order v) (sym (tier_is a)) (f b (subst (λ (v : ℕ). At s m v b) (tier_is a) a)) in
            eqb-false _ _ t (ap (block k) q ∙ g.inside (b * 2 ^ tier_order g.node.tier) (block_at (tier_order g.node.tier) b))
