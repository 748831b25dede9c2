-- The head comes down tier by tier: what holds at each.
use Prim.Native.Nat.{ℕ, suc, ◌-◌, ◌/◌, ◌≤◌, ◌<◌}
use mathlib.Core.Path.{◌≡◌, refl, sym, ap, subst, ◌∙◌}
use mathlib.Core.Bool.{true, false}
use mathlib.Core.List.{List}
use native.Mathlib.Omega.{arith}
use lib.ListN.{length, get_or}
use Rattle.blocks.specs.Lists.{any}
use Rattle.model.specs.declared.Entry.{Entry}
use Rattle.model.specs.Model.{within}
use Rattle.tree.specs.Tree.{slot_bits, top_tier, tier_order, height}
use Rattle.layout.specs.Words.{anchor_words, pool_words, slot_place, last_place}
use Rattle.layout.specs.Fill.{cleared}
use Rattle.layout.specs.Pool.{slot_of, child_of}
use Rattle.layout.specs.WellFormed.{WellFormed, num}
use Rattle.layout.proofs.FillLaws.{length_cleared, cleared_before}
use Rattle.layout.proofs.RenderWordLaws.{pool_length_lem, node_of}
use Rattle.tree.specs.Slots.{slot}
use Rattle.script_table.specs.Table.{row_count}
use Rattle.script_erase.specs.Erased.{Erases, Lowered, Drops, Taken, Headed, Lowering, Landed}
use Rattle.script_erase.proofs.HeadedLaws.{headed_top, headed_stays, headed_flat, headed_less, has_less, number_less}

-- the head has come down to tier u, of row r and word w
pub record Going (ws rs₀ ns₀ : List ℕ) (i k top : ℕ) (rs ns : List ℕ) (u r w : ℕ) : Type 0 where
  pub low : 1 ≤ u
  pub high : u ≤ top
  pub row : r < row_count
  pub same : length rs ≡ length rs₀
  pub same_numbers : length ns ≡ length ns₀
  pub anchor : (p : ℕ) → p < anchor_words → get_or rs p 0 ≡ get_or rs₀ p 0
  pub state : (s : WellFormed ws) (l' : List Entry) → Erases s i k top l' → Lowered s i (k / slot_bits) top top l' rs₀ ns₀ →
      any (within (tier_order top) 0) l' ≡ true → Headed s i (k / slot_bits) top u l' rs ns w r

pub going_start : {ws : List ℕ} (rs ns : List ℕ) {i k top w : ℕ} → k / slot_bits < top → top ≤ top_tier → w ≡ get_or ws 1 0 →
    Going ws rs ns i k top rs ns top top w
going_start rs ns low h e = record {
  low = omega arith;
  high = omega arith;
  row = omega arith;
  same = refl;
  same_numbers = refl;
  anchor = λ p _. refl;
  state = λ s l' E L t. headed_top s E L t low e;
}

module _ {ws rs₀ ns₀ : List ℕ} {i k top : ℕ} {rs ns : List ℕ} {u r w : ℕ} (G : Going ws rs₀ ns₀ i k top rs ns u r w) where
  up : suc (u - 1) ≡ u
  up = omega (arith, G.low)

  at : (s : WellFormed ws) (l' : List Entry) → Erases s i k top l' → Lowered s i (k / slot_bits) top top l' rs₀ ns₀ →
      any (within (tier_order top) 0) l' ≡ true → Headed s i (k / slot_bits) top (suc (u - 1)) l' rs ns w r
  at s l' E L t = subst (λ (y : ℕ). Headed s i (k / slot_bits) top y l' rs ns w r) (sym up) (G.state s l' E L t)

  le : suc (u - 1) ≤ top
  le = omega (arith, G.low, G.high)

  pub going_stays : Drops rs r u false → (s : WellFormed ws) (l' : List Entry) → Erases s i k top l' →
      Lowered s i (k / slot_bits) top top l' rs₀ ns₀ → any (within (tier_order top) 0) l' ≡ true →
      Landed s i (k / slot_bits) top l' rs ns w
  going_stays d s l' E L t =
      let H = G.state s l' E L t in
      let e : u ≡ height l' = sym up ∙ sym (headed_stays s E (at s l' E L t) le (subst (λ (y : ℕ). Drops rs r y false) (sym up) d)) in
      record {
        lowered = subst (λ (y : ℕ). Lowered s i (k / slot_bits) top y l' rs ns) e H.lowered;
        word_is = H.word_is ∙ ap (λ (y : ℕ). slot l' (num s) y 0) e;
      }

  module _ (d : Drops rs r u true) (high : top ≤ top_tier) (long : pool_words row_count ≤ length rs₀) {x : ℕ}
      (e : x ≡ get_or rs (slot_place r 0) 0) where
    d' : Drops rs r (suc (u - 1)) true
    d' = subst (λ (y : ℕ). Drops rs r y true) (sym up) d

    fits : last_place r < length rs
    fits = omega (arith, G.row, G.same)

    pub going_flat : u - 1 ≡ 0 → (s : WellFormed ws) (l' : List Entry) → Erases s i k top l' →
        Lowered s i (k / slot_bits) top top l' rs₀ ns₀ → any (within (tier_order top) 0) l' ≡ true →
        Landed s i (k / slot_bits) top l' (cleared rs r) ns x
    going_flat z s l' E L t = headed_flat s E (at s l' E L t) le d' high fits z e

    pub anchor_stays : (p : ℕ) → p < anchor_words → get_or (cleared rs r) p 0 ≡ get_or rs₀ p 0
    anchor_stays p h = cleared_before rs r p (omega arith) ∙ G.anchor p h

    module _ (pos : 1 ≤ u - 1) {n : ℕ} (f : n ≡ child_of (slot_of x)) where
      pub number_fits : Lowering ws i k top rs₀ ns₀ → last_place n < length ws
      number_fits w =
          let s = w.formed in
          let E = w.erases in
          let H = at s w.list E w.lowered w.there in
          let m : n ≡ num s (u - 1) 0 = number_less s E H le d' pos e f in
          let g : num s (u - 1) 0 < s.n = (node_of s (u - 1) 0 (has_less s E H le d' pos)).0 in
          omega (arith, pool_length_lem s)

      pub going_next : {rs₂ ns₂ : List ℕ} {r' : ℕ} → Taken ws i (k / slot_bits) (u - 1) n (cleared rs r) rs₂ ns ns₂ r' →
          r' < row_count → length rs₂ ≡ length (cleared rs r) → length ns₂ ≡ length ns →
          Going ws rs₀ ns₀ i k top rs₂ ns₂ (u - 1) r' x
      going_next T g a b = record {
        low = pos;
        high = omega (arith, G.high);
        row = g;
        same = a ∙ (length_cleared rs r ∙ G.same);
        same_numbers = b ∙ G.same_numbers;
        anchor = λ p h. T.rest p (λ y. absurd (omega arith)) ∙ anchor_stays p h;
        state = λ s l' E L t. headed_less s E (at s l' E L t) le d' pos high fits e f T;
      }
