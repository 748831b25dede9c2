-- The first index of a node's block, by owner words.
use Prim.Native.Nat.{ℕ, suc, ◌+◌, ◌*◌, ◌-◌, ◌/◌, ◌%◌, ◌^◌, ◌≤◌, ◌<◌}
use mathlib.Core.Path.{◌≡◌, sym, ap, subst, ◌∙◌}
use mathlib.Core.Bool.{true}
use mathlib.Core.List.{List}
use mathlib.Core.Option.{Option, none, some}
use native.Mathlib.Omega.{arith}
use native.Mathlib.Nat.{mul-suc, mul_comm, mul_assoc, add-mul}
use lib.Dec.{eqb}
use lib.ListN.{length, get_or}
use borrow.Author.Tests.{eqb-true, eqb-false}
use Rattle.blocks.specs.Choice.{pick}
use Rattle.blocks.specs.Blocks.{block}
use Rattle.blocks.proofs.BoolLaws.{by_t}
use Rattle.blocks.proofs.BlockLaws.{pow-add, block_lo}
use Rattle.blocks.proofs.ListLaws.{any_in_lem, look, All-map}
use Rattle.model.specs.Model.{within}
use Rattle.model.proofs.ValidLaws.{sorted_ok}
use Rattle.tree.specs.Tree.{has, height, Node, tier_order, slot_bits, slots, top_tier}
use Rattle.tree.proofs.HeightLaws.{height_fits, fits_base, height_most}
use Rattle.tree.proofs.NodeListLaws.{has_within, has_tier, has_low}
use Rattle.tree.proofs.StoreLaws.{within_only}
use Rattle.layout.specs.Words.{owner_place, owner_field, owner_word, field_at}
use Rattle.layout.specs.WellFormed.{WellFormed, num}
use Rattle.layout.proofs.FieldLaws.{field_owner}
use Rattle.layout.proofs.OwnerLaws.{parent}
use Rattle.layout.proofs.RenderWordLaws.{pool_length_lem, pool_node, place_of, node_of}
use Rattle.script_wide.specs.Climb.{At, Climbs}

module _ {ws : List ℕ} (s : WellFormed ws) {m u b : ℕ} (a : At s m u b) where
  pub at_number : m ≡ num s u b
  at_number = (place_of s m (record { tier = u; number = b }) a.place_is).0

  pub at_has : has s.list u b ≡ true
  at_has = (place_of s m (record { tier = u; number = b }) a.place_is).1

  pub at_below : m < s.n
  at_below = subst (λ (x : ℕ). x < s.n) (sym at_number) (node_of s u b at_has).0

  pub at_fits : (owner_place m < length ws) × (1 ≤ u) × (u ≤ top_tier)
  at_fits = (
    omega (arith, at_below, pool_length_lem s),
    omega (arith, (has_tier s.list u b at_has).0),
    has_low s.list u b at_has,
  )

  -- an entry inside the block: the block lies below 2^64, and under a head of that tier it is block 0
  pub at_small : b * 2 ^ tier_order u < 2 ^ 64
  at_small =
      let (e, n, t) = any_in_lem (within (tier_order u) b) s.list (has_within s.list u b at_has) in
      let q : block (tier_order u) e.base ≡ b = within_only (tier_order u) b e t in
      let lt = (look (sorted_ok s.valid) n).in_range in
      let l = block_lo (tier_order u) e.base in
      subst (λ (y : ℕ). y * 2 ^ tier_order u < 2 ^ 64) q (omega arith)

  top_zero : u ≡ height s.list → b ≡ 0
  top_zero h =
      let (e, n, t) = any_in_lem (within (tier_order u) b) s.list (has_within s.list u b at_has) in
      let q : block (tier_order u) e.base ≡ b = within_only (tier_order u) b e t in
      sym q ∙ fits_base u e (look (height_fits (All-map (λ x o. (o.order_le, o.in_range)) (sorted_ok s.valid))
      (omega arith)) n)

  owner_is : get_or ws (owner_place m) 0 ≡ pick (eqb u (height s.list)) 0 (owner_word (num s (suc u) (b / slots)) (b % slots))
  owner_is = pool_node s m owner_field at_below (omega arith)
      ∙ (ap (λ (o : Option Node). field_at s.list (num s) o owner_field) a.place_is ∙ field_owner s.list (num s) u b)

  -- the head's owner word is 0, and its block is 0
  pub head_block : get_or ws (owner_place m) 0 ≡ 0 → b ≡ 0
  head_block z = by_t (eqb u (height s.list))
      (λ t. top_zero (eqb-true _ _ t))
      (λ t. let e : get_or ws (owner_place m) 0 ≡ owner_word (num s (suc u) (b / slots)) (b % slots) = owner_is ∙ rw t in absurd (omega arith))

  module _ {p : ℕ} (e : p ≡ get_or ws (owner_place m) 0) (z : p ≡ 0 → ⊥) where
    below_head : (u < height s.list) × (p ≡ owner_word (num s (suc u) (b / slots)) (b % slots))
    below_head = by_t (eqb u (height s.list))
        (λ t. absurd (z (e ∙ (owner_is ∙ rw t))))
        (λ t. let n : u ≡ height s.list → ⊥ = eqb-false _ _ t in
        (omega (arith, (has_tier s.list u b at_has).1), e ∙ (owner_is ∙ rw t)))

    pub owner_tier : u < top_tier
    owner_tier = omega (arith, below_head.0, height_most s.list)

    pub owner_slot : (p - 1) % slots ≡ b % slots
    owner_slot = omega (arith, below_head.1)

    pub owner_at : At s ((p - 1) / slots) (suc u) (b / slots)
    owner_at =
        let t = parent s.list u b at_has below_head.0 in
        let q : num s (suc u) (b / slots) ≡ (p - 1) / slots = omega (arith, below_head.1) in
        record {
          place_is = subst (λ (x : ℕ). get_or s.places x none ≡ some (record { tier = suc u; number = b / slots })) q
              (node_of s (suc u) (b / slots) t).1;
        }

-- where slot o of the node over block b starts
slot_start : (u b o : ℕ) → (slots * b + o) * 2 ^ tier_order u ≡ o * 2 ^ tier_order u + b * 2 ^ tier_order (suc u)
slot_start u b o =
    let e : 2 ^ tier_order (suc u) ≡ slots * 2 ^ tier_order u = ap (λ (j : ℕ). 2 ^ j) (mul-suc slot_bits u) ∙ (sym (pow-add
    (slot_bits * u) slot_bits) ∙ mul_comm (2 ^ tier_order u) slots) in
    let d : slots * b * 2 ^ tier_order u ≡ b * 2 ^ tier_order (suc u) = ap (λ (x : ℕ). x * 2 ^ tier_order u) (mul_comm slots b)
    ∙ (mul_assoc b slots (2 ^ tier_order u) ∙ ap (λ (x : ℕ). b * x) (sym e)) in
    let f : (slots * b + o) * 2 ^ tier_order u ≡ slots * b * 2 ^ tier_order u + o * 2 ^ tier_order u =
    add-mul (slots * b) o (2 ^ tier_order u) in
    omega arith

-- ONE STEP UP
pub climb_start : {ws : List ℕ} {s : WellFormed ws} {m u b : ℕ} → At s m u b → Climbs s m u 0 (b * 2 ^ tier_order u)
climb_start {b = b} a = record { block = b; at = a; sum = omega arith }

module _ {ws : List ℕ} (s : WellFormed ws) {n t x first : ℕ} (c : Climbs s n t x first) where
  pub climb_end : get_or ws (owner_place n) 0 ≡ 0 → x ≡ first
  climb_end z =
      let e : c.block * 2 ^ tier_order t ≡ 0 * 2 ^ tier_order t = ap (λ (b : ℕ). b * 2 ^ tier_order t) (head_block s c.at z) in
      omega (arith, c.sum)

  module _ {p : ℕ} (e : p ≡ get_or ws (owner_place n) 0) (z : p ≡ 0 → ⊥) where
    digits : c.block * 2 ^ tier_order t ≡ (p - 1) % slots * 2 ^ tier_order t + c.block / slots * 2 ^ tier_order (suc t)
    digits =
        let d : slots * (c.block / slots) + (p - 1) % slots ≡ c.block = omega (arith, owner_slot s c.at e z) in
        ap (λ (b : ℕ). b * 2 ^ tier_order t) (sym d) ∙ slot_start t (c.block / slots) ((p - 1) % slots)

    pub climb_fits : (p - 1) % slots * 2 ^ tier_order t + x ≤ first
    climb_fits = omega (arith, digits, c.sum)

    pub climb_up : Climbs s ((p - 1) / slots) (t + 1) (x + (p - 1) % slots * 2 ^ tier_order t) first
    climb_up =
        let f : suc t ≡ t + 1 = omega arith in
        subst (λ (y : ℕ). Climbs s ((p - 1) / slots) y (x + (p - 1) % slots * 2 ^ tier_order t) first) f (record {
          block = c.block / slots;
          at = owner_at s c.at e z;
          sum = omega (arith, digits, c.sum);
        })
