-- A store where the way down ends at an empty slot and nothing starts in the target range. The head and the nodes over that
-- slot stay; those between it and the entry are new, each the only child of the one above.
use Prim.Native.Nat.{ℕ, zero, suc, ◌+◌, ◌*◌, ◌-◌, ◌/◌, ◌%◌, ◌^◌, ◌≤◌, ◌<◌, max}
use mathlib.Core.Path.{◌≡◌, refl, sym, ap, ap₂, subst, ◌∙◌}
use mathlib.Core.Bool.{true, false}
use mathlib.Core.List.{List, []}
use mathlib.Core.Option.{Option}
use native.Mathlib.Omega.{arith}
use native.Mathlib.Numerals.{add-one}
use native.Mathlib.Nat.{zero-add, le_refl}
use lib.Dec.{T, ltb, eqb}
use lib.ListN.{get_or, set}
use borrow.Author.Tests.{eqb-true, eqb-false, ltb-true, ltb-false, lt-ltb, le-ltb, le-leb, eq-eqb}
use Rattle.blocks.specs.Choice.{pick, both}
use Rattle.blocks.specs.Lists.{any, In, All, up_to}
use Rattle.blocks.specs.Blocks.{block}
use Rattle.blocks.proofs.BoolLaws.{clash, by_t, is_false, both_l}
use Rattle.blocks.proofs.ListLaws.{each, look, any_in_lem, in_any}
use Rattle.blocks.proofs.BlockLaws.{block_up, block_at, block_block}
use Rattle.blocks.proofs.UpToLaws.{get_d_up_to}
use Rattle.model.specs.declared.Entry.{Entry}
use Rattle.model.specs.Model.{enterable, over, within}
use Rattle.model.specs.ByBlock.{new_entry, store_new}
use Rattle.model.proofs.ValidLaws.{sorted_ok}
use Rattle.tree.specs.Tree.{slots, tier_order, fits, height, has, Node, needed, new_nodes, slot_bits}
use Rattle.tree.specs.Slots.{Numbering, node_word, slot}
use Rattle.tree.proofs.HeightLaws.{height_fits, fits_i, fits_base, fits_tall}
use Rattle.tree.proofs.NeededLaws.{path_up}
use Rattle.tree.proofs.SlotLaws.{tier_up, zero_starts}
use Rattle.tree.proofs.StoreLaws.{within_only}
use Rattle.layout.specs.Words.{place, shift_field, owner_field, field_slot, shift_word, field, field_at, shift_place, owner_place, filled_place}
use Rattle.layout.specs.Words.{slot_place, IsField}
use Rattle.layout.specs.Places.{Places, number_in, free_count, new_places, render}
use Rattle.layout.specs.WellFormed.{WellFormed, num}
use Rattle.layout.proofs.OwnerLaws.{parent, owner_same}
use Rattle.layout.proofs.NewNumberLaws.{kept, was}
use Rattle.layout.proofs.RenderWordLaws.{slot_node, pool_length_lem, pool_anchor, pool_node}
use Rattle.layout.proofs.FieldLaws.{field_shift, field_owner, field_slot_lem}
use Rattle.lookup.specs.Views.{AtNode}
use Rattle.lookup.proofs.WordLaws.{slot_at_lem}
use Rattle.freemap.specs.FreeMap.{MapOf}
use Rattle.freenodes.specs.FreeNodes.{FreeMap}
use Rattle.plan.specs.Plan.{Drawn, Walked, before, free_at, left_free, NewStore}
use Rattle.plan.proofs.AfterStoreLaws.{lows, tops, has_path}
use Rattle.plan.proofs.MapNumbers.{map_places, left_new, drawn_none}
use Rattle.plan.proofs.FreshNumbers.{Tiers, tiers_same, needed_is, path_number}
use Rattle.write.specs.Writes.{width, offset, joins, head_at, linked, entered, path_counts, settled, Laid, built}
use Rattle.std.specs.Prelude.{Ok, Err}
use Rattle.store.specs.Stored.{AtGap, Stores, Short, entry_of}
use Rattle.store.proofs.FinalWordLaws.{Long, Right, EdgeAt, Counts, PathFinal, path_counts_lem, path_makes, set_stays, joins_same}
use Rattle.store.proofs.FinalWordLaws.{joins_split, joins_keeps, joins_stay}
use Rattle.store.proofs.NewWordLaws.{field₁, field₁_shift, field₁_owner, field₁_slot, X, X-anchor, X-node, num_lt, edge_of, Enough}
use Rattle.store.proofs.NewWordLaws.{FilledCounts}
use Rattle.store.proofs.PathWordLaws.{shift_ok, owner_ok, head_ok, Numbered}
use Rattle.write.proofs.RunLaws.{run_fits, run_slot}
use Rattle.store.proofs.SlotCountLaws.{filled_at}
use Rattle.store.proofs.FilledWordLaws.{enterable_some, path_more, path_one, entry_one, entry_more, was_filled, path_stays}
use Rattle.store.proofs.FilledWordLaws.{all_filled}
use Rattle.store.proofs.EmptyRangeLaws.{has_keeps, map_left, stores_unmarked, path_chain_entry, none_cleared}
use Rattle.tree.proofs.NodeListLaws.{has_le, has_within, has_in}
use Rattle.store.proofs.FreedLaws.{Clear}

-- how many of the e widest tiers have a new node, where those from v + 1 to u do
before_is : (h v u top : ℕ) → u ≤ top → (e : ℕ) → e ≤ top → before false h v (suc u) top e ≡ u - max (top - e) v
unfolding before
before_is h v u top le zero g = let z : top - 0 ≡ top = omega arith in rw z (omega arith)
before_is h v u top le (suc e) g =
    step (before false h v (suc u) top e) (top - e) (before_is h v u top le e (omega arith)) ∙
    ap (λ (m : ℕ). u - max m v) (omega arith)
  where
    step : (r m : ℕ) → r ≡ u - max m v → r + (0 + pick (both (ltb v m) (ltb m (suc u))) 1 0) ≡ u - max (m - 1) v
    step r m q = by_t (ltb v m)
        (λ a. let a' : v < m = ltb-true _ _ a in
        by_t (ltb m (suc u))
        (λ b. let b' : m < suc u = ltb-true _ _ b in rw (a, b) (omega arith))
        (λ b. let b' : suc u ≤ m = ltb-false _ _ b in rw (a, b) (omega arith)))
        (λ a. let a' : m ≤ v = ltb-false _ _ a in rw a (omega arith))

-- a new entry below an empty slot of tier u of the node first, or in it
pub record Gap {ws : List ℕ} (s : WellFormed ws) (i k w u first : ℕ) : Type 0 where
  pub new : NewStore s.list i k w
  pub none_start : All (λ x. block k x.base ≡ block k i → ⊥) s.list
  pub at : AtNode s.list (num s) u (block (tier_order (suc u)) i) first
  pub not_there : (t : ℕ) → k / slot_bits < t → t ≤ u → has s.list t (block (tier_order t) i) ≡ false

module _ {ws : List ℕ} {s : WellFormed ws} {i k w u first : ℕ} (gap : Gap s i k w u first) (high : k / slot_bits ≤ u) where
  abbrev l : List Entry
  l = s.list

  abbrev l' : List Entry
  l' = store_new l i k w

  abbrev os : Places
  os = s.places

  abbrev ν : Numbering
  ν = number_in os

  abbrev ν' : Numbering
  ν' = number_in (new_places l l' os)

  abbrev v : ℕ
  v = k / slot_bits

  abbrev H : ℕ
  H = height l

  abbrev H' : ℕ
  H' = height l'

  -- THE NODES OVER THE SLOT
  -- an entry of the node's block
  mate : (x : Entry) × In x l × (x.order < tier_order (suc u)) ×
      (block (tier_order (suc u)) x.base ≡ block (tier_order (suc u)) i)
  mate = let (x, m, t) = any_in_lem (within (tier_order (suc u)) (block (tier_order (suc u)) i)) l
      (has_within l (suc u) (block (tier_order (suc u)) i) gap.at.there) in (
        x,
        m,
        ltb-true _ _ (both_l (ltb x.order (tier_order (suc u))) _ t),
        within_only (tier_order (suc u)) (block (tier_order (suc u)) i) x t,
      )

  tier_le : suc u ≤ H
  tier_le = has_le l (suc u) (block (tier_order (suc u)) i) gap.at.there

  has_over : (t : ℕ) → suc u ≤ t → t ≤ H → has l t (block (tier_order t) i) ≡ true
  has_over t h g =
      let (x, m, o, e) = mate in
      has_in l t (block (tier_order t) i) g (in_any (within (tier_order t) (block (tier_order t) i)) m
      (rw (
        lt-ltb x.order (tier_order t) (omega arith),
        eq-eqb _ _ (block_up {j = tier_order (suc u)} {k = tier_order t} x.base i (omega arith) e),
      )))

  top_zero : block (tier_order H) i ≡ 0
  top_zero =
      let (x, m, o, e) = mate in
      let f : fits H x ≡ true = look (height_fits {h = H} (lows gap.new) (le_refl _)) m in
      sym (block_up {j = tier_order (suc u)} {k = tier_order H} x.base i (omega (arith, tier_le)) e) ∙ fits_base H x f

  height_same : H' ≡ H
  height_same =
      let fit : fits H (new_entry l i k w) ≡ true = fits_i H (new_entry l i k w) (omega (arith, tier_le))
      (block_up {j = k} {k = tier_order H} (block k i * 2 ^ k) i (omega (arith, tier_le)) (block_at k (block k i)) ∙
      top_zero) in
      omega (arith, tops gap.new, fits_tall H (new_entry l i k w) fit)

  path_has : (t : ℕ) → v < t → t ≤ H → has l' t (block (tier_order t) i) ≡ true
  path_has t a b = has_path gap.new t (omega arith) (omega (arith, height_same))

  -- THE NUMBERS
  abbrev ps₀ : List ℕ
  ps₀ = up_to (λ t. ν t (block (tier_order t) i)) 0 (suc H)

  walked : Walked l ν i v H ps₀ (suc u)
  walked = record {
    low = omega arith;
    high = tier_le;
    there = λ t a b. has_over t a b;
    numbers = λ t a b. get_d_up_to (λ t. ν t (block (tier_order t) i)) 0 (suc H) t (omega arith) ∙
        ap (λ (y : ℕ). ν y (block (tier_order y) i)) (zero-add t);
    not_there = λ t a b. gap.not_there t a (omega arith);
  }

  tiers : Tiers l i k w false (suc u)
  tiers = tiers_same s.placed gap.new false (sym height_same) walked

  over_top : H < H' → H' < suc u
  over_top g = absurd (omega (arith, height_same))

  pub need_is : needed l l' ≡ u - v
  need_is = needed_is s.placed gap.new tiers over_top ∙
      (before_is H v u H' (omega (arith, tier_le, height_same)) H' (le_refl _) ∙
      (let z : H' - H' ≡ 0 = omega arith in rw z (omega arith)))

  module _ (enough : Enough s.n l os l') where
    pub number_is : (t : ℕ) → v < t → t ≤ u → (ν' t (block (tier_order t) i) ≡ free_at os (u - t)) ×
        (u - t < needed l l')
    number_is t a b =
        let le : t ≤ H' = omega (arith, tier_le, height_same) in
        let (x, y) = path_number s.placed gap.new tiers over_top enough.free t
        (omega arith) le (rw (lt-ltb v t a, lt-ltb t (suc u) (omega arith)) refl)
        (path_has t a (omega (arith, tier_le))) (gap.not_there t a b) in
        let back : H' - (H' - t) ≡ t = omega arith in
        let q : before false H v (suc u) H' (H' - t) ≡ u - max t v = before_is H v u H'
        (omega (arith, tier_le, height_same)) (H' - t) (omega arith) ∙ ap (λ (m : ℕ). u - max m v) back in
        let z : before false H v (suc u) H' (H' - t) + 0 ≡ u - t = omega arith in
        (x ∙ ap (free_at os) z, subst (λ (y : ℕ). y < needed l l') z y)

    keeps : (t b : ℕ) → has l t b ≡ true → has l' t b ≡ true
    keeps = has_keeps gap.new gap.none_start

    pub first_is : ν' (suc u) (block (tier_order (suc u)) i) ≡ first
    first_is = kept s.n l os s.placed l' enough.free (suc u) (block (tier_order (suc u)) i) gap.at.there
        (keeps (suc u) (block (tier_order (suc u)) i) gap.at.there) ∙ sym gap.at.number

    pub path_lt : (t : ℕ) → v < t → t ≤ u + 1 → ν' t (block (tier_order t) i) < s.n
    path_lt t a b = num_lt enough t (block (tier_order t) i)
        (path_has t a (omega (arith, tier_le)))

    abbrev ps' : List ℕ
    ps' = up_to (λ t. ν' t (block (tier_order t) i)) 0 (suc H)

    ps'_is : (t : ℕ) → t ≤ H → get_or ps' t 0 ≡ ν' t (block (tier_order t) i)
    ps'_is t h = get_d_up_to (λ t. ν' t (block (tier_order t) i)) 0 (suc H) t (omega arith) ∙
        ap (λ (y : ℕ). ν' y (block (tier_order y) i)) (zero-add t)

    abbrev plan : Numbered s.n l os i k w ps' []
    plan = record {
      new = gap.new;
      enough = enough;
      some_node = omega (arith, tier_le, height_same);
      numbers = record {
        path_is = λ t a b. ps'_is t (omega (arith, height_same));
        chain_is = λ g. absurd (omega (arith, height_same));
      };
    }

    clear : Clear s.n l os l' ws
    clear = none_cleared s gap.new gap.none_start enough

    -- THE EDGES OVER THE SLOT stand already
    abbrev Y : ℕ → ℕ
    Y = X enough

    abbrev R : ℕ → List ℕ → Type 0
    R = Right s.n Y

    lg : Long s.n Y ws
    lg = record { len = pool_length_lem s }

    -- a field of a node that stays, if it is to be what it is
    same : (t b f : ℕ) → has l t b ≡ true → IsField f → field l ν t b f ≡ field₁ l l' ν' t b f →
        R (place (ν' t b) f) ws
    same t b f o h e = record {
      is = pool_node s (ν' t b) f (num_lt enough t b (keeps t b o)) h ∙
          (ap (λ (q : Option Node). field_at l ν q f) (was s.n l os s.placed l' enough.free t b (keeps t b o) o) ∙
          (e ∙ sym (X-node enough t b f (keeps t b o) h)));
    }

    shift_there : (t b : ℕ) → has l t b ≡ true → R (shift_place (ν' t b)) ws
    shift_there t b o = same t b shift_field o (omega arith) (field_shift l ν t b ∙ sym (field₁_shift l l' ν' t b))

    owner_there : (t b : ℕ) → t < H → has l t b ≡ true → R (owner_place (ν' t b)) ws
    owner_there t b h o =
        let h' : t < H' = omega (arith, height_same) in
        same t b owner_field o (omega arith) (field_owner l ν t b ∙ (sym (owner_same l l' ν ν' t b h h' (kept s.n l os s.placed l' enough.free (suc t)
        (b / slots) (parent l t b o h) (parent l' t b (keeps t b o) h'))) ∙ sym (field₁_owner l l' ν' t b)))

    slot_there : (t : ℕ) → suc u ≤ t → t < H →
        R (slot_place (ν' (suc t) (block (tier_order (suc t)) i)) (block (tier_order t) i % slots)) ws
    slot_there t a h =
        let e₁ : suc t - 1 ≡ t = omega arith in
        let e₂ : slots * block (tier_order (suc t)) i + block (tier_order t) i % slots ≡ block (tier_order t) i =
        ap (λ (y : ℕ). slots * y + block (tier_order t) i % slots) (tier_up t i) ∙ omega arith in
        let x : has l t (block (tier_order t) i) ≡ true = has_over t a (omega arith) in
        let x' : has l' t (block (tier_order t) i) ≡ true = keeps t (block (tier_order t) i) x in
        same (suc t) (block (tier_order (suc t)) i) (field_slot (block (tier_order t) i % slots)) (has_over (suc t) (omega arith) h)
        (omega arith)
        (field_slot_lem l ν (suc t) (block (tier_order (suc t)) i) (block (tier_order t) i % slots) ∙
        (ap₂ (slot l ν) e₁ e₂ ∙ (slot_node l ν t (block (tier_order t) i) (has_within l t (block (tier_order t) i) x) ∙
        (ap node_word (sym (kept s.n l os s.placed l' enough.free t (block (tier_order t) i) x x')) ∙
        (sym (slot_node l' ν' t (block (tier_order t) i) (has_within l' t (block (tier_order t) i) x')) ∙
        sym (field₁_slot l l' ν' (suc t) (block (tier_order (suc t)) i) (block (tier_order t) i % slots) ∙
        ap₂ (slot l' ν') e₁ e₂))))))

    head_has : has l H 0 ≡ true
    head_has = subst (λ (c : ℕ). has l H c ≡ true) top_zero (has_over H tier_le (le_refl _))

    head_there : R 1 ws
    head_there = record {
      is = pool_anchor s 1 (omega arith) ∙ (slot_node l ν H 0 (has_within l H 0 head_has) ∙
          (ap node_word (sym (kept s.n l os s.placed l' enough.free H 0 head_has (keeps H 0 head_has))) ∙
          (sym (slot_node l' ν' H 0 (has_within l' H 0 (keeps H 0 head_has))) ∙
          (ap (λ (y : ℕ). slot l' ν' y 0) (sym height_same) ∙ sym (X-anchor enough 1
          (omega arith))))));
    }

    head_owner : R (owner_place (ν' H 0)) ws
    head_owner = same H 0 owner_field head_has (omega arith) (field_owner l ν H 0 ∙
        (rw (eq-eqb H H refl, field₁_owner l l' ν' H 0, eq-eqb H H' (sym height_same))))

    head_num : get_or ps' H' 0 ≡ ν' H 0
    head_num = ap (λ (y : ℕ). get_or ps' y 0) height_same ∙ (ps'_is H (le_refl _) ∙ ap (ν' H) top_zero)

    edge : (t : ℕ) → v + 1 ≤ t → t < H → EdgeAt s.n Y ps' i t
    edge t a b = rw (ps'_is (t + 1) (omega arith), ps'_is t (omega arith))
        (edge_of enough i t (omega (arith, height_same)) (path_has t (omega arith) (omega arith)))

    abbrev d₀ : ℕ
    d₀ = u + 1 - (v + 1)

    abbrev d₁ : ℕ
    d₁ = H' - (u + 1)

    -- ws₁ has the filled counts too
    module _ {ws₁ : List ℕ} (counts : Counts s.n Y ws ws₁) where
      abbrev J : List ℕ
      J = joins ps' i ws₁ (v + 1) d₀

      keeps_J : {q : ℕ} → R q ws → R q J
      keeps_J r = joins_keeps s.n Y ps' i (v + 1) d₀ counts.long (λ t a b. edge t a (omega (arith, tier_le)))
          (counts.keep _ r)

      joins_is : joins ps' i ws₁ (v + 1) (H' - (v + 1)) ≡ J
      joins_is =
          let e₁ : H' - (v + 1) ≡ d₀ + d₁ = omega (arith, tier_le, height_same) in
          let e₂ : v + 1 + d₀ ≡ u + 1 = omega arith in
          ap (λ (d : ℕ). joins ps' i ws₁ (v + 1) d) e₁ ∙ (joins_split ps' i ws₁ (v + 1) d₀ d₁ ∙
          (ap (λ (t : ℕ). joins ps' i J t d₁) e₂ ∙
          joins_stay s.n Y ps' i (u + 1) d₁ (λ t a b. edge t (omega arith) (omega (arith, height_same)))
          (λ t a b. let lt : t < H = omega (arith, height_same) in
          let o : has l t (block (tier_order t) i) ≡ true = has_over t (omega arith) (omega arith) in (
            rw (ps'_is t (omega arith)) (keeps_J (shift_there t (block (tier_order t) i) o)),
            rw (ps'_is t (omega arith)) (keeps_J (owner_there t (block (tier_order t) i) lt o)),
            rw (ps'_is (t + 1) (omega arith), add-one t) (keeps_J (slot_there t (omega arith) lt)),
          ))))

      linked_is : linked ws₁ ps' i v H' ≡ J
      linked_is =
          let shift-stays : set J (shift_place (get_or ps' H' 0)) (shift_word H') ≡ J = set_stays s.n Y _ _
          (shift_ok plan counts.long)
          (rw head_num (keeps_J (shift_there H 0 head_has))) in
          let owner-stays : set J (owner_place (get_or ps' H' 0)) 0 ≡ J = set_stays s.n Y _ _
          (owner_ok plan counts.long)
          (rw head_num (keeps_J head_owner)) in
          let head_stays : set J 1 (node_word (get_or ps' H' 0)) ≡ J = set_stays s.n Y _ _
          (head_ok plan counts.long)
          (keeps_J head_there) in
          ap (λ (y : List ℕ). head_at y (get_or ps' H' 0) H') joins_is ∙
          (ap (λ (y : List ℕ). set (set y (owner_place (get_or ps' H' 0)) 0) 1 (node_word (get_or ps' H' 0))) shift-stays ∙
          (ap (λ (y : List ℕ). set y 1 (node_word (get_or ps' H' 0))) owner-stays ∙ head_stays))

    -- THE COUNTS
    -- nothing lies in a block of the path below the slot
    nothing_at : (t : ℕ) → v < t → t ≤ u → any (within (tier_order t) (block (tier_order t) i)) l ≡ false
    nothing_at t a b = is_false (λ y. clash (has_in l t (block (tier_order t) i) (omega (arith, tier_le)) y) (gap.not_there t a b))

    module _ (some_word : w ≡ 0 → ⊥) (ps : List ℕ)
        (is : (t : ℕ) → v < t → t ≤ u + 1 → get_or ps t 0 ≡ ν' t (block (tier_order t) i)) where
      abbrev f : ℕ
      f = get_or ws (filled_place (get_or ps (u + 1) 0)) 0

      over_has : (t : ℕ) → suc u ≤ t → t ≤ H → has l' t (block (tier_order t) i) ≡ true
      over_has t a b = path_has t (omega arith) b

      first_filled : f ≡ filled_at l ν' u (block (tier_order (suc u)) i)
      first_filled = rw (is (u + 1) (omega arith) (omega arith), add-one u)
          (was_filled plan clear some_word u (block (tier_order (suc u)) i)
          (over_has (suc u) (omega arith) tier_le) gap.at.there)

      final : PathFinal s.n Y ps k (u + 1) f
      final = record {
        low = omega arith;
        nodes = λ t a b. rw (is t a b) (path_lt t a b);
        alone = λ e. let d : u ≡ v = omega arith in
            rw (first_filled, is (u + 1) (omega arith) (omega arith)) (subst (λ (y : ℕ).
            filled_at l ν' y (block (tier_order (suc y)) i) + width k ≡ Y (filled_place (ν' (y + 1) (block (tier_order (y + 1)) i))))
            (sym d) (subst (λ (y : ℕ). filled_at l ν' v (block (tier_order y) i) + width k ≡
            Y (filled_place (ν' (v + 1) (block (tier_order (v + 1)) i)))) (add-one v)
            (entry_more gap.new enough some_word
            (omega (arith, tier_le, height_same)) gap.none_start)));
        highest = λ ne. rw (first_filled, is (u + 1) (omega arith) (omega arith), add-one u)
            (path_more gap.new enough some_word u (omega arith)
            (omega (arith, tier_le, height_same)) (nothing_at u (omega arith) (omega arith)));
        lowest = λ ne. rw (is (v + 1) (omega arith) (omega arith))
            (entry_one gap.new enough some_word
            (omega (arith, tier_le, height_same)) (nothing_at (v + 1) (omega arith) (omega arith)));
        between = λ t a b. let d : suc (t - 1) ≡ t = omega arith in
            rw (is t (omega arith) (omega arith)) (subst (λ (y : ℕ). 1 ≡ Y (filled_place (ν' y (block (tier_order y) i)))) d
            (path_one gap.new enough some_word (t - 1) (omega arith)
            (omega (arith, tier_le, height_same))
            (subst (λ (y : ℕ). any (within (tier_order y) (block (tier_order y) i)) l ≡ false) (sym d)
            (nothing_at t (omega arith) (omega arith)))));
      }

      abbrev w₁ : List ℕ
      w₁ = path_counts ws ps k (u + 1) f

      counted : Counts s.n Y ws w₁
      counted = path_counts_lem s.n Y final lg

      filled : FilledCounts enough ws w₁
      filled = all_filled plan clear some_word counted on_path_lem
          (λ t h g. absurd (omega (arith, has_le l' (suc t) 0 h, height_same)))
        where
          on_path_lem : (t : ℕ) → v ≤ t → has l' (suc t) (block (tier_order (suc t)) i) ≡ true →
              R (filled_place (ν' (suc t) (block (tier_order (suc t)) i))) w₁
          on_path_lem t a h = by_t (ltb t (u + 1))
              (λ x. let lt : t < u + 1 = ltb-true _ _ x in
              rw (← is (suc t) (omega arith) (omega arith)) (path_makes s.n Y final lg (suc t) (omega arith) (omega arith)))
              (λ x. let ge : u + 1 ≤ t = ltb-false _ _ x in
              let le : suc t ≤ H = omega (arith, has_le l' (suc t) (block (tier_order (suc t)) i) h, height_same) in
              counted.keep _ (path_stays plan clear some_word t (omega arith) h
              (has_over (suc t) (omega arith) le) (has_over t (omega arith) (omega arith))))

      pub words_after_lem : built ws ps i k w u ≡ render l' (new_places l l' os) s.n
      unfolding built
      words_after_lem =
          let agree : (t : ℕ) → v < t → t ≤ u + 1 → get_or ps t 0 ≡ get_or ps' t 0 =
          λ t a b. is t a b ∙ sym (ps'_is t (omega (arith, tier_le))) in
          ap (λ (y : List ℕ). entered y (get_or ps (v + 1) 0) (offset i k) (width k) w)
          (joins_same ps ps' i w₁ (v + 1) d₀ (λ t a b. agree t (omega arith) (omega arith)) ∙ sym (linked_is counted)) ∙
          (ap (λ (a : ℕ). entered (linked w₁ ps' i v H') a (offset i k) (width k) w) (agree (v + 1) (omega arith) (omega arith)) ∙
          (sym (rw (le-ltb H H' (omega (arith, height_same))) refl) ∙
          path_chain_entry s plan gap.none_start filled))

-- AS THE CODE HAS IT: new nodes below the slot
module _ {ws : List ℕ} (s : WellFormed ws) {i k w u first : ℕ} (deep : k / slot_bits < u)
    (g : AtGap s.list (num s) i k w u first) where
  none_below : All (λ x. block k x.base ≡ block k i → ⊥) s.list
  none_below = each s.list (λ x m q. by_t (ltb x.order (tier_order u))
      (λ t. clash (in_any (within (tier_order u) (block (tier_order u) i)) m
      (rw (t, eq-eqb _ _ (block_up {j = k} {k = tier_order u} x.base i (omega arith) q)))) g.nothing)
      (λ t. let h : tier_order u ≤ x.order = ltb-false _ _ t in
      clash (in_any (over i k) m
      (rw (
        eq-eqb _ _ (sym (block_up {j = k} {k = x.order} x.base i (omega arith) q)),
        le-leb k x.order (omega arith),
      ))) g.new.is_new))

  no_node : (t : ℕ) → k / slot_bits < t → t ≤ u → has s.list t (block (tier_order t) i) ≡ false
  no_node t a h = is_false (λ y. clash (path_up i {j = tier_order t} {k = tier_order u} s.list (omega arith)
      (has_within s.list t (block (tier_order t) i) y)) g.nothing)

  gap_below : Gap s i k w u first
  gap_below = record { new = g.new; none_start = none_below; at = g.at_node_lem; not_there = no_node }

  abbrev high : k / slot_bits ≤ u
  high = omega arith

  needed_as : needed s.list (store_new s.list i k w) ≡ u - k / slot_bits
  needed_as = need_is gap_below high

  pub below_short : free_count s.places < u - k / slot_bits →
      Stores s.n s.list s.places (store_new s.list i k w) i ws ws (Err Short)
  below_short h = record {
    done = λ z. absurd (omega (arith, needed_as));
    short = λ z. (refl, refl);
  }

  module _ (some : u - k / slot_bits ≤ free_count s.places) {ns ms : List ℕ}
      (drawn : Drawn s.places (u - k / slot_bits) ns ms) {ps : List ℕ} (laid : Laid ns ps first (k / slot_bits) u) where
    enough : Enough s.n s.list s.places (store_new s.list i k w)
    enough = record { placed = s.placed; free = omega (arith, needed_as) }

    ps_is : (t : ℕ) → k / slot_bits < t → t ≤ u + 1 → get_or ps t 0 ≡ number_in
        (new_places s.list (store_new s.list i k w) s.places) t (block (tier_order t) i)
    ps_is t a b = by_t (eqb t (u + 1))
        (λ z. let e : t ≡ suc u = eqb-true _ _ z ∙ add-one u in
        ap (λ (y : ℕ). get_or ps y 0) (eqb-true _ _ z) ∙ (laid.top_is ∙
        rw e (sym (first_is gap_below high enough))))
        (λ z. let ne : t ≡ u + 1 → ⊥ = eqb-false _ _ z in
        let (x, y) = number_is gap_below high enough t a (omega arith)
        in
        laid.rest_are t a (omega arith) ∙ (drawn.numbers (u - t) (omega arith) ∙ sym x))

    pub laid_lt : (t : ℕ) → k / slot_bits < t → t ≤ u + 1 → get_or ps t 0 < s.n
    laid_lt t a b = rw (ps_is t a b)
        (path_lt gap_below high enough t a b)

    words : {ws' : List ℕ} → T (enterable k w) → ws' ≡ built ws ps i k w u → ws' ≡ render (store_new s.list i k w)
        (new_places s.list (store_new s.list i k w) s.places) s.n
    words st e = e ∙ words_after_lem gap_below high enough
        (enterable_some k w st) ps ps_is

    pub below_done : {ws' : List ℕ} {e : Entry} → T (enterable k w) → e ≡ entry_of i k w 0 → ws' ≡ built ws ps i k w u →
        Stores s.n s.list s.places (store_new s.list i k w) i ws ws' (Ok e)
    below_done st q e = stores_unmarked s g.new none_below enough q (words st e)

    pub below_map : {ws' : List ℕ} → T (enterable k w) → w < 2 ^ 64 → ws' ≡ built ws ps i k w u → FreeMap ws' ms
    below_map st w< e = map_left s g.new none_below enough st w< (words st e)
        (left_new s.places (new_nodes s.list (store_new s.list i k w)) ms
        (subst (λ (y : ℕ). MapOf (left_free s.places y) ms) (sym needed_as) drawn.left))

-- AS THE CODE HAS IT: empty slots of the entry's node
module _ {ws : List ℕ} (s : WellFormed ws) {i k w u a : ℕ}
    (g : AtGap s.list (num s) i k w u a) (tier_is : k / slot_bits ≡ u)
    (empty : (t : ℕ) → t < width k → get_or ws (slot_place a (offset i k + t)) 0 ≡ 0) where
  abbrev b₀ : ℕ
  b₀ = block (tier_order (k / slot_bits + 1)) i

  at₀ : AtNode s.list (num s) (k / slot_bits) b₀ a
  at₀ = subst (λ (y : ℕ). AtNode s.list (num s) (k / slot_bits) (block (tier_order y) i) a) (sym (add-one (k / slot_bits)))
      (subst (λ (v : ℕ). AtNode s.list (num s) v (block (tier_order (suc v)) i) a) (sym tier_is) g.at_node_lem)

  slot_zero : (t : ℕ) → t < width k → slot s.list (num s) (k / slot_bits) (slots * b₀ + (offset i k + t)) ≡ 0
  slot_zero t h = sym (slot_at_lem s at₀ (offset i k + t) (omega (arith, run_fits i k))) ∙ empty t h

  none_in : All (λ x. block k x.base ≡ block k i → ⊥) s.list
  none_in = each s.list (λ x m q.
      let y : ℕ = block (tier_order (k / slot_bits)) x.base in
      let t₁ : tier_order (suc (k / slot_bits)) ≡ tier_order (k / slot_bits + 1) = omega arith in
      let up : y / slots ≡ b₀ = sym (tier_up (k / slot_bits) x.base) ∙ (ap (λ (z : ℕ). block z x.base) t₁ ∙
      block_up {j = k} {k = tier_order (k / slot_bits + 1)} x.base i (omega arith) q) in
      let (t, p, e) = run_slot i k y up (sym (block_block {j = tier_order (k / slot_bits)} {k = k} x.base (omega arith)) ∙ q)
      in
      look (zero_starts s.list (num s) (k / slot_bits) (slots * b₀ + (offset i k + t)) (sorted_ok s.valid) (slot_zero t p)) m
      e)

  gap_in : Gap s i k w u a
  gap_in = record { new = g.new; none_start = none_in; at = g.at_node_lem; not_there = λ t a b. absurd (omega arith) }

  abbrev high₀ : k / slot_bits ≤ u
  high₀ = omega arith

  none_needed : needed s.list (store_new s.list i k w) ≡ 0
  none_needed = need_is gap_in high₀ ∙ omega arith

  enough₀ : Enough s.n s.list s.places (store_new s.list i k w)
  enough₀ = record { placed = s.placed; free = omega (arith, none_needed) }

  words₀ : {ws' : List ℕ} → T (enterable k w) → ws' ≡ settled ws a (offset i k) (width k) w → ws' ≡ render (store_new s.list i k w)
      (new_places s.list (store_new s.list i k w) s.places) s.n
  unfolding built joins path_counts
  words₀ st e =
      let ps : List ℕ = up_to (λ t. a) 0 (k / slot_bits + 2) in
      let num_is : get_or (up_to (λ t. a) 0 (k / slot_bits + 2)) (k / slot_bits + 1) 0 ≡ a = get_d_up_to (λ t. a) 0 (k / slot_bits + 2) (k / slot_bits + 1)
      (omega arith) in
      let z : u + 1 - (k / slot_bits + 1) ≡ 0 = omega arith in
      let y : u + 1 ≡ k / slot_bits + 1 = omega arith in
      let same : settled ws a (offset i k) (width k) w ≡ built ws (up_to (λ t. a) 0 (k / slot_bits + 2)) i k w u =
      rw (z, y, eq-eqb (k / slot_bits + 1) (k / slot_bits + 1) refl, num_is) refl in
      e ∙ (same ∙ words_after_lem gap_in high₀ enough₀ (enterable_some k w st)
      ps (λ t p q. let f : t ≡ k / slot_bits + 1 = omega arith in
      let f' : t ≡ suc u = omega arith in
      ap (λ (y : ℕ). get_or (up_to (λ t. a) 0 (k / slot_bits + 2)) y 0) f ∙ (num_is ∙
      rw f' (sym (first_is gap_in high₀ enough₀)))))

  pub slots_done : {ws' : List ℕ} {e : Entry} → T (enterable k w) → e ≡ entry_of i k w 0 →
      ws' ≡ settled ws a (offset i k) (width k) w →
      Stores s.n s.list s.places (store_new s.list i k w) i ws ws' (Ok e)
  slots_done st q e = stores_unmarked s g.new none_in enough₀ q (words₀ st e)

  pub slots_map : {ws' ms : List ℕ} → T (enterable k w) → w < 2 ^ 64 → FreeMap ws ms →
      ws' ≡ settled ws a (offset i k) (width k) w → FreeMap ws' ms
  slots_map {ms = ms} st w< F e = map_left s g.new none_in enough₀ st w< (words₀ st e)
      (left_new s.places (new_nodes s.list (store_new s.list i k w)) ms
      (subst (λ (y : ℕ). MapOf (left_free s.places y) ms) (sym none_needed)
      (drawn_none s.places [] ms (map_places s F)).left))
