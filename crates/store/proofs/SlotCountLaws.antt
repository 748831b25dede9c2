-- How many slots of a node are filled after a store: those of a node apart from the range as before, on the path one more if
-- its slot was empty, and in the entry's node all of the run.
use Prim.Native.Nat.{ℕ, suc, ◌+◌, ◌*◌, ◌-◌, ◌/◌, ◌%◌, ◌^◌, ◌≤◌, ◌<◌}
use mathlib.Core.Path.{◌≡◌, refl, sym, ap, subst, ◌∙◌}
use mathlib.Core.Bool.{Bool, true, false, not}
use mathlib.Core.List.{List}
use native.Mathlib.Omega.{arith}
use native.Mathlib.Nat.{le_refl}
use lib.Dec.{ltb, eqb}
use borrow.Author.Tests.{eqb-true, eqb-false, ltb-true, ltb-false, eq-eqb, ne_eqb}
use Rattle.blocks.specs.Choice.{pick}
use Rattle.blocks.specs.Lists.{any, In, All, nonempty}
use Rattle.blocks.specs.Blocks.{block, count_to}
use Rattle.blocks.proofs.BoolLaws.{clash, by_t}
use Rattle.blocks.proofs.ListLaws.{each, look, any_none, in_any, first_none}
use Rattle.blocks.proofs.BlockLaws.{block_at, block_block, block_up}
use Rattle.blocks.proofs.CountLaws.{count_same, count_none, count_all, count_change, count_run}
use Rattle.model.specs.declared.Entry.{Entry}
use Rattle.model.specs.Model.{covers, within}
use Rattle.model.specs.ByBlock.{store_new}
use Rattle.model.proofs.RangeLaws.{Apart, Inside, covers_order, covers_run}
use Rattle.tree.specs.Tree.{height, tier_order, slots, slot_bits}
use Rattle.tree.specs.Slots.{slot, node_word, sibling_word, Numbering}
use Rattle.tree.proofs.EraseLaws.{shrunk}
use Rattle.tree.proofs.GrowLaws.{above}
use Rattle.tree.proofs.HeightLaws.{height_fits}
use Rattle.tree.proofs.SlotLaws.{tier_up, empty_node}
use Rattle.tree.proofs.StoreLaws.{within_only, slot_apart, slot_path}
use Rattle.layout.specs.Words.{filled_of}
use Rattle.layout.proofs.FieldLaws.{filled_same}
use Rattle.layout.proofs.FreshLaws.{apart_slot, none_over}
use Rattle.layout.proofs.RenderWordLaws.{slot_node}
use Rattle.plan.proofs.AfterStoreLaws.{Lies, lies, on_path_lem, in_run_lem, off, rooms, lows, whole_top, apart_zero}
use Rattle.plan.proofs.WalkLaws.{head_zero}
use Rattle.write.specs.Writes.{width, offset}
use Rattle.write.proofs.RunLaws.{run_fits, slot_in_run, run_slot, entry_word_lem, sibling_word_lem}
use Rattle.plan.specs.Plan.{NewStore}

-- exactly those of a run, or exactly one
only_run : (g : ℕ → Bool) (a c n : ℕ) → a + c ≤ n → ((j : ℕ) → j < n → (a ≤ j → j < a + c → ⊥) → g j ≡ false) →
    ((j : ℕ) → j < c → g (a + j) ≡ true) → count_to g n ≡ c
only_run g a c n h z y = omega (
  arith,
  count_run (λ j. false) g a c n h (λ j lt ne. sym (z j lt ne)),
  count_none (λ j. false) n (λ j lt. refl),
  count_none (λ j. false) c (λ j lt. refl),
  count_all (λ j. g (a + j)) c y,
)

only_one : (g : ℕ → Bool) (a n : ℕ) → a < n → ((j : ℕ) → j < n → (j ≡ a → ⊥) → g j ≡ false) → g a ≡ true → count_to g n ≡ 1
only_one g a n h z y =
    let q : count_to g n + 0 ≡ count_to (λ j. false) n + 1 = rw y at
    (count_change (λ j. false) g a n h (λ j lt ne. sym (z j lt ne))) in
    omega (arith, count_none (λ j. false) n (λ j lt. refl))

-- how many slots of tier u the node over block b has filled
unfoldable pub filled_at : List Entry → Numbering → ℕ → ℕ → ℕ
filled_at l ν u b = filled_of (λ o. slot l ν u (slots * b + o))

pub filled_at_lem : (l : List Entry) (ν : Numbering) (u b : ℕ) → filled_of (λ o. slot l ν u (slots * b + o)) ≡ filled_at l ν u b
unfolding filled_at
filled_at_lem l ν u b = refl

-- a slot is filled under every numbering alike
pub full_any : (l : List Entry) (ν ν' : Numbering) (u c : ℕ) → not (eqb (slot l ν u c) 0) ≡ not (eqb (slot l ν' u c) 0)
unfolding slot
full_any l ν ν' u c =
    by_t (any (within (tier_order u) c) l)
    (λ t. rw (t, ne_eqb (node_word (ν u c)) 0 (omega arith), ne_eqb (node_word (ν' u c)) 0 (omega arith)))
    (λ t. rw t)

pub filled_any : (l : List Entry) (ν ν' : Numbering) (u b : ℕ) → filled_at l ν u b ≡ filled_at l ν' u b
unfolding filled_at
filled_any l ν ν' u b =
    count_same (λ o. not (eqb (slot l ν u (slots * b + o)) 0)) (λ o. not (eqb (slot l ν' u (slots * b + o)) 0)) slots
    (λ o h. full_any l ν ν' u (slots * b + o))

-- a node's slot is filled
pub full_node : (l : List Entry) (ν : Numbering) (u c : ℕ) → any (within (tier_order u) c) l ≡ true →
    not (eqb (slot l ν u c) 0) ≡ true
full_node l ν u c t = rw (slot_node l ν u c t, ne_eqb (node_word (ν u c)) 0 (omega arith))

-- no slot is filled
filled_none : (l : List Entry) (ν : Numbering) (u b : ℕ) → ((o : ℕ) → o < slots → slot l ν u (slots * b + o) ≡ 0) →
    filled_at l ν u b ≡ 0
unfolding filled_at
filled_none l ν u b z = count_none (λ o. not (eqb (slot l ν u (slots * b + o)) 0)) slots (λ o h. rw (z o h))

module _ {l : List Entry} {i k w : ℕ} (new : NewStore l i k w) (ν : Numbering) where
  abbrev l' : List Entry
  l' = store_new l i k w

  abbrev v : ℕ
  v = k / slot_bits

  -- APART FROM THE RANGE
  off_slot : (u c : ℕ) → Apart i k (tier_order u) c → slot l' ν u c ≡ slot l ν u c
  off_slot u c a = slot_apart i k w l ν ν u c (rooms new) a (λ _. refl)

  pub apart_count : (u b : ℕ) → Apart i k (tier_order (suc u)) b → filled_at l' ν u b ≡ filled_at l ν u b
  unfolding filled_at
  apart_count u b a = filled_same (λ o. slot l ν u (slots * b + o)) (λ o. slot l' ν u (slots * b + o))
      (λ o h. off_slot u (slots * b + o) (apart_slot i k u b (slots * b + o) a (omega arith)))

  -- ON THE PATH
  module _ (u : ℕ) (high : k < tier_order u) where
    abbrev b : ℕ
    b = block (tier_order (suc u)) i

    abbrev p : ℕ
    p = block (tier_order u) i % slots

    slot_is : slots * b + p ≡ block (tier_order u) i
    slot_is = ap (λ (y : ℕ). slots * y + block (tier_order u) i % slots) (tier_up u i) ∙ omega arith

    other : (j : ℕ) → j < slots → (j ≡ p → ⊥) → Apart i k (tier_order u) (slots * b + j)
    other j h ne = go (lies i k u (slots * b + j))
      where
        go : Lies i k u (slots * b + j) → Apart i k (tier_order u) (slots * b + j)
        go (on_path_lem g e) = absurd (ne (omega (arith, e, slot_is)))
        go (in_run_lem g a) = absurd (omega arith)
        go (off a) = a

    path_full : not (eqb (slot l' ν u (block (tier_order u) i)) 0) ≡ true
    path_full = rw (slot_path i k w l ν u high, ne_eqb (node_word (ν u (block (tier_order u) i))) 0 (omega arith))

    pub path_count : (x : Bool) → not (eqb (slot l ν u (block (tier_order u) i)) 0) ≡ x →
        filled_at l' ν u b + pick x 1 0 ≡ filled_at l ν u b + 1
    unfolding filled_at
    path_count x e =
        rw (slot_is, path_full, e) at (count_change (λ o. not (eqb (slot l ν u (slots * b + o)) 0))
        (λ o. not (eqb (slot l' ν u (slots * b + o)) 0)) p slots (omega arith)
        (λ j h ne. ap (λ (y : ℕ). not (eqb y 0)) (sym (off_slot u (slots * b + j) (other j h ne)))))

  -- nothing lies at the path's slot
  pub path_slot : (u : ℕ) → k < tier_order u → any (within (tier_order u) (block (tier_order u) i)) l ≡ false →
      slot l ν u (block (tier_order u) i) ≡ 0
  unfolding slot
  path_slot u h e = rw (e, first_none (covers (block (tier_order u) i * 2 ^ tier_order u)) (each l no_entry))
    where
      no_entry : (x : Entry) → In x l → covers (block (tier_order u) i * 2 ^ tier_order u) x ≡ true → ⊥
      no_entry x m t =
          let y : ℕ = block (tier_order u) i * 2 ^ tier_order u in
          let at : block (tier_order u) (block (tier_order u) i * 2 ^ tier_order u) ≡ block (tier_order u) i = block_at (tier_order u)
          (block (tier_order u) i) in
          by_t (ltb x.order (tier_order u))
          (λ s. let o : x.order < tier_order u = ltb-true _ _ s in
          clash (in_any (within (tier_order u) (block (tier_order u) i)) m
          (rw (
            s,
            eq-eqb _ _ (sym (block_up {j = x.order} {k = tier_order u} (block (tier_order u) i * 2 ^ tier_order u) x.base
                (omega arith) (eqb-true _ _ t)) ∙ at),
          ))) e)
          (λ s. let o : tier_order u ≤ x.order = ltb-false _ _ s in
          let q : x.order ≤ k = look (rooms new) m (eq-eqb _ _
          (block_up {j = tier_order u} {k = x.order} i (block (tier_order u) i * 2 ^ tier_order u) o (sym at) ∙ eqb-true _ _ t)) in
          omega arith)

  -- nothing lies below a node of the path
  pub empty_slots_lem : (u : ℕ) → k < tier_order (suc u) →
      any (within (tier_order (suc u)) (block (tier_order (suc u)) i)) l ≡ false → (o : ℕ) → o < slots →
      slot l ν u (slots * block (tier_order (suc u)) i + o) ≡ 0
  empty_slots_lem u h e o lt = empty_node l ν u (block (tier_order (suc u)) i) e
      (none_over i k w l (rooms new) u h e) (slots * block (tier_order (suc u)) i + o) (omega arith)

  pub empty_count : (u : ℕ) → k < tier_order (suc u) →
      any (within (tier_order (suc u)) (block (tier_order (suc u)) i)) l ≡ false →
      filled_at l ν u (block (tier_order (suc u)) i) ≡ 0
  empty_count u h e = filled_none l ν u (block (tier_order (suc u)) i) (empty_slots_lem u h e)

  -- IN THE ENTRY'S NODE
  abbrev b₀ : ℕ
  b₀ = block (tier_order (v + 1)) i

  abbrev o₀ : ℕ
  o₀ = offset i k

  run_of : (c : ℕ) → c / slots ≡ b₀ → Inside i k (tier_order v) c → (t : ℕ) × (t < width k) × (c ≡ slots * b₀ + (o₀ + t))
  run_of c e a =
      run_slot i k c e (ap (λ (y : ℕ). y / 2 ^ (k - tier_order v)) (sym (block_at (tier_order v) c)) ∙
      (sym (block_block {j = tier_order v} {k = k} (c * 2 ^ tier_order v) (omega arith)) ∙ a _ (block_at (tier_order v) c)))

  off_run : (j : ℕ) → j < slots → (o₀ ≤ j → j < o₀ + width k → ⊥) → Apart i k (tier_order v) (slots * b₀ + j)
  off_run j h ne = go (lies i k v (slots * b₀ + j))
    where
      go : Lies i k v (slots * b₀ + j) → Apart i k (tier_order v) (slots * b₀ + j)
      go (on_path_lem g e) = absurd (omega arith)
      go (in_run_lem g a) = let (t, p, q) = run_of (slots * b₀ + j) (omega arith) a in absurd (ne (omega arith) (omega arith))
      go (off a) = a

  module _ (some_word : w ≡ 0 → ⊥) where
    run_full : (t : ℕ) → t < width k → not (eqb (slot l' ν v (slots * b₀ + (o₀ + t))) 0) ≡ true
    run_full t h =
        by_t (eqb t 0)
        (λ z. let e : t ≡ 0 = eqb-true _ _ z in
        rw (e, entry_word_lem i k w l ν (rooms new), ne_eqb w 0 some_word))
        (λ z. let ne : t ≡ 0 → ⊥ = eqb-false _ _ z in
        let e : t ≡ t - 1 + 1 = omega arith in
        rw (
          e,
          sibling_word_lem i k w l ν (rooms new) (t - 1) (omega arith),
          ne_eqb (sibling_word (offset i k)) 0 (omega arith),
        ))

    run_all_lem : count_to (λ t. not (eqb (slot l' ν v (slots * b₀ + (o₀ + t))) 0)) (width k) ≡ width k
    run_all_lem = count_all (λ t. not (eqb (slot l' ν v (slots * b₀ + (o₀ + t))) 0)) (width k) run_full

    pub entry_count : filled_at l' ν v b₀ + count_to (λ t. not (eqb (slot l ν v (slots * b₀ + (o₀ + t))) 0)) (width k) ≡
        filled_at l ν v b₀ + width k
    unfolding filled_at
    entry_count = rw run_all_lem at (count_run (λ o. not (eqb (slot l ν v (slots * b₀ + o)) 0))
        (λ o. not (eqb (slot l' ν v (slots * b₀ + o)) 0)) o₀ (width k) slots (run_fits i k)
        (λ j h ne. ap (λ (y : ℕ). not (eqb y 0)) (sym (off_slot v (slots * b₀ + j) (off_run j h ne)))))

    -- where the rest of the node is empty
    entry_alone : ((j : ℕ) → j < slots → Apart i k (tier_order v) (slots * b₀ + j) → slot l ν v (slots * b₀ + j) ≡ 0) →
        filled_at l' ν v b₀ ≡ width k
    unfolding filled_at
    entry_alone z = only_run (λ o. not (eqb (slot l' ν v (slots * b₀ + o)) 0)) o₀ (width k) slots (run_fits i k)
        (λ j h ne. rw (off_slot v (slots * b₀ + j) (off_run j h ne) ∙ z j h (off_run j h ne))) run_full

    -- a new node
    pub entry_new : any (within (tier_order (v + 1)) b₀) l ≡ false → filled_at l' ν v b₀ ≡ width k
    entry_new e =
        let s : suc v ≡ v + 1 = omega arith in
        entry_alone (λ j h a. subst (λ (y : ℕ). slot l ν v (slots * block (tier_order y) i + j) ≡ 0) s
        (empty_slots_lem v (omega arith) (subst (λ (y : ℕ). any (within (tier_order y) (block (tier_order y) i)) l ≡ false) (sym s) e)
        j h))

    -- the head grows over a run that has the whole old tree
    pub entry_whole : height l < height l' → block k i ≡ 0 → filled_at l' ν v b₀ ≡ width k
    entry_whole g e = entry_alone (λ j h a. shrunk l new.valid (lows new) ν v
        (omega (arith, whole_top new g e)) (slots * b₀ + j)
        (by_t (eqb (slots * b₀ + j) 0)
        (λ z. absurd (apart_zero new g v
        (subst (λ (c : ℕ). Apart i k (tier_order v) c) (eqb-true _ _ z) a) e))
        (λ z. let ne : slots * b₀ + j ≡ 0 → ⊥ = eqb-false _ _ z in omega arith)))

  -- nothing starts in the range: its slots are empty
  pub run_slots : All (λ x. block k x.base ≡ block k i → ⊥) l → (t : ℕ) → t < width k →
      slot l ν v (slots * b₀ + (o₀ + t)) ≡ 0
  unfolding slot
  run_slots none t h = rw (
    any_none (within (tier_order v) c) (each l (λ x m s. look none m (inside x.base (within_only (tier_order v) c x s)))),
    first_none (covers (c * 2 ^ tier_order v)) (each l (λ x m s.
        let run : block k (c * 2 ^ tier_order v) ≡ block k i = inside (c * 2 ^ tier_order v) (block_at (tier_order v) c) in
        let o : x.order ≤ k = covers_order i k x (c * 2 ^ tier_order v) (look (rooms new) m) s run in
        look none m (sym (covers_run i k x (c * 2 ^ tier_order v) o s) ∙ run))),
  )
    where
      c : ℕ
      c = slots * b₀ + (o₀ + t)

      inside : Inside i k (tier_order v) (slots * b₀ + (o₀ + t))
      inside = slot_in_run i k t h

  pub run_none : All (λ x. block k x.base ≡ block k i → ⊥) l →
      count_to (λ t. not (eqb (slot l ν v (slots * b₀ + (o₀ + t))) 0)) (width k) ≡ 0
  run_none none = count_none (λ t. not (eqb (slot l ν v (slots * b₀ + (o₀ + t))) 0)) (width k) (λ t h. rw (run_slots none t h))

  -- ABOVE THE OLD HEAD
  zero_full : (u : ℕ) → height l ≤ u → nonempty l ≡ true → not (eqb (slot l ν u 0) 0) ≡ true
  zero_full u h s =
      by_t (eqb u (height l))
      (λ t. rw (eqb-true u (height l) t) (head_zero l ν new.valid ∙ s))
      (λ t. let ne : u ≡ height l → ⊥ = eqb-false _ _ t in
      full_node l ν u 0 (above l (height l) (height_fits (lows new) (le_refl _)) u 0 (omega arith) ∙ rw s))

  pub zero_count : (u : ℕ) → height l ≤ u → nonempty l ≡ true → filled_at l ν u 0 ≡ 1
  unfolding filled_at
  zero_count u h s = only_one (λ o. not (eqb (slot l ν u (slots * 0 + o)) 0)) 0 slots (omega arith)
      (λ j lt ne. rw (shrunk l new.valid (lows new) ν u h (slots * 0 + j) (omega arith))) (zero_full u h s)
