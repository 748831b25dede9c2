-- A store where nothing starts in the target range: no node goes, no mark changes, and the path, the chain and the entry
-- are all that is written.
use Prim.Native.Nat.{ℕ, ◌+◌, ◌*◌, ◌-◌, ◌/◌, ◌^◌, ◌<◌}
use mathlib.Core.Path.{◌≡◌, refl, sym, ap, subst, ◌∙◌}
use mathlib.Core.Bool.{true, false, not}
use mathlib.Core.List.{List}
use mathlib.Core.Option.{Option, none, some}
use native.Mathlib.Omega.{arith}
use lib.Dec.{T, eqb}
use lib.ListN.{get_or}
use borrow.Author.Tests.{eqb-true}
use Rattle.blocks.specs.Choice.{both, either}
use Rattle.blocks.specs.Lists.{any, All, nonempty}
use Rattle.blocks.specs.Blocks.{block}
use Rattle.blocks.proofs.BoolLaws.{clash, both_l, both_no, either_no}
use Rattle.blocks.proofs.ListLaws.{All-map, any_none, any_in_lem, any_keep_both, look}
use Rattle.blocks.proofs.BitLaws.{bits_same}
use Rattle.model.specs.declared.Entry.{Entry}
use Rattle.model.specs.Model.{enterable, starts, within, has_mark, marks_of}
use Rattle.model.specs.ByBlock.{inside, new_entry, store_new}
use Rattle.model.proofs.RangeLaws.{Inside}
use Rattle.tree.specs.Tree.{slots, tier_order, height, has, Node, new_nodes, slot_mark, slot_bits}
use Rattle.tree.specs.Slots.{Numbering, slot}
use Rattle.tree.proofs.StoreLaws.{within_only, store_covering, mark_apart, mark_path, mark_inside}
use Rattle.layout.specs.Words.{field, field_at, IsField}
use Rattle.layout.specs.Places.{Places, number_in, keep_if, allocate, new_places, render}
use Rattle.layout.specs.WellFormed.{WellFormed}
use Rattle.layout.proofs.NewNumberLaws.{number_none}
use Rattle.layout.proofs.NumberLaws.{in_standing}
use Rattle.layout.proofs.RenderLaws.{render_is}
use Rattle.freemap.specs.FreeMap.{MapOf}
use Rattle.freenodes.specs.FreeNodes.{FreeMap}
use Rattle.freemap.proofs.MapLaws.{map_as}
use Rattle.plan.specs.Plan.{free_place, NewStore}
use Rattle.plan.proofs.AfterStoreLaws.{Lies, lies, on_path_lem, in_run_lem, off, rooms, tops, has_path, stays, new_valid}
use Rattle.write.specs.Writes.{width, offset, linked, entered}
use Rattle.std.specs.Prelude.{Ok}
use Rattle.store.specs.Stored.{Stores, entry_of}
use Rattle.store.proofs.MapAfterLaws.{map_after}
use Rattle.store.proofs.FreeingLaws.{Freed, freed_none}
use Rattle.store.proofs.NewWordLaws.{field₁, field₁_as, field_at₁, X-anchor, X-at, Enough, FilledCounts}
use Rattle.store.proofs.PathWordLaws.{grown_words, enter_long, grow_long, link_long, lg₁, anchor_right, node_right, Numbered}
use Rattle.tree.proofs.NodeListLaws.{has_le, has_within}
use Rattle.store.proofs.FreedLaws.{Clear}

-- THE TREE
module _ {l : List Entry} {i k w : ℕ} (new : NewStore l i k w)
    (none_start : All (λ x. block k x.base ≡ block k i → ⊥) l) where
  abbrev l' : List Entry
  l' = store_new l i k w

  -- the new entry has no marks
  no_marks : (m : ℕ) → any (has_mark m) (inside l i k) ≡ false
  no_marks m = any_keep_both (has_mark m) (starts k (block k i)) l ∙
      any_none (λ x. both (starts k (block k i) x) (has_mark m x))
      (All-map (λ x n t. n (eqb-true _ _ (both_l (starts k (block k i) x) (has_mark m x) t))) none_start)

  marks_zero : marks_of (inside l i k) ≡ 0
  marks_zero = rw (no_marks 0, no_marks 1, no_marks 2) refl

  mark_same : (m u c : ℕ) → m < 3 → slot_mark l m u c ≡ slot_mark l' m u c
  unfolding slot_mark
  mark_same m u c h = go (lies i k u c)
    where
      none_here : Inside i k (tier_order u) c → slot_mark l m u c ≡ false
      none_here n = any_none (λ e. both (starts (tier_order u) c e) (has_mark m e))
          (All-map (λ x z t. z (n x.base (eqb-true _ _ (both_l (starts (tier_order u) c x) (has_mark m x) t))))
          none_start)

      go : Lies i k u c → slot_mark l m u c ≡ slot_mark l' m u c
      go (on_path_lem g e) = rw e (sym (mark_path i k w l m u h (omega arith)))
      go (in_run_lem g n) = none_here n ∙ sym (mark_inside i k w l m u c h n ∙ rw (no_marks m, both_no))
      go (off n) = sym (mark_apart i k w l m u c n)

  -- a node that was there is there
  pub has_keeps : (t b : ℕ) → has l t b ≡ true → has l' t b ≡ true
  has_keeps t b h = go (lies i k t b)
    where
      go : Lies i k t b → has l' t b ≡ true
      go (on_path_lem g e) = rw e (has_path new t g
          (omega (arith, has_le l t b h, tops new)))
      go (in_run_lem g n) = let (x, m, e) = any_in_lem (within (tier_order t) b) l (has_within l t b h) in
          absurd (look none_start m (n x.base (within_only (tier_order t) b x e)))
      go (off n) = stays new t b h n

-- THE WORDS
module _ {ws : List ℕ} (s : WellFormed ws) {i k w : ℕ} (new : NewStore s.list i k w)
    (none_start : All (λ x. block k x.base ≡ block k i → ⊥) s.list)
    (enough : Enough s.n s.list s.places (store_new s.list i k w)) where
  abbrev l : List Entry
  l = s.list

  abbrev l₁ : List Entry
  l₁ = store_new l i k w

  abbrev os : Places
  os = s.places

  abbrev os₀ : Places
  os₀ = allocate os (new_nodes l l₁)

  abbrev os₁ : Places
  os₁ = new_places l l₁ os

  -- a place that is free after was free before
  was_free : (m : ℕ) → get_or os₁ m none ≡ none → get_or os m none ≡ none
  was_free m e = go (get_or os m none) refl (number_none s.n l os s.placed l₁ enough.free m e)
    where
      go : (o : Option Node) → get_or os m none ≡ o → keep_if l₁ o ≡ none → o ≡ none
      go none d q = refl
      go (some p) d q =
          let t : has l₁ p.tier p.number ≡ true =
          has_keeps new none_start p.tier p.number
          (s.placed.sound p (in_standing p os m d)) in
          let z : ◌≡◌ {A = ℕ} 0 1 = cc (sym (rw t at q)) in absurd (omega arith)

  -- no node is freed: the map has what was left of it
  pub map_left : T (enterable k w) → w < 2 ^ 64 → {ws' ms : List ℕ} → ws' ≡ render l₁ os₁ s.n →
      MapOf (free_place os₀) ms → FreeMap ws' ms
  map_left st w< e M = map_after s l₁ enough.free (λ m. false) (λ m t. absurd (clash t refl)) (λ m _ d _. was_free m d)
      (new_valid new st w<) e (map_as M (λ m. either (free_place os₀ m) false)
      (λ m _. sym (either_no (free_place os₀ m))))

  pub stores_unmarked : {ws' : List ℕ} {e : Entry} → e ≡ entry_of i k w 0 → ws' ≡ render l₁ os₁ s.n →
      Stores s.n l os l₁ i ws ws' (Ok e)
  stores_unmarked q e = record {
    done = λ _. record {
      entry = new_entry l i k w;
      covering_is = store_covering i k w l (rooms new) i refl;
      outcome_is = ap Ok (q ∙ ap (entry_of i k w) (sym (marks_zero new none_start)));
      words_are = e;
    };
    short = λ z. absurd (omega (arith, enough.free));
  }

  -- nothing is freed
  pub none_cleared : Clear s.n l os l₁ ws
  none_cleared = record {
    q = λ m. false;
    freed = subst (λ (y : List ℕ). Freed s.n (λ m. false) (render l os s.n) y) (sym s.words_are)
        (freed_none s.n (render l os s.n));
    stay = λ u b t. refl;
    gone = λ m a e q. was_free m e;
  }

-- ws₁ has the filled counts too
module _ {ws ws₁ : List ℕ} (s : WellFormed ws) {i k w : ℕ} {ps cs : List ℕ}
    (plan : Numbered s.n s.list s.places i k w ps cs)
    (none_start : All (λ x. block k x.base ≡ block k i → ⊥) s.list)
    (counted : FilledCounts plan.enough ws ws₁) where
  abbrev L : List Entry
  L = s.list

  abbrev L₁ : List Entry
  L₁ = store_new L i k w

  abbrev N₁ : Places
  N₁ = new_places L L₁ s.places

  abbrev ν₁ : Numbering
  ν₁ = number_in N₁

  clear : Clear s.n L s.places L₁ ws
  clear = none_cleared s plan.new none_start plan.enough

  -- the marks of the old list are those of the new
  field_same : (t b f : ℕ) → IsField f → field₁ L L₁ ν₁ t b f ≡ field L₁ ν₁ t b f
  field_same t b = field₁_as L L₁ ν₁ t b (λ x h. bits_same (λ j. slot_mark L x (t - 1) (slots * b + j))
      (λ j. slot_mark L₁ x (t - 1) (slots * b + j)) slots
      (λ j g. mark_same plan.new none_start x (t - 1) (slots * b + j) h))

  pub path_chain_entry : entered (grown_words (linked ws₁ ps i (k / slot_bits) (height L₁)) ps cs (marks_of L) (height L)
      (height L₁) (slot L (number_in s.places) (height L) 0) (both (nonempty L) (not (eqb (block k i) 0))))
      (get_or ps (k / slot_bits + 1) 0) (offset i k) (width k) w ≡ render L₁ N₁ s.n
  unfolding field_at₁
  path_chain_entry = render_is L₁ N₁ s.n _
      (enter_long plan (grow_long plan (link_long plan (lg₁ plan clear counted)))).len
      (λ p h. (anchor_right plan clear counted p h).is ∙ X-anchor plan.enough p h)
      (λ m f a h. (node_right plan clear counted m f a h).is ∙
      (X-at plan.enough m f h ∙ go f h (get_or N₁ m none)))
    where
      go : (f : ℕ) → IsField f → (o : Option Node) → field_at₁ L L₁ ν₁ o f ≡ field_at L₁ ν₁ o f
      go f h none = refl
      go f h (some p) = field_same p.tier p.number f h
