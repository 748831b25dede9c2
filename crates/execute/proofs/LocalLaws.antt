-- A change of the list within a range leaves the words of every node whose block lies apart from the range, unless
-- it is
-- the head before or after.
use Prim.Native.Nat.{ℕ, suc, ◌*◌, ◌/◌, ◌^◌, ◌≤◌}
use mathlib.Core.Path.{◌≡◌, refl, sym, ap, subst, ◌∙◌}
use mathlib.Core.Bool.{Bool, true, false}
use mathlib.Core.Logic.{◌≢◌}
use mathlib.Core.List.{List, map}
use mathlib.Core.Option.{Option, none, some}
use native.Mathlib.Omega.{arith}
use borrow.Author.Tests.{le-leb, eqb-true}
use Rattle.blocks.specs.Lists.{any, All, end, also, In}
use Rattle.blocks.specs.Blocks.{block}
use Rattle.blocks.proofs.BoolLaws.{by_t, is_false}
use Rattle.blocks.proofs.ListLaws.{All-map, first_yes, each, look}
use Rattle.blocks.proofs.BlockLaws.{block_at}
use Rattle.model.specs.declared.Entry.{Entry}
use Rattle.model.specs.Model.{Valid, covers, covering, within}
use Rattle.model.specs.ByBlock.{clear, new_entry, store_new}
use Rattle.model.proofs.InsertLaws.{All-insert}
use Rattle.model.proofs.ValidLaws.{unique}
use Rattle.model.proofs.RangeLaws.{Room, InRun, Apart, clear_apart, clear_uncovered, clear_covering_not}
use Rattle.tree.specs.Tree.{slots, tier_order, height, has, slot_mark}
use Rattle.tree.specs.Slots.{Numbering, slot}
use Rattle.tree.proofs.RelabelLaws.{map_o, covering_map}
use Rattle.tree.proofs.StoreLaws.{within_only, marked_only, store_apart, store_covering_not}
use Rattle.layout.specs.Words.{field, IsField}
use Rattle.layout.specs.Places.{Places, Placed, number_in, new_places}
use Rattle.layout.proofs.OwnerLaws.{parent, owner_same}
use Rattle.layout.proofs.FieldLaws.{field_same}
use Rattle.layout.proofs.FreshLaws.{apart_slot}
use Rattle.layout.proofs.PlacesLaws.{number_stays}
use Rattle.tree.proofs.NodeListLaws.{has_tier}

-- two lists agree apart from the range of order k that holds i
pub record Agree (i k : ℕ) (l l' : List Entry) : Type 0 where
  pub any_same : (p : Entry → Bool) (j c : ℕ) → ((x : Entry) → p x ≡ true → block j x.base ≡ c) → Apart i k j c →
      any p l' ≡ any p l
  pub covering_same : (y : ℕ) → (InRun i k y → ⊥) → covering l' y ≡ covering l y

pub agree_clear : (i k : ℕ) (l : List Entry) → All (Room i k) l → Agree i k l (clear l i k)
agree_clear i k l r =
    record {
      any_same = λ p j c o a. clear_apart i k l p j c o a;
      covering_same = λ y f. clear_covering_not i k l r y
          f;
    }

pub agree_store : (i k w : ℕ) (l : List Entry) → All (Room i k) l → Agree i k l (store_new l i k w)
agree_store i k w l r = record {
  any_same = λ p j c o a. store_apart i k w l p j c o a;
  covering_same = λ y f. store_covering_not i k w l r y f;
}

-- one change after another
pub agree_then : (i k : ℕ) {l l₁ l₂ : List Entry} → Agree i k l l₁ → Agree i k l₁ l₂ → Agree i k l l₂
agree_then i k a b = record {
  any_same = λ p j c o h. b.any_same p j c o h ∙ a.any_same p j c o h;
  covering_same = λ y f. b.covering_same y f ∙ a.covering_same y f;
}

-- e is the one entry over i, where it is found there, and after it was stored as a new one
abbrev pub Only : (i : ℕ) → Entry → List Entry → Type 0
Only i e l = All (λ x. covers i x ≡ true → x ≡ e) l

pub only_found : (i : ℕ) {l : List Entry} {e : Entry} → Valid l → covering l i ≡ some e → Only i e l
only_found i {l} v q = let (c, k) = first_yes (covers i) (each l (λ x m. m)) q in each l (λ x m t. unique i v m k t c)

pub only_stored : (i k w : ℕ) (l : List Entry) → All (Room i k) l → Only i (new_entry l i k w) (store_new l i k w)
only_stored i k w l r =
    All-insert (new_entry l i k w) (λ _. refl) (All-map (λ x f t. absurd (f t)) (clear_uncovered i k l r i refl))

-- a map that keeps bases and orders, and all entries but the one over i
module _ (f : Entry → Entry) (fb : (x : Entry) → (f x).base ≡ x.base) (fo : (x : Entry) → (f x).order ≡ x.order)
    (i : ℕ) (fx : (x : Entry) → covers i x ≡ false → f x ≡ x) {l : List Entry} {e : Entry} (sole : Only i e l) where
  is_e : {x : Entry} → In x l → covers i x ≡ true → x ≡ e
  is_e m = look sole m

  any_kept : (p : Entry → Bool) {s : List Entry} → All (λ x. p (f x) ≡ p x) s → any p (map f s) ≡ any p s
  any_kept p end = refl
  any_kept p (also h a) = rw (h, any_kept p a)

  pub agree_map : Agree e.base e.order l (map f l)
  agree_map = record { any_same = any_same; covering_same = covering_same }
    where
      -- the entry over i starts in the range, so no test of a block apart from it passes
      out : (p : Entry → Bool) (j c : ℕ) → ((x : Entry) → p x ≡ true → block j x.base ≡ c) →
          Apart e.base e.order j c → (x : Entry) → x.base ≡ e.base → p x ≡ false
      out p j c only a x b =
          is_false (λ t. a x.base (only x t) (ap (block e.order) b))

      any_same : (p : Entry → Bool) (j c : ℕ) → ((x : Entry) → p x ≡ true → block j x.base ≡ c) →
          Apart e.base e.order j c → any p (map f l) ≡ any p l
      any_same p j c only a =
          any_kept p (each l (λ x m. by_t (covers i x)
          (λ t. let b : x.base ≡ e.base = ap (λ (y : Entry). y.base) (is_e m t) in
          out p j c only a (f x) (fb x ∙ b) ∙ sym (out p j c only a x b))
          (λ t. ap p (fx x t))))

      kept : (y : ℕ) → (InRun e.base e.order y → ⊥) → (o : Option Entry) → covering l y ≡ o → map_o f o ≡ o
      kept y n none g = refl
      kept y n (some x) g =
          let (c, m) = first_yes (covers y) (each l (λ z k. k)) g in
          ap some (fx x (is_false (λ t. n (eqb-true _ _ (subst (λ (z : Entry). covers y z ≡ true) (is_e m t) c)))))

      covering_same : (y : ℕ) → (InRun e.base e.order y → ⊥) → covering (map f l) y ≡ covering l y
      covering_same y n = covering_map f fb fo y l ∙ kept y n (covering l y) refl

-- the range by another index of it
pub agree_move : (i j k : ℕ) {l l' : List Entry} → block k i ≡ block k j → Agree i k l l' → Agree j k l l'
agree_move i j k e ag = record {
  any_same = λ p h c o a. ag.any_same p h c o (λ y g r. a y g (r ∙ e));
  covering_same = λ y f. ag.covering_same y (λ r. f (r ∙ e));
}

module _ (i k : ℕ) {l l' : List Entry} (ag : Agree i k l l') where
  slot_agree : (ν ν' : Numbering) (u c : ℕ) → Apart i k (tier_order u) c →
      (any (within (tier_order u) c) l ≡ true → ν' u c ≡ ν u c) → slot l' ν' u c ≡ slot l ν u c
  unfolding slot
  slot_agree ν ν' u c a e =
      rw (
        ag.any_same (within (tier_order u) c) (tier_order u) c (within_only (tier_order u) c) a,
        ag.covering_same (c * 2 ^ tier_order u) (a _ (block_at (tier_order u) c)),
      )
      (by_t (any (within (tier_order u) c) l) (λ t. rw (t, e t)) (λ t. rw t))

  mark_agree : (m u c : ℕ) → Apart i k (tier_order u) c → slot_mark l' m u c ≡ slot_mark l m u c
  unfolding slot_mark
  mark_agree m u c a = ag.any_same _ (tier_order u) c (marked_only m (tier_order u) c) a

  -- a node that is there before and after, and the head neither time
  module _ (n : ℕ) {os : Places} (pl : Placed n l os) (v b : ℕ) (t : has l (suc v) b ≡ true)
      (t' : has l' (suc v) b ≡ true) (h : suc v ≢ height l) (h' : suc v ≢ height l')
      (a : Apart i k (tier_order (suc v)) b) where
    low : suc v ≤ height l
    low = (has_tier l (suc v) b t).1

    low' : suc v ≤ height l'
    low' = (has_tier l' (suc v) b t').1

    below : (d : ℕ) → d / slots ≡ b → any (within (tier_order v) d) l ≡ true →
        number_in (new_places l l' os) v d ≡ number_in os v d
    unfolding has
    below d q s =
        let s' : any (within (tier_order v) d) l' ≡ true =
        ag.any_same (within (tier_order v) d) (tier_order v) d (within_only (tier_order v) d)
        (apart_slot i k v b d a q) ∙ s in
        number_stays n l os pl l' (record { tier = v; number = d })
        (rw (le-leb v (height l) (omega (arith, low))) s) (rw (le-leb v (height l') (omega (arith, low'))) s')

    pub field_agree : (f : ℕ) → IsField f →
        field l' (number_in (new_places l l' os)) (suc v) b f ≡ field l (number_in os) (suc v) b f
    field_agree =
        field_same l l' (number_in os) (number_in (new_places l l' os)) v b
        (owner_same l l' (number_in os) (number_in (new_places l l' os)) (suc v) b (omega (arith, low))
        (omega (arith, low'))
        (number_stays n l os pl l' (record { tier = suc (suc v); number = b / slots })
        (parent l (suc v) b t (omega (arith, low))) (parent l' (suc v) b t' (omega (arith, low')))))
        (λ m d _ q. mark_agree m v d (apart_slot i k v b d a q))
        (λ d q. slot_agree (number_in os) (number_in (new_places l l' os)) v d (apart_slot i k v b d a q) (below d q))
