-- A pool with a mark changed: still well-formed, and what set_mark answers.
use Prim.Native.Nat.{ℕ, suc, ◌+◌, ◌*◌, ◌-◌, ◌^◌, ◌<◌}
use mathlib.Core.Path.{◌≡◌, refl, sym, ap, ap₂, subst, ◌∙◌}
use mathlib.Core.Bool.{Bool, true, false}
use mathlib.Core.List.{List, [], ◌∷◌}
use mathlib.Core.Option.{none, some, Option}
use native.Mathlib.Omega.{arith}
use lib.Dec.{eqb, T}
use lib.ListN.{get_or, set}
use borrow.Author.Tests.{eq-eqb, ne_eqb}
use Rattle.blocks.specs.Choice.{pick, either, both}
use Rattle.blocks.specs.Blocks.{block, bit, bits_to, set_bit}
use Rattle.blocks.proofs.BoolLaws.{by_t, clash, both_l}
use Rattle.blocks.specs.Lists.{All, end, also}
use Rattle.blocks.proofs.ListLaws.{All-map, first_yes, each}
use Rattle.blocks.proofs.BitLaws.{bits_lt}
use Rattle.model.specs.declared.Entry.{Entry}
use Rattle.model.specs.Model.{
  Sorted,
  Valid,
  done,
  more,
  storable,
  reserved,
  is_word_ok,
  covers,
  covering,
  present,
  has_mark,
  takes_mark,
  with_mark,
  remark,
  erase,
  covered,
  mark_count,
}
use Rattle.std.specs.Prelude.{None, Some}
use Rattle.tree.specs.Tree.{height, tier_order, new_nodes}
use Rattle.tree.proofs.RelabelLaws.{map_o, covering_map, has_map, new_nodes_map, new_nodes_then}
use Rattle.tree.specs.Slots.{Numbering}
use Rattle.layout.specs.Places.{Places, Placed, render, new_places}
use Rattle.layout.specs.WellFormed.{WellFormed}
use Rattle.lookup.specs.Views.{Holds}
use Rattle.marks.proofs.BitSetLaws.{set_bits}
use Rattle.marks.proofs.HybridLaws.{hybrid_start, hybrid_end}
use Rattle.marks.proofs.MarkLaws.{mark_entry}
use Rattle.layout.specs.Words.{marks_word}
use Rattle.model.proofs.MarkLaws.{marks_bits}
use Rattle.model.proofs.ValidLaws.{sole}
use Rattle.model.proofs.WordLaws.{entry_storable}
use Rattle.layout.proofs.StayLaws.{places_stay, places_alike}
use Rattle.marks.specs.Climb.{Markable}

-- A MARK CHANGED: still a list, at the same places
set_small : (w m : ℕ) (b : Bool) → w < 8 → m < mark_count → set_bit m b w < 8
set_small w m b h lt =
    let e : Entry = record { base = 0; order = 0; word = 0; marks = w } in
    let g : ℕ → Bool = λ j. pick (eqb j m) b (has_mark j e) in
    let t : b ≡ pick (eqb m m) b (has_mark m e) = rw (eq-eqb m m refl) in
    let p : set_bit m (g m) (bits_to (λ j. has_mark j e) 3) ≡ bits_to g 3 = set_bits (λ j. has_mark j e) g m 3 lt
    (λ j _ ne. sym (rw (ne_eqb j m ne))) in
    let q : set_bit m b w ≡ bits_to g 3 = ap₂ (λ (t : Bool) (x : ℕ). set_bit m t x) t (sym (marks_bits e h)) ∙ p in
    subst (λ (x : ℕ). x < 8) (sym q) (bits_lt g 3)

marked_word : (i m : ℕ) (b : Bool) (e : Entry) → T (is_word_ok e) → T (is_word_ok (with_mark i m b e))
marked_word i m b e ok = by_t (reserved e)
    (λ r. subst (λ (x : ℕ). T (either (storable e.word) (both (reserved e) (both (eqb e.order 0) (eqb x 0)))))
    (sym (kept r)) ok)
    (λ r. rw (entry_storable e ok r) tt)
  where
    kept : reserved e ≡ true → (with_mark i m b e).marks ≡ e.marks
    kept r = by_t (covers i e) (λ t. rw (t, r) refl) (λ t. rw t refl)

pub sorted_remark : (i m : ℕ) (b : Bool) → m < mark_count → {n : ℕ} {l : List Entry} → Sorted n l →
    Sorted n (remark l i m b)
sorted_remark i m b lt done = done
sorted_remark i m b lt (more {e} h ok s) = more {e = with_mark i m b e} h (record {
  order_le = ok.order_le;
  aligned = ok.aligned;
  in_range = ok.in_range;
  word_ok = marked_word i m b e ok.word_ok;
  word_fits = ok.word_fits;
  marks_fit = by_t (takes_mark i e) (λ t. rw t (set_small e.marks m b ok.marks_fit lt)) (λ t. rw t ok.marks_fit);
}) (sorted_remark i m b lt s)

module _ (i m : ℕ) (b : Bool) where
  pub fb : (x : Entry) → (with_mark i m b x).base ≡ x.base
  fb x = refl

  pub fo : (x : Entry) → (with_mark i m b x).order ≡ x.order
  fo x = refl

  abbrev pub formed_remark : m < mark_count → {ws ws' : List ℕ} (s : WellFormed ws) →
      ws' ≡ render (remark s.list i m b) s.places s.n → WellFormed ws'
  formed_remark lt s e = record {
    n = s.n;
    list = remark s.list i m b;
    places = s.places;
    least = s.least;
    most = s.most;
    valid = sorted_remark i m b lt s.valid;
    placed = record {
      size = s.placed.size;
      sound = λ p k. has_map (with_mark i m b) fb fo p.tier p.number s.list ∙ s.placed.sound p k;
      full = λ p t. s.placed.full p (sym (has_map (with_mark i m b) fb fo p.tier p.number s.list) ∙ t);
      once = s.placed.once;
    };
    words_are = e;
  }

  pub erase_remark : (l : List Entry) → erase (remark l i m b) i ≡ erase l i
  erase_remark [] = refl
  erase_remark (x ∷ l) = by_t (covers i x) (λ t. rw t (erase_remark l))
      (λ t. rw t (ap (λ (r : List Entry). x ∷ r) (erase_remark l)))

-- NOTHING THERE, AND AN ENTRY AS HEAD
still : (i m : ℕ) (b : Bool) {l : List Entry} → All (λ x. takes_mark i x ≡ false) l → remark l i m b ≡ l
still i m b end = refl
still i m b (also {x} f a) = ap₂ ◌∷◌ (off x f) (still i m b a)
  where
    off : (x : Entry) → takes_mark i x ≡ false → with_mark i m b x ≡ x
    off x t = rw t refl

-- a mark that the entry there does not have
clear_bit_lem : (m y : ℕ) → bit m y ≡ 0 → set_bit m false y ≡ y
clear_bit_lem m y z = ap (λ (b : ℕ). y - b * 2 ^ m + 0) z ∙ omega arith

pub remark_clear : {l : List Entry} {e : Entry} (i m : ℕ) → Valid l → covering l i ≡ some e → bit m e.marks ≡ 0 →
    remark l i m false ≡ l
remark_clear {l} {e} i m v q z = go (All-map off (sole i v))
  where
    off : (x : Entry) → (covers i x ≡ true → covering l i ≡ some x) → with_mark i m false x ≡ x
    off x f =
        ap (λ (y : ℕ). record { base = x.base; order = x.order; word = x.word; marks = y })
        (by_t (takes_mark i x)
        (λ t. let d : e ≡ x = cc (f (both_l (covers i x) _ t)) in
        rw t (clear_bit_lem m x.marks (subst (λ (y : Entry). bit m y.marks ≡ 0) d z)))
        (λ t. rw t))

    go : {s : List Entry} → All (λ x. with_mark i m false x ≡ x) s → remark s i m false ≡ s
    go end = refl
    go (also h a) = ap₂ ◌∷◌ h (go a)

pub remark_absent : (l : List Entry) (i m : ℕ) (b : Bool) → Valid l → present (covering l i) ≡ none → remark l i m b ≡ l
remark_absent l i m b v q = still i m b (All-map (λ x f. no x f) (sole i v))
  where
    no : (x : Entry) → (covers i x ≡ true → covering l i ≡ some x) → takes_mark i x ≡ false
    no x f = by_t (covers i x)
        (λ t. by_t (reserved x) (λ r. rw (t, r) refl)
        (λ r. absurd (let z : ◌≡◌ {A = Option Entry} (some x) none = sym (rw r refl) ∙ ap present (sym (f t)) ∙ q in
        clash {b = true} refl (ap given z))))
        (λ t. rw t refl)
      where
        given : Option Entry → Bool
        given none = false
        given (some e) = true

pub words_absent : {ws : List ℕ} (s : WellFormed ws) (i m : ℕ) (b : Bool) → present (covering s.list i) ≡ none →
    ws ≡ render (remark s.list i m b) s.places s.n
words_absent s i m b q = s.words_are ∙ ap (λ (l : List Entry). render l s.places s.n)
    (sym (remark_absent s.list i m b s.valid q))

-- an entry as head
pub head_mark : {ws : List ℕ} (s : WellFormed ws) (i m : ℕ) (b : Bool) → m < mark_count → (e : Entry) →
    covering s.list i ≡ some e → Markable e b → height s.list ≡ 0 →
    set ws marks_word (set_bit m b (get_or ws marks_word 0)) ≡ render (remark s.list i m b) s.places s.n
head_mark s i m b m< e q may z =
    hybrid_end s i m m< b e q may (hybrid_start s i m m< b e q may 0 (omega arith)) (sym z) b
    (sym (mark_entry s.list s.valid i e q m m< b may 0 (omega arith)))

-- the entry stays where it is
pub holds_remark : {l : List Entry} {ν : Numbering} {n v o : ℕ} (i m : ℕ) (b : Bool) → Holds l ν i n v o →
    Holds (remark l i m b) ν i n v o
holds_remark {l} {v} i m b h = record {
  entry = with_mark i m b h.entry;
  covering_is = covering_map (with_mark i m b) (λ x. refl) (λ x. refl) i l ∙ ap (map_o (with_mark i m b))
      h.covering_is;
  low = h.low;
  high = h.high;
  at_node_lem = record {
    there = has_map (with_mark i m b) (λ x. refl) (λ x. refl) (suc v) (block (tier_order (suc v)) h.entry.base) l ∙
        h.at_node_lem.there;
    number = h.at_node_lem.number;
  };
  slot_is = h.slot_is;
}

-- no node is new, and none goes
pub places_remark : {n : ℕ} (l : List Entry) {os : Places} (i m : ℕ) (b : Bool) → Placed n l os →
    new_places l (remark l i m b) os ≡ os
places_remark l i m b pl = places_stay l (remark l i m b) pl
    (new_nodes_map (with_mark i m b) (λ x. refl) (λ x. refl) l)
    (λ u c. has_map (with_mark i m b) (λ x. refl) (λ x. refl) u c l)

-- the same after another change of the list: its nodes are those of that change, at the same places
pub new_nodes_remark : (old l : List Entry) (i m : ℕ) (b : Bool) → new_nodes old (remark l i m b) ≡ new_nodes old l
new_nodes_remark old l i m b = new_nodes_then (with_mark i m b) (λ x. refl) (λ x. refl) old l

pub places_then_remark : (old l : List Entry) (os : Places) (i m : ℕ) (b : Bool) →
    new_places old (remark l i m b) os ≡ new_places old l os
places_then_remark old l os i m b = places_alike old l (remark l i m b) os (new_nodes_remark old l i m b)
    (λ u c. has_map (with_mark i m b) (λ x. refl) (λ x. refl) u c l)

-- THE ANSWER
module _ (l : List Entry) (i m : ℕ) (b : Bool) where
  pub answer_none : Valid l → present (covering l i) ≡ none → None ≡ covered (present (covering (remark l i m b) i))
  answer_none v q = sym (ap (λ (k : List Entry). covered (present (covering k i))) (remark_absent l i m b v q) ∙
      ap covered q)

  pub answer_some : {e r : Entry} → covering l i ≡ some e → reserved e ≡ false →
      (covers i e ≡ true → r ≡ with_mark i m b e) → Some r ≡ covered (present (covering (remark l i m b) i))
  answer_some {e} q n f =
      ap Some (f (first_yes (covers i) (each l (λ x m. m)) q).0) ∙ sym
      (ap (λ (o : Option Entry). covered (present o))
      (covering_map (with_mark i m b) (λ x. refl) (λ x. refl) i l ∙ ap (map_o (with_mark i m b)) q) ∙ (rw n refl))
