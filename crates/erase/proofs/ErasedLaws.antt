-- Erase as a whole: the steps before and after the entry is taken out.
use Prim.Native.Nat.{ℕ, zero, suc, ◌<◌}
use mathlib.Core.Path.{◌≡◌, refl, sym, ap, ◌∙◌}
use mathlib.Core.Bool.{true, false}
use mathlib.Core.List.{List, []}
use mathlib.Core.Option.{Option, none, some}
use native.Mathlib.Omega.{arith}
use native.Mathlib.Nat.{le_refl}
use lib.Dec.{leb}
use lib.ListN.{get_or, set, length-set}
use lib.Seq.{get_or-set_same, get_or-set_other}
use Rattle.blocks.specs.Blocks.{set_bit}
use Rattle.blocks.proofs.BoolLaws.{clash, both_r, by_t}
use Rattle.blocks.proofs.ListLaws.{first_yes, look, each, without_all}
use Rattle.blocks.specs.Lists.{In}
use Rattle.model.specs.declared.Entry.{Entry}
use Rattle.model.specs.Model.{Valid, done, covers, covering, with_mark, remark, erase, reserved}
use Rattle.model.proofs.ValidLaws.{sorted_ok, erase_none}
use Rattle.tree.specs.Tree.{height, Node}
use Rattle.tree.proofs.RelabelLaws.{map_o, covering_map, height_map}
use Rattle.layout.specs.Words.{field_at, place, marks_word, head_word, shift_place}
use Rattle.layout.specs.Places.{render, prune}
use Rattle.layout.specs.WellFormed.{WellFormed, num}
use Rattle.layout.proofs.NumberLaws.{prune_same}
use Rattle.lookup.proofs.HeadLaws.{flat_entry}
use Rattle.marks.proofs.RemarkLaws.{erase_remark}
use Rattle.erase.specs.Tall.{tall_at, Tall}
use Rattle.erase.specs.Leaving.{Unmarked}
use Rattle.erase.proofs.LowerLaws.{tall_none, slot_nil}
use Rattle.tree.proofs.NodeListLaws.{has_tier}
use Rattle.freenodes.specs.FreeNodes.{FreeMap}
use Rattle.freenodes.proofs.FollowLaws.{free_same}
use Rattle.layout.proofs.RenderWordLaws.{pool_length_lem, pool_anchor, pool_node, place_of}
use Rattle.model.proofs.WordLaws.{reserved_bare}

-- all three marks off
zero3 : (w : ℕ) → w < 8 → set_bit 2 false (set_bit 1 false (set_bit 0 false w)) ≡ 0
zero3 zero h = refl
zero3 (suc zero) h = refl
zero3 (suc (suc zero)) h = refl
zero3 (suc (suc (suc zero))) h = refl
zero3 (suc (suc (suc (suc zero)))) h = refl
zero3 (suc (suc (suc (suc (suc zero))))) h = refl
zero3 (suc (suc (suc (suc (suc (suc zero)))))) h = refl
zero3 (suc (suc (suc (suc (suc (suc (suc zero))))))) h = refl
zero3 (suc (suc (suc (suc (suc (suc (suc (suc w)))))))) h = absurd (omega arith)

abbrev pub bare_list : List Entry → ℕ → List Entry
bare_list l i = remark (remark (remark l i 0 false) i 1 false) i 2 false

pub all_off : (l : List Entry) → Valid l → (i : ℕ) → Unmarked (bare_list l i) i
all_off l val i e q = go (covering l i) refl (sym (covering_map (with_mark i 2 false) (λ x. refl) (λ x. refl) i
    (remark (remark l i 0 false) i 1 false) ∙ (ap (map_o (with_mark i 2 false))
    (covering_map (with_mark i 1 false) (λ x. refl) (λ x. refl) i (remark l i 0 false) ∙ ap (map_o (with_mark i 1 false))
    (covering_map (with_mark i 0 false) (λ x. refl) (λ x. refl) i l)))) ∙ q)
  where
    go : (o : Option Entry) → covering l i ≡ o → map_o (with_mark i 2 false)
        (map_o (with_mark i 1 false) (map_o (with_mark i 0 false) o)) ≡ some e → e.marks ≡ 0
    go none r z = let y : ◌≡◌ {A = ℕ} 0 1 = cc in absurd (omega arith)
    go (some x) r z =
        let (cv, m) = first_yes (covers i) (each l (λ x m. m)) r in
        let d : with_mark i 2 false (with_mark i 1 false (with_mark i 0 false x)) ≡ e = cc in
        let ok = look (sorted_ok val) m in
        let k : (with_mark i 2 false (with_mark i 1 false (with_mark i 0 false x))).marks ≡ 0 = by_t (reserved x)
        (λ t. rw (cv, t) (reserved_bare x ok.word_ok t).1) (λ t. rw (cv, t) (zero3 x.marks ok.marks_fit)) in
        ap (λ (y : Entry). y.marks) (sym d) ∙ k

pub bare_erase : (l : List Entry) (i : ℕ) → erase (bare_list l i) i ≡ erase l i
bare_erase l i = erase_remark i 2 false (remark (remark l i 0 false) i 1 false) ∙
    (erase_remark i 1 false (remark l i 0 false) ∙ erase_remark i 0 false l)

pub bare_height : (l : List Entry) (i : ℕ) → height (bare_list l i) ≡ height l
bare_height l i = off 2 (remark (remark l i 0 false) i 1 false) ∙ (off 1 (remark l i 0 false) ∙ off 0 l)
  where
    off : (m : ℕ) (l : List Entry) → height (remark l i m false) ≡ height l
    off m l = height_map (with_mark i m false) (λ x. refl) (λ x. refl) l

-- NOTHING THERE
pub words_gap : {ws : List ℕ} (s : WellFormed ws) (i : ℕ) → covering s.list i ≡ none →
    ws ≡ render (erase s.list i) (prune (erase s.list i) s.places) s.n
words_gap s i q = s.words_are ∙ rw (erase_none i q, prune_same s.list s.places s.placed.sound) refl

-- AN ENTRY AS HEAD: it is the only one
erase_flat : {ws : List ℕ} (s : WellFormed ws) (i : ℕ) (e : Entry) → covering s.list i ≡ some e →
    height s.list ≡ 0 →
    erase s.list i ≡ []
erase_flat s i e q z = without_all (covers i) (each s.list (λ x m. same x m))
  where
    same : (x : Entry) → In x s.list → covers i x ≡ true
    same x m =
        let (c, k) = first_yes (covers i) (each s.list (λ x m. m)) q in
        let (ox, bx) = flat_entry s z m in
        let (oe, be) = flat_entry s z k in
        rw (ox, bx) (rw (oe, be) at c)

pub words_head : {ws : List ℕ} (s : WellFormed ws) (i : ℕ) (e : Entry) → covering s.list i ≡ some e →
    height s.list ≡ 0 →
    set (set ws head_word 0) marks_word 0 ≡ render (erase s.list i) (prune (erase s.list i) s.places) s.n
words_head {ws} s i e q z = rw (erase_flat s i e q z) (tall_none flat)
  where
    rest : (j : ℕ) → (j ≡ 1 → ⊥) → (j ≡ 2 → ⊥) → get_or (set (set ws head_word 0) marks_word 0) j 0 ≡ get_or ws j 0
    rest j a b = get_or-set_other (set ws head_word 0) 2 j 0 0 b ∙ get_or-set_other ws 1 j 0 0 a

    no_node : (m f : ℕ) (o : Option Node) → get_or s.places m none ≡ o →
        field_at s.list (num s) o f ≡ tall_at 0 [] (num s) o f
    no_node m f none r = refl
    no_node m f (some p) r =
        let (pos, le) = has_tier s.list p.tier p.number (place_of s m p r).1 in absurd (omega arith)

    flat : Tall s.n 0 [] s.places (set (set ws head_word 0) marks_word 0)
    flat = record {
      valid = done;
      small = s.most;
      high = omega arith;
      fit = le_refl 0;
      count = s.placed.size;
      once = s.placed.once;
      full = λ p t. absurd (clash (both_r (leb p.tier 0) false t) refl);
      size = length-set (set ws head_word 0) marks_word 0 ∙ (length-set ws head_word 0 ∙ pool_length_lem s);
      first = rest 0 (omega arith) (omega arith) ∙ pool_anchor s 0 (omega arith);
      head = get_or-set_other (set ws head_word 0) 2 1 0 0 (omega arith) ∙
          (get_or-set_same ws 1 0 0 (omega (arith, pool_length_lem s)) ∙ sym (slot_nil (num s) 0 0));
      marks = get_or-set_same (set ws head_word 0) 2 0 0 (omega (arith, length-set ws head_word 0, pool_length_lem s));
      last = rest 3 (omega arith) (omega arith) ∙ pool_anchor s 3 (omega arith);
      node = λ m f p lt. rest (place m f) (omega arith) (omega arith) ∙
          (pool_node s m f p lt ∙ no_node m f (get_or s.places m none) refl);
    }

pub map_head : {ws ms : List ℕ} → FreeMap ws ms → FreeMap (set (set ws head_word 0) marks_word 0) ms
map_head {ws} F = free_same F
    (get_or-set_other (set ws head_word 0) 2 0 0 0 (omega arith) ∙ get_or-set_other ws 1 0 0 0 (omega arith))
    (λ m. get_or-set_other (set ws head_word 0) 2 (shift_place m) 0 0 (omega arith) ∙
    get_or-set_other ws 1 (shift_place m) 0 0 (omega arith))
