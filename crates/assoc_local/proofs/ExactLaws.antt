-- The test for well-formed words holds exactly where the check's local conditions do.
use Prim.Native.Nat.{ℕ, ◌≤◌}
use mathlib.Core.Path.{◌≡◌, refl, subst}
use mathlib.Core.Bool.{true}
use mathlib.Core.List.{List, [], ◌∷◌}
use lib.Dec.{leb}
use lib.ListN.{length}
use borrow.Author.Tests.{leb-true, le-leb}
use Rattle.blocks.specs.Placing.{is_placed}
use Rattle.blocks.proofs.BoolLaws.{both_i, both_l, both_r}
use Rattle.blocks.proofs.PlaceNumberLaws.{placed_is, is_placed_lem}
use Rattle.blocks.proofs.ListLaws.{equal_is, is_equal}
use Rattle.assoc_tree.specs.Keys.{Item, is_item, is_sorted_from, Sorted, done, more}
use Rattle.assoc_tree.specs.Parts.{same, has, parts}
use Rattle.assoc_layout.specs.Words.{max_blocks}
use Rattle.assoc_layout.specs.Decode.{list_of, places_of, is_well_formed}
use Rattle.assoc_layout.specs.WellFormed.{WellFormed}
use Rattle.assoc_tree.proofs.SizeLaws.{same_refl, same_is}
use Rattle.assoc_keys.specs.Number.{Words}
use Rattle.assoc_decode.proofs.BackLaws.{list_back, places_back}
use Rattle.assoc_tree.proofs.PartLaws.{in_parts, parts_in_lem, distinct_parts}
use Rattle.assoc_local.specs.Local.{PoolOk}
use Rattle.assoc_local.proofs.SoundLaws.{well_formed_lem, blocks_are}
use Rattle.assoc_local.proofs.ShowLaws.{passes}

sorted_is : {n : ℕ} {l : List Item} → Sorted n l → is_sorted_from n l ≡ true
sorted_is done = refl
sorted_is (more h ok s) = both_i (le-leb _ _ h) (both_i ok (sorted_is s))

pub is_sorted_lem : (n : ℕ) (l : List Item) → is_sorted_from n l ≡ true → Sorted n l
is_sorted_lem n [] t = done
is_sorted_lem n (x ∷ l) t =
    let u = both_r (leb n x.key) _ t in
    more (leb-true _ _ (both_l (leb n x.key) _ t)) (both_l (is_item x) _ u) (is_sorted_lem _ l (both_r (is_item x) _ u))

pub well_formed_is : {ws : List ℕ} (s : WellFormed ws) → is_well_formed s.n ws ≡ true
unfolding is_well_formed
well_formed_is {ws} s =
    let l : List Item = s.list in
    rw (list_back s, places_back s)
    (both_i (sorted_is s.valid)
    (both_i (placed_is same same_is (same_refl s.list) (has s.list) (parts s.list) (in_parts s.list s.valid)
    (parts_in_lem s.list) (distinct_parts s.list) s.placed)
    (equal_is s.words_are)))

unfoldable pub is_well_formed_lem : (n : ℕ) (ws : List ℕ) → 1 ≤ n → n ≤ max_blocks → is_well_formed n ws ≡ true → WellFormed ws
unfolding is_well_formed
is_well_formed_lem n ws lo hi t =
    let u = both_r (is_sorted_from 0 (list_of ws n)) _ t in
    let v : Sorted 0 (list_of ws n) = is_sorted_lem 0 (list_of ws n) (both_l (is_sorted_from 0 (list_of ws n)) _ t) in
    record {
      n = n;
      list = list_of ws n;
      places = places_of ws n;
      least = lo;
      most = hi;
      valid = v;
      placed = is_placed_lem same same_is (same_refl (list_of ws n)) (has (list_of ws n)) (parts (list_of ws n)) (in_parts (list_of ws n) v) n
          (places_of ws n) (both_l (is_placed same n (length (parts (list_of ws n))) (has (list_of ws n)) (places_of ws n)) _ u);
      words_are = is_equal ws _ (both_r (is_placed same n (length (parts (list_of ws n))) (has (list_of ws n)) (places_of ws n)) _ u);
    }

-- THE CHECK IS EXACT
pub check_yes : (n : ℕ) (ws : List ℕ) → PoolOk ws n → is_well_formed n ws ≡ true
check_yes n ws s = subst (λ (k : ℕ). is_well_formed k ws ≡ true) (blocks_are s) (well_formed_is (well_formed_lem s))

pub check_no : (n : ℕ) (ws : List ℕ) → Words ws → 1 ≤ n → n ≤ max_blocks → is_well_formed n ws ≡ true → PoolOk ws n
unfolding is_well_formed_lem
check_no n ws fit lo hi t = passes fit (is_well_formed_lem n ws lo hi t)
