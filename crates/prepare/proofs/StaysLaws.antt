-- The commands that leave the nodes: an entry gets other marks, or another word.
use Prim.Native.Nat.{ℕ, ◌<◌}
use mathlib.Core.Path.{◌≡◌, refl, sym, subst, ◌∙◌}
use mathlib.Core.Bool.{Bool, true, false}
use mathlib.Core.List.{List, map}
use mathlib.Core.Option.{some}
use borrow.Author.Tests.{eqb-true}
use Rattle.blocks.specs.Lists.{In}
use Rattle.blocks.specs.Blocks.{set_bit}
use Rattle.blocks.proofs.ListLaws.{first_yes, each}
use Rattle.model.specs.declared.Entry.{Entry}
use Rattle.model.specs.Model.{Valid, reserved, covers, covering, with_mark, remark, mark_count}
use Rattle.tree.specs.Tree.{height}
use Rattle.tree.proofs.RelabelLaws.{height_map, has_map, new_nodes_map}
use Rattle.layout.specs.WellFormed.{WellFormed}
use Rattle.layout.proofs.StayLaws.{places_stay}
use Rattle.marks.proofs.RemarkLaws.{sorted_remark}
use Rattle.script_rows.specs.Becomes.{Becomes}
use Rattle.script_rows.proofs.CommandLaws.{becomes_move, becomes_mark}
use Rattle.prepare.specs.Entries.{EntryThere, Stays}

module _ {ws : List ℕ} (s : WellFormed ws) (i : ℕ) {e : Entry} (q : covering s.list i ≡ some e) where
  found : (covers i e ≡ true) × In e s.list
  found = first_yes (covers i) (each s.list (λ x m. m)) q

  pub entry_there_lem : {top : ℕ} → height s.list ≡ top → EntryThere s e.base e.order top
  entry_there_lem h = record { top_is = sym h; entry = e; inside = found.1; base_is = refl; order_is = refl }

  -- with another word, or other marks
  pub stays_map : (f : Entry → Entry) (fb : (x : Entry) → (f x).base ≡ x.base) (fo : (x : Entry) → (f x).order ≡ x.order) →
      Valid (map f s.list) → Becomes i e.order (some (f e)) s.list (map f s.list) →
      Stays s e.base e.order (f e).word (f e).marks (some (f e)) (map f s.list)
  stays_map f fb fo v b = record {
    becomes = becomes_move (sym (eqb-true _ _ found.0)) b;
    valid = v;
    word_is = refl;
    marks_is = refl;
    same_has = λ u c. has_map f fb fo u c s.list;
    same_height = height_map f fb fo s.list;
    same_places = places_stay s.list (map f s.list) s.placed (new_nodes_map f fb fo s.list)
        (λ u c. has_map f fb fo u c s.list);
  }

  pub remark_stays : (m : ℕ) (b : Bool) → m < mark_count → reserved e ≡ false → {y : ℕ} → y ≡ set_bit m b e.marks →
      Stays s e.base e.order e.word y (some (with_mark i m b e)) (remark s.list i m b)
  remark_stays m b h r f =
      let z : (with_mark i m b e).marks ≡ set_bit m b e.marks = rw (found.0, r) refl in
      subst (λ (x : ℕ). Stays s e.base e.order e.word x (some (with_mark i m b e)) (remark s.list i m b)) (z ∙ sym f)
      (stays_map (with_mark i m b) (λ x. refl) (λ x. refl) (sorted_remark i m b h s.valid)
      (becomes_mark s.list s.valid i m b q))
