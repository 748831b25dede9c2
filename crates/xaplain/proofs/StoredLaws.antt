-- What a store comes to, and the commands that store.
use Prim.Native.Nat.{ℕ, ◌+◌, ◌-◌, ◌*◌, ◌%◌, ◌^◌, ◌≤◌, ◌<◌}
use mathlib.Core.Path.{◌≡◌, refl, sym, ap, subst, ◌∙◌}
use mathlib.Core.Bool.{Bool, true, false}
use mathlib.Core.List.{List, map}
use mathlib.Core.Option.{Option, none, some}
use native.Mathlib.Omega.{arith}
use lib.Dec.{leb, ltb}
use lib.ListN.{length, get_or, set, length-map}
use borrow.Author.Tests.{lt-ltb, le-ltb, le-leb, leb-false, eqb-true}
use Rattle.blocks.specs.Choice.{pick}
use Rattle.blocks.specs.Blocks.{block, set_bit}
use Rattle.blocks.specs.Lists.{any}
use Rattle.blocks.proofs.BoolLaws.{clash}
use Rattle.blocks.proofs.ListLaws.{All-map, All-without, any_no}
use Rattle.blocks.proofs.BlockLaws.{block_up, block_lo, block_hi}
use Rattle.answers.specs.Answers.{bad_order, not_aligned, bad_entry, is_covered}
use Rattle.model.specs.declared.Entry.{Entry}
use Rattle.std.specs.Prelude as rust
use Rattle.std.specs.Prelude.{None, Some}
use Rattle.model.specs.Model.{covers, covering, covered, starts_in, over, new_entry, store_new, store, with_word}
use Rattle.model.specs.Model.{storable, reserved_word, aligned, max_order, matched_mark}
use Rattle.model.proofs.ValidLaws.{covers_self}
use Rattle.model.proofs.InsertLaws.{first_insert}
use Rattle.model.proofs.AlignedLaws.{whole}
use Rattle.batch.specs.declared.Command.{Command}
use Rattle.batch.specs.declared.Command.TheVariants.{Store, Reserve}
use Rattle.commands.specs.Commands.{Executed, refuse, reply_of, storing, reserving}
use Rattle.commands.specs.Replies.{covered_reply}
use Rattle.xaplain.specs.Moves.{Holds, Columns, Splits, Parts, kept_from, replaced}
use Rattle.xaplain.specs.Engine.{xaplain, execute}
use Rattle.xaplain.specs.Executes.{Turned, Executes}
use Rattle.xaplain.specs.Stores.{Stored, Over, entry_with, Leaves, Stores, refused_by, turned_by}
use Rattle.xaplain.proofs.StoreLaws.{new_length, new_marks, new_list}
use Rattle.xaplain.proofs.OverLaws.{over_place, over_covers, over_any, over_covering, over_entry_lem, over_columns}

-- what covers the index of a store that replaces
module _ (i k w : ℕ) (l : List Entry) (al : aligned k i ≡ true) where
  gave_way : (x : Entry) → (starts_in i k x ≡ false) × (over i k x ≡ false) → covers i x ≡ true → ⊥
  gave_way x (a, b) t =
      let o : leb k x.order ≡ false = rw t at b in
      let c : block k i ≡ block k x.base = block_up i x.base (omega (arith, leb-false k x.order o)) (eqb-true _ _ t) in
      let q : block k x.base * 2 ^ k ≡ i = ap (λ (d : ℕ). d * 2 ^ k) (sym c) ∙ whole i k al in
      let lo : i ≤ x.base = subst (λ (d : ℕ). d ≤ x.base) q (block_lo k x.base) in
      let hi : x.base < i + 2 ^ k = subst (λ (d : ℕ). x.base < d + 2 ^ k) q (block_hi k x.base) in
      clash (rw (le-leb i x.base lo) (lt-ltb _ _ hi)) a

  pub new_covering : any (over i k) l ≡ false → covering (store_new l i k w) i ≡ some (new_entry l i k w)
  new_covering n = first_insert (covers i) {e = new_entry l i k w} (covers_self (new_entry l i k w))
      (All-map gave_way (All-without (starts_in i k) (any_no (over i k) l n)))

pub reply_by : (t : ℕ) (o : Option Entry) → covered_reply t (covered o) ≡ reply_of t 0 o
reply_by t none = refl
reply_by t (some e) = refl

module _ {is os ws ms : List ℕ} {n : ℕ} (h : Holds is os ws ms n) where
  -- the slices as they were
  pub stay : Columns is os ws ms (length is) h.list
  stay = record { index_is = h.index_is; order_is = h.order_is; word_is = h.word_is; marks_are = h.marks_are }

  -- THE TWO OUTCOMES
  module _ (i : ℕ) (new : List Entry) where
    short : length is < length new → Stores h i new None is os ws ms
    short g = let t : ltb (length is) (length new) ≡ true = lt-ltb _ _ g in record {
      outcome = g;
      columns = subst (λ (l : List Entry). Columns is os ws ms (length is) l) (sym (ap (λ (b : Bool). pick b h.list new) t)) stay;
    }

    done : {is' os' ws' ms' : List ℕ} {s : Stored} → Leaves (length is) i new s → Columns is' os' ws' ms' (length is) new →
        Stores h i new (Some s) is' os' ws' ms'
    done {is'} {os'} {ws'} {ms'} d q = let t : ltb (length is) (length new) ≡ false = le-ltb _ _ d.fits in record {
      outcome = d;
      columns = subst (λ (l : List Entry). Columns is' os' ws' ms' (length is) l) (sym (ap (λ (b : Bool). pick b h.list new) t)) q;
    }

  -- in place of what starts in the range
  module _ (i k w p q : ℕ) (k≤ : k ≤ 63) (a : Parts is n i p) (b : Splits is n (i + (1 * 2 ^ k % 18446744073709551616 - 1)) q) where
    pub new_short : length is < p + 1 + (n - q) → Stores h i (store_new h.list i k w) None is os ws ms
    new_short g = short i (store_new h.list i k w) (omega (arith, g, new_length h i k w p q 0 k≤ a b))

    pub new_done : {is' os' ws' ms' : List ℕ} (m : ℕ) → aligned k i ≡ true → any (over i k) h.list ≡ false →
        p + 1 + (n - q) ≤ length is → m ≡ kept_from ms (q - p) p →
        Columns is' os' ws' ms' (length is) (replaced p q (record { base = i; order = k; word = w; marks = m }) h.list) →
        Stores h i (store_new h.list i k w) (Some (record { entry = record { base = i; order = k; word = w; marks = m }; count = p + 1 + (n - q) }))
        is' os' ws' ms'
    new_done {is'} {os'} {ws'} {ms'} m al free g e c =
        let z = new_length h i k w p q 0 k≤ a b in
        let f = new_marks h i k w p q m k≤ a b e in
        done i (store_new h.list i k w) (record {
          fits = omega (arith, g, z);
          covers = new_covering i k w h.list al free ∙ ap (λ (x : ℕ). some (record { base = i; order = k; word = w; marks = x })) (sym f);
          count = sym z;
        }) (subst (λ (y : List Entry). Columns is' os' ws' ms' (length is) y) (new_list h i k w p q m k≤ a b e) c)

  -- which is the store where no entry over the index has its order
  pub stores_new_lem : {is' os' ws' ms' : List ℕ} {r : rust.Option Stored} (i k w : ℕ) → any (over i k) h.list ≡ false →
      Stores h i (store_new h.list i k w) r is' os' ws' ms' → Stores h i (store h.list i k w) r is' os' ws' ms'
  stores_new_lem {is'} {os'} {ws'} {ms'} {r} i k w f s =
      subst (λ (l : List Entry). Stores h i l r is' os' ws' ms') (sym (ap (λ (b : Bool). pick b (map (with_word i w) h.list) (store_new h.list i k w)) f)) s

  -- into the larger entry
  pub stores_over : {e : Entry} {is' os' ws' ms' : List ℕ} (i k w j : ℕ) → Over is os n i k j →
      e ≡ entry_with is os ms j w → (is' ≡ is) × (os' ≡ os) → ws' ≡ set ws j w → ms' ≡ set ms j (set_bit matched_mark false (get_or ms j 0)) →
      Stores h i (store h.list i k w) (Some (record { entry = e; count = n })) is' os' ws' ms'
  stores_over {e} {is'} {os'} {ws'} {ms'} i k w j o d (x, y) a b =
      let g = over_place h i k j o in
      let c = over_covers h i k j o in
      let z : length (map (with_word i w) h.list) ≡ n = length-map h.list (with_word i w) ∙ h.count in
      let q : covering (map (with_word i w) h.list) i ≡ some e =
      over_covering h i w j g c ∙ ap some (sym (d ∙ over_entry_lem h i w j g c)) in
      let cs : Columns is' os' ws' ms' (length is) (map (with_word i w) h.list) = rw (x, y, a, b) (over_columns h i w j g c) in
      subst (λ (l : List Entry). Stores h i l (Some (record { entry = e; count = n })) is' os' ws' ms')
      (sym (ap (λ (b : Bool). pick b (map (with_word i w) h.list) (store_new h.list i k w)) (over_any h i k j o)))
      (done i (map (with_word i w) h.list) (record { fits = omega (arith, z, h.fits); covers = q; count = sym z }) cs)

  -- COMMANDS
  -- a reply alone
  pub leaves : {r : Turned} (c : Command) {t a : ℕ} → execute (length is) h.list c ≡ refuse h.list t a → r ≡ refused_by t a n →
      Executes h c r is os ws ms
  leaves c {t} {a} e d = record {
    reply_is = ap (λ (x : Turned). x.reply) d ∙ sym (ap (λ (x : Executed). x.reply) e);
    count_is = ap (λ (x : Turned). x.count) d ∙ sym h.count ∙ sym (ap (λ (x : Executed). length x.list) e);
    columns = subst (λ (l : List Entry). Columns is os ws ms (length is) l) (sym (ap (λ (x : Executed). x.list) e)) stay;
  }

  held : {i : ℕ} {new l : List Entry} {r : rust.Option Stored} {is' os' ws' ms' : List ℕ} → Stores h i new r is' os' ws' ms' →
      pick (ltb (length is) (length new)) h.list new ≡ l → Columns is' os' ws' ms' (length is) l
  held {is'} {os'} {ws'} {ms'} d e = subst (λ (l : List Entry). Columns is' os' ws' ms' (length is) l) e d.columns

  -- a list
  pub turns : {is' os' ws' ms' : List ℕ} {s : rust.Option Stored} {r : Turned} (c : Command) (t i : ℕ) (new : List Entry) →
      execute (length is) h.list c ≡ storing (xaplain (length is)) t h.list i new → Stores h i new s is' os' ws' ms' → r ≡ turned_by t n s →
      Executes h c r is' os' ws' ms'
  turns {is'} {os'} {ws'} {ms'} {s = None} {r} c t i new e d f =
      let y : ltb (length is) (length new) ≡ true = lt-ltb _ _ d.outcome in
      let e' : execute (length is) h.list c ≡ refuse h.list t 11 = rw y at e in record {
        reply_is = ap (λ (x : Turned). x.reply) f ∙ sym (ap (λ (x : Executed). x.reply) e');
        count_is = ap (λ (x : Turned). x.count) f ∙ sym h.count ∙ sym (ap (λ (x : Executed). length x.list) e');
        columns = held d (ap (λ (b : Bool). pick b h.list new) y ∙ sym (ap (λ (x : Executed). x.list) e'));
      }
  turns {is'} {os'} {ws'} {ms'} {s = Some s} {r} c t i new e d f =
      let o : Leaves (length is) i new s = d.outcome in
      let y : ltb (length is) (length new) ≡ false = le-ltb _ _ o.fits in
      let e' : execute (length is) h.list c ≡ record { reply = reply_of t 0 (covering new i); list = new } = rw y at e in record {
        reply_is = ap (λ (x : Turned). x.reply) f ∙ sym (ap (reply_of t 0) o.covers) ∙ sym (ap (λ (x : Executed). x.reply) e');
        count_is = ap (λ (x : Turned). x.count) f ∙ o.count ∙ sym (ap (λ (x : Executed). length x.list) e');
        columns = held d (ap (λ (b : Bool). pick b h.list new) y ∙ sym (ap (λ (x : Executed). x.list) e'));
      }

  -- a store, by its tests
  module _ (i k w : ℕ) where
    pub store_order : max_order < k → execute (length is) h.list (Store i k w) ≡ refuse h.list 129 bad_order
    unfolding execute
    store_order g = rw (lt-ltb max_order k g) refl

    pub store_index : k ≤ max_order → aligned k i ≡ false → execute (length is) h.list (Store i k w) ≡ refuse h.list 129 not_aligned
    unfolding execute
    store_index g a = rw (le-ltb max_order k g, a) refl

    pub store_word : k ≤ max_order → aligned k i ≡ true → storable w ≡ false →
        execute (length is) h.list (Store i k w) ≡ refuse h.list 129 bad_entry
    unfolding execute
    store_word g a b = rw (le-ltb max_order k g, a, b) refl

    pub store_new_lem : k ≤ max_order → aligned k i ≡ true → storable w ≡ true →
        execute (length is) h.list (Store i k w) ≡ storing (xaplain (length is)) 129 h.list i (store h.list i k w)
    unfolding execute
    store_new_lem g a b = rw (le-ltb max_order k g, a, b) refl

  -- a reservation, by what covers its index
  module _ (i : ℕ) where
    pub reserve_some : (e : Entry) → Some e ≡ covered (covering h.list i) →
        execute (length is) h.list (Reserve i) ≡ refuse h.list 135 is_covered
    unfolding execute
    reserve_some e q = go (covering h.list i) q
      where
        go : (o : Option Entry) → Some e ≡ covered o → reserving (xaplain (length is)) 135 h.list i o ≡ refuse h.list 135 is_covered
        go none q = cc
        go (some x) q = refl

    pub reserve_none : None ≡ covered (covering h.list i) →
        execute (length is) h.list (Reserve i) ≡ storing (xaplain (length is)) 135 h.list i (store h.list i 0 reserved_word)
    unfolding execute
    reserve_none q = go (covering h.list i) q
      where
        go : (o : Option Entry) → None ≡ covered o → reserving (xaplain (length is)) 135 h.list i o
            ≡ storing (xaplain (length is)) 135 h.list i (store h.list i 0 reserved_word)
        go none q = refl
        go (some x) q = cc
