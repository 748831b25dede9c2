-- What a listing shows (R251): records that came by their commands.
use Prim.Native.Nat.{ℕ}
use mathlib.Core.Path.{◌≡◌, sym, ap, ◌∙◌}
use mathlib.Core.Bool.{true}
use mathlib.Core.List.{List}
use native.Mathlib.Omega.{arith}
use lib.Dec.{ltb}
use Rattle.blocks.specs.Choice.{both}
use Rattle.blocks.specs.Lists.{All, In}
use Rattle.blocks.proofs.BoolLaws.{by_t, both_i}
use Rattle.blocks.proofs.ListLaws.{All-map, All-keep, in_any, each}
use Rattle.model.specs.declared.Entry.{Entry}
use Rattle.model.specs.Model.{matched_mark, meets, has_mark}
use Rattle.decode.proofs.DecodeLaws.{decode_list}
use Rattle.verify.proofs.AnswerLaws.{prescribed_0}
use Rattle.listing.specs.Listing.{listed, fits}
use Rattle.calls.specs.Calls.{Listing, list_over}
use Rattle.calls.specs.Calls as C
use Rattle.calls.specs.Demand.{Call, words_after_all, list_after_all, Bytewise, Stands, Starts}
use Rattle.calls.proofs.DemandLaws.{Started, started, sized}
use Rattle.calls.proofs.ListCallLaws.{list_checked}
use Rattle.calls.proofs.ClaimLaws.{demand_3_whole}
use Rattle.trace.specs.Trace.{same, stands, matched, Shown}
use Rattle.trace.proofs.ConverseLaws.{self}
use Rattle.trace.proofs.SourceLaws.{traced}
use Rattle.trace.proofs.ConfirmedLaws.{matched_by}

in_list : {e : Entry} {l : List Entry} → In e l → stands e l ≡ true
in_list {e} m = in_any (same e) m (self e)

marked_in_list : {e : Entry} {l : List Entry} → In e l → has_mark matched_mark e ≡ true → matched e l ≡ true
marked_in_list {e} m t = in_any (λ x. both (same e x) (has_mark matched_mark x)) m (both_i (self e) t)

module _ {n : ℕ} {l : List Entry} {ws : List ℕ} (st : Starts n l ws) {cs : List Call} (b : All Bytewise cs)
    (first last : ℕ) (buffer : List ℕ) where
  -- R149: the listing is that of the model
  of_model : C.list (words_after_all ws cs) first last buffer ≡ list_over (list_after_all n l cs) first last buffer
  of_model =
      let w : Started n l ws = started st in
      let p : Stands n (list_after_all n l cs) (words_after_all ws cs) = (demand_3_whole st b).words in
      list_checked (words_after_all ws cs) first last buffer
      (prescribed_0 (sized w.least w.most p.prescribed) p.prescribed)
      ∙ ap (λ (x : List Entry). list_over x first last buffer) (decode_list p.prescribed)

  pub shown : (C.list (words_after_all ws cs) first last buffer).result.answer ≡ 0 →
      Shown n l cs buffer (C.list (words_after_all ws cs) first last buffer)
  shown t = go (sym (ap (λ (x : Listing). x.result.answer) of_model) ∙ t)
    where
      go : (list_over (list_after_all n l cs) first last buffer).result.answer ≡ 0 →
          Shown n l cs buffer (C.list (words_after_all ws cs) first last buffer)
      go z =
          by_t (ltb last first) (λ u. absurd (let w : ◌≡◌ {A = ℕ} 8 0 = rw u at z in omega arith))
          (λ u. by_t (fits (listed (list_after_all n l cs) first last) buffer)
          (λ f. record {
            entries = listed (list_after_all n l cs) first last;
            number = ap (λ (x : Listing). x.result.number) of_model ∙ rw (u, f);
            bytes = ap (λ (x : Listing). x.buffer) of_model ∙ rw (u, f);
            origins = All-map (λ e h. traced st b e (in_list h.1))
                (All-keep (meets first last) (each (list_after_all n l cs) (λ e m. m)));
            confirmed = All-map (λ e h t. matched_by st b e (marked_in_list h.1 t))
                (All-keep (meets first last) (each (list_after_all n l cs) (λ e m. m)));
          })
          (λ f. absurd (let w : ◌≡◌ {A = ℕ} 4 0 = rw (u, f) at z in omega arith)))
