-- Applying by calls, whatever was written of the script before: done, and exactly the words after (R327, R328).
use Prim.Native.Nat.{ℕ, ◌*◌, ◌%◌}
use mathlib.Core.Path.{◌≡◌, sym, ap, ◌∙◌}
use mathlib.Core.Bool.{true}
use mathlib.Core.List.{List}
use native.Mathlib.Omega.{arith}
use lib.ListN.{length}
use Rattle.layout.specs.WellFormed.{Sized}
use Rattle.decode.proofs.DecideLaws.{sized_is}
use Rattle.script.specs.Script.{script, places_below, apply_answer, apply_words}
use Rattle.script.specs.Claims.{changes_from, cut_off, wrote_some, Partly}
use Rattle.script.proofs.FormLaws.{places_in, pairs}
use Rattle.script.proofs.ScriptLaws.{partly_done, start_partly, cut_partly, some_partly}
use Rattle.script.proofs.ApplyLaws.{all_good}

-- a script between two states is one for every pool of that length
module _ (ws ws' : List ℕ) (same : length ws ≡ length ws') {n : ℕ} (s : Sized n ws) where
  even : length (script ws ws') % 2 ≡ 0
  even = let e : length (script ws ws') ≡ 2 * changes_from ws ws' 0 (length ws) = pairs ws ws' in omega (arith, e)

  pub apply_partly : (v : List ℕ) → Partly ws ws' v →
      (apply_answer v (script ws ws') ≡ 0) × (apply_words v (script ws ws') ≡ ws')
  apply_partly v y =
      let sv : Sized n v = record { size = y.size ∙ s.size; least = s.least; most = s.most } in
      let below : places_below (length v) (script ws ws') ≡ true =
      ap (λ (m : ℕ). places_below m (script ws ws')) y.size ∙ places_in ws ws' in
      let (a, b) = all_good v (script ws ws') (sized_is sv) even below in
      (sym a, sym b ∙ partly_done ws ws' same v y)

  pub apply_done : (apply_answer ws (script ws ws') ≡ 0) × (apply_words ws (script ws ws') ≡ ws')
  apply_done = apply_partly ws (start_partly ws ws' same)

  -- R327: the power went after some of the writes, any number of times
  pub apply_cut : (ks : List ℕ) → (apply_answer (cut_off ks ws (script ws ws')) (script ws ws') ≡ 0) ×
      (apply_words (cut_off ks ws (script ws ws')) (script ws ws') ≡ ws')
  apply_cut ks = apply_partly (cut_off ks ws (script ws ws')) (cut_partly ws ws' same ks ws (start_partly ws ws' same))

  -- R328: some of the writes reached the storage, in any order
  pub apply_some : (ks : List ℕ) → (apply_answer (wrote_some ks ws (script ws ws')) (script ws ws') ≡ 0) ×
      (apply_words (wrote_some ks ws (script ws ws')) (script ws ws') ≡ ws')
  apply_some ks = apply_partly (wrote_some ks ws (script ws ws')) (some_partly ws ws' same ks ws (start_partly ws ws' same))
