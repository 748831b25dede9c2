-- The steps of new_rows: numbers of rows, and the words of a row over index 0.
use Prim.Native.Nat.{ℕ, zero, suc, ◌+◌, ◌*◌, ◌-◌, ◌≤◌, ◌<◌}
use mathlib.Core.Path.{◌≡◌, refl, sym, ap, subst, ◌∙◌}
use mathlib.Core.List.{List}
use native.Mathlib.Omega.{arith}
use lib.Dec.{eqb}
use lib.ListN.{length, get_or, set}
use lib.Seq.{get_or-set_same, get_or-set_other}
use borrow.Author.Tests.{eqb-true, eqb-false, ne_eqb}
use Rattle.blocks.proofs.BoolLaws.{by_t}
use Rattle.model.specs.declared.Entry.{Entry}
use Rattle.tree.specs.Tree.{slots}
use Rattle.tree.specs.Slots.{Numbering, slot}
use Rattle.layout.specs.Words.{place, IsField, shift_word, owner_word, owner_under, field_under}
use Rattle.layout.proofs.NodeLaws.{all_words}
use Rattle.plan.specs.declared.Heads.{Heads}
use Rattle.script_rows.specs.Row.{OtherRows, Finishes}
use Rattle.script_new.specs.New.{chain_row}
use Rattle.script_new.specs.Chain.{ChainFinal, ChainShown, Chains, NewNumber, NewNumbers}

-- NUMBERS
pub numbers_start : (ns ps cs : List ℕ) (v top low n : ℕ) → NewNumbers ns ps cs v top low n 0
numbers_start ns ps cs v top low n = record { each = λ r h. absurd (omega arith) }

pub numbers_step : {ns ps cs : List ℕ} {v top low n r : ℕ} (q : ℕ) → NewNumbers ns ps cs v top low n r →
    NewNumber ps cs r v top low n q → r < length ns → NewNumbers (set ns r q) ps cs v top low n (r + 1)
numbers_step {ns} {ps} {cs} {v} {top} {low} {n} {r} q a b h = record {
  each = λ t lt. by_t (eqb t r)
      (λ x. subst (λ (y : ℕ). NewNumber ps cs y v top low n (get_or (set ns r q) y 0)) (sym (eqb-true t r x))
      (subst (NewNumber ps cs r v top low n) (sym (get_or-set_same ns r q 0 h)) b))
      (λ x. let ne : t ≡ r → ⊥ = eqb-false _ _ x in
      subst (NewNumber ps cs t v top low n) (sym (get_or-set_other ns r t q 0 ne)) (a.each t (omega arith)));
}

pub numbers_to : {ns ps cs : List ℕ} {v top low n r : ℕ} (k : ℕ) → NewNumbers ns ps cs v top low n r → k ≤ r →
    NewNumbers ns ps cs v top low n k
numbers_to k a h = record { each = λ t lt. a.each t (omega arith) }

-- A ROW OVER INDEX 0
module _ {l' : List Entry} {μ : Numbering} {rs rs' : List ℕ} {t sh ow : ℕ}
    (fin : ChainFinal l' μ rs (chain_row + suc t) t) (z : Finishes rs rs' (chain_row + suc t) sh ow) where
  chain_words_lem : (top : ℕ) → suc t < top → sh ≡ shift_word (suc t) → ow ≡ owner_word (μ (suc (suc t)) 0) 0 → (f : ℕ) → IsField f →
      get_or rs' (place (chain_row + suc t) f) 0 ≡ field_under l' μ top (suc t) 0 f
  chain_words_lem top h se oe = all_words rs' (chain_row + suc t) l' μ top t 0 (z.shift_is ∙ (se ∙ omega arith))
      (z.owner_is ∙ (oe ∙ owner)) z.filled_is
      (λ x g. z.marks_stay x g ∙ fin.marks_are x g)
      (λ j g. z.slots_stay j g ∙ (fin.slots_are j g ∙ ap (slot l' μ t) (flat j)))
    where
      flat : (j : ℕ) → j ≡ slots * 0 + j
      flat j = omega arith

      owner : owner_word (μ (suc (suc t)) 0) 0 ≡ owner_under top μ (suc t) 0
      owner = sym (rw (ne_eqb (suc t) top (omega arith)) refl)

pub chain_shown_lem : {ws cs : List ℕ} {heads : Heads} {l' : List Entry} {μ : Numbering} {rs rs' : List ℕ} {u sh ow : ℕ} → 1 ≤ u →
    heads.old ≤ u → u < heads.new → Chains ws heads cs l' μ → ChainFinal l' μ rs (chain_row + u) (u - 1) →
    Finishes rs rs' (chain_row + u) sh ow → sh ≡ shift_word u → ow ≡ owner_word (get_or cs (u + 1) 0) 0 →
    ChainShown l' μ rs' heads.new u
chain_shown_lem {cs = cs} {heads} {l'} {μ} {rs} {rs'} {u} {sh} {ow} a b h ch fin z se oe = go u a b h fin z se oe
  where
    go : (u : ℕ) → 1 ≤ u → heads.old ≤ u → u < heads.new → ChainFinal l' μ rs (chain_row + u) (u - 1) →
        Finishes rs rs' (chain_row + u) sh ow → sh ≡ shift_word u → ow ≡ owner_word (get_or cs (u + 1) 0) 0 →
        ChainShown l' μ rs' heads.new u
    go zero a b h fin z se oe = absurd (omega arith)
    go (suc t) a b h fin z se oe =
        let e : suc t - 1 ≡ t = omega arith in
        let n : get_or cs (suc t + 1) 0 ≡ μ (suc t + 1) 0 = ch.numbers (suc t + 1) (omega arith) (omega arith) (omega arith) in
        let y : suc t + 1 ≡ suc (suc t) = omega arith in
        record {
          words = chain_words_lem (subst (ChainFinal l' μ rs (chain_row + suc t)) e fin) z heads.new h se
              (oe ∙ ap (λ (m : ℕ). owner_word m 0) (n ∙ ap (λ (v : ℕ). μ v 0) y));
        }

-- a row stays where another is written
pub chain_stays : {l' : List Entry} {μ : Numbering} {rs rs' : List ℕ} {top u r : ℕ} → OtherRows rs rs' (chain_row + r) →
    u < r → ChainShown l' μ rs top u → ChainShown l' μ rs' top u
chain_stays {u = u} o h s = record { words = λ f g. o.before (place (chain_row + u) f) (omega arith) ∙ s.words f g }
