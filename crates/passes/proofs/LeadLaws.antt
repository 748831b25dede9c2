-- A slot that leads to a node, and one that leads to none.
use Prim.Native.Nat.{ℕ, ◌+◌, ◌*◌}
use mathlib.Core.Path.{◌≡◌, subst}
use native.Mathlib.Omega.{arith}
use Rattle.layout.specs.Pool.{Pool, slot_at}
use Rattle.layout.specs.declared.Slot.TheVariants.{Empty, Reserved, Held, Sibling, Child}
use Rattle.layout.proofs.SaysLaws.{word_of_lem}
use Rattle.local.specs.Local.{ChildOk}
use Rattle.passes.specs.Bytes.{LeadsOk}
use Rattle.steps.proofs.StepLaws.{child_not_held}
use Rattle.model.specs.Model.{reserved_word}

module _ (P : Pool) (n v j : ℕ) where
  pub leads_empty : slot_at P n j ≡ Empty → LeadsOk P n v j
  leads_empty e d f =
      let w : P.slot n j ≡ 0 = word_of_lem (P.slot n j) Empty e in
      let x : P.slot n j ≡ 4 * (1024 + d) + 2 = word_of_lem (P.slot n j) (Child d) f in absurd (omega arith)

  pub leads_reserved : slot_at P n j ≡ Reserved → LeadsOk P n v j
  leads_reserved e d f =
      let w : P.slot n j ≡ reserved_word = word_of_lem (P.slot n j) Reserved e in
      let x : P.slot n j ≡ 4 * (1024 + d) + 2 = word_of_lem (P.slot n j) (Child d) f in absurd (omega arith)

  pub leads_held : slot_at P n j ≡ Held → LeadsOk P n v j
  leads_held e d f = absurd (child_not_held P n v j d f e)

  pub leads_sibling : (o : ℕ) → slot_at P n j ≡ Sibling o → LeadsOk P n v j
  leads_sibling o e d f =
      let w = word_of_lem (P.slot n j) (Sibling o) e in
      let x : P.slot n j ≡ 4 * (1024 + d) + 2 = word_of_lem (P.slot n j) (Child d) f in absurd (omega (arith, w.1))

  pub leads_one : (m : ℕ) → slot_at P n j ≡ Child m → ChildOk P n v j m → LeadsOk P n v j
  leads_one m e k d f =
      let w : P.slot n j ≡ 4 * (1024 + m) + 2 = word_of_lem (P.slot n j) (Child m) e in
      let x : P.slot n j ≡ 4 * (1024 + d) + 2 = word_of_lem (P.slot n j) (Child d) f in
      let z : m ≡ d = omega arith in subst (λ (y : ℕ). ChildOk P n v j y) z k
