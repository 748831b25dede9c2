use Prim.Native.Nat.{ℕ}
use mathlib.Core.Path.{refl, ap, ◌∙◌}
use native.Mathlib.Omega.{arith}
use Rattle.words.specs.Bytes.{Bytes}
use Rattle.assoc_tree.specs.Keys.{find}
use Rattle.assoc_lookup.specs.Lookup.{looked_for}
use Rattle.assoc_lookup.proofs.KeyNumberLaws.{words_are, these_fit, this_key}
use Rattle.assoc_lookup.proofs.look_bytes.Goals as goal

pub look-requires-clause-key_bound : goal.look-requires-clause-key_bound
look-requires-clause-key_bound c =
    let b : Bytes c.args.key.now = record { small = λ i. omega (arith, c.type_inv.key i) } in
    these_fit c.args.key.now _ (words_are c.args.key.now c.word_of-a.ensures c.word_of-b.ensures c.word_of-c.ensures
    c.word_of-d.ensures refl) b c.requires.1

pub returns : goal.returns
returns c =
    λ s. c.look.ensures s ∙ ap (λ (k : ℕ). looked_for (find k s.list)) (this_key c.args.key.now _ (words_are c.args.key.now c.word_of-a.ensures
    c.word_of-b.ensures c.word_of-c.ensures c.word_of-d.ensures refl) c.requires.1)
