-- `erase_entry`: the script of an erase of the entry that covers an index.
use mathlib.Core.Path.{refl}
use Rattle.model.specs.Model.{erase}
use Rattle.model.proofs.ValidLaws.{erase_valid}
use Rattle.layout.specs.Places.{new_places, render}
use Rattle.prepare.specs.Entries.{erased}
use Rattle.prepare.proofs.PrepareLaws.{gives_same}
use Rattle.prepare.proofs.StaysLaws.{entry_there_lem}
use Rattle.prepare.proofs.EraseLaws.{erase_becomes, erase_done}
use Rattle.prepare.proofs.erase_entry.Goals as goal

pub entry_script-requires-clause-entry_there : goal.entry_script-requires-clause-entry_there
entry_script-requires-clause-entry_there c =
    let s = c.requires.well_formed in
    λ s. entry_there_lem s c.args.i (c.requires.i_value s).0 refl

pub entry_script-requires-clause-after_there : goal.entry_script-requires-clause-after_there
entry_script-requires-clause-after_there c =
    let s = c.requires.well_formed in
    record {
      formed = s;
      words = render (erase s.list c.args.i) (new_places s.list (erase s.list c.args.i) s.places) s.n;
      after = erased (erase s.list c.args.i) (erase_becomes s c.args.out.now c.args.i (c.requires.i_value s).0) (erase_valid c.args.i s.valid);
    }

pub returns-clause-fact : goal.returns-clause-fact
returns-clause-fact c =
    λ s. let a = erased (erase s.list c.args.i) (erase_becomes s c.args.out.now c.args.i (c.requires.i_value s).0) (erase_valid c.args.i s.valid) in
    (gives_same (erase_done s c.args.out.now c.args.i (c.requires.i_value s).0) (record {
      result_is = c.entry_script.ensures.fact s _ a;
      slice_is = c.entry_script.ensures.fact_2 s _ a;
    })).result_is

pub returns-clause-fact_2 : goal.returns-clause-fact_2
returns-clause-fact_2 c =
    λ s. let a = erased (erase s.list c.args.i) (erase_becomes s c.args.out.now c.args.i (c.requires.i_value s).0) (erase_valid c.args.i s.valid) in
    (gives_same (erase_done s c.args.out.now c.args.i (c.requires.i_value s).0) (record {
      result_is = c.entry_script.ensures.fact s _ a;
      slice_is = c.entry_script.ensures.fact_2 s _ a;
    })).slice_is
