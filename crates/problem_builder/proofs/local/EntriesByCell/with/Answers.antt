use Rattle.problem_builder.proofs.Common.{subst, List, Entry, AreAppended, take_all, ◌∙◌, refl}
use Rattle.problem_builder.proofs.Appended.{appended_none, appended_next}
use Rattle.problem_builder.proofs.local.EntriesByCell.with.Goals as goal

pub loop-entry-init : goal.loop-entry-init
loop-entry-init c = record { len = refl; appended = appended_none c.args.s c.args.self }

pub loop-entry-preserved : goal.loop-entry-preserved
loop-entry-preserved c = record {
  len = c.in_ok-add.ensures.len ∙ c.loop-entry.invariant.len;
  appended = appended_next c.args.s c.args.self c.loop-entry.local c.add.new.self c.args.entries.now c.loop-entry.entry-index _ c.loop-entry-test.true
      c.loop-entry.invariant.appended c.in_ok-add.ensures.appended;
}

pub returns-clause-appended : goal.returns-clause-appended
returns-clause-appended c = subst (λ (xs : List Entry). AreAppended c.args.s c.args.self c.loop-entry.local xs)
    (take_all c.loop-entry.entry-index c.args.entries.now c.loop-entry-test.false) c.loop-entry.invariant.appended
