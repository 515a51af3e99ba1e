use Rattle.problem_builder.proofs.Common.{◌≡◌, take, length, AreAppended}
use Rattle.problem_builder.proofs.local.EntriesByCell.with.Given as goal

abbrev pub invariant-loop-entry : goal.invariant-loop-entry
invariant-loop-entry l = record {
  len : length l.local ≡ length l.fn.self;
  appended : AreAppended l.s l.fn.self l.local (take l.entry-index l.entries);
}
