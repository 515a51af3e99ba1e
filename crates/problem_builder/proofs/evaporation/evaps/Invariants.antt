use Rattle.problem_builder.proofs.Common.{None, Filled, IsEvaporated}
use Rattle.problem_builder.proofs.evaporation.evaps.Given as goal

abbrev pub invariant-loop-cell : goal.invariant-loop-cell
invariant-loop-cell l = Filled (IsEvaporated l.model l.s l.number) None l.cell l.evaps
