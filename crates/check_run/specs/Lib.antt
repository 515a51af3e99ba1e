pub mod Steps
pub mod Verdicts
pub mod Parts
pub mod Heads
pub use Rattle.check_run.specs.Heads.{AreChecked, CellFails, FailAt, HeadsFailBy, failing, short}
pub use Rattle.check_run.specs.Parts.{AreNarrow, ArePosed, AreWide, FailsBy, IsChecked, IsCovered, IsUncovered, IsUnposed, IsVerdictAt, heads_before, of_bound}
pub use Rattle.check_run.specs.Steps.{AllReach, ConstantsReach, CoversFlow, FailsAt, HeadsHold, IsConstantCell, IsFirstNarrow, IsFirstShort, IsFirstUnreached}
pub use Rattle.check_run.specs.Steps.{IsRefused, Passes, ReachesAt, ReachesOn, TermsHold, at_constant, at_term, at_variable, at_zones, bounds, budget_at}
pub use Rattle.check_run.specs.Steps.{no_budget, no_flows, no_heads, variable_bounds}
pub use Rattle.check_run.specs.Verdicts.{Checks, IsReadable, IsVerdict, ListingEncloses, RunIsCertified, RunIsReadAgain, StopsAt, VerdictIsOne, as_listed}
pub use Rattle.check_run.specs.Verdicts.{checked_task, step_of, steps_of}
