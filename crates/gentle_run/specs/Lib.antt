pub mod Encloses
pub mod Steps
pub mod Verdicts
pub mod Laws
pub use Rattle.gentle_run.specs.Encloses.{ListingEncloses, StepEncloses, StepsEnclose}
pub use Rattle.gentle_run.specs.Laws.{CertifiedHasHistory, CertifiedIsEnclosed, VerdictIsOne}
pub use Rattle.gentle_run.specs.Steps.{AreNarrow, AreWide, FailsAt, IsCovered, IsRefused, IsUncovered, Passes, StepFailsBy}
pub use Rattle.gentle_run.specs.Steps.FailsAt.{at_heads, at_term, at_zones}
pub use Rattle.gentle_run.specs.Steps.IsRefused.{no_budget, no_flows, no_heads}
pub use Rattle.gentle_run.specs.Verdicts.{AreTablesOfPeriod, Checks, IsVerdict, IsVerdictAt, StopsAt, heads_before}
