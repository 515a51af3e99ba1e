pub mod Steps
pub mod Enclosing
pub mod Faults
pub use Rattle.step_chain.specs.Enclosing.{EnclosesMove, EnclosesMoves, HasNoBarrier, IsBarrierBy, IsBarrierFault, IsMove, LeadsBy, LeadsOrRests, LeadsWithout}
pub use Rattle.step_chain.specs.Enclosing.{LieBetween, LiesBetweenBy, LiesWithin, edges_by}
pub use Rattle.step_chain.specs.Faults.{FailsBy, IsNoCertificate, IsOpenStep, SettlesNot, of_bound, of_settle}
pub use Rattle.step_chain.specs.Steps.{AreAllSteps, AreHeadsOf, AreSteps, HasNoHeads, HasNoPose, HeadsFit, HistoriesLieWithin, IsPosed, IsSettledStep, IsStepBy}
pub use Rattle.step_chain.specs.Steps.{LeavesRange, LieWithin, RefusalIsOne, SettlesIn, StepEncloses, StepExcludesRefusal, StepIsOne, WideKeepsSteps, two}
