pub mod ExactStep
pub mod Histories
pub mod BranchLaws
pub mod ReceiverLaws
pub mod GivenHeadLaws
pub mod SignLaws
pub mod TimeLaws
pub mod Worked
pub use Rattle.flow_equations.specs.BranchLaws.{AreAlike, AreAlikeInAColumn, HasUnitBranches, IsBetweenHalves, IsHarmonic, IsSameFromBothEnds, MeetsDarcy}
pub use Rattle.flow_equations.specs.BranchLaws.{MeetsDarcyAlongColumns}
pub use Rattle.flow_equations.specs.ExactStep.{exact_cell, exact_drain, exact_evap, exact_fixed, exact_flow, exact_link, exact_river, exact_step}
pub use Rattle.flow_equations.specs.GivenHeadLaws.{HasGivenHead, HasGivenHeads}
pub use Rattle.flow_equations.specs.Histories.{Solves, SolvesAt, SolvesFrom, heads_of, variable_heads}
pub use Rattle.flow_equations.specs.ReceiverLaws.{ChoosesOneCell, Evaporates, HasAnEquationEach, LinksAreMutual, ReceivesRecharge, TakesEvapotranspiration}
pub use Rattle.flow_equations.specs.ReceiverLaws.{recharge_of}
pub use Rattle.flow_equations.specs.SignLaws.{FlowsChangeSign}
pub use Rattle.flow_equations.specs.TimeLaws.{HasEqualSteps, HasManualSteps, Lasts, StepsAreTheManuals, StoresByOption, StoresByTheOption, StoresOverTheStep}
pub use Rattle.flow_equations.specs.TimeLaws.{ratio_total}
pub use Rattle.flow_equations.specs.Worked.{HasVerticalConductivity, IdleWells, IsOneMaterial, LayersFillTheSpace, MeetsDarcyDownwards, OneCell, ThreeCells}
pub use Rattle.flow_equations.specs.Worked.{TwoCells, below_zero, cell, decimal, distance, idle_wells, one_cell, period_with, row_model, row_of_cells}
pub use Rattle.flow_equations.specs.Worked.{three_cells, two_cells}
