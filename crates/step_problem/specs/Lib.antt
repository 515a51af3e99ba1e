pub mod Entries
pub mod Balances
pub mod Conditions
pub mod Sides
pub mod Heads
pub mod Settling
pub mod Laws
pub mod StepRefusals
pub use Rattle.step_problem.specs.Balances.{balance, bound_on, branch_flow, drain_flow, evap_flow, fixed_flow, flow_bound, least, link_flow, lower_balance}
pub use Rattle.step_problem.specs.Balances.{most, river_flow, total, upper_balance}
pub use Rattle.step_problem.specs.Conditions.{CellFits, DrainFits, EvapFits, FixedFits, IsHead, IsMagnitudeAtMost, IsProblem, LinkFits, LinksFit, RiverFits}
pub use Rattle.step_problem.specs.Conditions.{cell_limit, conductance_of, deep_river, flow_magnitude, full_rate, head_limit, magnitude}
pub use Rattle.step_problem.specs.Entries.{ends_in, entries_at, link_at, no_entries, no_link}
pub use Rattle.step_problem.specs.Heads.{AreOnTheWay, CanRise, CanSink, Edges, Ge, IsBarrier, IsCertificate, IsRaise, IsSettledPair, IsSink, OpenHeads}
pub use Rattle.step_problem.specs.Heads.{RoundsSettleBoth, head_at, lower_at, no_bound, upper_at}
pub use Rattle.step_problem.specs.Laws.{FallsInOwnHead, HaveLeft, IsInside, KeepsOrder, LeavingSettles, LowerShifts, RisesInOtherHeads, RoundsKeepOrder}
pub use Rattle.step_problem.specs.Laws.{SettledPairCertifies, SettledPairExists, SettledPairIsOne, UpperShifts}
pub use Rattle.step_problem.specs.Settling.{AreCertified, AreInside, AreSettled, CanMove, Gives, IsFirstOpen, IsGiven, IsPairOf, IsUnfinished, PairKind}
pub use Rattle.step_problem.specs.Settling.{Settles}
pub use Rattle.step_problem.specs.Settling.PairKind.{certified, settled}
pub use Rattle.step_problem.specs.Sides.{AreHeads, AreSeen, AsTight, IsCertified, IsExchange, IsFirstSettled, IsNoTighterThanSettled, IsOnTheWay, IsPast}
pub use Rattle.step_problem.specs.Sides.{IsRelaxed, IsRound, IsSettled, Rounds, RoundsSettle}
pub use Rattle.step_problem.specs.StepRefusals.{dir_name, number_of, refusal_of, side_name, term_name, word_of}
