pub mod Widths
pub mod GridHeads
pub mod Cells
pub mod LocalBounds
pub mod Tables
pub mod Problems
pub mod Laws
pub use Rattle.problem_builder.specs.Cells.{AreBranches, Branches, cell_over, constant_over, fixed_over, flow_of_pair, known_head, link_over, model_branches}
pub use Rattle.problem_builder.specs.Cells.{sources_over, step_over, whole_cell, whole_drain, whole_evap, whole_fixed, whole_flow, whole_link, whole_river}
pub use Rattle.problem_builder.specs.Cells.{whole_step}
pub use Rattle.problem_builder.specs.GridHeads.{AreConstantHeads, AreEvenFactors, AreFactorsOf, AreGridHeads, AreStartHeads, HasEvenSteps, HasEvenStorage}
pub use Rattle.problem_builder.specs.GridHeads.{HasOldHeads, HasStorage, HeadsEnclose, IsActive, IsCellNamed, IsConstantPair, IsDepth, IsPartOf, IsTimeOf}
pub use Rattle.problem_builder.specs.GridHeads.{bound_of_pair, cond_pair, each_cell, given_or_kept, head_bound, kept_bound, known_bound, recharge_pair}
pub use Rattle.problem_builder.specs.GridHeads.{start_bound, storage_pair, well_pair}
unfoldable pub use Rattle.problem_builder.specs.GridHeads.{constant_bound}
pub use Rattle.problem_builder.specs.Laws.{ConstantPairEncloses, ConstantPairFits, ModelsAreBuildable, ProblemFits, StartHeadsFit, widest}
pub use Rattle.problem_builder.specs.LocalBounds.{AreAppended, AreEntriesIn, AreLocalBounds, IsEntryIn, general_of, kept_bounds, local_in, no_bounds, well_of}
pub use Rattle.problem_builder.specs.Problems.{AreCells, AreCellsOver, HasNoProblem, IsBuildFault, IsBuilt, IsCellFault, IsCheckedCell, IsFaultOver}
pub use Rattle.problem_builder.specs.Problems.{IsProblemOf, IsProblemOver, IsVariableCell, has_small_branch, is_branch, problem_over, refusal_of}
pub use Rattle.problem_builder.specs.Problems.{unless_refused}
unfoldable pub use Rattle.problem_builder.specs.Problems.{fault_of, problem_of}
pub use Rattle.problem_builder.specs.Tables.{AreEvenStorages, AreInputs, ArePeriodTables, AreStepTables, AreTables, HasPairs, Inputs, IsEvaporated, IsGivenIn}
pub use Rattle.problem_builder.specs.Tables.{IsIndex, IsKept, IsKind, IsRecharged, bound_at, branches_of, branches_over, item_in, no_pair, no_span, pair_at}
pub use Rattle.problem_builder.specs.Tables.{pair_in, span_in}
pub use Rattle.problem_builder.specs.Widths.{BothOrNone, Filled, HasConductance, IsBedBelow, IsBedOf, IsBranch, IsNoBed, IsThickness, column_half, face_pair}
pub use Rattle.problem_builder.specs.Widths.{layer_half, row_half}
