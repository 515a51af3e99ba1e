-- Names that several proofs of this crate cite, of the crates below and of its own definitions, passed on from one place. Declares nothing.
pub use Rattle.std.proofs.Common.{Bool, List, None, Option, [], ap, arith, cond, false, inl, inr, le_of_mul-le-mul_right, map, refl, subst, sym, true, ℕ, ◌++◌, ◌+◌, ◌<◌, ◌^◌, ◌∙◌, ◌∷◌, ◌≡◌, ◌≤◌}
pub use Rattle.cell_balance.specs.{CellEncloses, ExactCell, ExactFixed, share}
pub use Rattle.conductance_bounds.specs.declared.pair.Pair.{Pair}
pub use Rattle.decimal_input.specs.{Encloses, Fraction, Ratio}
pub use Rattle.gentle_problem.specs.{ArePairsAt, HasPairAt, ProblemsEnclose, ProblemsFit, branches_at}
pub use Rattle.model_types.specs.{FixedSource, IsModel, ToConstant, ToGeneral, as_general, cell_count, constant_faces, local_entries, start_head, stride, variable_cells, declared.face.Axis.Axis}
pub use Rattle.model_types.specs.{declared.model.FlowModel.FlowModel, declared.time_steps.TimeStep.TimeStep}
pub use Rattle.problem_builder.proofs.{Steps.cells_over, TimesOf.time_of}
pub use Rattle.problem_builder.specs.{AreBranches, Filled, HasPairs, HeadsEnclose, IsBranch, IsFaultOver, IsProblemOver, branches_over, no_pair, pair_at, problem_over}
pub use Rattle.step_problem.specs.declared.heads.Bound.{Bound}
pub use Rattle.water_conductances.proofs.FacePairs.{face_in_bounds, pairs_enclose}
pub use Rattle.water_conductances.specs.{AreOrdered, face_formula, has_depth, pair_at_heads}
pub use Rattle.water_table.specs.declared.convertible_layers.ConvertibleLayers.{ConvertibleLayers}
