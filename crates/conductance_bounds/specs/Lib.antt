pub mod Terms
pub mod Intervals
pub mod Calls
pub mod Pairs
pub mod Branches
pub mod Parts
pub mod Formulas
pub use Rattle.conductance_bounds.specs.Branches.{area_formula, bed_of, column_exact, column_k, column_of, evap_exact, evap_formula, half_term, recharge_exact}
pub use Rattle.conductance_bounds.specs.Branches.{recharge_formula, resistance_sum, row_exact, row_of, row_term, storage_exact, storage_formula, storage_of}
pub use Rattle.conductance_bounds.specs.Branches.{storativity_exact, storativity_term, thickness_of, vertical_exact, vertical_half_of, vertical_k}
pub use Rattle.conductance_bounds.specs.Branches.{vertical_k_term, vertical_of, vertical_term}
pub use Rattle.conductance_bounds.specs.Calls.{IsBed, IsColHalf, IsHalf, IsThickness, IsVertHalf, IsZero, LiesWithin}
pub use Rattle.conductance_bounds.specs.Formulas.{AreThick, EvapsEnclose, FacesEnclose, FormulasHold, HeadsEnclose, RechargesEnclose, StoragesEnclose}
pub use Rattle.conductance_bounds.specs.Formulas.{area_term, bed_span, column_k_term, evap_term, face_term, recharge_term, storage_term, thick_span, thick_term}
unfoldable pub use Rattle.conductance_bounds.specs.Formulas.{span}
pub use Rattle.conductance_bounds.specs.Intervals.{AreBounds, IsOrdered}
unfoldable pub use Rattle.conductance_bounds.specs.Intervals.{reach}
pub use Rattle.conductance_bounds.specs.Pairs.{FlowEncloses, PairEncloses, flow, pair_below, signed_pair, small_flow, small_pair}
unfoldable pub use Rattle.conductance_bounds.specs.Pairs.{capped_flow, capped_pair, head_pair, pair, units_at}
pub use Rattle.conductance_bounds.specs.Parts.{AreFactors, IsHeadUnits, IsMultiplier, IsPassed, IsSlow, IsUsable, blend, ceiling_of, head_floor_of, is_whole}
pub use Rattle.conductance_bounds.specs.Parts.{part_term}
unfoldable pub use Rattle.conductance_bounds.specs.Parts.{factors_of, given_pair, part, power_term, sum_term}
pub use Rattle.conductance_bounds.specs.Terms.{Holds, IsBetween, Term, exact, other}
unfoldable pub use Rattle.conductance_bounds.specs.Terms.{bound}
pub use Rattle.conductance_bounds.specs.Terms.Term.{Number, Product, Quotient, Sum, Within}
