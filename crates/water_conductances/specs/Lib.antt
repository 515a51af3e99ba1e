pub mod Spans
pub mod Faces
pub use Rattle.water_conductances.specs.Faces.{AreOrdered, PairsEnclose, bed_below, column_half, face_formula, formula_of, layer_half, pair_at_heads, row_half}
pub use Rattle.water_conductances.specs.Spans.{has_depth, least_units, most_units, saturated_span}
unfoldable pub use Rattle.water_conductances.specs.Spans.{span_of_units}
