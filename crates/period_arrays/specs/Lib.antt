pub mod Areas
pub mod Packages
pub use Rattle.period_arrays.specs.Areas.{ArrayKind, array_or, contents, flag_if, is_layer, is_negative, is_option, layer_step, no_area, nothing_yet}
pub use Rattle.period_arrays.specs.Areas.{refusal_at, with_area}
unfoldable pub use Rattle.period_arrays.specs.Areas.{area_at, arrays_of, flag_at, flags_of, layers_at, layers_tested, option_at}
pub use Rattle.period_arrays.specs.Packages.{CoversLayer, HasArrays, IsArea, IsCellRefusal, IsInForce, IsLayers, IsReals, unit_if}
unfoldable pub use Rattle.period_arrays.specs.Packages.{arrays_in, option_line, period_at, periods_of, tested_area}
