pub mod Flow
pub mod Yields
pub mod Model
pub use Rattle.convertible_reader.specs.Flow.{AreLayersOf, changes_vertical, has_option, with_layer}
unfoldable pub use Rattle.convertible_reader.specs.Flow.{contents_of, convertible_lpf_of, layer_at, layer_properties, layers_of, laytyp_at, laytyp_list}
unfoldable pub use Rattle.convertible_reader.specs.Flow.{option_line, settings_of, yield_layer}
unfoldable pub use Rattle.convertible_reader.specs.Model.{convertible_lpf_in, convertible_model_of, convertible_reads}
pub use Rattle.convertible_reader.specs.Yields.{is_yield_below_0, yield_step}
unfoldable pub use Rattle.convertible_reader.specs.Yields.{yields_tested}
