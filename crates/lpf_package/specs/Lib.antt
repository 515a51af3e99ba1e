pub mod Flow
pub use Rattle.lpf_package.specs.Flow.{HasFlow, SameBut, is_transient, joined_properties, nth_layer, with_contents, with_properties}
unfoldable pub use Rattle.lpf_package.specs.Flow.{contents_of, layer_at, layers_of, lpf_of, option_line, properties_of, settings_of, storage_layer}
