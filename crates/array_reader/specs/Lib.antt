pub mod Numbers
pub mod Control
pub mod Arrays
pub mod Seen
pub use Rattle.array_reader.specs.Arrays.{free_refusal, in_file, values_of, without_line}
unfoldable pub use Rattle.array_reader.specs.Arrays.{array_at, free_list, free_rows, integer_layer, layer_array, layer_or, layers, real_layer, reals}
unfoldable pub use Rattle.array_reader.specs.Arrays.{value_alone, value_at, zero_at, zero_list, zero_step}
pub use Rattle.array_reader.specs.Control.{ControlMay, at_line, constant, internal, named, number_code, of_keyword}
unfoldable pub use Rattle.array_reader.specs.Control.{control_at, format_at, keyword, number_at}
pub use Rattle.array_reader.specs.Numbers.{IntegersFollowGrammar, Kind, NumbersFollowGrammar, ProductsAreExact, is_exponent, is_short, number_or_fault, or_bad}
pub use Rattle.array_reader.specs.Numbers.{real, spelt_number, whole, with_multiplier}
unfoldable pub use Rattle.array_reader.specs.Numbers.{canonical, integer, integer_product, integer_scaled, multiplied_value, number, product, scaled_value}
unfoldable pub use Rattle.array_reader.specs.Numbers.{significant, zeros}
pub use Rattle.array_reader.specs.Seen.{Has_good, control_of}
