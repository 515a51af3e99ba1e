-- Names that several proofs of this crate cite, of the crates below and of its own definitions, passed on from one place. Declares nothing.
pub use Rattle.std.proofs.Common.{All, Bool, List, Ok, [], arith, cond, false, length, not, pos, refl, replicate, rules, true, ℕ, ◌*◌, ◌+◌, ◌-◌, ◌∙◌, ◌≡◌}
pub use Rattle.std.specs.Prelude.{if◌then◌else◌, int_lt}
pub use Rattle.array_reader.specs.{integer, number, number_at, real_layer, zero_list}
pub use Rattle.lpf_package.specs.{HasFlow, SameBut, is_transient, joined_properties, nth_layer, with_contents}
unfoldable pub use Rattle.lpf_package.specs.{contents_of, layer_at, layers_of, lpf_of, option_line, properties_of, settings_of, storage_layer}
pub use Rattle.outside.specs.{FileSet, words}
pub use Rattle.record_lines.proofs.Forward.{begun_held, line_held, rest_has_its_lines}
pub use Rattle.record_lines.proofs.Readings.{counted_gives, gives_only_less, goes_on, if_clear, ok_gives_only, some_give, then_}
pub use Rattle.record_lines.specs.{GivesOnly, Left, LineMay, LinesMay, Numbered, each_number, left_from, without_comments}
