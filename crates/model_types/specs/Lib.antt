pub mod Faces
pub mod Layers
pub mod Times
pub mod Heads
pub mod Receivers
pub mod Sources
pub mod Valid
pub mod Limits
pub use Rattle.model_types.specs.Faces.{back, cell_count, cell_number, column_of, down, face_after, face_before, faces, front, has_after, has_before, layer_of}
pub use Rattle.model_types.specs.Faces.{layer_size, left, place, place_in_layer, right, row_of, span, stride, through, up}
pub use Rattle.model_types.specs.Heads.{between_heads, head_or_kept, index_of, is_constant, is_given, is_variable, kept_head, kind_of, last_given, start_head}
pub use Rattle.model_types.specs.Heads.{variable_cells}
unfoldable pub use Rattle.model_types.specs.Heads.{constant_head, given_heads, given_in, kinds, variable_below}
pub use Rattle.model_types.specs.Layers.{bed_thickness, bottom_at, conductance, dec_at, delc_at, delr_at, gap, hani_at, has_bed, hk_at, int_at, is_active}
pub use Rattle.model_types.specs.Layers.{is_nonzero, is_ratio, lowest, no_number, one, thickness, top_at, two, vertical_conductivity, vka_at, vkcb_at}
unfoldable pub use Rattle.model_types.specs.Layers.{area, column_conductance, half, in_a_row, row_conductance, vertical_conductance, vertical_half}
pub use Rattle.model_types.specs.Limits.{most_bytes, most_cells, most_entries, most_in_row, most_layers}
pub use Rattle.model_types.specs.Receivers.{EvapSource, HasSize, IsGrid, IsHeadNumber, IsInGrid, IsNotNegative, IsPlace, IsPositive, IsThick, evap_at}
pub use Rattle.model_types.specs.Receivers.{evap_conductance, evap_source, evaporates, extinction, is_chosen, is_highest, is_int, recharge_at, recharge_flow}
pub use Rattle.model_types.specs.Receivers.{storage_capacity, storativity}
unfoldable pub use Rattle.model_types.specs.Receivers.{storage}
pub use Rattle.model_types.specs.Sources.{DrainSource, FixedSource, FlowSource, RiverSource, as_drain, as_general, as_river, as_well, cell_of, constant_faces}
pub use Rattle.model_types.specs.Sources.{drain_sources, evap_sources, fixed_sources, flow_sources, local_entries, river_sources, storage_at, variable_faces}
unfoldable pub use Rattle.model_types.specs.Sources.{entries_of}
pub use Rattle.model_types.specs.Sources.FixedSource.{FromStorage, ToConstant, ToGeneral}
pub use Rattle.model_types.specs.Sources.FlowSource.{Pumped, Received}
pub use Rattle.model_types.specs.Times.{entries, multiplier, no_period, no_stresses, period_at, steps_of}
unfoldable pub use Rattle.model_types.specs.Times.{geometric, part_passed, power, step_length, times}
pub use Rattle.model_types.specs.Valid.{AreStresses, IsBedChecked, IsBedValid, IsCellValid, IsEntryList, IsEntryValid, IsEvapValid, IsGivenList, IsGivenValid}
pub use Rattle.model_types.specs.Valid.{IsGrowing, IsLayerArray, IsModel, IsPeriod, IsTimed, number_one}
