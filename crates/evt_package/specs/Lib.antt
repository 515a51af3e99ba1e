pub mod Evaporation
pub use Rattle.evt_package.specs.Evaporation.{area_in, cell_tested, chosen_cell, column_step, column_tested, evap_fault, evaporation_arrays, in_layer}
pub use Rattle.evt_package.specs.Evaporation.{is_reached, source}
unfoldable pub use Rattle.evt_package.specs.Evaporation.{columns_tested, evt_of, has_extinction, highest_active}
