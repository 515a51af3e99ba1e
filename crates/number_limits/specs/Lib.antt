pub mod Checks
pub mod Room
pub use Rattle.number_limits.specs.Checks.{at_cell, cell_step, code_of, has_good_properties, has_head, is_checked_bed, is_thick_cell, passes}
unfoldable pub use Rattle.number_limits.specs.Checks.{check_result, fault_at}
pub use Rattle.number_limits.specs.Room.{has_room, is_head, is_one, is_positive, is_same_number, within}
unfoldable pub use Rattle.number_limits.specs.Room.{is_at_least, is_at_most, is_thick}
