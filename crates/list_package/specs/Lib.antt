pub mod Kinds
pub mod Entries
pub mod Headers
pub mod Laws
pub use Rattle.list_package.specs.Entries.{given_heads, is_growing, is_left_out, is_level, list_of, no_marks, test_result, without_state}
unfoldable pub use Rattle.list_package.specs.Entries.{cell_at, entry_at, entry_of, list_at, lists_of, new_list, package_of, period_at, periods_of}
pub use Rattle.list_package.specs.Headers.{count_of, has_parameters, is_reused}
unfoldable pub use Rattle.list_package.specs.Headers.{header_of, item_line}
pub use Rattle.list_package.specs.Kinds.{Differ, IsEntry, IsListOf, Kind, column_fault, columns_of, entries_in, entry_with, first_fault, kind_of, or_later}
pub use Rattle.list_package.specs.Kinds.{with_entries, with_list}
pub use Rattle.list_package.specs.Laws.{ListsKeepLimits}
