pub mod Laws
pub mod Discretization
pub mod Readable
pub mod Lists
pub mod Written
pub use Rattle.dis_package.specs.{IsDiscretized, IsGridWithin, IsOfBeds}
pub use Rattle.list_package.specs.{IsEntry, IsListOf}
pub use Rattle.lpf_package.specs.{HasFlow}
pub use Rattle.model_text.specs.Discretization.{each_layer, integer_layer, layer_values, real_layer, steady_word, storage_option}
unfoldable pub use Rattle.model_text.specs.Discretization.{bas_item_1, bas_item_2, bas_item_3, bas_item_4, bas_lines, dis_item_1, dis_item_2, dis_item_3}
unfoldable pub use Rattle.model_text.specs.Discretization.{dis_item_4, dis_item_5, dis_item_6, dis_item_7, dis_lines, lpf_arrays, lpf_item_1, lpf_item_4}
unfoldable pub use Rattle.model_text.specs.Discretization.{lpf_item_5, lpf_lines, lpf_zeros}
pub use Rattle.model_text.specs.Laws.{BasReadsAsWritten, DeckNamesAreNames, DecksAreReadAgain, DisReadsAsWritten, EvtReadsAsWritten, HasLists, HasNoMark}
pub use Rattle.model_text.specs.Laws.{IsWritable, ListPackagesReadAsWritten, ListsReadAsWritten, LpfReadsAsWritten, ModelsReadAreReadAsWritten}
pub use Rattle.model_text.specs.Laws.{ModelsReadAreWritable, ModelsReadAsWritten, NoLineIsAMark, RchReadsAsWritten, ThreeCells, ZonesReadAsWritten, deck}
pub use Rattle.model_text.specs.Laws.{with_lists}
pub use Rattle.model_text.specs.Lists.{heads_of, numbers_of}
unfoldable pub use Rattle.model_text.specs.Lists.{evt_item_2, evt_items, evt_lines, list_item_2, list_item_5, list_item_6, list_lines, period_list, rch_item_2}
unfoldable pub use Rattle.model_text.specs.Lists.{rch_items, rch_lines}
pub use Rattle.model_text.specs.Readable.{HasPackage, IsBasic, LacksPackage, with_areas}
pub use Rattle.model_text.specs.Written.{AreNames, IsFileName, IsReadAgain, deck_files, deck_name, deck_names, file_type, file_unit, has, is_listed, is_mark}
pub use Rattle.model_text.specs.Written.{lines_of, name_file, package_file, packages, zone_file, zone_name, zoned_files}
unfoldable pub use Rattle.model_text.specs.Written.{deck_text, file_line, file_text, file_texts, name_item, written, zoned_text}
pub use Rattle.period_arrays.specs.{IsLayers}
