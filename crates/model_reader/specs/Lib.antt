pub mod Model
pub use Rattle.model_reader.specs.Model.{needed_file, stress_in, stress_of, stresses, where_named}
unfoldable pub use Rattle.model_reader.specs.Model.{bas_in, basics_tested, dis_in, file_in, lpf_in, model_of, names_in, reads, with_stresses}
