pub mod Files
pub mod Folders
pub mod Puts
pub mod Memory
pub mod Names
pub mod Codes
pub mod Inputs
pub use Rattle.outside.specs.Codes.{CodeRow, IsRefusal, code_row, input_fault, refusal}
pub use Rattle.outside.specs.Files.{AgreeWith, AgreesWith, File, FileSet, FoundNames, IsAsFound, IsFound, IsNamed, IsNamedBy, IsNoLongerThan, IsOneMore}
pub use Rattle.outside.specs.Files.{IsWholeReading, MayAsk, Read, ReadState, bytes_under, reading_of, with_limit}
pub use Rattle.outside.specs.Folders.{ReadsOn}
pub use Rattle.outside.specs.Inputs.{IsReading, file_at, file_refusal}
pub use Rattle.outside.specs.Memory.{Failure, FolderState, PutsInMemory, ReadsInMemory, SinkState, kept_at, seen_in_memory}
pub use Rattle.outside.specs.Names.{FoundMay, IsGoodName, IsNameByte, TextMay, WordsMay, folder_name, is_separator}
unfoldable pub use Rattle.outside.specs.Names.{is_good_name, lines, words}
pub use Rattle.outside.specs.Puts.{InputCounts, Put, PutMakes, PutsMake, ReadCounts, Rose, Seen, failed_put, whole_put}
pub use Rattle.outside.specs.contracts.real.Accepted.{the_row, the_type}
