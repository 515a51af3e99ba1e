pub mod Laws
pub mod Lines
pub use Rattle.array_text.specs.Laws.{ArraysHaveForm, ArraysReadAsWritten, FreeListsReadAsWritten, LinesReadAsWritten, ListsHaveForm, WordsHaveForm}
pub use Rattle.array_text.specs.Laws.{WordsReadAsWritten}
pub use Rattle.array_text.specs.Lines.{IsLine, IsShort, IsWord, IsWordByte, Line, Reads, Takes, array_lines, control_record, in_rows, sign}
unfoldable pub use Rattle.array_text.specs.Lines.{integer_array, integer_word, left_of_lines, line_text, number_after, number_word, numbered_lines, real_array}
unfoldable pub use Rattle.array_text.specs.Lines.{row_line, row_lines, text}
