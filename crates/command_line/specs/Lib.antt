pub mod Commands
pub mod Wants
pub mod Ranges
pub use Rattle.command_line.specs.Commands.{HasForm, usage_line}
unfoldable pub use Rattle.command_line.specs.Commands.{batch_app, check_app, heads_app, make_app, needing, run_app, settling, spanning, with_flag}
unfoldable pub use Rattle.command_line.specs.Commands.{with_last_word, with_option, with_word, words_app, write_app}
pub use Rattle.command_line.specs.Ranges.{AreSettlersNumbers, AreTurns, IsMakeable}
pub use Rattle.command_line.specs.Wants.{AskedBatch, AskedCheck, AskedPlan, AskedText, Batch, Check, CheckConvertible, CheckPlan, CheckText, ListingOrder, Make}
pub use Rattle.command_line.specs.Wants.{Plan, Run, Wanted, Words, Write, asked_of, asked_text, batch_in, batch_of, check_by, check_in, check_of, command_in}
pub use Rattle.command_line.specs.Wants.{convertible_check_in, digits_in, file_check_in, flag_in, if_omitted, is_number, limits_in, listed_in, listing_check_in}
pub use Rattle.command_line.specs.Wants.{make_in, named_check_in, number_in, number_or, order_of_words, plan_asked, plan_check_in, plan_in, quick_if_unwatched}
pub use Rattle.command_line.specs.Wants.{rounds_in, run_by, run_in, text_check_in, text_if, turns_of, unset, wanted_by, wanted_if, watch_in, workers_in}
pub use Rattle.command_line.specs.Wants.{write_in}
