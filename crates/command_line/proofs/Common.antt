-- Names that several proofs of this crate cite, of the crates below and of its own definitions, passed on from one place. Declares nothing.
pub use Rattle.std.proofs.Common.{Bool, Err, IfOk, List, None, Ok, Option, Result, Some, [], ap, arith, codes, cond, decimal, false, inl, inr, map, refl, rules, subst, sym, true, ℕ, ◌<◌, ◌^◌, ◌∙◌}
pub use Rattle.std.proofs.Common.{◌∷◌, ◌≡◌, ◌≢◌, ◌≤◌}
pub use Rattle.std.proofs.lemmas.Bool.{and_parts, le-leb, leb-true}
pub use Rattle.std.specs.{Str.bytes_eq, Str.Parse.ParsesUnsigned, Str.Parse.digits_value}
pub use Rattle.clap.specs.Words.{AddsArg, AddsSubcommand, App, HasKind, HasMatchesOf, IsAmong, Kinds, Row, Rule, Text, app_of, fault_of, first_of, found_of, is_simple, is_simple_and_free, kind_of}
pub use Rattle.clap.specs.Words.{rule_of, subcommand_of, subcommand_rows_of, with_rule, with_subcommand}
pub use Rattle.command_line.specs.{AskedCheck, AskedText, Check, CheckPlan, CheckText, HasForm, Wanted, Words, batch_in, check_by, check_in, command_in, convertible_check_in, digits_in, file_check_in}
pub use Rattle.command_line.specs.{flag_in, if_omitted, is_number, listed_in, listing_check_in, make_in, named_check_in, number_in, number_or, order_of_words, plan_check_in, plan_in}
pub use Rattle.command_line.specs.{quick_if_unwatched, rounds_in, run_by, run_in, text_check_in, unset, wanted_if, watch_in, workers_in, write_in}
unfoldable pub use Rattle.command_line.specs.{batch_app, check_app, heads_app, make_app, needing, run_app, settling, spanning, with_flag, with_last_word, with_option, with_word, words_app, write_app}
