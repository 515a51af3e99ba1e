-- The command line, as clap sees it: one command with six subcommands, of which one is needed.
use Rattle.std.specs.Prelude.{◌≡◌, Some, true, false, codes, List, ℕ}
use Rattle.clap.specs.{declared.builder.action.ArgAction.TheVariants.SetTrue, declared.builder.command.Command.Command}
use Rattle.clap.specs.{declared.builder.command.Command.TheViews.out-Command as fields_of, Words.App, Words.Text, Words.app_of, Words.new_app, Words.new_rule}
use Rattle.clap.specs.{Words.with_rule, Words.with_subcommand, Simple.on_top}

-- the command with one more positional word, which must be given
unfoldable pub with_word : App → Text → App
with_word a id = with_rule a (record (new_rule id) { required = true })

-- with one more positional word, which may be omitted
unfoldable pub with_last_word : App → Text → App
with_last_word a id = with_rule a (new_rule id)

-- with one more option that has a value, and may be omitted
unfoldable pub with_option : App → Text → App
with_option a id = with_rule a (record (new_rule id) { long = Some id })

-- with one more option without a value
unfoldable pub with_flag : App → Text → App
with_flag a id = with_rule a (record (new_rule id) { long = Some id; action = Some SetTrue })

-- the command with the options of a settling: [--digits S] [--workers W] [--rounds P] [--quick] [--wide]
unfoldable pub settling : App → App
settling a =
    with_flag (with_flag (with_option (with_option (with_option a (codes "digits")) (codes "workers")) (codes "rounds")) (codes "quick")) (codes "wide")

-- the command with [--to NAME2] [--zones Z]
unfoldable pub spanning : App → App
spanning a = with_option (with_option a (codes "to")) (codes "zones")

-- run NAME [--digits S] [--workers W] [--rounds P] [--quick] [--wide] [--to NAME2] [--zones Z] [--watch N] [--deck] [--plan WELLS]
unfoldable pub run_app : App
run_app =
    with_option (with_flag (with_option (spanning (settling (with_word (new_app (codes "run")) (codes "name")))) (codes "watch")) (codes "deck"))
    (codes "plan")

-- check NAME LISTING [--digits S] [--to NAME2] [--zones Z] [--wide] [--plan WELLS], or check --deck TEXT [--digits S] [--wide], or
-- check NAME LISTING --convertible [--digits S] [--zones Z] [--wide]
unfoldable pub check_app : App
check_app =
    with_flag (with_option (with_flag (with_flag (spanning
    (with_option (with_last_word (with_word (new_app (codes "check")) (codes "name")) (codes "listing"))
    (codes "digits"))) (codes "wide")) (codes "deck")) (codes "plan")) (codes "convertible")

-- make SEED SIZE
unfoldable pub make_app : App
make_app = with_word (with_word (new_app (codes "make")) (codes "seed")) (codes "size")

-- batch LIST [--digits S] [--workers W] [--rounds P] [--quick] [--wide]
unfoldable pub batch_app : App
batch_app = settling (with_word (new_app (codes "batch")) (codes "list"))

-- write NAME [--wide]
unfoldable pub write_app : App
write_app = with_flag (with_word (new_app (codes "write")) (codes "name")) (codes "wide")

-- words
unfoldable pub words_app : App
words_app = new_app (codes "words")

-- the same command, which needs a subcommand
unfoldable pub needing : App → App
needing = on_top (λ s. record s { subcommand_required = true })

unfoldable pub heads_app : App
heads_app =
    needing (with_subcommand (with_subcommand (with_subcommand (with_subcommand
    (with_subcommand (with_subcommand (new_app (codes "heads")) run_app.top) check_app.top) make_app.top)
    batch_app.top) write_app.top) words_app.top)

-- a command of this form, none of whose arguments belongs to all subcommands
pub record HasForm (form : App) (c : Command) : Type 0 where
  pub is : app_of c ≡ form
  pub local : (fields_of c).has_globals ≡ false

-- The line where the words aren't accepted. It names neither `write NAME` and `words`, nor `--zones` and `--convertible` of `check`, nor `--to`,
-- `--deck` and `--plan` of `run` and `check`, nor `--quick` of `run` and `batch`, nor `--wide` of all commands but `make` and `words`, which are accepted too.
abbrev pub usage_line : List ℕ
usage_line = codes "USAGE: heads run NAME [--digits S] [--workers W] [--rounds P] [--zones Z] [--watch N] | heads check NAME LISTING [--digits S] | heads make SEED SIZE | heads batch LIST [--digits S] [--workers W] [--rounds P]\n"
