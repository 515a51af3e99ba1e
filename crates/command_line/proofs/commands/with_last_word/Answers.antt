use Rattle.command_line.proofs.Common.{rules, with_last_word}
use Rattle.command_line.proofs.Forms.{argument_added}
use Rattle.command_line.proofs.commands.with_last_word.Goals as goal

pub returns : goal.returns
unfolding with_last_word
returns c = argument_added _ c.args.command c.new.result c.arg.result c.new.ensures.rule (search rules) c.arg.ensures
