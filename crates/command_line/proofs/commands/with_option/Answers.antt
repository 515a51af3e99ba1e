use Rattle.command_line.proofs.Common.{Rule, Some, ap, rule_of, rules, with_option, ◌∙◌}
use Rattle.command_line.proofs.Forms.{argument_added}
use Rattle.command_line.proofs.commands.with_option.Goals as goal

pub returns : goal.returns
unfolding with_option
returns c = argument_added _ c.args.command c.long.result c.arg.result
    (ap rule_of c.long.ensures ∙ ap (λ (r : Rule). record r { long = Some c.args.id.now }) c.new.ensures.rule) (search rules) c.arg.ensures
