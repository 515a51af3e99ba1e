use Rattle.command_line.proofs.Common.{Rule, Some, ap, rule_of, rules, with_flag, ◌∙◌}
use Rattle.clap.specs.declared.builder.action.ArgAction.TheVariants.{SetTrue}
use Rattle.command_line.proofs.Forms.{argument_added}
use Rattle.command_line.proofs.commands.with_flag.Goals as goal

pub returns : goal.returns
unfolding with_flag
returns c =
    let named = ap rule_of c.long.ensures ∙ ap (λ (r : Rule). record r { long = Some c.args.id.now }) c.new.ensures.rule in
    argument_added _ c.args.command c.action.result c.arg.result (ap rule_of c.action.ensures ∙ ap (λ (r : Rule). record r { action = Some SetTrue }) named) (search rules) c.arg.ensures
