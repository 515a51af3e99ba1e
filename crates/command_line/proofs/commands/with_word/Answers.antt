use Rattle.command_line.proofs.Common.{Rule, ap, rule_of, rules, true, with_word, ◌∙◌}
use Rattle.command_line.proofs.Forms.{argument_added}
use Rattle.command_line.proofs.commands.with_word.Goals as goal

pub returns : goal.returns
unfolding with_word
returns c = argument_added _ c.args.command c.required.result c.arg.result
    (ap rule_of c.required.ensures ∙ ap (λ (r : Rule). record r { required = true }) c.new.ensures.rule) (search rules) c.arg.ensures
