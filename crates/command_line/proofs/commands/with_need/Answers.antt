use Rattle.command_line.proofs.Common.{ap, needing, rules, ◌∙◌}
use Rattle.clap.specs.Simple.{app_of_fields}
use Rattle.command_line.proofs.commands.with_need.Goals as goal

pub returns : goal.returns
unfolding needing
returns c = λ form h. record { is = ap app_of_fields c.subcommand_required.ensures ∙ ap needing h.is; local = search rules }
