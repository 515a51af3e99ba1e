use Rattle.command_line.specs.{spanning}
use Rattle.command_line.proofs.commands.with_span.Goals as goal

pub returns : goal.returns
unfolding spanning
returns c = λ form h. c.with_option-2.ensures _ (c.in_ok-command.ensures form h)
