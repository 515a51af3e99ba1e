use Rattle.command_line.specs.{settling}
use Rattle.command_line.proofs.commands.with_settling.Goals as goal

pub returns : goal.returns
unfolding settling
returns c = λ form h. c.with_flag-2.ensures _ (c.in_ok-command-4.ensures _ (c.in_ok-command-3.ensures _ (c.in_ok-command-2.ensures _ (c.in_ok-command.ensures form h))))
