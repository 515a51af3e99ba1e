use Rattle.command_line.specs.{check_app}
use Rattle.command_line.proofs.commands.check_command.Goals as goal

pub returns : goal.returns
unfolding check_app
returns c = c.with_flag-3.ensures _ (c.in_ok-command-7.ensures _ (c.in_ok-command-6.ensures _ (c.in_ok-command-5.ensures _
    (c.in_ok-command-4.ensures _ (c.in_ok-command-3.ensures _
    (c.in_ok-command-2.ensures _ (c.in_ok-command.ensures _ (record { is = c.new.ensures.app; local = c.new.ensures.local }))))))))
