use Rattle.command_line.specs.{heads_app}
use Rattle.command_line.proofs.commands.heads_command.Goals as goal

pub returns : goal.returns
unfolding heads_app
returns c =
    let run = c.in_ok-command.ensures _ _ (record { is = c.new.ensures.app; local = c.new.ensures.local }) c.run_command.ensures in
    let check = c.in_ok-command-2.ensures _ _ run c.check_command.ensures in
    let make = c.in_ok-command-3.ensures _ _ check c.make_command.ensures in
    let batch = c.in_ok-command-4.ensures _ _ make c.batch_command.ensures in
    let write = c.in_ok-command-5.ensures _ _ batch c.write_command.ensures in
    c.with_need.ensures _ (c.in_ok-command-6.ensures _ _ write c.words_command.ensures)
