use Rattle.command_line.proofs.Forms.{subcommand_added}
use Rattle.command_line.proofs.commands.with_command.Goals as goal

pub returns-in-Ok : goal.returns-in-Ok
returns-in-Ok c = λ top below h s. subcommand_added c.args.command c.in-Ok.sub c.subcommand.result c.subcommand.ensures top below h (rw c.in-Ok.is at s)
