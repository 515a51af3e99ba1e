use Rattle.std.proofs.Common.{rules, arith}
use Rattle.head_table.proofs.Joining.{splits}
use Rattle.head_table.proofs.table.HeadTable.split.Goals as goal

pub split_seat-other-requires : goal.split_seat-other-requires
split_seat-other-requires c = let t = c.args.self.now in (search rules, omega (arith, t.words), splits _ _ _ _)
