use Rattle.std.proofs.Common.{rules, arith, ◌+◌, ◌%◌, ◌^◌}
use Rattle.head_table.proofs.Joining.{claims}
use Rattle.head_table.proofs.table.HeadTable.claim.Goals as goal

pub fetch_add-requires : goal.fetch_add-requires
fetch_add-requires c = let t = c.args.self.now in (search rules, omega (arith, t.words), claims _ _ _ _ _ (λ n. (n + 1) % 2 ^ 64))
