use Rattle.zone_flows.proofs.Common.{pos, Fixed, Storage, kind_faces}
use Rattle.zone_flows.proofs.Tables.{one_more}
use Rattle.zone_flows.proofs.faces.add_fixed.Goals as goal

-- stands for an entry past the end
abbrev no_fixed : Fixed
no_fixed = record { kind = Storage; source = 0; lo = 0; hi = 0; head_lo = pos 0; head_hi = pos 0 }

pub loop-x-preserved : goal.loop-x-preserved
loop-x-preserved c = one_more (λ (x : Fixed).
    kind_faces c.args.walk.now x.kind c.args.id x.source x.lo x.hi) c.args.fixed.now c.loop-x.x-index c.args.table.now.map c.loop-x.table.map c.loop-x.invariant
    no_fixed _ c.loop-x-test.true c.in_ok-add_constant.ensures
