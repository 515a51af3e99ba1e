use Rattle.model_maker.proofs.Texts.{one_row, next_row}
use Rattle.model_maker.proofs.properties.push_hk_rows.Goals as goal

pub loop-preserved : goal.loop-preserved
loop-preserved c = record {
  text = one_row c.args.text.now.items c.loop.text.items _ c.args.size c.loop.counter c.args.draws.now.x c.loop.draws.x c.loop.invariant.text c.loop.invariant.next c.in_ok-push_hk_row.ensures.text;
  next = next_row c.args.size c.loop.counter c.args.draws.now.x c.loop.draws.x _ c.loop.invariant.next c.in_ok-push_hk_row.ensures.next;
}
