use Rattle.model_maker.proofs.Texts.{one_value, next_value}
use Rattle.model_maker.proofs.properties.push_hk_values.Goals as goal

pub loop-place-preserved : goal.loop-place-preserved
loop-place-preserved c = record {
  text = one_value c.args.text.now.items c.loop-place.text.items _ c.loop-place.place c.args.draws.now.x c.loop-place.draws.x c.loop-place.invariant.text
      c.loop-place.invariant.next c.in_ok-push_hk.ensures.text;
  next = next_value c.loop-place.place c.args.draws.now.x c.loop-place.draws.x _ c.loop-place.invariant.next c.in_ok-push_hk.ensures.next;
}
