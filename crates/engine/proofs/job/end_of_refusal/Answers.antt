use Rattle.std.proofs.Common.{ap, refl}
use Rattle.engine.proofs.BatchEnds.{refusal_text}
use Rattle.run_puts.specs.declared.puts.Status.TheVariants as status
use Rattle.engine.proofs.job.end_of_refusal.Goals as goal

pub returns : goal.returns
returns c = refusal_text c.args.refusal.now c.args.text.items _ (ap status.Refused c.in_ok-copy.ensures)
    (rw (c.in_ok-extend_from_slice.ensures.items, c.as_slice.ensures.value, c.in_ok-line.ensures) refl)
