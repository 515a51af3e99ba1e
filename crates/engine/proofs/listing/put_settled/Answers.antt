use Rattle.engine.proofs.Common.{None, Option, Some, SinkError, alone, refl}
use Rattle.outside.specs.declared.traits.SinkError.TheVariants.{Write}
use Rattle.engine.proofs.Ends.{puts_more}
use Rattle.engine.proofs.listing.put_settled.Goals as goal

pub put_steps-requires-clause-pairs : goal.put_steps-requires-clause-pairs
put_steps-requires-clause-pairs g c = λ κs h. rw c.if-task.true refl

pub returns-then-task : goal.returns-then-task
returns-then-task g c =
    let failed : Type 0 = Path (Option SinkError) None (Some Write) in
    puts_more g.K.Sink.leads c.put_steps.ensures.puts (λ more r. alone failed c.args.task.now (λ e. let bad : failed = e in cc) c.put_steps.result more r.0)

pub put_steps-requires-2-clause-pairs : goal.put_steps-requires-2-clause-pairs
put_steps-requires-2-clause-pairs g c = λ κs h. rw c.if-task.false refl

pub returns : goal.returns
returns g c =
    let failed : Type 0 = Path (Option SinkError) None (Some Write) in
    puts_more g.K.Sink.leads c.put_steps-2.ensures.puts (λ more r. alone failed c.args.task.now (λ e. let bad : failed = e in cc) c.put_steps-2.result more r.0)
