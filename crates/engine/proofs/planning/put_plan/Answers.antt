use Rattle.std.proofs.Common.{refl}
use Rattle.engine.proofs.planning.put_plan.Goals as goal

pub put_plan_steps-requires-clause-pairs : goal.put_plan_steps-requires-clause-pairs
put_plan_steps-requires-clause-pairs g c = λ κs h. rw c.if-task.true refl

pub put_plan_steps-requires-2-clause-pairs : goal.put_plan_steps-requires-2-clause-pairs
put_plan_steps-requires-2-clause-pairs g c = λ κs h. rw c.if-task.false refl
