use Rattle.check_run.proofs.Common.{err_from_is_err_and, digits_of, Limits, ℕ, List, inr, Bound, Entries, TimeStep, IsUnposed, of_bound, Decks, IsProblemFor, IsBarrierFault}
use Rattle.step_problem.specs.declared.refusal.BoundFault.{BoundFault}
use Rattle.step_problem.specs.declared.refusal.BoundFault.TheVariants as bound
use Rattle.check_run.proofs.posed.pose.Goals as goal

barrier_unposed : (limits : Limits) (ds : Decks) (s : ℕ) (at : TimeStep) (old : List Bound) (p : List Entries) → IsProblemFor ds s at old p →
    (f : BoundFault) → IsBarrierFault limits p f → IsUnposed limits ds s at old (of_bound f)
barrier_unposed limits ds s at old p is (bound.NoBound n) h = inr (p, is, h)
barrier_unposed limits ds s at old p is bound.Memory h = tt

pub returns-in_err-barrier-clause-fault : goal.returns-in_err-barrier-clause-fault
returns-in_err-barrier-clause-fault c =
    let p = err_from_is_err_and c.from_residual-in_err-barrier.result c.from_residual-in_err-barrier.ensures.1 in
    rw (p.1, p.2) (barrier_unposed c.args.limits c.args.decks.now
    (digits_of c.args.tables.now.first) c.args.at c.args.old.now c.in_ok-made.made.problem c.in_ok-made.ensures.problem c.in_err-barrier.field-0.0
    c.in_err-barrier.ensures.fault)

pub returns-clause-posed : goal.returns-clause-posed
returns-clause-posed c = record {
  posed = record {
    problem = c.in_ok-made.ensures.problem;
    barrier = c.in_ok-barrier.ensures.barrier;
  };
  held = c.in_ok-barrier.ensures.held;
  solutions = c.in_ok-barrier.ensures.encloses;
  named = c.in_ok-made.ensures.cells.named;
  cells = c.in_ok-made.ensures.cells.cells;
  encloses = c.in_ok-made.ensures.encloses;
  constant = c.in_ok-made.ensures.constant;
}
