use Rattle.deck_problems.proofs.Common.{ℕ, subst, time_of, IsBuilt}
use Rattle.deck_problems.proofs.problem.model_problem.Goals as goal

pub go_to-requires-clause-first : goal.go_to-requires-clause-first
go_to-requires-clause-first c = (time_of c.args.model.now c.args.at c.requires.model c.requires.time).period.0

pub go_to-requires-clause-last : goal.go_to-requires-clause-last
go_to-requires-clause-last c = (time_of c.args.model.now c.args.at c.requires.model c.requires.time).period.1

pub returns-clause-problem : goal.returns-clause-problem
returns-clause-problem c =
    let P : ℕ → Type 0 = λ s. IsBuilt c.args.model.now s c.args.at c.args.old.now c.in_ok-problem.problem in
    let built = subst P c.go_to.ensures.digits c.in_ok-problem.ensures.built in
    record {
      problem = built.problem;
      constant = c.in_ok-step.ensures.heads;
      cells = record { cells = built.cells; named = built.named };
      encloses = built.encloses;
    }
