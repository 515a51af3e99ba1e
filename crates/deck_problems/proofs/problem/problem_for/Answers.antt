use Rattle.deck_problems.specs.{digits_of, IsBefore}
use Rattle.std.proofs.lemmas.Result.{err_from_is_err_and}
use Rattle.deck_problems.proofs.{Enclosing.second_cells, Enclosing.encloses_alone, Enclosing.problem_encloses, HullFor.hull_cells, HullFor.constants_alone, HullFor.second_is, HullFor.constants_for}
use Rattle.deck_problems.proofs.{HullFor.problem_of_hull, HullFor.second_refused, HullFor.hull_refused, OneProblem.time_of_member}
use Rattle.deck_problems.proofs.problem.problem_for.Goals as goal

pub returns-in_default-clause-constant : goal.returns-in_default-clause-constant
returns-in_default-clause-constant c = constants_alone c.args.decks.now.first c.args.decks.now.second c.args.at c.in_ok-first.first.constant_heads
    c.in_default.not-Some c.in_ok-first.ensures.problem.constant

pub returns-in_default-clause-encloses : goal.returns-in_default-clause-encloses
returns-in_default-clause-encloses c = encloses_alone c.args.decks.now.first c.args.decks.now.second (digits_of c.args.tables.now.first) c.args.at c.args.old.now
    c.in_ok-first.first.problem c.in_default.not-Some c.requires.decks.first c.requires.time c.in_ok-first.ensures.problem.problem

pub second_problem-requires-clause-time : goal.second_problem-requires-clause-time
second_problem-requires-clause-time c =
    let d = c.args.decks.now in
    let b = c.in-Some.model in
    time_of_member d.first b (second_cells d.first b (second_is d b c.in-Some.is c.requires.decks)) c.args.at c.requires.time

pub returns-in_err-second-clause-fault : goal.returns-in_err-second-clause-fault
returns-in_err-second-clause-fault c =
    let p = err_from_is_err_and c.from_residual-in_err-second.result c.from_residual-in_err-second.ensures.1 in
    rw (p.1, p.2) (second_refused c.args.decks.now c.in-Some.model c.in-Some.is
    (digits_of c.args.tables.now.first) c.args.at c.args.old.now c.in_ok-first.first.problem c.in_ok-first.ensures.problem.problem c.in_err-second.field-0.0
    c.in_err-second.ensures.fault)

pub hull_problem-requires : goal.hull_problem-requires
hull_problem-requires c =
    let d = c.args.decks.now in
    let b = c.in-Some.model in
    record {
      alike = c.problems_are_alike.ensures d.first b
          (digits_of c.args.tables.now.first) c.args.at c.args.old.now c.in_ok-first.first.problem c.in_ok-second.second.problem c.requires.decks.first
          (second_is d b c.in-Some.is c.requires.decks).alike
          c.in_ok-first.ensures.problem.problem c.in_ok-second.ensures.problem.problem;
    }

pub returns-in_err-problem-clause-fault : goal.returns-in_err-problem-clause-fault
returns-in_err-problem-clause-fault c =
    let p = err_from_is_err_and c.from_residual-in_err-problem.result c.from_residual-in_err-problem.ensures.1 in
    rw (p.1, p.2) (hull_refused c.args.decks.now c.in-Some.model c.in-Some.is (digits_of c.args.tables.now.first) c.args.at c.args.old.now c.in_ok-first.first.problem c.in_ok-second.second.problem
    c.in_ok-first.ensures.problem.problem c.in_ok-second.ensures.problem.problem c.in_err-problem.field-0.0 c.in_err-problem.ensures.fault)

pub returns-clause-constant : goal.returns-clause-constant
returns-clause-constant c =
    constants_for c.args.decks.now c.in-Some.model c.in-Some.is c.args.at c.in_ok-first.first.constant_heads c.in_ok-second.second.constant_heads c.hull_bounds.result c.requires.decks
    c.in_ok-first.ensures.problem.constant c.in_ok-second.ensures.problem.constant (rw c.as_slice.ensures at c.hull_bounds.ensures)

pub returns-clause-cells : goal.returns-clause-cells
returns-clause-cells c = hull_cells c.args.decks.now.first c.args.at c.in_ok-first.first.problem c.in_ok-second.second.problem c.in_ok-problem.problem
    c.in_ok-problem.ensures.hull c.in_ok-first.ensures.problem.cells

pub returns-clause-problem : goal.returns-clause-problem
returns-clause-problem c =
    problem_of_hull c.args.decks.now c.in-Some.model c.in-Some.is
    (digits_of c.args.tables.now.first) c.args.at c.args.old.now c.in_ok-first.first.problem c.in_ok-second.second.problem c.in_ok-problem.problem
    c.in_ok-first.ensures.problem.problem c.in_ok-second.ensures.problem.problem c.in_ok-problem.ensures.hull c.recall_conditions.ensures.fits

pub returns-clause-encloses : goal.returns-clause-encloses
returns-clause-encloses c =
    let before : IsBefore c.args.decks.now c.args.at c.args.old.now = record { decks = c.requires.decks; time = c.requires.time; heads = c.requires.old } in
    problem_encloses c.args.decks.now (digits_of c.args.tables.now.first) c.args.at c.args.old.now c.in_ok-problem.problem before (returns-clause-problem c)
