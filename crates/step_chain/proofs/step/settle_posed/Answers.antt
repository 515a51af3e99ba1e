use Rattle.step_chain.proofs.Common.{List, subst, sym, true, Bound, IsBefore, Solved, AreHeadsOf, IsCertificate, lower_at, PairKind, IsPairOf, edges_by, upper_at}
use Rattle.std.proofs.lemmas.Result.{err_from_is_err_and}
use Rattle.step_chain.proofs.{Refusals.settle_fails, Limits.AreParts, Limits.is_step, Limits.leads_or_rests, Limits.led_by}
use Rattle.step_chain.proofs.step.settle_posed.Goals.{After-heads_fit}
use Rattle.step_chain.proofs.step.settle_posed.Given as given
use Rattle.step_chain.proofs.step.settle_posed.Goals as goal

pub returns-in_err-settle_by-clause-fault : goal.returns-in_err-settle_by-clause-fault
returns-in_err-settle_by-clause-fault g c =
    let p = err_from_is_err_and c.from_residual-in_err-settle_by.result c.from_residual-in_err-settle_by.ensures.1 in
    rw (p.1, p.2) (settle_fails c.args.decks.now c.args.s c.args.at c.args.old.now
    (g.S.Settler.rounds c.args.settler.now) c.args.posed.problem c.requires.problem c.args.limits c.in_ok-barrier.barrier
    c.in_ok-barrier.ensures.barrier c.in_err-settle_by.field-0.0 c.in_err-settle_by.ensures.fault)

pub returns-in_err-settle_by-clause-leads : goal.returns-in_err-settle_by-clause-leads
returns-in_err-settle_by-clause-leads g c =
    let q = err_from_is_err_and c.from_residual-in_err-settle_by.result c.from_residual-in_err-settle_by.ensures.1 in
    rw q.1 (leads_or_rests c.args.limits c.args.decks.now
    c.args.s c.args.at c.args.old.now c.args.posed.problem c.in_ok-barrier.barrier c.recall_conditions.ensures.fits
    c.in_ok-barrier.ensures.barrier c.requires.encloses
    c.settled_pair.ensures.exists c.settled_pair_encloses.ensures c.clamped_pair_encloses.ensures g.S.Settler.leads c.requires.problem _ _ c.in_err-settle_by.ensures.leads)

-- the kind of the settler's pairs
abbrev kind : given.Over → PairKind
kind g = g.S.Settler.pairs

abbrev solved : (g : given.Over) (c : goal.After-heads_fit g) → Solved
solved g c = record { problem = c.args.posed.problem; bounds = c.new-bounds.result; heads = c.fill_in-heads.result }

parts : (g : given.Over) (c : goal.After-heads_fit g) → AreParts c.args.limits c.args.decks.now c.args.s c.args.at c.args.old.now
    (kind g) c.in_ok-barrier.barrier (solved g c)
parts g c =
    let S : List Bound → Type 0 = λ v. IsPairOf c.args.posed.problem (kind g) (edges_by c.args.limits c.in_ok-barrier.barrier) v in
    let C : List Bound → Type 0 = λ v. IsCertificate c.args.posed.problem c.in_ok-barrier.barrier (lower_at v) (upper_at v) in
    let H : List Bound → Type 0 = λ v. AreHeadsOf c.args.decks.now c.args.at v c.fill_in-heads.result in
    record {
      problem = c.requires.problem;
      of_problem = c.in_ok-barrier.ensures.barrier;
      pair = subst S (sym c.new-bounds.ensures) c.in_ok-settle_by.ensures.pair;
      certificate = subst C (sym c.new-bounds.ensures) c.in_ok-settle_by.ensures.certificate;
      heads = subst H c.as_slice.ensures c.fill_in-heads.ensures;
    }

before : (g : given.Over) (c : goal.After-heads_fit g) → IsBefore c.args.decks.now c.args.at c.args.old.now
before g c = record { decks = c.requires.decks; time = c.requires.time; heads = c.requires.old }

pub returns-clause-heads : goal.returns-clause-heads
returns-clause-heads g c =
    let made = (goal.at.returns-clause-heads g c).After-heads_fit in
    c.heads_fit.ensures c.args.limits c.args.decks.now c.args.s c.args.at c.args.old.now (kind g) (solved g made) (before g made)
    (is_step c.args.limits c.args.decks.now c.args.s c.args.at c.args.old.now (kind g) c.in_ok-barrier.barrier (solved g made) (parts g made))

pub returns-clause-encloses : goal.returns-clause-encloses
returns-clause-encloses g c =
    let made = (goal.at.returns-clause-encloses g c).After-heads_fit in
    c.steps_enclose.ensures c.args.limits c.args.decks.now c.args.s c.args.at c.args.old.now (kind g) (solved g made) (before g made)
    (is_step c.args.limits c.args.decks.now c.args.s c.args.at c.args.old.now (kind g) c.in_ok-barrier.barrier (solved g made) (parts g made))

pub returns-clause-leads : goal.returns-clause-leads
returns-clause-leads g c =
    let made = (goal.at.returns-clause-leads g c).After-heads_fit in
    led_by c.args.limits c.args.decks.now c.args.s c.args.at c.args.old.now c.args.posed.problem c.in_ok-barrier.barrier
    c.recall_conditions.ensures.fits (parts g made).of_problem c.requires.encloses
    c.settled_pair.ensures.exists c.settled_pair_encloses.ensures c.clamped_pair_encloses.ensures g.S.Settler.leads true _ _ c.in_ok-settle_by.ensures.leads
