use Rattle.check_run.proofs.Common.{◌∙◌, List, subst, sym, arith, err_from_is_err_and, Bound, AreWords, digits_of, cut_by}
use Rattle.check_run.proofs.{HeadsChecked.are_checked, HeadsChecked.failing_fails, HeadsChecked.short_fails, HeadsChecked.unposed_fails, RunText.are_words, RunText.id_within}
use Rattle.check_run.proofs.heads.check_heads.Goals as goal

pub returns-in_err-posed-clause-fault : goal.returns-in_err-posed-clause-fault
returns-in_err-posed-clause-fault c =
    let p = err_from_is_err_and c.from_residual.result c.from_residual.ensures.1 in
    rw (p.1, p.2) (unposed_fails c.args.limits c.args.decks.now (digits_of c.args.tables.now.first) c.args.at c.args.old.now c.args.heads.now
    c.in_err-posed.field-0.0 c.in_err-posed.ensures.fault)

pub returns-in-Some-clause-fault : goal.returns-in-Some-clause-fault
returns-in-Some-clause-fault c =
    short_fails c.args.limits c.args.decks.now (digits_of c.args.tables.now.first) c.args.at c.args.old.now c.in_ok-posed.posed c.in_ok-posed.ensures.posed
    c.args.heads.now c.in-Some.cell c.in-Some.side c.in-Some.ensures

pub bounds_of-requires : goal.bounds_of-requires
bounds_of-requires c = λ k lt. omega (arith, id_within c.args.decks.now c.args.at c.args.heads.now c.in_ok-posed.posed.problem c.in_ok-posed.ensures.posed.cells k lt, c.requires.heads.whole)

pub test_heads-requires-clause-floors : goal.test_heads-requires-clause-floors
test_heads-requires-clause-floors c = let posed = c.in_ok-posed.ensures.posed in (cut_by c.args.limits c.in_ok-posed.posed.problem c.in_ok-posed.posed.barrier posed.posed.barrier).floors.whole

pub test_heads-requires-clause-ceilings : goal.test_heads-requires-clause-ceilings
test_heads-requires-clause-ceilings c = let posed = c.in_ok-posed.ensures.posed in (cut_by c.args.limits c.in_ok-posed.posed.problem c.in_ok-posed.posed.barrier posed.posed.barrier).ceilings.whole

pub test_heads-requires-clause-bounds : goal.test_heads-requires-clause-bounds
test_heads-requires-clause-bounds c =
    let x = c.in_ok-posed.posed in
    let W : List Bound → Type 0 = AreWords x.problem in
    subst W (sym (c.as_slice.ensures.value ∙ c.in_ok-bounds.ensures)) (are_words c.args.decks.now c.args.at c.args.heads.now x.problem c.in_ok-posed.ensures.posed.cells c.requires.heads)

pub returns-in_err-test_heads-clause-fault : goal.returns-in_err-test_heads-clause-fault
returns-in_err-test_heads-clause-fault c =
    let p = err_from_is_err_and c.from_residual-in_err-test_heads.result c.from_residual-in_err-test_heads.ensures.1 in
    rw (p.1, p.2) (failing_fails c.args.limits c.args.decks.now (digits_of c.args.tables.now.first) c.args.at c.args.old.now c.in_ok-posed.posed
    c.in_ok-posed.ensures.posed c.args.heads.now c.in_default.ensures c.in_ok-bounds.bounds.items c.as_slice.result.now c.as_slice.ensures.value
    c.in_ok-bounds.ensures c.in_err-test_heads.field-0.0 c.in_err-test_heads.ensures.fails)

pub returns-clause-step : goal.returns-clause-step
returns-clause-step c =
    let x = c.in_ok-posed.posed in
    let W : List Bound → Type 0 = AreWords x.problem in
    are_checked c.args.limits c.args.decks.now (digits_of c.args.tables.now.first) c.args.at c.args.old.now x c.in_ok-posed.ensures.posed c.args.heads.now
    c.in_default.ensures c.new-bounds.result c.as_slice.result.now (c.as_slice.ensures.value ∙ sym c.new-bounds.ensures) (c.new-bounds.ensures ∙ c.in_ok-bounds.ensures)
    (subst W (sym (c.as_slice.ensures.value ∙ c.in_ok-bounds.ensures)) (are_words c.args.decks.now c.args.at c.args.heads.now x.problem c.in_ok-posed.ensures.posed.cells c.requires.heads))
    c.in_ok-test_heads.ensures.certificate c.with_listed-heads.result c.with_listed-heads.ensures
