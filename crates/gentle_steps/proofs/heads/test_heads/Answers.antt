use Rattle.gentle_steps.proofs.Common.{ℕ, ◌∙◌, List, ap, arith, refl, subst, sym, AreWords, Bound, Entries, err_from_is_err_and, at_constant, at_variable}
use Rattle.step_problem.specs.declared.place.Place.TheVariants.{Cell}
use Rattle.gentle_steps.proofs.{Cells.are_words, Cells.variable_place, Cells.words_are, Posing.fails_by}
use Rattle.gentle_steps.proofs.heads.test_heads.Goals as goal

pub returns-in_err-posed-clause-fails : goal.returns-in_err-posed-clause-fails
returns-in_err-posed-clause-fails c =
    let p = err_from_is_err_and c.from_residual.result c.from_residual.ensures.1 in
    rw (p.1, p.2) (fails_by c.args.model.now c.args.layers.now c.args.tables.now.digits c.args.at c.args.listed.now c.args.old.now c.in_default.ensures
    c.in_err-posed.field-0.0 c.in_err-posed.ensures.fault)

pub returns-in-Some-first_short-clause-fails : goal.returns-in-Some-first_short-clause-fails
returns-in-Some-first_short-clause-fails c =
    let x = c.in_ok-posed.posed in
    (c.in_default.ensures, at_constant x.low x.high c.in-Some-first_short.cell c.in-Some-first_short.side c.in_ok-posed.ensures.posed.sides c.in-Some-first_short.ensures refl)

pub bounds_of-requires : goal.bounds_of-requires
bounds_of-requires c = λ k lt.
    let there = variable_place c.args.model.now c.args.at c.requires.model c.in_ok-posed.posed.low c.in_ok-posed.ensures.posed.low_cells k lt in
    omega (arith, there.within, c.requires.listed.whole)

pub first_weak-requires-clause-bounds : goal.first_weak-requires-clause-bounds
first_weak-requires-clause-bounds c =
    let x = c.in_ok-posed.posed in
    c.as_slice.ensures.value ∙ c.in_ok-bounds.ensures
    ∙ words_are c.args.model.now c.args.at c.requires.model x.low c.in_ok-posed.ensures.posed.low_cells c.args.listed.now c.requires.listed

pub first_weak-requires-clause-words : goal.first_weak-requires-clause-words
first_weak-requires-clause-words c =
    let m = c.args.model.now in
    let x = c.in_ok-posed.posed in
    let cells = c.in_ok-posed.ensures.posed.low_cells in
    let W : List Bound → Type 0 = AreWords x.low in
    subst W (sym (c.as_slice.ensures.value ∙ c.in_ok-bounds.ensures ∙ words_are m c.args.at c.requires.model x.low cells c.args.listed.now c.requires.listed))
    (are_words m c.args.at c.requires.model x.low cells c.args.listed.now c.requires.listed)

pub returns-in-Some-first_weak-clause-fails : goal.returns-in-Some-first_weak-clause-fails
returns-in-Some-first_weak-clause-fails c =
    let x = c.in_ok-posed.posed in
    let id = ap (λ (e : Entries). e.id) (c.behind-posed.view_is ∙ c.cell.ensures) in (
      c.in_default.ensures,
      at_variable x.low x.high c.in-Some-first_weak.index c.in-Some-first_weak.side c.in_ok-posed.ensures.posed.sides
          c.in_default-first_short.ensures c.in-Some-first_weak.ensures (ap (λ (i : ℕ). Cell i c.in-Some-first_weak.side) id),
    )
