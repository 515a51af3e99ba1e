use Rattle.plan_check.proofs.Common.{List, arith, subst, sym, ℕ, ◌∙◌, ◌≡◌, err_from_is_err_and, Bound, Entries, AreWords, cell_count, cut_by, are_words, id_within, IsDifferenceProblem, AreByCell}
use Rattle.plan_check.proofs.{Holding.apart_fails, Holding.differences_hold, Holding.unbarred_fails, Holding.unheld_fails, Wider.their_cells}
use Rattle.plan_check.proofs.differences.check_differences.Goals as goal

-- the problem by both plans' bounds, as they were lent
lent_problem : (base planned p : List Entries) (xs ys xs_lent ys_lent olds : List Bound) → xs_lent ≡ xs → ys_lent ≡ ys →
    IsDifferenceProblem base planned xs_lent ys_lent olds p → IsDifferenceProblem base planned xs ys olds p
lent_problem base planned p xs ys xs_lent ys_lent olds same also is =
    let P : List Bound → Type 0 = λ bs. IsDifferenceProblem base planned bs ys_lent olds p in
    let Q : List Bound → Type 0 = λ bs. IsDifferenceProblem base planned xs bs olds p in
    subst Q also (subst P same is)

pub returns-in_err-barrier-clause-fault : goal.returns-in_err-barrier-clause-fault
returns-in_err-barrier-clause-fault c =
    let x = c.args.base.now in
    let y = c.args.planned.now in
    let q = c.in_ok-problem.problem in
    let p = err_from_is_err_and c.from_residual-in_err-barrier.result c.from_residual-in_err-barrier.ensures.1 in
    rw (p.1, p.2) (unbarred_fails c.args.task.now c.args.at x y c.args.old.now c.args.listed.now q
    (lent_problem x.problem y.problem q x.bounds y.bounds _ _ c.args.old.now c.as_slice-base_bounds.ensures c.as_slice-planned_bounds.ensures c.in_ok-problem.ensures.problem)
    c.in_err-barrier.field-0.0 c.in_err-barrier.ensures.fault)

pub returns-in-Some-clause-fault : goal.returns-in-Some-clause-fault
returns-in-Some-clause-fault c =
    let x = c.args.base.now in
    let y = c.args.planned.now in
    let q = c.in_ok-problem.problem in
    let is = lent_problem x.problem y.problem q x.bounds y.bounds _ _ c.args.old.now c.as_slice-base_bounds.ensures c.as_slice-planned_bounds.ensures c.in_ok-problem.ensures.problem in
    apart_fails c.args.task.now c.args.at x y c.args.old.now c.args.listed.now q c.in_ok-barrier.barrier is c.in_ok-barrier.ensures.barrier
    (their_cells x.problem y.problem q x.bounds y.bounds c.args.old.now is ∙ c.requires.cells) c.in-Some.cell c.in-Some.side c.in-Some.ensures

pub bounds_of-requires : goal.bounds_of-requires
bounds_of-requires c = λ k lt.
    let x = c.args.base.now in
    let y = c.args.planned.now in
    let q = c.in_ok-problem.problem in
    let is = lent_problem x.problem y.problem q x.bounds y.bounds _ _ c.args.old.now c.as_slice-base_bounds.ensures c.as_slice-planned_bounds.ensures c.in_ok-problem.ensures.problem in
    omega (
      arith,
      id_within c.args.task.now.base c.args.at c.args.listed.now q (their_cells x.problem y.problem q x.bounds y.bounds c.args.old.now is ∙ c.requires.cells) k lt,
      c.requires.listed.whole,
    )

pub test_heads-requires-clause-floors : goal.test_heads-requires-clause-floors
test_heads-requires-clause-floors c = (cut_by c.args.task.now.limits c.in_ok-problem.problem c.in_ok-barrier.barrier c.in_ok-barrier.ensures.barrier).floors.whole

pub test_heads-requires-clause-ceilings : goal.test_heads-requires-clause-ceilings
test_heads-requires-clause-ceilings c = (cut_by c.args.task.now.limits c.in_ok-problem.problem c.in_ok-barrier.barrier c.in_ok-barrier.ensures.barrier).ceilings.whole

pub test_heads-requires-clause-bounds : goal.test_heads-requires-clause-bounds
test_heads-requires-clause-bounds c =
    let x = c.args.base.now in
    let y = c.args.planned.now in
    let q = c.in_ok-problem.problem in
    let is = lent_problem x.problem y.problem q x.bounds y.bounds _ _ c.args.old.now c.as_slice-base_bounds.ensures c.as_slice-planned_bounds.ensures c.in_ok-problem.ensures.problem in
    let W : List Bound → Type 0 = AreWords q in
    subst W (sym (c.as_slice-lent.ensures.value ∙ c.in_ok-bounds.ensures)) (are_words c.args.task.now.base c.args.at c.args.listed.now q
    (their_cells x.problem y.problem q x.bounds y.bounds c.args.old.now is ∙ c.requires.cells) c.requires.listed)

pub by_cell-requires : goal.by_cell-requires
by_cell-requires c = λ k lt.
    let x = c.args.base.now in
    let y = c.args.planned.now in
    let q = c.in_ok-problem.problem in
    let is = lent_problem x.problem y.problem q x.bounds y.bounds _ _ c.args.old.now c.as_slice-base_bounds.ensures c.as_slice-planned_bounds.ensures c.in_ok-problem.ensures.problem in
    omega (
      arith,
      id_within c.args.task.now.base c.args.at c.args.listed.now q (their_cells x.problem y.problem q x.bounds y.bounds c.args.old.now is ∙ c.requires.cells) k lt,
      c.cell_count-count.ensures.count,
    )

pub returns-in-Err-clause-fault : goal.returns-in-Err-clause-fault
returns-in-Err-clause-fault c =
    let x = c.args.base.now in
    let y = c.args.planned.now in
    let q = c.in_ok-problem.problem in
    let is = lent_problem x.problem y.problem q x.bounds y.bounds _ _ c.args.old.now c.as_slice-base_bounds.ensures c.as_slice-planned_bounds.ensures c.in_ok-problem.ensures.problem in
    rw c.in_part.ensures (unheld_fails c.args.task.now c.args.at x y c.args.old.now c.args.listed.now q c.in_ok-barrier.barrier is c.in_ok-barrier.ensures.barrier
    (their_cells x.problem y.problem q x.bounds y.bounds c.args.old.now is ∙ c.requires.cells) c.in_default.ensures c.in_ok-bounds.bounds.items c.as_slice-lent.result.now
    c.as_slice-lent.ensures.value c.in_ok-bounds.ensures c.in-Err.fault c.in-Err.ensures.fails)

pub returns-in_ok-heads-in-Ok-clause-step : goal.returns-in_ok-heads-in-Ok-clause-step
returns-in_ok-heads-in-Ok-clause-step c =
    let k = c.args.task.now in
    let x = c.args.base.now in
    let y = c.args.planned.now in
    let q = c.in_ok-problem.problem in
    let is = lent_problem x.problem y.problem q x.bounds y.bounds _ _ c.args.old.now c.as_slice-base_bounds.ensures c.as_slice-planned_bounds.ensures c.in_ok-problem.ensures.problem in
    let cells = their_cells x.problem y.problem q x.bounds y.bounds c.args.old.now is ∙ c.requires.cells in
    let W : List Bound → Type 0 = AreWords q in
    let words = subst W (sym (c.as_slice-lent.ensures.value ∙ c.in_ok-bounds.ensures)) (are_words k.base c.args.at c.args.listed.now q cells c.requires.listed) in
    let lent_is = c.as_slice-lent.ensures.value ∙ sym c.new-bounds.ensures in
    let N : ℕ → Type 0 = λ n. AreByCell n q c.as_slice-lent.result.now c.in_ok-heads-in-Ok.heads.items in
    let B : List Bound → Type 0 = λ bs. AreByCell (cell_count k.base.first.grid) q bs c.in_ok-heads-in-Ok.heads.items in
    let H : List Bound → Type 0 = λ hs. AreByCell (cell_count k.base.first.grid) q c.new-bounds.result hs in
    differences_hold k c.args.at x y c.args.old.now c.args.listed.now q c.in_ok-barrier.barrier is c.in_ok-barrier.ensures.barrier cells c.in_default.ensures
    c.new-bounds.result c.as_slice-lent.result.now lent_is (c.new-bounds.ensures ∙ c.in_ok-bounds.ensures) words c.in-Ok.ensures.certificate c.new-heads.result
    (subst H (sym c.new-heads.ensures) (subst B lent_is (subst N c.cell_count-count.ensures.count c.in_ok-heads-in-Ok.ensures)))
