use Rattle.problem_hull.proofs.Common.{◌<◌, ℕ, List, All, length, sym, subst, RiverFits, EvapFits, Entries, entries_at}
use Rattle.problem_hull.proofs.Fits.{cell_has, rivers_fit, evaps_fit}
use Rattle.problem_hull.proofs.problem.hull.Goals as goal

pub first_too_large-requires-clause-rivers : goal.first_too_large-requires-clause-rivers
first_too_large-requires-clause-rivers c =
    subst (λ (r : List Entries). (k : ℕ) → k < length r → All RiverFits (entries_at r k).rivers) (sym c.deref.ensures.value)
    (λ k lt. cell_has c.args.p.now c.args.q.now c.in_ok-cells.cells.items c.recall_conditions.ensures.fits c.recall_conditions-2.ensures.fits
    c.in_ok-cells.ensures.hulls k lt (λ (x : Entries). All RiverFits x.rivers) rivers_fit)

pub first_too_large-requires-clause-evaps : goal.first_too_large-requires-clause-evaps
first_too_large-requires-clause-evaps c =
    subst (λ (r : List Entries). (k : ℕ) → k < length r → All EvapFits (entries_at r k).evaps) (sym c.deref.ensures.value)
    (λ k lt. cell_has c.args.p.now c.args.q.now c.in_ok-cells.cells.items c.recall_conditions.ensures.fits c.recall_conditions-2.ensures.fits
    c.in_ok-cells.ensures.hulls k lt (λ (x : Entries). All EvapFits x.evaps) evaps_fit)
