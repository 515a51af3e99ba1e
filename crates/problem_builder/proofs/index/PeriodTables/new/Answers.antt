use Rattle.problem_builder.proofs.Common.{ℕ, subst, ap, ◌∙◌, refl, arith, no_bound, NoFlow, Period, cell_count, entries_of, entries, AreLocalBounds, local_in, ◌≡◌, ◌-◌, Filled, IsKind, IsIndex}
use Rattle.problem_builder.proofs.Common.{IsKept, AreEvenStorages}
use Rattle.problem_builder.proofs.{CellTables.kinds_filled, PeriodMade.filled_as, PeriodMade.named_as, PeriodMade.period_as, ValidEntries.entries_in}
use Rattle.problem_builder.proofs.index.PeriodTables.new.Goals as goal

pub of_period-requires-clause-entries : goal.of_period-requires-clause-entries
of_period-requires-clause-entries c = entries_in c.args.model.now c.in_ok-next.next.period c.cell_count-count.result _ c.requires.model (
  omega (arith, c.in_ok-next.ensures.period),
  omega (arith, c.in_ok-next.ensures.period, c.requires.period),
) c.stress_period-period.ensures c.cell_count-count.ensures.count

pub even_storages-requires-clause-kinds : goal.even_storages-requires-clause-kinds
even_storages-requires-clause-kinds c =
    let m = c.args.model.now in
    let p = c.in_ok-next.next.period in
    filled_as (IsKind m p) NoFlow (cell_count m.grid) _ _ (c.as_slice-2.ensures ∙ c.new.ensures) (kinds_filled m p _ c.in_ok-kinds.ensures)

pub returns-clause-storage : goal.returns-clause-storage
returns-clause-storage c =
    let t = c.args.tables.now in
    subst (λ (q : ℕ). AreEvenStorages c.args.model.now t.digits q c.in_ok-made-4.field-0) c.in_ok-next.ensures.period c.in_ok-made-4.ensures

pub returns-clause-tables : goal.returns-clause-tables
returns-clause-tables c =
    let m = c.args.model.now in
    let n = cell_count m.grid in
    let s = c.args.tables.now.digits in
    let p = c.in_ok-next.next.period in
    let per = c.stress_period-period.ensures in
    let count = c.cell_count-count.ensures.count in
    let before : c.args.given.now.period ≡ p - 1 = omega (arith, c.in_ok-next.ensures.period) in
    period_as m s _ p _ c.in_ok-next.ensures.period (record {
      period = refl;
      steady = ap (λ (x : Period). x.steady) per;
      kinds = filled_as (IsKind m p) NoFlow n _ _ c.new.ensures (kinds_filled m p _ c.in_ok-kinds.ensures);
      index = filled_as (IsIndex m p) 0 n _ _ c.new-2.ensures c.in_ok-index.ensures;
      given = named_as _ _ _ _ _ (c.as_slice.ensures ∙ ap (λ (x : Period). x.stresses.given) per) count c.in_ok-made.ensures;
      kept = subst (λ (q : ℕ). Filled (IsKept m q) no_bound n c.new-3.result) before (filled_as (IsKept m c.args.given.now.period) no_bound n _ _ c.new-3.ensures c.in_ok-kept.ensures);
      locals = c.in_ok-local.ensures.len ∙ count;
      local = (λ d. subst (λ (x : Period). AreLocalBounds s d (local_in c.in_ok-local.local d) (entries_of d (entries x))) per (c.in_ok-local.ensures.are d));
      recharge = c.in_ok-made-2.ensures;
      evaps = c.in_ok-made-3.ensures;
    })
