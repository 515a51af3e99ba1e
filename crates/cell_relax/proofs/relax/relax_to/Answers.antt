use Rattle.cell_relax.proofs.Common.{rules, arith, sym, ◌∙◌, subst, FitsSigned, w64, w128, ints, to_z-of_z, IsHead, IsRelaxedOn}
use Rattle.std.proofs.lemmas.Bool.{false≢true}
use Rattle.cell_relax.proofs.Relaxing.{head_turned, relax_reaches, relax_bounds, relax_end}
use Rattle.cell_relax.proofs.relax.relax_to.Goals as goal

pub balance_at-balance-requires-clause-own : goal.balance_at-balance-requires-clause-own
balance_at-balance-requires-clause-own c =
    let fits_own : FitsSigned w64 c.args.own = search rules in
    let fits_trial : FitsSigned w64 c.next-trial.result = search rules in
    let fits_at : FitsSigned w64 c.turned_head-at.result = search rules in
    let state = simp to_z-of_z at c.loop-beyond.invariant in
    let trial : IsHead c.next-trial.result = record {
      above = omega (arith, ints, c.next-trial.ensures.above, state.head.above);
      below =
          omega (arith, ints, c.next-trial.ensures.below, state.limit);
    } in
    let is = simp to_z-of_z at c.turned_head-at.ensures in
    simp to_z-of_z (subst IsHead (sym is) (head_turned c.args.side c.next-trial.result trial))

pub loop-beyond-preserved-then-lets_move : goal.loop-beyond-preserved-then-lets_move
loop-beyond-preserved-then-lets_move c =
    let fits_own : FitsSigned w64 c.args.own = search rules in
    let fits_trial : FitsSigned w64 c.next-trial.result = search rules in
    let fits_at : FitsSigned w64 c.turned_head-at.result = search rules in
    let fits_balance : FitsSigned w128 c.balance_at-balance.result = search rules in
    let turned = simp to_z-of_z at c.turned_head-at.ensures in
    let is = simp to_z-of_z at c.balance_at-balance.ensures in
    let moves = c.lets_move.ensures.0 c.if-lets_move.true in
    let lets = simp to_z-of_z at moves in
    let state = simp to_z-of_z at c.loop-beyond.invariant in
    simp to_z-of_z (relax_reaches c.args.side c.args.p.now c.args.cell c.args.own c.args.values.now _ _ c.next-trial.result c.turned_head-at.result
    c.balance_at-balance.result state c.next-trial.ensures.above c.next-trial.ensures.below turned is lets)

pub loop-beyond-preserved : goal.loop-beyond-preserved
loop-beyond-preserved c =
    let fits_own : FitsSigned w64 c.args.own = search rules in
    let fits_trial : FitsSigned w64 c.next-trial.result = search rules in
    let fits_at : FitsSigned w64 c.turned_head-at.result = search rules in
    let fits_balance : FitsSigned w128 c.balance_at-balance.result = search rules in
    let turned = simp to_z-of_z at c.turned_head-at.ensures in
    let is = simp to_z-of_z at c.balance_at-balance.ensures in
    let state = simp to_z-of_z at c.loop-beyond.invariant in
    simp to_z-of_z (relax_bounds c.args.side c.args.p.now c.args.cell c.args.own c.args.values.now _ _ c.next-trial.result c.turned_head-at.result
    c.balance_at-balance.result state c.next-trial.ensures.above c.next-trial.ensures.below turned is (λ lets.
    let t = c.lets_move.ensures.1 (simp to_z-of_z lets) in false≢true (sym c.if-lets_move.false ∙ t)))

pub returns-clause-relaxed : goal.returns-clause-relaxed
returns-clause-relaxed c =
    let fits_own : FitsSigned w64 c.args.own = search rules in
    let fits : FitsSigned w64 c.turned_head.result = search rules in
    let state = simp to_z-of_z at c.loop-beyond.invariant in
    λ l here ends. simp to_z-of_z (subst (IsRelaxedOn c.args.side c.args.p.now l c.args.cell) (sym c.turned_head.ensures)
    (relax_end c.args.side c.args.p.now c.args.cell c.args.own c.args.values.now _ _ state (omega (arith, ints)) l here ends))
