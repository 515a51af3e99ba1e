use Rattle.problem_builder.proofs.Common.{ap, cond, last_given, no_bound, take, kept_bound, sym, ◌∙◌}
use Rattle.problem_builder.proofs.{CellTables.last_at, BoundsOf.last_head}
use Rattle.problem_builder.proofs.given.kept_pair_at.Goals as goal

pub kept_pair-requires-clause-strt : goal.kept_pair-requires-clause-strt
kept_pair-requires-clause-strt c = (c.requires.model.cells c.args.cell c.requires.cell (sym c.if-not-is_active.ensures)).strt

pub kept_pair-requires-clause-last : goal.kept_pair-requires-clause-last
kept_pair-requires-clause-last c =
    last_head c.args.model.now c.args.given.now.period c.args.cell _ c.requires.model (c.at.ensures ∙ last_at c.args.model.now c.args.given.now c.args.cell c.requires.given c.requires.cell)

pub returns : goal.returns
returns c =
    let m = c.args.model.now in
    let active = sym c.if-not-is_active.ensures in
    let last = c.at.ensures ∙ last_at m c.args.given.now c.args.cell c.requires.given c.requires.cell in
    c.kept_pair.ensures ∙ ap (kept_bound m c.args.cell) last ∙ ap (λ b. cond b (kept_bound m c.args.cell (last_given (take c.args.given.now.period m.periods) c.args.cell)) no_bound) (sym active)

pub returns-then-not-is_active : goal.returns-then-not-is_active
returns-then-not-is_active c =
    let m = c.args.model.now in
    ap (λ b. cond b (kept_bound m c.args.cell (last_given (take c.args.given.now.period m.periods) c.args.cell)) no_bound) c.if-not-is_active.ensures
