use Rattle.check_run.proofs.Common.{◌<◌, sym, ◌∙◌, arith, cell_count, Low, ReachesAt, constant_kind}
use Rattle.check_run.proofs.Reached.{all_reached, first_unreached, reached, reached_next, reaches}
use Rattle.check_run.proofs.constants.first_unreached.Goals as goal

pub loop-cell-init : goal.loop-cell-init
loop-cell-init c = λ d lt cell side. absurd (omega (arith, lt))

pub loop-cell-preserved : goal.loop-cell-preserved
loop-cell-preserved c =
    let ds = c.args.decks.now in
    let n = c.loop-cell.cell in
    let within : n < cell_count ds.first.grid = omega (arith, c.loop-cell-test.true, c.cell_count-count.ensures.count) in
    let kind = c.kind_at.ensures ∙ c.requires.period.1.kinds.each n within in
    reached_next ds c.args.at (ReachesAt ds c.args.at c.args.heads.now) n (λ cell k side.
    reaches ds c.args.at c.args.constant_heads.now c.args.heads.now c.requires.constant c.constant_pairs.ensures.one c.requires.decks c.requires.time n side cell
    (c.in_default.ensures (kind ∙ k) side)) c.loop-cell.invariant

pub returns-in-Some : goal.returns-in-Some
returns-in-Some c =
    let ds = c.args.decks.now in
    let n = c.loop-cell.cell in
    let within : n < cell_count ds.first.grid = omega (arith, c.loop-cell-test.true, c.cell_count-count.ensures.count) in
    let kind = sym (c.kind_at.ensures ∙ c.requires.period.1.kinds.each n within) ∙ c.in-Some.ensures.0 in
    first_unreached ds c.args.at (ReachesAt ds c.args.at c.args.heads.now) n c.in-Some.side within kind (λ h.
    c.in-Some.ensures.1 (reached ds c.args.at c.args.constant_heads.now c.args.heads.now c.requires.constant c.constant_pairs.ensures.one c.requires.decks
    c.requires.time n c.in-Some.side within (constant_kind ds.first c.args.at.period n kind) h)) (λ cell e.
    reaches ds c.args.at c.args.constant_heads.now c.args.heads.now c.requires.constant c.constant_pairs.ensures.one c.requires.decks c.requires.time n Low cell
    (c.in-Some.ensures.2 e)) c.loop-cell.invariant

pub returns : goal.returns
returns c =
    let ds = c.args.decks.now in
    all_reached ds c.args.at (ReachesAt ds c.args.at c.args.heads.now) c.loop-cell.cell (omega (arith, c.loop-cell-test.false, c.cell_count-count.ensures.count)) c.loop-cell.invariant
