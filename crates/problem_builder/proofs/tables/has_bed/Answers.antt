use Rattle.std.proofs.Common.{rules, ◌≡◌, sym, ◌∙◌}
use Rattle.problem_builder.proofs.Elevations.{no_bed_gap, same_bed_gap}
use Rattle.problem_builder.proofs.tables.has_bed.Goals as goal

pub returns-then-has_bed-clause-none : goal.returns-then-has_bed-clause-none
returns-then-has_bed-clause-none c = λ e.
    let same : c.lowest.result ≡ c.bottom_at.result = search rules in
    same_bed_gap c.args.model.now c.args.cell (sym c.lowest.ensures ∙ same ∙ c.bottom_at.ensures)

pub returns-else-has_bed-clause-none : goal.returns-else-has_bed-clause-none
returns-else-has_bed-clause-none c = λ e. no_bed_gap c.args.model.now c.args.cell (sym c.has_bed.ensures ∙ c.if-has_bed.false)
