use Rattle.problem_builder.proofs.Common.{ap, cond, no_bound, bound_of_pair, constant_bound, given_or_kept, given_pair, kept_bound, ◌-◌, take, sym, ◌∙◌, cell_count, last_given, period_at}
use Rattle.problem_builder.proofs.{Members.constant_active, BoundsOf.given_valid}
use Rattle.problem_builder.proofs.heads.head_at.Goals as goal

pub given_head-requires-clause-start : goal.given_head-requires-clause-start
given_head-requires-clause-start c =
    let m = c.args.model.now in
    let list = (period_at m c.args.at.period).stresses.given in
    let e = sym (c.requires.period.1.given.each c.args.cell c.requires.cell) ∙ sym c.in-Some.ensures in
    (given_valid (cell_count m.grid) list c.args.cell c.in-Some.x c.requires.time.valid.stresses.given.entries e).shead

pub given_head-requires-clause-end : goal.given_head-requires-clause-end
given_head-requires-clause-end c =
    let m = c.args.model.now in
    let list = (period_at m c.args.at.period).stresses.given in
    let e = sym (c.requires.period.1.given.each c.args.cell c.requires.cell) ∙ sym c.in-Some.ensures in
    (given_valid (cell_count m.grid) list c.args.cell c.in-Some.x c.requires.time.valid.stresses.given.entries e).ehead

pub returns-in-Some : goal.returns-in-Some
unfolding constant_bound
returns-in-Some c =
    let m = c.args.model.now in
    let x = c.in-Some.x in
    let e = c.in-Some.ensures ∙ c.requires.period.1.given.each c.args.cell c.requires.cell in
    c.bound_of.ensures ∙ ap bound_of_pair (c.given_head.ensures.rounded ∙ ap (given_pair x.shead x.ehead) c.requires.part.is) ∙ ap (given_or_kept m c.args.at c.args.cell) e

pub returns-in-None : goal.returns-in-None
unfolding constant_bound
returns-in-None c =
    let m = c.args.model.now in
    let are = c.requires.period.1 in
    let e = c.in-None.ensures ∙ are.given.each c.args.cell c.requires.cell in
    c.kept_pair_at.ensures ∙ are.kept.each c.args.cell c.requires.cell
    ∙ ap (λ b. cond b (kept_bound m c.args.cell (last_given (take (c.args.at.period - 1) m.periods) c.args.cell)) no_bound) (constant_active m c.args.at.period c.args.cell c.requires.constant)
    ∙ ap (given_or_kept m c.args.at c.args.cell) e
