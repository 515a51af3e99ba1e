use Rattle.gentle_budget.proofs.Common.{◌≡◌, ◌<◌, arith, length, rules, subst, sym, one_head, IsHead, lower_at, no_bound, upper_at, Bound}
use Rattle.gentle_budget.proofs.stored.stored_pair.Goals as goal

pub stored_flow-requires-clause-new : goal.stored_flow-requires-clause-new
stored_flow-requires-clause-new c =
    let P : Bound → Type 0 = λ b. IsHead b.low × IsHead b.high in
    let head = (c.requires.listed.range c.args.cell no_bound (omega (arith, c.requires.cell, c.requires.listed.whole))).1 in
    let is : c.one_head-high.result ≡ one_head (upper_at c.args.listed.now c.args.cell) = search rules in
    subst P (sym is) (head, head)

pub stored_flow-requires-2-clause-old : goal.stored_flow-requires-2-clause-old
stored_flow-requires-2-clause-old c = c.requires.old.range c.args.cell no_bound (omega (arith, c.requires.cell, c.requires.old.whole))

pub stored_flow-requires-2-clause-new : goal.stored_flow-requires-2-clause-new
stored_flow-requires-2-clause-new c =
    let P : Bound → Type 0 = λ b. IsHead b.low × IsHead b.high in
    let head = (c.requires.listed.range c.args.cell no_bound (omega (arith, c.requires.cell, c.requires.listed.whole))).0 in
    let is : c.one_head-low.result ≡ one_head (lower_at c.args.listed.now c.args.cell) = search rules in
    subst P (sym is) (head, head)
