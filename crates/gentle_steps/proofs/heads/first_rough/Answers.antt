use Rattle.gentle_steps.proofs.Common.{ℕ, inr, sym, subst, MatchOption, ArePeriodTables}
use Rattle.gentle_heads.specs.{AreGentleBetween, IsFirstSteep}
use Rattle.gentle_steps.proofs.Options.{option_weaker}
use Rattle.gentle_steps.proofs.heads.first_rough.Goals as goal

pub first_steep-requires-clause-period : goal.first_steep-requires-clause-period
first_steep-requires-clause-period c =
    let s = c.requires.period.0 in
    let t = c.requires.period.1 in
    let P : ℕ → Type 0 = λ p. ArePeriodTables c.args.model.now s p c.args.period.now in
    (s, subst P (sym t.period) t)

pub returns : goal.returns
returns c =
    let m = c.args.model.now in
    let w = c.args.layers.now in
    let listed = c.args.listed.now in
    let P : ℕ → Type 0 = λ p. MatchOption c.first_steep.result (AreGentleBetween m w p listed) (IsFirstSteep m w p listed) in
    option_weaker c.first_steep.result _ _ _ _ (λ g. record { ordered = c.in_default.ensures; gentle = g }) (λ x s. inr (c.in_default.ensures, s))
    (subst P c.requires.period.1.period c.first_steep.ensures)
