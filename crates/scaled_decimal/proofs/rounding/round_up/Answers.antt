use Rattle.scaled_decimal.proofs.Common.{◌≡◌, ℕ, ◌+◌, ◌/◌, ◌-◌, ◌^◌, ap, ◌∙◌, refl, arith, ints}
use Rattle.scaled_decimal.proofs.Nearest.{up_at_18, up_at_nines, up_at_19}
use Rattle.scaled_decimal.proofs.rounding.round_up.Goals as goal

pub returns-then-front-clause-nearest : goal.returns-then-front-clause-nearest
returns-then-front-clause-nearest c =
    up_at_18 _ c.args.p c.args.behind.unit c.args.behind.places c.args.e c.requires.power c.requires.digits c.requires.least
    (omega (arith, c.quotient-front.ensures)) (ap (λ (n : ℕ). n + 1) c.quotient-front.ensures) (omega (arith, ints))

pub returns-then-front-2-clause-nearest : goal.returns-then-front-2-clause-nearest
returns-then-front-2-clause-nearest c =
    up_at_nines _ c.args.p c.args.behind.unit c.args.behind.places c.args.e c.requires.power c.requires.digits c.requires.least (omega (arith, c.quotient-front.ensures)) refl (omega (arith, ints))

pub returns-else-front-2-clause-nearest : goal.returns-else-front-2-clause-nearest
returns-else-front-2-clause-nearest c =
    let other : c.args.p / c.args.behind.unit ≡ 10 ^ 18 - 1 → ⊥ = λ e. c.if-front-2.false (c.quotient-front.ensures ∙ e) in
    up_at_19 _ c.args.p c.args.behind.unit c.args.behind.places c.args.e c.requires.power c.requires.digits
    (omega (arith, other, c.quotient-front.ensures)) c.requires.most (ap (λ (n : ℕ). n / 10 + 1) c.quotient-front.ensures) (omega (arith, ints))
