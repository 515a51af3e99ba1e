use Rattle.scaled_decimal.proofs.Common.{ℕ, ◌/◌, ap, arith, ints}
use Rattle.scaled_decimal.proofs.Nearest.{down_at_18, down_at_19}
use Rattle.scaled_decimal.proofs.rounding.round_dn.Goals as goal

pub returns-then-front-lt-LIMIT-clause-nearest : goal.returns-then-front-lt-LIMIT-clause-nearest
returns-then-front-lt-LIMIT-clause-nearest c =
    down_at_18 _ c.args.q c.args.behind.unit c.args.behind.places c.args.e c.requires.power c.requires.least (omega (arith, c.quotient-front.ensures)) c.quotient-front.ensures (omega (arith, ints))

pub returns-else-front-lt-LIMIT-clause-nearest : goal.returns-else-front-lt-LIMIT-clause-nearest
returns-else-front-lt-LIMIT-clause-nearest c =
    down_at_19 _ c.args.q c.args.behind.unit c.args.behind.places c.args.e c.requires.power (omega (arith, c.quotient-front.ensures)) c.requires.most
    (ap (λ (n : ℕ). n / 10) c.quotient-front.ensures) (omega (arith, ints))
