use Rattle.conductance_bounds.proofs.Common.{◌-◌, ◌^◌, arith, value}
use Rattle.conductance_bounds.proofs.{Capped.none_below, Capped.some_below, LayerBounds.Passes-less, LayerBounds.Reaches-passes, LayerBounds.ceiling-passes}
use Rattle.conductance_bounds.proofs.pair.rounded_pair.Goals as goal

pub returns-in_default : goal.returns-in_default
returns-in_default c = record {
  bounds = (λ t p.
      none_below t c.args.s (2 ^ 60 - 1) c.args.x p
      (Passes-less (2 ^ 126 - 1) (2 ^ 60 - 1) (value c.args.x.hi) c.args.s (omega arith) c.in_default.ensures.value));
}

pub returns-in_default-floor_units : goal.returns-in_default-floor_units
returns-in_default-floor_units c = record {
  bounds = (λ t p. none_below t c.args.s (2 ^ 60 - 1) c.args.x p (Reaches-passes (2 ^ 126) (2 ^ 60 - 1) (value c.args.x.lo) (value c.args.x.hi) c.args.s
      (omega arith) c.requires.ordered.order c.in_default-floor_units.ensures.value));
}

pub returns-then-high-lt-TOO_LARGE : goal.returns-then-high-lt-TOO_LARGE
returns-then-high-lt-TOO_LARGE c = record {
  bounds =
      (λ t p. some_below t c.args.s (2 ^ 60) c.in-Some-floor_units.low c.in-Some.high c.args.x p c.in-Some-floor_units.ensures.value.0 c.in-Some.ensures.value.0
      c.if-high-lt-TOO_LARGE.true);
}

pub returns-else-high-lt-TOO_LARGE : goal.returns-else-high-lt-TOO_LARGE
returns-else-high-lt-TOO_LARGE c = record {
  bounds = (λ t p. none_below t c.args.s (2 ^ 60 - 1) c.args.x p
      (ceiling-passes c.in-Some.high (2 ^ 60 - 1) (value c.args.x.hi) c.args.s (omega (arith, c.if-high-lt-TOO_LARGE.false)) c.in-Some.ensures.value.0));
}
