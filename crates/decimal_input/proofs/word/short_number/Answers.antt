use Rattle.std.proofs.Common.{◌+◌, ◌-◌, ◌*◌, get_or, arith}
use Rattle.decimal_input.proofs.{Named.digit_small, Powers.one_digit_more_fits, Powers.power_fits_18_digits}
use Rattle.decimal_input.proofs.word.short_number.Goals as goal

pub overflow_mul-so_far : goal.overflow_mul-so_far
overflow_mul-so_far c = omega (
  arith,
  one_digit_more_fits c.loop-b.so_far 0 c.loop-b.b-index c.loop-b.invariant.short (omega arith),
  power_fits_18_digits (c.loop-b.so_far * 10 + 0) (c.loop-b.b-index + 1) (omega arith) (one_digit_more_fits c.loop-b.so_far 0 c.loop-b.b-index c.loop-b.invariant.short (omega arith)),
)

pub overflow_add-so_far : goal.overflow_add-so_far
overflow_add-so_far c =
    let small = digit_small (get_or c.args.digits.now c.loop-b.b-index 0) (c.requires.digits c.loop-b.b-index (omega arith)) in
    omega (
      arith,
      power_fits_18_digits (c.loop-b.so_far * 10 + (get_or c.args.digits.now c.loop-b.b-index 0 - 48)) (c.loop-b.b-index + 1) (omega arith)
          (one_digit_more_fits c.loop-b.so_far _ c.loop-b.b-index c.loop-b.invariant.short small),
    )

pub returns-clause-bound : goal.returns-clause-bound
returns-clause-bound c = power_fits_18_digits c.loop-b.so_far c.loop-b.b-index (omega arith) c.loop-b.invariant.short
