use Rattle.std.proofs.Common.{refl, arith}
use Rattle.decimal_input.proofs.Powers.{many_again, coefficient_is_trimmed, zero_behind, digits_behind, many_behind, long, shifted}
use Rattle.decimal_input.proofs.coefficient.with_digit.Goals as goal

pub returns-then-k-clause-value : goal.returns-then-k-clause-value
returns-then-k-clause-value c = λ n h. many_again c.args.k n c.args.digit c.if-k.true c.requires.digit h

pub returns-then-digit-eq0-clause-value : goal.returns-then-digit-eq0-clause-value
returns-then-digit-eq0-clause-value c = λ n h.
    let t = coefficient_is_trimmed c.args.k n c.if-k.false c.if-k-eq0.false h in
    rw c.if-digit-eq0.true (zero_behind c.args.k _ n c.if-k.false refl refl c.requires.digits t)

pub returns-then-k-ge18-clause-value : goal.returns-then-k-ge18-clause-value
returns-then-k-ge18-clause-value c = λ n h.
    let t = coefficient_is_trimmed c.args.k n c.if-k.false c.if-k-eq0.false h in
    many_behind _ n c.args.digit refl (omega (arith, long n c.args.k.digits c.args.k.zeros c.if-k-ge18.true (omega arith) t)) c.requires.digit (omega arith)

pub returns-then-digits-lt-LIMIT-clause-value : goal.returns-then-digits-lt-LIMIT-clause-value
returns-then-digits-lt-LIMIT-clause-value c = λ n h.
    let t = coefficient_is_trimmed c.args.k n c.if-k.false c.if-k-eq0.false h in
    digits_behind _ n c.args.digit refl refl (shifted n c.args.k.digits c.args.k.zeros c.pow.result c.args.digit c.pow.ensures t) (omega arith) c.requires.digit (omega arith)

pub returns-else-digits-lt-LIMIT-clause-value : goal.returns-else-digits-lt-LIMIT-clause-value
returns-else-digits-lt-LIMIT-clause-value c = λ n h.
    let t = coefficient_is_trimmed c.args.k n c.if-k.false c.if-k-eq0.false h in
    many_behind _ n c.args.digit refl (omega (arith, shifted n c.args.k.digits c.args.k.zeros c.pow.result c.args.digit c.pow.ensures t)) c.requires.digit (omega arith)
