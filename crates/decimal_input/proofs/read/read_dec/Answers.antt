use Rattle.decimal_input.proofs.Common.{◌+◌, ◌≤◌, length, arith, subst, Option, pos, neg_ℤ, ◌≤ℤ◌, Err, ints, BadNumber, Spelling, number_from, exponent_of}
use Rattle.decimal_input.proofs.{Named.IsNumber, Named.named, Named.spelling_is_of_parts, Named.start, Named.canonical_at, Spelled.names_read, Spelled.no_exponent, Spelled.no_digit}
use Rattle.decimal_input.proofs.{Products.named_value}
use Rattle.decimal_input.proofs.read.read_dec.Goals as goal

pub returns-in_default-clause-exact : goal.returns-in_default-clause-exact
returns-in_default-clause-exact c =
    let word = spelling_is_of_parts c.args.word.now c.split_sign-neg.result.1.now c.split_digits.result.0.now c.split_digits.result.1.now c.split_part.result.0.now
    c.split_part.result.1.now c.split_sign-neg.result.0
    c.split_sign-neg.ensures.sign c.split_sign-neg.ensures.rest c.split_digits.ensures.digits c.split_digits.ensures.rest c.split_part.ensures.digits c.split_part.ensures.rest in
    names_read c.args.word.now (Err BadNumber) (omega arith)
    (subst (λ (X : Option Spelling). IsNumber X (Err BadNumber)) word
    (no_exponent c.split_sign-neg.result.0 c.split_digits.result.0.now c.split_part.result.0.now
    (exponent_of c.split_part.result.1.now) c.in_default.ensures.capped))

pub returns-then-whole-part-eq0-clause-exact : goal.returns-then-whole-part-eq0-clause-exact
returns-then-whole-part-eq0-clause-exact c =
    let word = spelling_is_of_parts c.args.word.now c.split_sign-neg.result.1.now c.split_digits.result.0.now c.split_digits.result.1.now c.split_part.result.0.now
    c.split_part.result.1.now c.split_sign-neg.result.0
    c.split_sign-neg.ensures.sign c.split_sign-neg.ensures.rest c.split_digits.ensures.digits c.split_digits.ensures.rest c.split_part.ensures.digits c.split_part.ensures.rest in
    names_read c.args.word.now (Err BadNumber) (omega arith)
    (subst (λ (X : Option Spelling). IsNumber X (Err BadNumber)) word
    (no_digit c.split_sign-neg.result.0 c.split_digits.result.0.now c.split_part.result.0.now (exponent_of c.split_part.result.1.now) (omega arith)))

pub returns-clause-exact : goal.returns-clause-exact
returns-clause-exact c =
    let whole = c.split_digits.result.0.now in
    let part = c.split_part.result.0.now in
    let rest = c.split_part.result.1.now in
    let near : (neg_ℤ (pos 10000) ≤ℤ c.in-Some.exp) × (c.in-Some.exp ≤ℤ pos 10000) = c.in-Some.ensures.near in
    let low = near.0 in
    let high = near.1 in
    let room : length whole + length part ≤ 64 = omega arith in
    let value = c.with_digits-coefficient.ensures.value (number_from 0 whole) (c.with_digits.ensures.value 0 start) in
    let word = spelling_is_of_parts c.args.word.now c.split_sign-neg.result.1.now whole c.split_digits.result.1.now part rest c.split_sign-neg.result.0
    c.split_sign-neg.ensures.sign c.split_sign-neg.ensures.rest c.split_digits.ensures.digits c.split_digits.ensures.rest c.split_part.ensures.digits c.split_part.ensures.rest in
    names_read c.args.word.now c.canonical.result (omega arith)
    (subst (λ (X : Option Spelling). IsNumber X c.canonical.result) word
    (named c.split_sign-neg.result.0 whole part (exponent_of rest) c.in-Some.exp c.canonical.result room c.split_digits.ensures.all c.split_part.ensures.all (omega arith)
    c.in-Some.ensures.capped
    (canonical_at c.split_sign-neg.result.0 _ _ _ c.canonical.result (omega (arith, ints, low, high)) (c.canonical.ensures.exact _ value))))

pub returns-clause-canonical : goal.returns-clause-canonical
returns-clause-canonical c = c.canonical.ensures.number _ (c.with_digits-coefficient.ensures.value _ (c.with_digits.ensures.value 0 start))

pub returns-clause-value : goal.returns-clause-value
returns-clause-value c = named_value c.args.word.now c.canonical.result (returns-clause-exact c)
