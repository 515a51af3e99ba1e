use Rattle.std.proofs.Common.{rules, ◌≡◌, arith, decimal}
use Rattle.command_line.proofs.Plain.{some_number, no_parse, other_number, number_word_is_decimal, tested}
use Rattle.command_line.proofs.numbers.read_number.Goals.{else-eq-via-then-eq+then-low-n+else-n-high, else-eq-via-then-eq+else-low-n, else-eq-via-else-eq}
use Rattle.command_line.proofs.numbers.read_number.Goals as goal

pub returns-in_default-clause-is : goal.returns-in_default-clause-is
returns-in_default-clause-is c = no_parse c.args.low c.args.high c.args.text.now _ c.parse.ensures.value.0 c.in_default.not-Ok (search rules)

pub returns-then-n-high-clause-is : goal.returns-then-n-high-clause-is
returns-then-n-high-clause-is c =
    let is : c.args.text.now ≡ decimal c.in-Ok.n = search rules in
    some_number c.args.low c.args.high c.in-Ok.n c.args.text.now is (search rules) (tested c.args.low c.args.high c.in-Ok.n c.args.text.now is c.if-low-n.true c.if-n-high.true)

pub returns-else-eq-clause-is : goal.returns-else-eq-clause-is
returns-else-eq-clause-is c = other_number c.args.low c.args.high c.in-Ok.n c.args.text.now _ c.parse.ensures.value.0 c.in-Ok.is (search rules) (λ t.
    let p = number_word_is_decimal c.args.low c.args.high c.in-Ok.n c.args.text.now t in
    let is = p.0 in
    let least = p.1 in
    let most = p.2 in
    elim c.else-eq.branch [
      | else-eq-via-then-eq+then-low-n+else-n-high w ↦ let h = w.if-n-high.false in absurd (omega (arith, h, most))
      | else-eq-via-then-eq+else-low-n w ↦ let h = w.if-low-n.false in absurd (omega (arith, h, least))
      | else-eq-via-else-eq w ↦ let h = w.if-eq.false in absurd (search (rules, h, is))
    ])
