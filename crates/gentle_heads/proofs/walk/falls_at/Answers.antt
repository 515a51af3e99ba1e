use Rattle.std.proofs.Common.{sym, ◌∙◌}
use Rattle.gentle_heads.proofs.walk.falls_at.Goals as goal

pub returns-then-is_variable : goal.returns-then-is_variable
returns-then-is_variable c =
    let e = sym c.is_variable.ensures ∙ c.if-is_variable.true in
    (λ t v. c.falls.ensures.0 t, λ f. c.falls.ensures.1 (f e))
