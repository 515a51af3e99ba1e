use Rattle.gentle_heads.proofs.Common.{inl, inr, true, sym, ◌∙◌, true≢false}
use Rattle.gentle_heads.proofs.branch.falls_from.Goals as goal

pub returns-then-is_convertible : goal.returns-then-is_convertible
returns-then-is_convertible c =
    let e = sym c.is_convertible.ensures ∙ c.if-is_convertible.true in (
      λ t. inr (c.falls_to.ensures.0 t),
      λ f. elim f [ inl confined ↦ absurd (true≢false (sym e ∙ confined)) | inr k ↦ c.falls_to.ensures.1 k ],
    )
