use Rattle.gentle_heads.proofs.Common.{FitsSigned, rules, ◌≡◌, ◌^◌, ◌↔◌, ◌-ℤ◌, IsTrue, inl, inr, true, false, refl, sym, subst, ◌∙◌, false≢true, to_z-of_z, w128, share, IsDec, number, AtMost}
use Rattle.gentle_heads.proofs.Common.{bottom_at, top_at, bottom_valid, top_valid, lower_at, upper_at}
use Rattle.gentle_heads.proofs.Elevations.{fall_is}
use Rattle.gentle_heads.proofs.branch.falls_to.Goals as goal

pub is_at_or_below-requires-clause-elevation : goal.is_at_or_below-requires-clause-elevation
is_at_or_below-requires-clause-elevation c = subst IsDec (sym c.top_at.ensures) (top_valid c.args.model.now c.args.c c.requires.model)

pub is_at_or_below-requires-2-clause-elevation : goal.is_at_or_below-requires-2-clause-elevation
is_at_or_below-requires-2-clause-elevation c = subst IsDec (sym c.bottom_at.ensures) (bottom_valid c.args.model.now c.args.c c.requires.model)

pub returns-then-is_at_or_below : goal.returns-then-is_at_or_below
returns-then-is_at_or_below c =
    let fits : FitsSigned w128 c.low_of-low.result = search rules in
    let plain = simp to_z-of_z at (c.is_at_or_below.ensures.0 c.if-is_at_or_below.true) in
    let h = rw (c.top_at.ensures, c.low_of-low.ensures.value) at plain in
    (λ _. inl h, λ _. refl)

pub returns : goal.returns
returns c =
    let m = c.args.model.now in
    let l = lower_at c.args.heads.now c.args.c in
    let u = upper_at c.args.heads.now c.args.n in
    let fits : FitsSigned w128 c.low_of-low.result = search rules in
    let fits' : FitsSigned w128 c.high_of-from.result = search rules in
    let fits'' : FitsSigned w128 c.less_fall.result = search rules in
    let p = simp to_z-of_z at c.is_at_or_below.ensures in
    let q = simp to_z-of_z at c.is_at_or_below-2.ensures in
    let r = simp to_z-of_z at c.less_fall.ensures.value in
    let first : IsTrue c.is_at_or_below.result ↔ AtMost (number (top_at m c.args.c)) (share (10 ^ 9) l) = rw (c.top_at.ensures, c.low_of-low.ensures.value) at p in
    let at : c.less_fall.result ≡ l -ℤ (u -ℤ l) = r ∙ (λ i. c.low_of-low.ensures.value i -ℤ (c.high_of-from.ensures.value i -ℤ c.low_of-low.ensures.value i)) in
    let last : IsTrue c.is_at_or_below-2.result ↔ AtMost (number (bottom_at m c.args.c)) (share (10 ^ 9) (l -ℤ (u -ℤ l))) = rw (c.bottom_at.ensures, at) at q in
    let fall = fall_is (number (bottom_at m c.args.c)) l u in (
      λ t. inr (fall.0 (last.0 t)),
      λ f. elim f [
        | inl full ↦ absurd (false≢true (sym c.if-is_at_or_below.false ∙ first.1 full))
        | inr k ↦ last.1 (fall.1 k)
      ],
    )
