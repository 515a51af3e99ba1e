-- Each of two models that are alike lies between the two.
use Rattle.deck_span.proofs.Common.{◌≡◌, ◌*◌, ◌⊎◌, [], ◌∷◌, refl, subst, inl, inr, arith, List, length, AllZip, cases_lt, Dec, number, size, Ratio, Fraction, Entry, Given, CellId, FlowModel, Period}
use Rattle.deck_span.proofs.Common.{AllThree, none, next, IsFractionBetween, IsRatioBetween, IsDecBetween, IsSizeBetween, IsEntryBetween, IsGivenBetween, IsRateBetween, IsPeriodBetween, IsBetween}
use Rattle.deck_span.proofs.Common.{wells, rivers, drains, generals, AreGivenAlike, ArePeriodsAlike, AreAlike, AreEntriesAlike, AreRatesAlike, LiesBetween, AtMost-refl, by_lt_z, between_heads}
use Rattle.deck_span.proofs.HullBounds.{at_most_is_reflexive}
use Rattle.decimal_input.specs.Ratios.{den as ratio_den, AtMost as IsRatioAtMost}
use Rattle.model_types.specs.declared.entry.Entry.TheVariants.{Well, River, Drain, General}

-- both ends lie between
abbrev Both : {X : Type 0} → (X → X → X → Type 0) → X → X → Type 0
Both R x y = R x x y × R x y y

both_between : {X : Type 0} (R : X → X → Type 0) → ((x : X) → R x x) → (x y : X) → R x y ⊎ R y x → Both (LiesBetween R) x y
both_between R itself x y (inl h) = (record { lies = inl (itself x, h) }, record { lies = inl (h, itself y) })
both_between R itself x y (inr h) = (record { lies = inr (h, itself x) }, record { lies = inr (itself y, h) })

fractions : (f g : Fraction) → Both IsFractionBetween f g
fractions f g = grind (arith, both_between, at_most_is_reflexive, by_lt_z)

ratios : (f g : Ratio) → Both IsRatioBetween f g
ratios f g = both_between IsRatioAtMost AtMost-refl f g
    (elim (cases_lt (f.num * ratio_den g) (g.num * ratio_den f))
    [ inl h ↦ inl (record { cross = omega (arith, h) }) | inr h ↦ inr (record { cross = omega (arith, h) }) ])

decs : (x y : Dec) → Both IsDecBetween x y
decs x y = fractions (number x) (number y)

sizes : (x y : Dec) → Both IsSizeBetween x y
sizes x y = ratios (size x) (size y)

-- what holds of each two items at a place holds of the lists

module _ {X : Type 0} (R : X → X → X → Type 0) where
  by_length : ((x y : X) → Both R x y) → (xs ys : List X) → length ys ≡ length xs → AllThree R xs xs ys × AllThree R xs ys ys
  by_length each [] [] e = (none, none)
  by_length each [] (y ∷ ys) e = absurd (omega (arith, e))
  by_length each (x ∷ xs) [] e = absurd (omega (arith, e))
  by_length each (x ∷ xs) (y ∷ ys) e =
      let (first, second) = each x y in
      let (firsts, seconds) = by_length each xs ys (omega (arith, e)) in
      (next first firsts, next second seconds)

  by_items : (S : X → X → Type 0) → ((x y : X) → S x y → Both R x y) → (xs ys : List X) → AllZip S xs ys → AllThree R xs xs ys × AllThree R xs ys ys
  by_items S each [] [] h = (none, none)
  by_items S each (x ∷ xs) (y ∷ ys) (h, hs) =
      let (first, second) = each x y h in
      let (firsts, seconds) = by_items S each xs ys hs in
      (next first firsts, next second seconds)
  by_items _ each _ _ h = absurd h

entries : (x y : Entry) → AreEntriesAlike x y → Both IsEntryBetween x y
entries (Well c q₁) (Well d q₂) e =
    let same : c ≡ d = cc in
    subst (λ (k : CellId). Both IsEntryBetween (Well c q₁) (Well k q₂)) same (wells (decs q₁ q₂).0, wells (decs q₁ q₂).1)
entries (River c s₁ k₁ r₁) (River d s₂ k₂ r₂) e =
    let same : c ≡ d = cc in
    subst (λ (k : CellId). Both IsEntryBetween (River c s₁ k₁ r₁) (River k s₂ k₂ r₂)) same (rivers (decs s₁ s₂).0 (sizes k₁ k₂).0 (decs r₁ r₂).0, rivers (decs s₁ s₂).1 (sizes k₁ k₂).1 (decs r₁ r₂).1)
entries (Drain c s₁ k₁) (Drain d s₂ k₂) e =
    let same : c ≡ d = cc in
    subst (λ (k : CellId). Both IsEntryBetween (Drain c s₁ k₁) (Drain k s₂ k₂)) same (drains (decs s₁ s₂).0 (sizes k₁ k₂).0, drains (decs s₁ s₂).1 (sizes k₁ k₂).1)
entries (General c s₁ k₁) (General d s₂ k₂) e =
    let same : c ≡ d = cc in
    subst (λ (k : CellId). Both IsEntryBetween (General c s₁ k₁) (General k s₂ k₂)) same (generals (decs s₁ s₂).0 (sizes k₁ k₂).0, generals (decs s₁ s₂).1 (sizes k₁ k₂).1)
entries x y e = absurd (cc)

given_heads : (x y : Given) → AreGivenAlike x y → Both IsGivenBetween x y
given_heads x y e =
    let at = λ (part : Ratio). fractions (between_heads x part) (between_heads y part) in
    let end = decs x.ehead y.ehead in (
      record { cell = refl; alike = e; heads = λ part whole. (at part).0; end = end.0 },
      record { cell = e; alike = e; heads = λ part whole. (at part).1; end = end.1 },
    )

rates : (x y : Dec) → AreRatesAlike x y → Both IsRateBetween x y
rates x y e = (record { rate = (sizes x y).0; idle = refl; alike = e }, record { rate = (sizes x y).1; idle = e; alike = e })

periods_between : (p q : Period) → ArePeriodsAlike p q → Both IsPeriodBetween p q
periods_between p q h =
    let wells = by_items IsEntryBetween AreEntriesAlike entries p.stresses.wells q.stresses.wells h.wells in
    let rivers = by_items IsEntryBetween AreEntriesAlike entries p.stresses.rivers q.stresses.rivers h.rivers in
    let drains = by_items IsEntryBetween AreEntriesAlike entries p.stresses.drains q.stresses.drains h.drains in
    let generals = by_items IsEntryBetween AreEntriesAlike entries p.stresses.generals q.stresses.generals h.generals in
    let given = by_items IsGivenBetween AreGivenAlike given_heads p.stresses.given q.stresses.given h.given in
    let recharge = by_length IsDecBetween decs p.stresses.recharge q.stresses.recharge h.recharge in
    let surf = by_length IsDecBetween decs p.stresses.surf q.stresses.surf h.surf in
    let evtr = by_items IsRateBetween AreRatesAlike rates p.stresses.evtr q.stresses.evtr h.evtr in (
      record { same = refl; alike = h.same; wells = wells.0; rivers = rivers.0; drains = drains.0; generals = generals.0; given = given.0; recharge = recharge.0; surf = surf.0; evtr = evtr.0 },
      record { same = h.same; alike = h.same; wells = wells.1; rivers = rivers.1; drains = drains.1; generals = generals.1; given = given.1; recharge = recharge.1; surf = surf.1; evtr = evtr.1 },
    )

pub alike_between : (a b : FlowModel) → AreAlike a b → IsBetween a a b × IsBetween a b b
alike_between a b h =
    let strt = by_length IsDecBetween decs a.strt b.strt h.strt in
    let periods = by_items IsPeriodBetween ArePeriodsAlike periods_between a.periods b.periods h.periods in
    (record { same = refl; alike = h.same; strt = strt.0; periods = periods.0 }, record { same = h.same; alike = h.same; strt = strt.1; periods = periods.1 })
