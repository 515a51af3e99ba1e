-- Models that are alike, or between two, stay so with the same plan's wells.
use Rattle.plan_wells.proofs.Common.{◌≡◌, refl, List, [], ◌∷◌, ◌++◌, length, sym, ap, AllZip, length_all_zip, Entry, Period, AlikeHaveOnePlan, PlannedAreAlike, PlannedLieBetween, with_wells, Well}
use Rattle.plan_wells.proofs.Common.{River, Drain, General, FlowModel}
use Rattle.deck_span.specs.{AllThree, AreEntriesAlike, ArePeriodsAlike, IsEntryBetween, IsPeriodBetween, none, next, drains, generals, rivers, wells}
use Rattle.deck_span.proofs.{HullBounds.number_itself, HullBounds.size_itself, ThreeLists.three_append}
use Rattle.decimal_input.specs.{number, size}
use Rattle.plan_wells.proofs.Added.{planned_periods}

-- each entry lies between itself and itself, and is alike itself
entry_itself : (x : Entry) → IsEntryBetween x x x
entry_itself (Well c q) = wells (number_itself (number q))
entry_itself (River c s k b) = rivers (number_itself (number s)) (size_itself (size k)) (number_itself (number b))
entry_itself (Drain c e k) = drains (number_itself (number e)) (size_itself (size k))
entry_itself (General c h k) = generals (number_itself (number h)) (size_itself (size k))

list_itself : (xs : List Entry) → AllThree IsEntryBetween xs xs xs
list_itself [] = none
list_itself (x ∷ xs) = next (entry_itself x) (list_itself xs)

alike_itself : (xs : List Entry) → AllZip AreEntriesAlike xs xs
alike_itself [] = tt
alike_itself (x ∷ xs) = (refl, alike_itself xs)

zip_append : {X : Type 0} (R : X → X → Type 0) (xs ys us vs : List X) → AllZip R xs ys → AllZip R us vs → AllZip R (xs ++ us) (ys ++ vs)
zip_append R [] [] us vs h k = k
zip_append R [] (y ∷ ys) us vs h k = absurd h
zip_append R (x ∷ xs) [] us vs h k = absurd h
zip_append R (x ∷ xs) (y ∷ ys) us vs h k = (h.0, zip_append R xs ys us vs h.1 k)

period_between : (w : List Entry) (p q r : Period) → IsPeriodBetween p q r → IsPeriodBetween (with_wells p w) (with_wells q w) (with_wells r w)
period_between w p q r h = record {
  same = h.same;
  alike = h.alike;
  wells = three_append IsEntryBetween _ _ _ _ _ _ h.wells (list_itself w);
  rivers = h.rivers;
  drains = h.drains;
  generals = h.generals;
  given = h.given;
  recharge = h.recharge;
  surf = h.surf;
  evtr = h.evtr;
}

period_alike : (w : List Entry) (p q : Period) → ArePeriodsAlike p q → ArePeriodsAlike (with_wells p w) (with_wells q w)
period_alike w p q h = record {
  same = h.same;
  wells = zip_append AreEntriesAlike _ _ _ _ h.wells (alike_itself w);
  rivers = h.rivers;
  drains = h.drains;
  generals = h.generals;
  given = h.given;
  recharge = h.recharge;
  surf = h.surf;
  evtr = h.evtr;
}

periods_between : (plan : List (List Entry)) (ps qs rs : List Period) → AllThree IsPeriodBetween ps qs rs →
    AllThree IsPeriodBetween (planned_periods ps plan) (planned_periods qs plan) (planned_periods rs plan)
periods_between plan ps qs rs none = none
periods_between [] ps qs rs (next h hs) = none
periods_between (w ∷ plan) ps qs rs (next h hs) = next (period_between w _ _ _ h) (periods_between plan _ _ _ hs)

periods_alike : (plan : List (List Entry)) (ps qs : List Period) → AllZip ArePeriodsAlike ps qs → AllZip ArePeriodsAlike (planned_periods ps plan) (planned_periods qs plan)
periods_alike plan [] [] h = tt
periods_alike plan [] (q ∷ qs) h = absurd h
periods_alike plan (p ∷ ps) [] h = absurd h
periods_alike [] (p ∷ ps) (q ∷ qs) h = tt
periods_alike (w ∷ plan) (p ∷ ps) (q ∷ qs) h = (period_alike w p q h.0, periods_alike plan ps qs h.1)

pub planned_lie_between : PlannedLieBetween
planned_lie_between plan a m b h = record { same = h.same; alike = h.alike; strt = h.strt; periods = periods_between plan a.periods m.periods b.periods h.periods }

pub planned_are_alike : PlannedAreAlike
planned_are_alike plan a b h = record { same = h.same; strt = h.strt; periods = periods_alike plan a.periods b.periods h.periods }

pub alike_have_one_plan : AlikeHaveOnePlan
alike_have_one_plan limits file bytes a b h =
    let grid : b.grid ≡ a.grid = ap (λ (x : FlowModel). x.grid) h.same in
    let many : length b.periods ≡ length a.periods = sym (length_all_zip ArePeriodsAlike a.periods b.periods h.periods) in
    rw (grid, many) refl
