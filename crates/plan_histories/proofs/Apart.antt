-- The lists of rivers, drains and general heads hold no wells.
use Rattle.plan_histories.proofs.Common.{◌≡◌, ◌-◌, ℕ, All, List, None, Option, length, refl, subst, sym, get_or, get_or_past, inl, inr, All-nil, All-weaker, Some, All-cons, All-head, All-tail}
use Rattle.plan_histories.proofs.Common.{as_well, Entry, FlowModel, KeepsWellsApart, MembersKeepWellsApart, ReadersKeepWellsApart, cases_lt, no_period, Period, AllThree, IsEntryBetween}
use Rattle.plan_histories.proofs.Common.{IsPeriodBetween, none, next, wells, rivers, drains, generals}
use Rattle.decimal_input.specs.declared.dec.Dec.{Dec}
use Rattle.model_types.specs.{declared.grid.CellId.CellId, declared.limits.Limits.Limits}
use Rattle.list_package.specs.{IsEntry, IsListOf, kind_of, declared.entries.ListKind.ListKind, declared.entries.ListKind.TheVariants.Rivers, declared.entries.ListKind.TheVariants.Drains}
use Rattle.list_package.specs.{declared.entries.ListKind.TheVariants.Generals}
use Rattle.model_reader.proofs.{PeriodForms.IsKnown, ReadForms.read_is}
use Rattle.deck_problems.specs.{IsOf}

abbrev IsNoWell : Entry → Type 0
IsNoWell x = as_well x ≡ None

module _ (limits : Limits) (cells : ℕ) (p : Period) where
  read_apart : (k : ListKind) → ((cell : CellId) (ds : List Dec) → as_well ((kind_of k).entry cell ds) ≡ None) → (xs : List Entry) → IsListOf limits (kind_of k) cells p xs → All IsNoWell xs
  read_apart k made xs h = All-weaker (IsEntry (kind_of k) cells) IsNoWell (λ x e. subst IsNoWell (sym e.is) (made e.cell e.numbers)) xs h.entries

pub readers_apart : ReadersKeepWellsApart
readers_apart limits files name m e =
    let is = (read_is limits files name).gives m e in
    All-weaker (IsKnown limits m.grid m.ibound m.nrchop m.nevtop) KeepsWellsApart (λ p h. record {
      rivers = read_apart limits _ p Rivers (λ cell ds. refl) p.stresses.rivers (h.entries Rivers);
      drains = read_apart limits _ p Drains (λ cell ds. refl) p.stresses.drains (h.entries Drains);
      generals = read_apart limits _ p Generals (λ cell ds. refl) p.stresses.generals (h.entries Generals);
    }) m.periods is.each

entry_apart : (x y z : Entry) → IsEntryBetween x y z → IsNoWell x → IsNoWell y
entry_apart _ _ _ (wells q) e = absurd (cc)
entry_apart _ _ _ (rivers s k b) e = refl
entry_apart _ _ _ (drains s k) e = refl
entry_apart _ _ _ (generals s k) e = refl

list_apart : (xs ys zs : List Entry) → AllThree IsEntryBetween xs ys zs → All IsNoWell xs → All IsNoWell ys
list_apart _ _ _ none all = All-nil IsNoWell
list_apart _ _ _ (next {x} {y} {z} {xs} {ys} {zs} h hs) all =
    All-cons IsNoWell y ys (entry_apart x y z h (All-head IsNoWell x xs all)) (list_apart xs ys zs hs (All-tail IsNoWell x xs all))

period_apart : (p q r : Period) → IsPeriodBetween p q r → KeepsWellsApart p → KeepsWellsApart q
period_apart p q r h k = record {
  rivers = list_apart _ _ _ h.rivers k.rivers;
  drains = list_apart _ _ _ h.drains k.drains;
  generals = list_apart _ _ _ h.generals k.generals;
}

periods_apart : (ps qs rs : List Period) → AllThree IsPeriodBetween ps qs rs → All KeepsWellsApart ps → All KeepsWellsApart qs
periods_apart _ _ _ none all = All-nil KeepsWellsApart
periods_apart _ _ _ (next {x} {y} {z} {xs} {ys} {zs} h hs) all =
    All-cons KeepsWellsApart y ys (period_apart x y z h (All-head KeepsWellsApart x xs all)) (periods_apart xs ys zs hs (All-tail KeepsWellsApart x xs all))

-- a period without stresses
none_apart : KeepsWellsApart no_period
none_apart = record { rivers = All-nil IsNoWell; drains = All-nil IsNoWell; generals = All-nil IsNoWell }

period_of : (ps : List Period) → All KeepsWellsApart ps → (i : ℕ) → KeepsWellsApart (get_or ps i no_period)
period_of ps all i = elim (cases_lt i (length ps)) [
  | inl inside ↦ all i no_period inside
  | inr past ↦ subst KeepsWellsApart (sym (get_or_past ps i no_period past)) none_apart
]

by_member : (a : FlowModel) (o : Option FlowModel) (m : FlowModel) → All KeepsWellsApart a.periods → IsOf a o m → All KeepsWellsApart m.periods
by_member a None m all h = subst (λ (x : FlowModel). All KeepsWellsApart x.periods) (sym h) all
by_member a (Some b) m all h = periods_apart a.periods m.periods b.periods h.periods all

pub members_apart : MembersKeepWellsApart
members_apart d m p all h = period_of m.periods (by_member d.first d.second m all h) (p - 1)
