-- A problem has a barrier or a first cause against one, and a cut barrier or a cell without a bound: both at the least cell that has the cause.
use Rattle.step_or_refusal.proofs.Common.{◌≡◌, ℕ, ◌<◌, ◌≤◌, ◌⊎◌, inl, inr, refl, sym, subst, arith, List, length, map, ℤ, pos, neg_ℤ, cases_lt, ints, by_lt_z, Side, Low, High, IsProblem, head_limit}
use Rattle.step_or_refusal.proofs.Common.{Entries, entries_at, IsBoundOn, HasNoBound, IsOutOfRange, no_barrier_on, range_on, Nowhere, IsLeastWith, Names, IsRefusedOn, NoBound, CutBarrierOrRefusal}
use Rattle.step_or_refusal.proofs.Common.{cut_on, IsCutBoundOn, AreCutBounds, RefusesOn, Refuses, BarrierOrRefusal, range_with_len, length-map-range_with_len, get_or-map-range_with_len, head_at}
use Rattle.step_or_refusal.proofs.Common.{number_of, IsWholeSide, Decided, IsFirstBelow, first_or_none}
use Rattle.barrier_vector.proofs.{Uniques.has_a_bound, Sides.cut_nowhere_without, Sides.refused_out_of_range, Sides.side_is_whole}
use Rattle.step_problem.specs.{declared.refusal.StepRefusal.StepRefusal, declared.place.Place.TheVariants.Cell}
use Rattle.step_or_refusal.proofs.Bounds.{bound_or_none}

-- a number for each cell, as a list
module _ (n : ℕ) (P : ℕ → ℤ → Type 0) (each : (c : ℕ) → c < n → (f : ℤ) × P c f) where
  abbrev value : (c : ℕ) → (c < n) ⊎ (n ≤ c) → ℤ
  value c (inl h) = (each c h).0
  value c (inr past) = pos 0

  value_is : (c : ℕ) (w : (c < n) ⊎ (n ≤ c)) → c < n → P c (value c w)
  value_is c (inl h) k = (each c h).1
  value_is c (inr past) k = absurd (omega arith)

  abbrev value_at : ℕ → ℤ
  value_at c = value c (cases_lt c n)

  listed : (xs : List ℤ) × (length xs ≡ n) × ((c : ℕ) → c < n → P c (head_at xs c))
  listed = (
    map value_at (range_with_len 0 n),
    length-map-range_with_len value_at 0 n,
    λ c h.
        subst (P c) (sym (get_or-map-range_with_len value_at 0 n c c (pos 0) h (omega arith))) (value_is c (cases_lt c n) h),
  )

least : (p : List Entries) (P : ℕ → Type 0) (c : ℕ) → IsFirstBelow P (length p) c → IsLeastWith p P c
least p P c is = record { within = is.within; has = is.has; least = is.least }

abbrev refusal : List Entries → ℕ → ℕ → Side → NoBound
refusal p number c side = record { code = number; place = Cell (entries_at p c).id side }

out_of_range_decided : (side : Side) (f : ℤ) → Decided (IsOutOfRange side f)
out_of_range_decided Low f = by_lt_z f (neg_ℤ (pos head_limit)) (λ low. inl low) (λ le. inr (λ low. omega (arith, ints, low, le)))
out_of_range_decided High f = by_lt_z (pos head_limit) f (λ high. inl high) (λ le. inr (λ high. omega (arith, ints, high, le)))

named : (p : List Entries) (number c : ℕ) (side : Side) → Names p (refusal p number c side) number c side
named p number c side = record { code = refl; place = refl }

-- a cause that is decided at each cell refuses a problem or is nowhere
module _ (cause : Side → StepRefusal) (P : Side → ℕ → Type 0) (p : List Entries) (decided : (side : Side) (c : ℕ) → c < length p → Decided (P side c)) where
  refuses_on : (side : Side) → Nowhere p (P side) ⊎ ((n : NoBound) × RefusesOn cause P side p n)
  refuses_on side =
      elim (first_or_none (P side) (length p) (decided side)) [
        | inl (c, is) ↦ let number = number_of (cause side) in inr (refusal p number c side, (c, named p number c side, least p (P side) c is))
        | inr none ↦ inl none
      ]

  pub refuses_or_not : (Nowhere p (P Low) × Nowhere p (P High)) ⊎ ((n : NoBound) × Refuses cause P p n)
  refuses_or_not =
      elim (refuses_on Low) [
        | inr (n, is) ↦ inr (n, inl is)
        | inl low ↦ elim (refuses_on High) [
          | inr (n, is) ↦ inr (n, inr (low, is))
          | inl high ↦ inl (low, high)
        ]
      ]

no_bound_decided : (p : List Entries) → IsProblem p → (side : Side) (c : ℕ) → c < length p → Decided (HasNoBound side p c)
no_bound_decided p ok side c h = elim (bound_or_none p ok side c h) [ inl (f, is) ↦ inr (has_a_bound side p c f is) | inr none ↦ inl none ]

module _ (side : Side) (p : List Entries) (ok : IsProblem p) where
  a_bound : Nowhere p (HasNoBound side p) → (c : ℕ) → c < length p → (f : ℤ) × IsBoundOn side p c f
  a_bound held c h = elim (bound_or_none p ok side c h) [ inl some ↦ some | inr none ↦ absurd (held c h none) ]

  -- the cut bounds of the side, or its refusal at the least cell without a bound
  cut_or_refused : ((vs : List ℤ) × AreCutBounds side p vs) ⊎ ((n : NoBound) × RefusesOn no_barrier_on (λ side. HasNoBound side p) side p n)
  cut_or_refused =
      elim (refuses_on no_barrier_on (λ side. HasNoBound side p) p (no_bound_decided p ok) side) [
        | inr refused ↦ inr refused
        | inl held ↦
            let (vs, whole, are) = listed (length p) (IsCutBoundOn side p) (λ c h. let (f, is) = a_bound held c h in (cut_on side f, (f, is, refl))) in
            inl (vs, record { whole = whole; each = are })
      ]

  -- a bound in range for each cell, or the side's refusal
  whole_or_refused : ((fs : List ℤ) × IsWholeSide side p fs) ⊎ ((n : NoBound) × IsRefusedOn side p n)
  whole_or_refused =
      elim cut_or_refused [
        | inr (n, (c, name, is_least)) ↦ inr (n, (c, inl (name, is_least)))
        | inl (vs, are) ↦ elim (first_or_none (λ c. IsOutOfRange side (head_at vs c)) (length vs) (λ c h. out_of_range_decided side (head_at vs c))) [
          | inl (c, is) ↦
              let n = refusal p (number_of (range_on side)) c side in
              inr (n, refused_out_of_range side p ok vs are n c (is.within, is.has, is.least) (named p (number_of (range_on side)) c side))
          | inr none ↦ inl (vs, side_is_whole side p ok vs are none)
        ]
      ]

pub barrier_or_refusal : BarrierOrRefusal
barrier_or_refusal p ok =
    elim (whole_or_refused Low p ok) [
      | inr (n, is) ↦ inr (n, inl is)
      | inl (fs, low) ↦ elim (whole_or_refused High p ok) [
        | inr (n, is) ↦ inr (n, inr (low.held, low.in_range, is))
        | inl (cs, high) ↦ inl (
          record { floor = fs; ceiling = cs },
          record {
            fits = record { floors = low.whole; ceilings = high.whole; floor = low.head; ceiling = high.head };
            floors = low.is;
            ceilings = high.is;
          },
        )
      ]
    ]

pub cut_barrier_or_refusal : CutBarrierOrRefusal
cut_barrier_or_refusal p ok =
    elim (cut_or_refused Low p ok) [
      | inr (n, is) ↦ inr (n, inl is)
      | inl (floor, floors) ↦ elim (cut_or_refused High p ok) [
        | inr (n, is) ↦ inr (n, inr (cut_nowhere_without Low p ok floor floors, is))
        | inl (ceiling, ceilings) ↦ inl (record { floor = floor; ceiling = ceiling }, record { floors = floors; ceilings = ceilings })
      ]
    ]
