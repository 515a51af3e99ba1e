-- The exact budget of an exact step at heads that are fractions, and what it means that bounds enclose it (TM 6-A16, chapter 3, the volumetric budget).
use Rattle.std.specs.Prelude.{ℕ, ◌+◌, ◌<◌, List, map, length, ℤ, pos, ◌^◌, ◌+ℤ◌, ◌≤ℤ◌, if◌then◌else◌, [], ◌∷◌, Result, Ok, Err, slice_index_or}
use Rattle.std.specs.{List.filter, Int.int_min}
use Rattle.decimal_input.specs.{Fraction, whole, opposite, fraction_total, EnclosesSigned}
use Rattle.step_problem.specs.{declared.place.Dir.Dir, declared.place.Dir.TheVariants.In, declared.place.Dir.TheVariants.Out, declared.place.Term.Term}
use Rattle.step_problem.specs.{declared.place.Term.TheVariants.Storage, declared.place.Term.TheVariants.ConstantHead, declared.place.Term.TheVariants.Wells}
use Rattle.step_problem.specs.{declared.place.Term.TheVariants.Drains, declared.place.Term.TheVariants.RiverLeakage}
use Rattle.step_problem.specs.{declared.place.Term.TheVariants.HeadDepBounds, declared.place.Term.TheVariants.Recharge, declared.place.Term.TheVariants.Et}
use Rattle.step_problem.specs.{Entries.Entries, declared.heads.Bound.Bound, IsMagnitudeAtMost, IsHead, declared.place.NoBound.NoBound}
use Rattle.cell_balance.specs.{ExactFlow, ExactFixed, ExactCell, cell_at, greater, fixed_flow, river_flow, drain_flow, evap_flow, share, LiesBetween}
use Rattle.cell_balance.specs.{total_below, EnclosesStep}
use Rattle.budget_bounds.specs.{declared.pair.Budget.Budget, declared.pair.TermPair.TermPair}
use Rattle.budget_bounds.specs.Terms.{fixed_term, flow_term, is_term, bounds_in, term_limit, all_terms, is_small, no_pair, place_of, too_large, ◌>>=◌}

-- the known heads, and the constant flows, whose flows are of a term
abbrev pub exact_fixed_of : Term → List ExactFixed → List ExactFixed
exact_fixed_of t xs = filter (λ x. is_term t (fixed_term x.kind)) xs

abbrev pub exact_flows_of : Term → List ExactFlow → List ExactFlow
exact_flows_of t xs = filter (λ x. is_term t (flow_term x.kind)) xs

-- the exact single flows of a term into a cell at its head v
unfoldable pub exact_singles : Term → ExactCell → Fraction → List Fraction
exact_singles Storage c v = map (fixed_flow v) (exact_fixed_of Storage c.fixed)
exact_singles ConstantHead c v = map (fixed_flow v) (exact_fixed_of ConstantHead c.fixed)
exact_singles Wells c v = map (λ x. x.flow) (exact_flows_of Wells c.flows)
exact_singles Drains c v = map (drain_flow v) c.drains
exact_singles RiverLeakage c v = map (river_flow v) c.rivers
exact_singles HeadDepBounds c v = map (fixed_flow v) (exact_fixed_of HeadDepBounds c.fixed)
exact_singles Recharge c v = map (λ x. x.flow) (exact_flows_of Recharge c.flows)
exact_singles Et c v = map (evap_flow v) c.evaps

-- the part of a flow that goes into the variable cells, and the part that goes out of them, as a magnitude
abbrev pub exact_part : Dir → Fraction → Fraction
exact_part In f = greater f (whole (pos 0))
exact_part Out f = greater (opposite f) (whole (pos 0))

-- The exact In or Out of a term, where the variable cell of index c has the head h c.
unfoldable pub exact_term : List ExactCell → (ℕ → Fraction) → Dir → Term → Fraction
exact_term e h dir t = total_below (length e) (λ c. fraction_total (exact_part dir) (exact_singles t (cell_at e c) (h c)))

-- the heads h lie between l and u, whole heads in units of 10^-9, at each of n cells
abbrev pub AreWithin : ℕ → (ℕ → Fraction) → (ℕ → ℤ) → (ℕ → ℤ) → Type 0
AreWithin n h l u = (c : ℕ) → c < n → EnclosesSigned (l c) (u c) 9 (h c)

-- Each exact In and Out of the step e at the heads h lies between the two bounds that the budget has for it, in units of 10^-(s + 9).
abbrev pub BudgetEncloses : ℕ → List ExactCell → (ℕ → Fraction) → Budget → Type 0
BudgetEncloses s e h b = (dir : Dir) (t : Term) → EnclosesSigned (bounds_in b dir t).lo (bounds_in b dir t).hi (s + 9) (exact_term e h dir t)

-- The budget encloses that of every exact step that p encloses, at all heads between l and u.
abbrev pub EnclosesBudgets : List Entries → (ℕ → ℤ) → (ℕ → ℤ) → Budget → Type 0
EnclosesBudgets p l u b = (s : ℕ) (e : List ExactCell) (h : ℕ → Fraction) → EnclosesStep s p e → AreWithin (length p) h l u → BudgetEncloses s e h b

-- Heads over one denominator that lie between whole heads are among these.
abbrev pub HeadsAreWithin : Type 0
HeadsAreWithin = (n d : ℕ) (X l u : ℕ → ℤ) → 0 < d → LiesBetween n d X l u → AreWithin n (λ c. share d (X c)) l u

-- Sums of flows that stop at the limit, and the flows that may be added to them.
abbrev pub plus_pair : TermPair → TermPair → TermPair
plus_pair a b = record { lo = a.lo +ℤ b.lo; hi = a.hi +ℤ b.hi }

-- more than the limit counts as the limit
abbrev pub capped_term : TermPair → TermPair
capped_term x = record { lo = int_min x.lo term_limit; hi = int_min x.hi term_limit }

pub record IsSum (x : TermPair) : Type 0 where
  pub lo_above : pos 0 ≤ℤ x.lo
  pub lo_below : x.lo ≤ℤ term_limit
  pub hi_above : pos 0 ≤ℤ x.hi
  pub hi_below : x.hi ≤ℤ term_limit

-- a flow that may be added to a sum up to the limit
pub record IsFlow (x : TermPair) : Type 0 where
  pub lo : IsMagnitudeAtMost x.lo (2 ^ 123)
  pub hi : IsMagnitudeAtMost x.hi (2 ^ 123)

-- a part of such a flow
pub record IsPartOfFlow (x : TermPair) : Type 0 where
  pub lo_above : pos 0 ≤ℤ x.lo
  pub lo_below : x.lo ≤ℤ pos (2 ^ 123)
  pub hi_above : pos 0 ≤ℤ x.hi
  pub hi_below : x.hi ≤ℤ pos (2 ^ 123)

-- both heads of a bound are heads
pub record AreHeads (b : Bound) : Type 0 where
  pub low : IsHead b.low
  pub high : IsHead b.high

-- Sums of all terms that stop at the limit, in the order of the listing, and what they are once each is tested.
abbrev pub sum_of : List TermPair → Term → TermPair
sum_of sums t = slice_index_or sums (place_of t) no_pair

abbrev pub AreSums : List TermPair → Type 0
AreSums sums = (t : Term) → IsSum (sum_of sums t)

-- a term's bounds, or FlowTooLarge at the term
unfoldable pub term_or_refusal : Dir → Term → TermPair → Result TermPair NoBound
term_or_refusal dir t x = if is_small x then Ok x else Err (too_large dir t)

-- those of several terms, or FlowTooLarge at the first that is too large
unfoldable pub tested_terms : List TermPair → Dir → List Term → Result (List TermPair) NoBound
tested_terms s dir [] = Ok []
tested_terms s dir (t ∷ ts) = do
  x ← term_or_refusal dir t (sum_of s t)
  xs ← tested_terms s dir ts
  Ok (x ∷ xs)

unfoldable pub tested_budget : List TermPair → List TermPair → Result Budget NoBound
tested_budget into out = do
  into ← tested_terms into In all_terms
  out ← tested_terms out Out all_terms
  Ok (record { into = into; out = out })

-- When the bounds of one budget reach as far as those of another.
-- the bounds a reach as far as b: the lower one is at most that of b, and the upper one at least that of b
pub record ReachesAsFar (a b : TermPair) : Type 0 where
  pub lower : a.lo ≤ℤ b.lo
  pub upper : b.hi ≤ℤ a.hi

-- the bounds of each term reach as far
abbrev pub Covers : Budget → Budget → Type 0
Covers listed computed = (dir : Dir) (t : Term) → ReachesAsFar (bounds_in listed dir t) (bounds_in computed dir t)

-- the first term in this direction whose listed bounds don't reach as far
pub record IsFirstShort (listed computed : Budget) (dir : Dir) (t : Term) : Type 0 where
  pub short : ReachesAsFar (bounds_in listed dir t) (bounds_in computed dir t) → ⊥
  pub first : (x : Term) → place_of x < place_of t → ReachesAsFar (bounds_in listed dir x) (bounds_in computed dir x)

-- the place of a term among all: In terms come before Out terms
abbrev pub line_of : Dir → Term → ℕ
line_of In t = place_of t
line_of Out t = 8 + place_of t

-- the first of all terms whose listed bounds don't reach as far
pub record IsFirstUncovered (listed computed : Budget) (dir : Dir) (t : Term) : Type 0 where
  pub short : ReachesAsFar (bounds_in listed dir t) (bounds_in computed dir t) → ⊥
  pub first : (d : Dir) (x : Term) → line_of d x < line_of dir t → ReachesAsFar (bounds_in listed d x) (bounds_in computed d x)

-- A value in the bounds of a budget lies in those of one that covers it.
abbrev pub CoverEncloses : Type 0
CoverEncloses =
    (listed computed : Budget) (s : ℕ) (e : List ExactCell) (h : ℕ → Fraction) → Covers listed computed →
    BudgetEncloses s e h computed → BudgetEncloses s e h listed
