-- What each term of a budget gives more under a plan (TM 6-A16, chapter 3, the volumetric budget), by the problem of the differences, base plan less
-- other plan. What a branch gives the base plan more, turned round, it gives more under the plan.
use Rattle.std.specs.Prelude.{◌≡◌, ℕ, ◌+◌, ◌^◌, ◌<◌, Bool, true, ◌&&◌, if◌then◌else◌, List, [], ◌∷◌, drop, length, map, take, ℤ, pos, neg_ℤ, ◌+ℤ◌, ◌-ℤ◌, ◌<ℤ◌}
use Rattle.std.specs.Prelude.{Result, Ok, Err}
use Rattle.std.specs.{Int.int_max, Int.int_min, Int.Signed.lt_z}
use Rattle.step_problem.specs.{declared.entry.Fixed.Fixed, declared.entry.Flow.Flow, declared.heads.Side.TheVariants.Low, declared.heads.Side.TheVariants.High}
use Rattle.step_problem.specs.{declared.place.Dir.Dir, declared.place.Dir.TheVariants.In, declared.place.Dir.TheVariants.Out, declared.place.NoBound.NoBound}
use Rattle.step_problem.specs.{declared.place.Term.Term, declared.place.Term.TheVariants.Storage, declared.place.Term.TheVariants.ConstantHead}
use Rattle.step_problem.specs.{declared.place.Term.TheVariants.Wells, declared.place.Term.TheVariants.Drains, declared.place.Term.TheVariants.RiverLeakage}
use Rattle.step_problem.specs.{declared.place.Term.TheVariants.HeadDepBounds, declared.place.Term.TheVariants.Recharge, declared.place.Term.TheVariants.Et}
use Rattle.step_problem.specs.{Entries.Entries, entries_at, fixed_flow, total}
use Rattle.cell_balance.specs.{sum_below}
use Rattle.budget_bounds.specs.declared.pair.TermPair.{TermPair}
use Rattle.budget_bounds.specs.{IsFlow, all_terms, fixed_of, fixed_term, is_term, no_pair, sum_of, too_large, ◌>>=◌, parts}
use Rattle.plan_gains.specs.declared.terms.TermSums.{TermSums}

-- The branches of a cell x of the differences, by the base plan's cell: first those to the base plan's known heads, then one for each of its rivers,
-- one for each of its drains, and one for each of its evapotranspirations.
module _ (base x : Entries) where
  abbrev pub known : List Fixed
  known = take (length base.fixed) x.fixed

  abbrev pub ramps : List Fixed
  ramps = drop (length base.fixed) x.fixed

  abbrev pub of_rivers : List Fixed
  of_rivers = take (length base.rivers) ramps

  abbrev pub of_drains : List Fixed
  of_drains = take (length base.drains) (drop (length base.rivers) ramps)

  abbrev pub of_evaps : List Fixed
  of_evaps = drop (length base.drains) (drop (length base.rivers) ramps)

  -- one for each: known heads come first
  abbrev pub HasBranches : Type 0
  HasBranches = length x.fixed ≡ length base.fixed + length base.rivers + length base.drains + length base.evaps

-- a flow that the base plan has more, turned round
abbrev pub turned : TermPair → TermPair
turned x = record { lo = neg_ℤ x.hi; hi = neg_ℤ x.lo }

-- what a branch gives more under the plan, where the difference of the heads lies between l and u
abbrev pub branch_gain : ℤ → ℤ → Fixed → TermPair
branch_gain l u x = turned (record { lo = fixed_flow Low u x; hi = fixed_flow High l x })

-- what a well of the plan gives
abbrev pub well_gain : Flow → TermPair
well_gain q = turned (record { lo = q.lo; hi = q.hi })

-- what each branch of a term gives more; WELLS are the plan's, and recharge is the same in both plans
unfoldable pub gains : Term → Entries → Entries → ℤ → ℤ → List TermPair
gains Storage base x l u = map (branch_gain l u) (fixed_of Storage (known base x))
gains ConstantHead base x l u = map (branch_gain l u) (fixed_of ConstantHead (known base x))
gains Wells base x l u = map well_gain x.flows
gains Drains base x l u = map (branch_gain l u) (of_drains base x)
gains RiverLeakage base x l u = map (branch_gain l u) (of_rivers base x)
gains HeadDepBounds base x l u = map (branch_gain l u) (fixed_of HeadDepBounds (known base x))
gains Recharge base x l u = []
gains Et base x l u = map (branch_gain l u) (of_evaps base x)

-- flows of a plan's terms stay below 2^123 units, so that those of all terms together stay below 2^126
abbrev pub gain_limit : ℤ
gain_limit = pos (2 ^ 123)

abbrev pub is_small : TermPair → Bool
is_small x = lt_z x.lo gain_limit && lt_z x.hi gain_limit

-- The terms by the sums of their flows. From all terms together comes 0: so each one lies in minus the sum of the others, too, which is its own bound less
-- the sum of all.
module _ (sums : Term → TermPair) where
  abbrev pub by_balance : Term → TermPair
  by_balance t = record { lo = (sums t).hi -ℤ total (λ x. (sums x).hi) all_terms; hi = (sums t).lo -ℤ total (λ x. (sums x).lo) all_terms }

  abbrev pub tighter : Term → TermPair
  tighter t = record { lo = int_max (sums t).lo (by_balance t).lo; hi = int_min (sums t).hi (by_balance t).hi }

  -- the tighter of both; WELLS and RECHARGE aren't listed, and have 0
  abbrev pub source : Term → TermPair
  source Wells = no_pair
  source Recharge = no_pair
  source t = tighter t

-- What is given more, less what is given less; or FlowTooLarge at a term, where one of the two reaches the limit.
abbrev pub net_of : TermPair → TermPair → TermPair
net_of more less = record { lo = more.lo -ℤ less.hi; hi = more.hi -ℤ less.lo }

abbrev pub net_or_large : Term → TermPair → TermPair → Result TermPair NoBound
net_or_large t more less =
    if is_small more then (if is_small less then Ok (net_of more less) else Err (too_large Out t)) else Err (too_large In t)

-- The base plan's problem, the problem p of the differences, and the differences of the variable cells, between l and u.
module _ (base p : List Entries) (l u : ℕ → ℤ) where
  -- what the branches of a term give more, or less, over all cells, as a magnitude
  unfoldable pub term_gain : Dir → Term → TermPair
  term_gain dir t = record {
    lo = sum_below (length p) (λ c. (parts dir (gains t (entries_at base c) (entries_at p c) (l c) (u c))).lo);
    hi = sum_below (length p) (λ c. (parts dir (gains t (entries_at base c) (entries_at p c) (l c) (u c))).hi);
  }

  -- the sum of a term, or FlowTooLarge
  unfoldable pub sum_or_large : Term → Result TermPair NoBound
  sum_or_large t = net_or_large t (term_gain In t) (term_gain Out t)

  -- of several terms, or FlowTooLarge at the first that is too large
  unfoldable pub sums_or_large : List Term → Result (List TermPair) NoBound
  sums_or_large [] = Ok []
  sums_or_large (t ∷ ts) = do
    x ← sum_or_large t
    xs ← sums_or_large ts
    Ok (x ∷ xs)

  -- what each term gives more, in the order of the listing, or FlowTooLarge
  unfoldable pub sources_or_large : Result (List TermPair) NoBound
  sources_or_large = do
    sums ← sums_or_large all_terms
    Ok (map (source (sum_of sums)) all_terms)

-- a problem of differences has a branch for each of the base plan's
pub record HasBranchesOf (base p : List Entries) : Type 0 where
  pub as_many : length p ≡ length base
  pub branches : (c : ℕ) → c < length base → HasBranches (entries_at base c) (entries_at p c)

-- What a walk over the cells works with.
-- the branches of a cell among which are those of a term, and which of them are
abbrev pub branches_of : Term → Entries → Entries → List Fixed
branches_of Drains base x = of_drains base x
branches_of RiverLeakage base x = of_rivers base x
branches_of Et base x = of_evaps base x
branches_of t base x = known base x

abbrev pub counts : Term → Fixed → Bool
counts Drains x = true
counts RiverLeakage x = true
counts Et x = true
counts t x = is_term t (fixed_term x.kind)

-- a sum below the limit
pub record IsSmall (x : TermPair) : Type 0 where
  pub lo : x.lo <ℤ gain_limit
  pub hi : x.hi <ℤ gain_limit

-- the sums of all terms, in the order of the listing, and together
abbrev pub listed : TermSums → List TermPair
listed x = x.storage ∷ x.constant ∷ x.wells ∷ x.drains ∷ x.rivers ∷ x.general ∷ x.recharge ∷ x.et ∷ []

abbrev pub lower_total : TermSums → ℤ
lower_total x = ((x.storage.lo +ℤ x.constant.lo) +ℤ (x.wells.lo +ℤ x.drains.lo)) +ℤ ((x.rivers.lo +ℤ x.general.lo) +ℤ (x.recharge.lo +ℤ x.et.lo))

abbrev pub upper_total : TermSums → ℤ
upper_total x = ((x.storage.hi +ℤ x.constant.hi) +ℤ (x.wells.hi +ℤ x.drains.hi)) +ℤ ((x.rivers.hi +ℤ x.general.hi) +ℤ (x.recharge.hi +ℤ x.et.hi))

abbrev pub total_of : TermSums → TermPair
total_of x = record { lo = lower_total x; hi = upper_total x }

pub record AreNets (x : TermSums) : Type 0 where
  pub storage : IsFlow x.storage
  pub constant : IsFlow x.constant
  pub wells : IsFlow x.wells
  pub drains : IsFlow x.drains
  pub rivers : IsFlow x.rivers
  pub general : IsFlow x.general
  pub recharge : IsFlow x.recharge
  pub et : IsFlow x.et

-- the tighter of a sum and of what all leave it
abbrev pub tighter_of : TermPair → TermPair → TermPair
tighter_of own all = record { lo = int_max own.lo (own.hi -ℤ all.hi); hi = int_min own.hi (own.lo -ℤ all.lo) }
