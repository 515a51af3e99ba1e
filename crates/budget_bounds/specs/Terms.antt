-- The bounds of a budget's terms, or the first term that is too large for the listing.
use Rattle.std.specs.Prelude.{ℕ, ◌^◌, Bool, ◌&&◌, if◌then◌else◌, List, [], ◌∷◌, length, ℤ, pos, Result, Ok, Err, slice_index_or, nat_eq, map, neg_ℤ}
use Rattle.std.specs.{Int.Signed.lt_z, List.filter, Int.int_max}
use Rattle.step_problem.specs.{declared.place.Dir.Dir, declared.place.Dir.TheVariants.In, declared.place.Dir.TheVariants.Out, declared.place.Term.Term}
use Rattle.step_problem.specs.{declared.place.Term.TheVariants.Storage, declared.place.Term.TheVariants.ConstantHead, declared.place.Term.TheVariants.Wells}
use Rattle.step_problem.specs.{declared.place.Term.TheVariants.Drains, declared.place.Term.TheVariants.RiverLeakage}
use Rattle.step_problem.specs.{declared.place.Term.TheVariants.HeadDepBounds, declared.place.Term.TheVariants.Recharge, declared.place.Term.TheVariants.Et}
use Rattle.step_problem.specs.{declared.place.NoBound.NoBound, declared.refusal.StepRefusal.TheVariants.FlowTooLarge, number_of, entries_at, total, fixed_flow}
use Rattle.step_problem.specs.{river_flow, drain_flow, evap_flow, declared.heads.Side.Side, declared.heads.Side.TheVariants.Low}
use Rattle.step_problem.specs.{declared.heads.Side.TheVariants.High, Entries.Entries, declared.entry.FixedKind.FixedKind, declared.entry.FlowKind.FlowKind}
use Rattle.step_problem.specs.{declared.entry.Fixed.Fixed, declared.entry.Flow.Flow}
use Rattle.cell_balance.specs.{sum_below}
use Rattle.budget_bounds.specs.{declared.pair.TermPair.TermPair, declared.pair.Budget.Budget}
use Rattle.step_problem.specs.declared.entry.FixedKind.TheVariants as kinds
use Rattle.step_problem.specs.declared.entry.FlowKind.TheVariants as packages
use Rattle.step_problem.specs.declared.place.Place.TheVariants as places

-- The single flows of each term into a variable cell, each known by its least and its greatest value (TM 6-A16,
-- chapter 3, the volumetric budget). A flow into the cell is positive.
-- the place of a term in the listing
abbrev pub place_of : Term → ℕ
place_of Storage = 0
place_of ConstantHead = 1
place_of Wells = 2
place_of Drains = 3
place_of RiverLeakage = 4
place_of HeadDepBounds = 5
place_of Recharge = 6
place_of Et = 7

-- the term of a flow to a known head, and that of a constant flow
abbrev pub fixed_term : FixedKind → Term
fixed_term kinds.Storage = Storage
fixed_term kinds.Constant = ConstantHead
fixed_term kinds.General = HeadDepBounds

abbrev pub flow_term : FlowKind → Term
flow_term packages.Wells = Wells
flow_term packages.Recharge = Recharge

abbrev pub is_term : Term → Term → Bool
is_term a b = nat_eq (place_of a) (place_of b)

-- The bounds of a single flow into a cell whose head lies between l and u: a flow falls in the cell's head, so its
-- least value is the lower one at u, and its greatest the upper one at l.
abbrev pub flow_pair : Flow → TermPair
flow_pair x = record { lo = x.lo; hi = x.hi }

abbrev pub entry_pair : {X : Type 0} → (Side → ℤ → X → ℤ) → ℤ → ℤ → X → TermPair
entry_pair flow l u x = record { lo = flow Low u x; hi = flow High l x }

-- the known heads, and the constant flows, whose flows are of a term
abbrev pub fixed_of : Term → List Fixed → List Fixed
fixed_of t xs = filter (λ x. is_term t (fixed_term x.kind)) xs

abbrev pub flows_of : Term → List Flow → List Flow
flows_of t xs = filter (λ x. is_term t (flow_term x.kind)) xs

-- the single flows of a term into a cell with these entries, whose head lies between l and u
unfoldable pub singles : Term → Entries → ℤ → ℤ → List TermPair
singles Storage c l u = map (entry_pair fixed_flow l u) (fixed_of Storage c.fixed)
singles ConstantHead c l u = map (entry_pair fixed_flow l u) (fixed_of ConstantHead c.fixed)
singles Wells c l u = map flow_pair (flows_of Wells c.flows)
singles Drains c l u = map (entry_pair drain_flow l u) c.drains
singles RiverLeakage c l u = map (entry_pair river_flow l u) c.rivers
singles HeadDepBounds c l u = map (entry_pair fixed_flow l u) (fixed_of HeadDepBounds c.fixed)
singles Recharge c l u = map flow_pair (flows_of Recharge c.flows)
singles Et c l u = map (entry_pair evap_flow l u) c.evaps

-- the part of a flow that goes into the variable cells, and the part that goes out of them, as a magnitude
abbrev pub part : Dir → TermPair → TermPair
part In x = record { lo = int_max x.lo (pos 0); hi = int_max x.hi (pos 0) }
part Out x = record { lo = int_max (neg_ℤ x.hi) (pos 0); hi = int_max (neg_ℤ x.lo) (pos 0) }

-- the sum of the parts of these flows that go in, or out
unfoldable pub parts : Dir → List TermPair → TermPair
parts dir xs = record { lo = total (λ x. (part dir x).lo) xs; hi = total (λ x. (part dir x).hi) xs }

-- The bounds of a term: the sum, over all variable cells, of the parts of its single flows that go in, or out. The head of cell c lies between l c and u c.
unfoldable pub term_pair : List Entries → (ℕ → ℤ) → (ℕ → ℤ) → Dir → Term → TermPair
term_pair p l u dir t = record {
  lo = sum_below (length p) (λ c. (parts dir (singles t (entries_at p c) (l c) (u c))).lo);
  hi = sum_below (length p) (λ c. (parts dir (singles t (entries_at p c) (l c) (u c))).hi);
}

-- flows in a listing stay below 2^126 units
abbrev pub term_limit : ℤ
term_limit = pos (2 ^ 126)

-- neither bound reaches the limit
abbrev pub is_small : TermPair → Bool
is_small x = lt_z x.lo term_limit && lt_z x.hi term_limit

-- FlowTooLarge at a term
abbrev pub too_large : Dir → Term → NoBound
too_large dir t = record { code = number_of FlowTooLarge; place = places.Term dir t }

infixl 10 ◌>>=◌
abbrev pub ◌>>=◌ : {A B E : Type 0} → Result A E → (A → Result B E) → Result B E
(Ok x) >>= f = f x
(Err e) >>= f = Err e

-- the terms in the order of the listing
abbrev pub all_terms : List Term
all_terms = Storage ∷ ConstantHead ∷ Wells ∷ Drains ∷ RiverLeakage ∷ HeadDepBounds ∷ Recharge ∷ Et ∷ []

module _ (p : List Entries) (l u : ℕ → ℤ) where
  -- the bounds of a term, or FlowTooLarge there
  unfoldable pub term_of : Dir → Term → Result TermPair NoBound
  term_of dir t = if is_small (term_pair p l u dir t) then Ok (term_pair p l u dir t) else Err (too_large dir t)

  -- those of several terms, or FlowTooLarge at the first that is too large
  unfoldable pub terms_of : Dir → List Term → Result (List TermPair) NoBound
  terms_of dir [] = Ok []
  terms_of dir (t ∷ ts) = do
    x ← term_of dir t
    xs ← terms_of dir ts
    Ok (x ∷ xs)

  -- The bounds of a step's budget, or FlowTooLarge: all In terms are tried before all Out terms.
  unfoldable pub budget_of : Result Budget NoBound
  budget_of = do
    into ← terms_of In all_terms
    out ← terms_of Out all_terms
    Ok (record { into = into; out = out })

abbrev pub no_pair : TermPair
no_pair = record { lo = pos 0; hi = pos 0 }

-- the bounds of a term in a budget
abbrev pub bounds_in : Budget → Dir → Term → TermPair
bounds_in b In t = slice_index_or b.into (place_of t) no_pair
bounds_in b Out t = slice_index_or b.out (place_of t) no_pair
