-- A step whose cells have storage has a floor and a ceiling.
use Rattle.engine.proofs.Common.{◌≡◌, ◌≢◌, ℕ, Bool, true, cond, List, [], ◌∷◌, Result, Ok, Err, Option, Some, None, inl, inr, sym, ap, subst, arith, ℤ, if◌then◌else◌, Plain, Limits, Decks, TimeStep}
use Rattle.engine.proofs.Common.{one_deck, Bound, NoBound, Entries, lower_at, upper_at, no_heads, no_budget, no_zones, Wide, LeavesRange, HasLargeFlow, StorageHolds, faces_of, filter, pairs_below}
use Rattle.engine.proofs.Common.{ZonePair, Low, High}
use Rattle.std.proofs.Common.{false}
use Rattle.step_chain.specs.declared.solved.Solved.{Solved}
use Rattle.step_problem.specs.{declared.place.Dir.Dir, declared.place.Dir.TheVariants.In, declared.place.Dir.TheVariants.Out, declared.place.Term.Term, declared.heads.Side.Side}
use Rattle.step_problem.specs.{declared.refusal.BoundFault.TheVariants.NoBound as AFault}
use Rattle.barrier_vector.specs.{IsUnbounded, RefusesOn, HasStorage, HasNoBound, no_barrier_on}
use Rattle.barrier_vector.proofs.Sides.{stored_fault, stored_refusal, unbounded_refuses}
use Rattle.budget_bounds.specs.{◌>>=◌, all_terms, budget_of, is_small, term_of, term_pair, terms_of, too_large}
use Rattle.problem_builder.specs.{fault_of}
use Rattle.problem_builder.proofs.Steps.{a_refusal}
use Rattle.zone_flows.specs.{each_or_first, flow_or_large, share, zone_flows, Face}

-- what a refusal is not
abbrev IsOther : ℕ → Type 0
IsOther code = (code ≢ 24) × (code ≢ 25)

other_code : (a b : ℕ) → a ≡ b → IsOther b → IsOther a
other_code a b e h = subst IsOther (sym e) h

-- a refusal of a side of the cut barrier
cut_code : (side : Side) (p : List Entries) (n : NoBound) → HasStorage p → RefusesOn no_barrier_on (λ side. HasNoBound side p) side p n → IsOther n.code
cut_code side p n stored refused = stored_fault side p stored (AFault n) (unbounded_refuses side p (AFault n) refused)

unbounded_code : (p : List Entries) (n : NoBound) → HasStorage p → IsUnbounded p n → IsOther n.code
unbounded_code p n stored (inl low) = cut_code Low p n stored low
unbounded_code p n stored (inr (nowhere, high)) = cut_code High p n stored high

one_code : (m n : ℕ) → Some m ≡ Some n → n ≡ m
one_code m n e = cc

chosen_code : (a b c : Bool) (n : ℕ) → cond a (Some 21) (cond b (Some 22) (cond c (Some 23) None)) ≡ Some n → IsOther n
chosen_code true b c n e = other_code n 21 (one_code 21 n e) (omega arith, omega arith)
chosen_code false true c n e = other_code n 22 (one_code 22 n e) (omega arith, omega arith)
chosen_code false false true n e = other_code n 23 (one_code 23 n e) (omega arith, omega arith)
chosen_code false false false n e = cc

problem_code : (e : Entries) (n : ℕ) → fault_of e ≡ Some n → IsOther n
unfolding fault_of
problem_code e n h = chosen_code _ _ _ n h

abbrev TooLarge : NoBound → Type 0
TooLarge n = n.code ≡ 23

one_err : {B : Type 0} (m n : NoBound) → Path (Result B NoBound) (Err m) (Err n) → m ≡ n
one_err m n e = cc

bind_code : {A B : Type 0} (x : Result A NoBound) (f : A → Result B NoBound) → ((n : NoBound) → x ≡ Err n → TooLarge n) →
    ((a : A) (n : NoBound) → f a ≡ Err n → TooLarge n) → (n : NoBound) → (x >>= f) ≡ Err n → TooLarge n
bind_code (Ok a) f first more n e = more a n e
bind_code (Err m) f first more n e = first n (ap Err (one_err m n e))

module _ (p : List Entries) (l u : ℕ → ℤ) where
  term_code : (dir : Dir) (t : Term) (n : NoBound) → term_of p l u dir t ≡ Err n → TooLarge n
  unfolding term_of
  term_code dir t n e = by_size (is_small (term_pair p l u dir t)) e
    where
      by_size : (b : Bool) → (if b then Ok (term_pair p l u dir t) else Err (too_large dir t)) ≡ Err n → TooLarge n
      by_size true h = cc
      by_size false h = ap (λ (x : NoBound). x.code) (sym (one_err (too_large dir t) n h))

  terms_code : (dir : Dir) (ts : List Term) (n : NoBound) → terms_of p l u dir ts ≡ Err n → TooLarge n
  unfolding terms_of
  terms_code dir [] n e = cc
  terms_code dir (t ∷ ts) n e = bind_code (term_of p l u dir t) _ (term_code dir t) (λ x. bind_code (terms_of p l u dir ts) _ (terms_code dir ts) (λ xs m h. cc)) n e

  budget_code : (n : NoBound) → budget_of p l u ≡ Err n → TooLarge n
  unfolding budget_of
  budget_code n e = bind_code (terms_of p l u In all_terms) _ (terms_code In all_terms) (λ into. bind_code (terms_of p l u Out all_terms) _ (terms_code Out all_terms) (λ out m h. cc)) n e

-- flows between zones that are too large have that number too
each_code : {X B : Type 0} (f : X → Result B NoBound) → ((x : X) (n : NoBound) → f x ≡ Err n → TooLarge n) → (xs : List X) (n : NoBound) → each_or_first f xs ≡ Err n → TooLarge n
unfolding each_or_first
each_code f h [] n e = cc
each_code f h (x ∷ xs) n e = bind_code (f x) _ (h x) (λ y. bind_code (each_or_first f xs) _ (each_code f h xs) (λ ys m k. cc)) n e

flow_code : (fs : List Face) (z : ZonePair) (n : NoBound) → flow_or_large fs z ≡ Err n → TooLarge n
flow_code fs z n e = grind (arith, one_err)

large_code : (zones : Option (List ℕ)) (x : Solved) (n : NoBound) → HasLargeFlow zones x n → TooLarge n
unfolding zone_flows
large_code None x n h = cc
large_code (Some zones) x n h = let fs = faces_of x.problem x.heads zones in each_code (flow_or_large fs) (flow_code fs) (filter (share fs) (pairs_below 1000)) n h

-- a refusal for the range of heads
range_code : (limits : Limits) (d : Decks) (s : ℕ) (at : TimeStep) (old : List Bound) (n : NoBound) → LeavesRange limits d s at old n → IsOther n.code
range_code limits d s at old n leaves = grind (arith, other_code)

pub storage_holds : StorageHolds
storage_holds Plain m s zones rounds quick at old n stored (no_heads (inl none)) = let (e, is) = a_refusal m s at old n none in problem_code e n.code is
storage_holds Plain m s zones rounds quick at old n stored (no_heads (inr (p, is, refused))) = stored_refusal p (stored p is) n refused
storage_holds Wide m s zones rounds quick at old n stored (no_heads (inl (inl none))) = let (e, is) = a_refusal m s at old n none in problem_code e n.code is
storage_holds Wide m s zones rounds quick at old n stored (no_heads (inl (inr (p, is, refused)))) = unbounded_code p n (stored p is) refused
storage_holds Wide m s zones rounds quick at old n stored (no_heads (inr leaves)) = range_code Wide (one_deck m) s at old n leaves
storage_holds limits m s zones rounds quick at old n stored (no_budget solved settled refused) =
    other_code n.code 23 (budget_code solved.problem (lower_at solved.bounds) (upper_at solved.bounds) n refused) (omega arith, omega arith)
storage_holds limits m s zones rounds quick at old n stored (no_zones solved budget settled is large) = other_code n.code 23 (large_code zones solved n large) (omega arith, omega arith)
