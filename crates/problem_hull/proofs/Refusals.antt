-- A hull that is a problem has no refusal.
use Rattle.problem_hull.proofs.Common.{◌≡◌, ◌<◌, ◌^◌, ◌∙◌, [], ◌∷◌, ℕ, zero, suc, arith, None, Option, Some, List, get_or, length, sym, ap, refl, conductance_of, flow_magnitude, IsProblem, Entries}
use Rattle.problem_hull.proofs.Common.{entries_at, no_entries, IsHull, sum_refusal, first_refusal, IsTooLarge, get_or_default, refusal_at}
use Rattle.std.proofs.lemmas.Bool.Decides.{nat_tests}
use Rattle.std.specs.Option.{option_map, option_or}
use Rattle.step_problem.specs.declared.place.NoBound.{NoBound}

-- The sums of a cell that has no refusal.

small_sums : (c : Entries) → conductance_of c < 2 ^ 60 → flow_magnitude c < 2 ^ 109 → sum_refusal c ≡ None
unfolding sum_refusal
small_sums c h k = grind (arith, nat_tests)

pub conductances_are_small : (c : Entries) → sum_refusal c ≡ None → conductance_of c < 2 ^ 60
unfolding sum_refusal
conductances_are_small c e = grind (arith, nat_tests)

pub flows_are_small : (c : Entries) → sum_refusal c ≡ None → flow_magnitude c < 2 ^ 109
unfolding sum_refusal
flows_are_small c e = grind (arith, nat_tests)

-- Lists of cells, of which none has a refusal.

none_first : (r : List Entries) → ((c : ℕ) → c < length r → sum_refusal (entries_at r c) ≡ None) → first_refusal r ≡ None
none_first [] none = refl
none_first (c ∷ cs) none = ap (λ o. option_or (option_map (refusal_at c) o) (first_refusal cs)) (none 0 (omega arith)) ∙ none_first cs (λ k lt. none (suc k) (omega (arith, lt)))

none_here : (c : Entries) (o : Option ℕ) (rest : Option NoBound) → option_or (option_map (refusal_at c) o) rest ≡ None → (o ≡ None) × (rest ≡ None)
none_here c None rest e = (refl, e)
none_here c (Some code) rest e = absurd (cc)

pub none_of_each : (r : List Entries) → first_refusal r ≡ None → (c : ℕ) → c < length r → sum_refusal (entries_at r c) ≡ None
none_of_each [] e c lt = absurd (omega arith)
none_of_each (x ∷ r) e zero lt = (none_here x (sum_refusal x) (first_refusal r) e).0
none_of_each (x ∷ r) e (suc c) lt = none_of_each r (none_here x (sum_refusal x) (first_refusal r) e).1 c (omega arith)

-- the cell of an index, by any item that stands for one past the end
pub entries_named : (r : List Entries) (i : ℕ) (c : Entries) → i < length r → c ≡ get_or r i c → entries_at r i ≡ c
entries_named r i c lt e = get_or_default r i no_entries c lt ∙ sym e

pub no_refusal : (r : List Entries) → IsProblem r → first_refusal r ≡ None
no_refusal r fits = none_first r (λ c lt. small_sums (entries_at r c) (fits.cells c lt).conductances (fits.cells c lt).flows)

pub hull_excludes : (p q r : List Entries) (refusal : NoBound) → IsHull p q r → IsProblem r → IsTooLarge p q refusal → ⊥
hull_excludes p q r refusal h fits large = let bad : None ≡ Some refusal = sym (no_refusal r fits) ∙ ap first_refusal h.is ∙ large.first in cc
