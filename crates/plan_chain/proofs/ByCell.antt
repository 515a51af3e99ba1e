-- Bounds that are placed by cell number.
use Rattle.plan_chain.proofs.Common.{◌≡◌, ◌<◌, ◌+◌, ◌≤◌, ℕ, ap, arith, inl, inr, subst, sym, ◌∙◌, List, length, replicate, set, cases_order, Bound, Entries, IsProblem, entries_at, no_bound, bound_at}
use Rattle.plan_chain.proofs.Common.{AreByCell, cases_lt, get_or-replicate, get_or-set_other, get_or-set_same, get_or_past, length-replicate, length-set}

-- the bounds of the first n variable cells are placed, all other cells have zeros
pub record ArePlaced (count : ℕ) (p : List Entries) (bounds all : List Bound) (n : ℕ) : Type 0 where
  pub whole : length all ≡ count
  pub variable : (k : ℕ) → k < n → bound_at all (entries_at p k).id ≡ bound_at bounds k
  pub other : (c : ℕ) → ((k : ℕ) → k < n → c ≡ (entries_at p k).id → ⊥) → bound_at all c ≡ no_bound

pub zeros_are_placed : (count c : ℕ) → bound_at (replicate count no_bound) c ≡ no_bound
zeros_are_placed count c = elim (cases_lt c count) [
  | inl inside ↦ get_or-replicate count c no_bound no_bound inside
  | inr past ↦ get_or_past (replicate count no_bound) c no_bound (omega (arith, past, length-replicate count no_bound))
]

pub none_placed : (count : ℕ) (p : List Entries) (bounds all : List Bound) → all ≡ replicate count no_bound → ArePlaced count p bounds all 0
none_placed count p bounds all e = record {
  whole = ap length e ∙ length-replicate count no_bound;
  variable = λ k lt. absurd (omega (arith, lt));
  other = λ c none. ap (λ (xs : List Bound). bound_at xs c) e ∙ zeros_are_placed count c;
}

module _ (count : ℕ) (p : List Entries) (bounds all : List Bound) (n : ℕ) where
  pub one_placed : IsProblem p → n < length p → (entries_at p n).id < count → ArePlaced count p bounds all n →
      ArePlaced count p bounds (set all (entries_at p n).id (bound_at bounds n)) (n + 1)
  one_placed fits within below h =
      let id = (entries_at p n).id in
      let inside : id < length all = omega (arith, below, h.whole) in
      record {
        whole = length-set all id (bound_at bounds n) ∙ h.whole;
        variable = λ k lt. elim (cases_order k n) [
          | inl same ↦ (let P : ℕ → Type 0 = λ j. bound_at (set all id (bound_at bounds n)) (entries_at p j).id ≡ bound_at bounds j in
              subst P (sym same) (get_or-set_same all id (bound_at bounds n) no_bound inside))
          | inr (inl less) ↦ (let earlier = fits.ascending k n less within in
              get_or-set_other all id (entries_at p k).id (bound_at bounds n) no_bound (λ same. omega (arith, earlier, same)) ∙ h.variable k less)
          | inr (inr more) ↦ absurd (omega (arith, lt, more))
        ];
        other = λ c none.
            get_or-set_other all id c (bound_at bounds n) no_bound (λ same. none n (omega arith) same) ∙ h.other c (λ k lt same. none k (omega (arith, lt)) same);
      }

  pub all_placed : ArePlaced count p bounds all n → length p ≤ n → n ≤ length p → AreByCell count p bounds all
  all_placed h past within = record { whole = h.whole; variable = λ k lt. h.variable k (omega (arith, lt, past)); other = λ c none. h.other c (λ k lt. none k (omega (arith, lt, within))) }
