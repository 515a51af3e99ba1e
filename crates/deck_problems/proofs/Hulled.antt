-- The hulls of the bounds of each cell, made in place.
use Rattle.deck_problems.proofs.Common.{◌≡◌, ℕ, ◌+◌, ◌<◌, ◌≤◌, inl, inr, List, length, set, sym, subst, ◌∙◌, arith, length-set, get_or-set_same, get_or-set_other, Bound, no_bound, bound_at}
use Rattle.deck_problems.proofs.Common.{IsHullBound}
use Rattle.std.proofs.lemmas.Bool.{cases_order}

-- the first n bounds are hulls, all others as they were
pub record IsHulled (xs ys rs : List Bound) (n : ℕ) : Type 0 where
  pub whole : length rs ≡ length xs
  pub each : (c : ℕ) → c < n → IsHullBound (bound_at xs c) (bound_at ys c) (bound_at rs c)
  pub rest : (c : ℕ) → n ≤ c → bound_at rs c ≡ bound_at xs c

module _ (xs ys rs : List Bound) where
  pub hulled_more : (n : ℕ) (b : Bound) → n < length xs → IsHullBound (bound_at rs n) (bound_at ys n) b → IsHulled xs ys rs n → IsHulled xs ys (set rs n b) (n + 1)
  hulled_more n b lt is h = record {
    whole = length-set rs n b ∙ h.whole;
    each = λ c within. elim (cases_order c n) [
      | inl same ↦ (let P : ℕ → Type 0 = λ k. IsHullBound (bound_at xs k) (bound_at ys k) (bound_at (set rs n b) k) in
          let R : Bound → Type 0 = λ r. IsHullBound (bound_at xs n) (bound_at ys n) r in
          let X : Bound → Type 0 = λ x. IsHullBound x (bound_at ys n) b in
          subst P (sym same) (subst R (sym (get_or-set_same rs n b no_bound (omega (arith, lt, h.whole)))) (subst X (h.rest n (omega arith)) is)))
      | inr (inl less) ↦ (let R : Bound → Type 0 = λ r. IsHullBound (bound_at xs c) (bound_at ys c) r in
          subst R (sym (get_or-set_other rs n c b no_bound (λ same. omega (arith, same, less)))) (h.each c less))
      | inr (inr more) ↦ absurd (omega (arith, within, more))
    ];
    rest = λ c past. get_or-set_other rs n c b no_bound (λ same. omega (arith, same, past)) ∙ h.rest c (omega (arith, past));
  }
