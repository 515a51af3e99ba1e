-- The sources of a step that has them: by the sum of each term.
use Rattle.plan_gains.proofs.Common.{Entries, List, Term, TermPair, all_terms, ap, arith, get_or, length, map, net_of, no_pair, refl, source, suc, sum_of, sym, zero, ℕ, ℤ, ◌<◌, ◌∙◌, ◌∷◌, ◌≡◌, Bool}
use Rattle.plan_gains.proofs.Common.{true, false, [], sum_or_large, term_gain, In, Out, Ok, Result, Err, if◌then◌else◌, subst, is_small, sources_or_large, sums_or_large, place_of, too_large, ◌>>=◌}
use Rattle.plan_gains.proofs.Common.{ConstantHead, Drains, Et, HeadDepBounds, Recharge, RiverLeakage, Storage, Wells}
use Rattle.budget_bounds.proofs.Enclosed.{at_place, place_within}
use Rattle.step_problem.specs.declared.place.NoBound.{NoBound}

-- the value of a bind that is Ok, and of its first part
pub then_is : {A B E : Type 0} (x : Result A E) (f : A → Result B E) (b : B) → (x >>= f) ≡ Ok b → (a : A) × (f a ≡ Ok b) × (x ≡ Ok a)
then_is (Ok a) f b e = (a, e, refl)
then_is (Err r) f b e = absurd cc

abbrev pub ok_or : {A E : Type 0} → A → Result A E → A
ok_or d (Ok x) = x
ok_or d (Err e) = d

two_tests : (a b : Bool) (x y : TermPair) (e f : NoBound) → (if a then (if b then Ok y else Err e) else Err f) ≡ Ok x → x ≡ y
two_tests true true x y e f h = sym (ap (ok_or y) h)
two_tests true false x y e f h = absurd cc
two_tests false b x y e f h = absurd cc

module _ (base p : List Entries) (l u : ℕ → ℤ) where
  abbrev net : Term → TermPair
  net t = net_of (term_gain base p l u In t) (term_gain base p l u Out t)

  sum_is : (t : Term) (x : TermPair) → sum_or_large base p l u t ≡ Ok x → x ≡ net t
  unfolding sum_or_large
  sum_is t x e =
      two_tests (is_small (term_gain base p l u In t)) (is_small (term_gain base p l u Out t)) x (net t) (too_large Out t) (too_large In t) e

  here : (t d : Term) (ts : List Term) (x : TermPair) (xs : List TermPair) → x ≡ net t → ((j : ℕ) → j < length ts → get_or xs j no_pair ≡ net (get_or ts j d)) →
      (i : ℕ) → i < suc (length ts) → get_or (x ∷ xs) i no_pair ≡ net (get_or (t ∷ ts) i d)
  here t d ts x xs is rest zero h = is
  here t d ts x xs is rest (suc j) h = rest j (omega arith)

  sums_are : (d : Term) (ts : List Term) (xs : List TermPair) → sums_or_large base p l u ts ≡ Ok xs → (i : ℕ) → i < length ts → get_or xs i no_pair ≡ net (get_or ts i d)
  unfolding sums_or_large
  sums_are d [] xs e i h = absurd (omega arith)
  sums_are d (t ∷ ts) xs e i h =
      let (x, rest, is_x) = then_is (sum_or_large base p l u t) (λ y. sums_or_large base p l u ts >>= (λ ys. Ok (y ∷ ys))) xs e in
      let (ys, whole, are_ys) = then_is (sums_or_large base p l u ts) (λ ys. Ok (x ∷ ys)) xs rest in
      subst (λ (zs : List TermPair). get_or zs i no_pair ≡ net (get_or (t ∷ ts) i d)) (ap (ok_or (x ∷ ys)) whole)
      (here t d ts x ys (sum_is t x is_x) (sums_are d ts ys are_ys) i h)

  sum_at : (xs : List TermPair) → sums_or_large base p l u all_terms ≡ Ok xs → (t : Term) → sum_of xs t ≡ net t
  sum_at xs e t = sums_are t all_terms xs e (place_of t) (place_within t) ∙ ap net (at_place t t)

  source_at : (sums : Term → TermPair) (t : Term) → get_or (map (source sums) all_terms) (place_of t) no_pair ≡ source sums t
  source_at sums Storage = refl
  source_at sums ConstantHead = refl
  source_at sums Wells = refl
  source_at sums Drains = refl
  source_at sums RiverLeakage = refl
  source_at sums HeadDepBounds = refl
  source_at sums Recharge = refl
  source_at sums Et = refl

  pub sources_are : (terms : List TermPair) → sources_or_large base p l u ≡ Ok terms → (t : Term) → get_or terms (place_of t) no_pair ≡ source net t
  unfolding sources_or_large
  sources_are terms e t =
      let (sums, whole, are) = then_is (sums_or_large base p l u all_terms) (λ xs. Ok (map (source (sum_of xs)) all_terms)) terms e in
      let same : sum_of sums ≡ net = λ i x. (sum_at sums are x) i in
      ap (λ (xs : List TermPair). get_or xs (place_of t) no_pair) (sym (ap (ok_or terms) whole)) ∙ source_at (sum_of sums) t
      ∙ ap (λ (f : Term → TermPair). source f t) same
