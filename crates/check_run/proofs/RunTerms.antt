-- The terms of a step's budget are flows that a listing can have.
use Rattle.check_run.proofs.Common.{◌≡◌, ℕ, zero, suc, ◌^◌, ◌<◌, Bool, true, false, List, [], ◌∷◌, length, nat_abs, Ok, Err, refl, sym, ap, ◌∙◌, subst, arith, ℤ, pos, negsuc, ◌≤ℤ◌, if◌then◌else◌}
use Rattle.check_run.proofs.Common.{AllZip, ints, Dir, Out, NoBound, Term, Entries, entries_at, TermPair, Budget, all_terms, budget_of, is_small, no_pair, parts, term_limit, term_of, term_pair}
use Rattle.check_run.proofs.Common.{terms_of, too_large, IsFlowPair, IsPairIf, is_printed, singles, and_parts, In, sum_below}
use Rattle.std.specs.Int.Signed.{lt_z}
use Rattle.step_problem.specs.declared.place.Term.TheVariants.{Et}
use Rattle.problem_builder.proofs.Joined.{AllZip-weaker}
use Rattle.budget_bounds.proofs.Caps.{parts_lo, parts_hi}
use Rattle.listing_io.proofs.Terms.{same_ok, bind_goes_through, ok_is_not_err}

tested : (test : Bool) (q x : TermPair) (e : NoBound) → (if test then Ok q else Err e) ≡ Ok x → (test ≡ true) × (x ≡ q)
tested true q x e h = (refl, sym (same_ok q x (Ok q) refl h))
tested false q x e h = absurd (ok_is_not_err e x (Err e) refl h)

-- a sum of flows
none_below : (n : ℕ) (f : ℕ → ℤ) → ((c : ℕ) → pos 0 ≤ℤ f c) → pos 0 ≤ℤ sum_below n f
none_below zero f h = omega (arith, ints)
none_below (suc n) f h = let a = none_below n f h in let b = h n in omega (arith, ints, a, b)

no_sum : (n : ℕ) (f : ℕ → ℤ) → ((c : ℕ) → c < n → f c ≡ pos 0) → sum_below n f ≡ pos 0
no_sum zero f h = refl
no_sum (suc n) f h = grind (arith, no_sum n f (λ c lt. h c (omega (arith, lt))))

small_flow : (z : ℤ) → pos 0 ≤ℤ z → lt_z z term_limit ≡ true → nat_abs z < 2 ^ 126
small_flow (pos n) h e = grind (arith, ints)
small_flow (negsuc n) h e = absurd (omega (arith, ints, h))

module _ (p : List Entries) (l u : ℕ → ℤ) where
  -- the bounds of a term, which are small
  pub record IsTermOf (dir : Dir) (t : Term) (x : TermPair) : Type 0 where
    pub is : x ≡ term_pair p l u dir t
    pub small : is_small x ≡ true

  term_is : (dir : Dir) (t : Term) (x : TermPair) → term_of p l u dir t ≡ Ok x → IsTermOf dir t x
  unfolding term_of
  term_is dir t x h =
      let (small, is) = tested (is_small (term_pair p l u dir t)) (term_pair p l u dir t) x (too_large dir t) h in
      record { is = is; small = ap is_small is ∙ small }

  terms_are : (dir : Dir) (ts : List Term) (xs : List TermPair) → terms_of p l u dir ts ≡ Ok xs → AllZip (IsTermOf dir) ts xs
  unfolding terms_of
  terms_are dir [] xs h = let P : List TermPair → Type 0 = AllZip (IsTermOf dir) [] in subst P (same_ok [] xs (Ok []) refl h) tt
  terms_are dir (t ∷ ts) xs h =
      let a = bind_goes_through (term_of p l u dir t) _ xs h in
      let b = bind_goes_through (terms_of p l u dir ts) _ xs a.then_ in
      let P : List TermPair → Type 0 = AllZip (IsTermOf dir) (t ∷ ts) in
      subst P (same_ok (a.item ∷ b.item) xs (Ok (a.item ∷ b.item)) refl b.then_) (term_is dir t a.item a.first, terms_are dir ts b.item b.first)

  pub budget_are : (b : Budget) → budget_of p l u ≡ Ok b → AllZip (IsTermOf In) all_terms b.into × AllZip (IsTermOf Out) all_terms b.out
  unfolding budget_of
  budget_are b h =
      let i = bind_goes_through (terms_of p l u In all_terms) _ b h in
      let o = bind_goes_through (terms_of p l u Out all_terms) _ b i.then_ in
      let P : Budget → Type 0 = λ x. AllZip (IsTermOf In) all_terms x.into × AllZip (IsTermOf Out) all_terms x.out in
      let made : Budget = record { into = i.item; out = o.item } in
      subst P (same_ok made b (Ok made) refl o.then_) (terms_are In all_terms i.item i.first, terms_are Out all_terms o.item o.first)

  -- they are no less than none
  lo_none : (dir : Dir) (t : Term) → pos 0 ≤ℤ (term_pair p l u dir t).lo
  unfolding term_pair
  lo_none dir t = none_below (length p) (λ c. (parts dir (singles t (entries_at p c) (l c) (u c))).lo) (λ c. parts_lo dir (singles t (entries_at p c) (l c) (u c)))

  hi_none : (dir : Dir) (t : Term) → pos 0 ≤ℤ (term_pair p l u dir t).hi
  unfolding term_pair
  hi_none dir t = none_below (length p) (λ c. (parts dir (singles t (entries_at p c) (l c) (u c))).hi) (λ c. parts_hi dir (singles t (entries_at p c) (l c) (u c)))

  flow_is : (dir : Dir) (t : Term) (x : TermPair) → IsTermOf dir t x → IsFlowPair x
  flow_is dir t x h =
      let (lo, hi) = and_parts (lt_z x.lo term_limit) (lt_z x.hi term_limit) h.small in
      let N : TermPair → Type 0 = λ y. (pos 0 ≤ℤ y.lo) × (pos 0 ≤ℤ y.hi) in
      let none : N x = subst N (sym h.is) (lo_none dir t, hi_none dir t) in
      record { lo = small_flow x.lo none.0 lo; hi = small_flow x.hi none.1 hi }

  -- where no cell evaporates, ET is none
  module _ (none : (c : ℕ) → c < length p → (entries_at p c).evaps ≡ []) where
    no_part : (dir : Dir) (c : ℕ) → c < length p → parts dir (singles Et (entries_at p c) (l c) (u c)) ≡ no_pair
    unfolding parts singles
    no_part dir c lt = rw (none c lt) refl

    no_et_pair : (dir : Dir) → term_pair p l u dir Et ≡ no_pair
    unfolding term_pair
    no_et_pair dir =
        let lo = no_sum (length p) (λ c. (parts dir (singles Et (entries_at p c) (l c) (u c))).lo) (λ c lt. ap (λ (x : TermPair). x.lo) (no_part dir c lt)) in
        let hi = no_sum (length p) (λ c. (parts dir (singles Et (entries_at p c) (l c) (u c))).hi) (λ c lt. ap (λ (x : TermPair). x.hi) (no_part dir c lt)) in
        rw (lo, hi) refl

  -- ET has none where the model has no EVT
  pub terms_are_listed : (evt : Bool) → (evt ≡ false → (c : ℕ) → c < length p → (entries_at p c).evaps ≡ []) → (dir : Dir) (xs : List TermPair) →
      AllZip (IsTermOf dir) all_terms xs → AllZip (λ t x. IsPairIf (is_printed evt t) x) all_terms xs
  terms_are_listed evt none dir xs h = AllZip-weaker (IsTermOf dir) (λ t x. IsPairIf (is_printed evt t) x) (λ t x k. record { small = flow_is dir t x k; none = absent t x k }) all_terms xs h
    where
      absent : (t : Term) (x : TermPair) → IsTermOf dir t x → is_printed evt t ≡ false → x ≡ no_pair
      absent Et x k off = k.is ∙ no_et_pair (none off) dir
      absent other x k off = absurd (let bad : true ≡ false = off in cc)
