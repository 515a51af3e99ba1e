-- Sums of the flows over the faces between two zones, as whole numbers over one denominator.
use Rattle.exact_budgets.proofs.Common.{◌≡◌, ℕ, zero, suc, ◌<◌, ◌==◌, Bool, true, false, cond, ◌&&◌, List, [], ◌∷◌, ◌++◌, length, get_or, All, refl, sym, subst, arith, ℤ, pos, ◌+ℤ◌, slice_index}
use Rattle.exact_budgets.proofs.Common.{filter, flat_map, and_parts, eqb-true, All-head, All-tail, AllZip, ints, Fraction, whole, times, as_fraction, fraction_total, IsOver, FixedKind, Constant}
use Rattle.exact_budgets.proofs.Common.{General, minus, ExactFace, exact_from, exact_by_kind, is_exact_between, is_constant, IsOver-plus, IsOver-none, sum_below, Ratio, is_lower_zone}
use Rattle.std.proofs.lemmas.Bool.Decides.{nat_tests}
use Rattle.step_problem.specs.declared.entry.FixedKind.TheVariants.{Storage}
use Rattle.exact_budgets.proofs.Kept.{kept}

module _ (D : ℕ) (p : ExactFace → Bool) where
  abbrev Counts : Bool → Fraction → ℤ → Type 0
  Counts true f q = IsOver D f q
  Counts false f q = q ≡ pos 0

  -- the flows over those faces of a list that pass the test sum to z, over D
  abbrev pub SumTo : List ExactFace → ℤ → Type 0
  SumTo [] z = z ≡ pos 0
  SumTo (f ∷ fs) z = (q : ℤ) × (r : ℤ) × Counts (p f) f.flow q × SumTo fs r × (z ≡ q +ℤ r)

  pub sum_over : (fs : List ExactFace) (z : ℤ) → SumTo fs z → IsOver D (fraction_total (λ (f : ExactFace). f.flow) (filter p fs)) z
  sum_over [] z e = subst (λ (y : ℤ). IsOver D (whole (pos 0)) y) (sym e) (IsOver-none D)
  sum_over (f ∷ fs) z (q, r, counts, rest, e) = one (sum_over fs r rest) (p f) refl counts
    where
      one : IsOver D (fraction_total (λ (f : ExactFace). f.flow) (filter p fs)) r → (b : Bool) → p f ≡ b → Counts b f.flow q →
          IsOver D (fraction_total (λ (f : ExactFace). f.flow) (filter p (f ∷ fs))) z
      one others true is over = rw (is, e) (IsOver-plus D f.flow (fraction_total (λ (f : ExactFace). f.flow) (filter p fs)) q r over others)
      one others false is none = rw is (subst (λ (y : ℤ). IsOver D (fraction_total (λ (f : ExactFace). f.flow) (filter p fs)) y) (omega (arith, ints, e, none)) others)

  pub sum_append : (xs ys : List ExactFace) (a b : ℤ) → SumTo xs a → SumTo ys b → SumTo (xs ++ ys) (a +ℤ b)
  sum_append [] ys a b e h = subst (SumTo ys) (omega (arith, ints, e)) h
  sum_append (x ∷ xs) ys a b (q, r, counts, rest, e) h = (q, r +ℤ b, counts, sum_append xs ys r b rest h, omega (arith, ints, e))

  first_below : (z : ℕ → ℤ) (n : ℕ) → sum_below (suc n) z ≡ z 0 +ℤ sum_below n (λ j. z (suc j))
  first_below z zero = omega (arith, ints)
  first_below z (suc n) = rw (first_below z n) (omega (arith, ints))

  module _ {X : Type 0} (g : X → List ExactFace) where
    pub sum_none : (xs : List X) → All (λ x. SumTo (g x) (pos 0)) xs → SumTo (flat_map g xs) (pos 0)
    sum_none [] h = refl
    sum_none (x ∷ xs) h = sum_append (g x) (flat_map g xs) (pos 0) (pos 0) (All-head (λ y. SumTo (g y) (pos 0)) x xs h) (sum_none xs (All-tail (λ y. SumTo (g y) (pos 0)) x xs h))

    pub sum_kept : {Y : Type 0} (R : X → Y → Type 0) (P : X → Type 0) (t : X → Bool) (z : Y → ℤ) →
        ((x : X) (y : Y) → R x y → P x → SumTo (g x) (cond (t x) (z y) (pos 0))) → (xs : List X) (ys : List Y) → AllZip R xs ys → All P xs →
        SumTo (flat_map g xs) (kept t z xs ys)
    sum_kept R P t z each [] [] h a = refl
    sum_kept R P t z each [] (y ∷ ys) h a = absurd h
    sum_kept R P t z each (x ∷ xs) [] h a = absurd h
    sum_kept R P t z each (x ∷ xs) (y ∷ ys) h a =
        sum_append (g x) (flat_map g xs) (cond (t x) (z y) (pos 0)) (kept t z xs ys) (each x y h.0 (All-head P x xs a))
        (sum_kept R P t z each xs ys h.1 (All-tail P x xs a))

    pub sum_at : (d : X) (xs : List X) (z : ℕ → ℤ) → ((j : ℕ) → j < length xs → SumTo (g (get_or xs j d)) (z j)) → SumTo (flat_map g xs) (sum_below (length xs) z)
    sum_at d [] z each = refl
    sum_at d (x ∷ xs) z each =
        subst (SumTo (flat_map g (x ∷ xs))) (sym (first_below z (length xs)))
        (sum_append (g x) (flat_map g xs) (z 0) (sum_below (length xs) (λ j. z (suc j))) (each 0 (omega arith)) (sum_at d xs (λ j. z (suc j)) (λ j lt. each (suc j) (omega (arith, lt)))))

-- the faces from zone u to zone v, by the zones of their cells
module _ (D : ℕ) (zones : List ℕ) (h : ℕ → Fraction) (u v : ℕ) (some : 0 < u) (less : u < v) where
  abbrev pub leads : ℕ → ℕ → Bool
  leads x y = (slice_index zones x == u) && (slice_index zones y == v)

  abbrev pub Between : List ExactFace → ℤ → Type 0
  Between = SumTo D (is_exact_between u v)

  pub from_sum : (x y : ℕ) (c : Ratio) (q : ℤ) (t : Bool) → leads x y ≡ t → (t ≡ true → IsOver D (times (as_fraction c) (minus (h x) (h y))) q) → Between (exact_from zones h x y c) (cond t q (pos 0))
  unfolding exact_from
  from_sum x y c q t e over = by_test t (is_lower_zone (slice_index zones x) (slice_index zones y)) e over lower
    where
      flow : Fraction
      flow = times (as_fraction c) (minus (h x) (h y))

      lower : t ≡ true → is_lower_zone (slice_index zones x) (slice_index zones y) ≡ true
      lower f =
          let both = and_parts (slice_index zones x == u) (slice_index zones y == v) (rw f at e) in
          rw (eqb-true (slice_index zones x) u both.0, eqb-true (slice_index zones y) v both.1) (grind (arith, nat_tests))

      by_test : (t low : Bool) → leads x y ≡ t → (t ≡ true → IsOver D (times (as_fraction c) (minus (h x) (h y))) q) → (t ≡ true → low ≡ true) →
          Between (cond low (record { from = slice_index zones x; to = slice_index zones y; flow = times (as_fraction c) (minus (h x) (h y)) } ∷ []) [])
          (cond t q (pos 0))
      by_test true true e over f = (q, pos 0, subst (λ (b : Bool). Counts D (is_exact_between u v) b (times (as_fraction c) (minus (h x) (h y))) q) (sym e) (over refl), refl, omega (arith, ints))
      by_test true false e over f = absurd (let clash : false ≡ true = f refl in cc)
      by_test false true e over f = (pos 0, pos 0, subst (λ (b : Bool). Counts D (is_exact_between u v) b (times (as_fraction c) (minus (h x) (h y))) (pos 0)) (sym e) refl, refl, refl)
      by_test false false e over f = refl

  pub from_none : (x y : ℕ) (c : Ratio) → leads x y ≡ false → Between (exact_from zones h x y c) (pos 0)
  from_none x y c e = from_sum x y c (pos 0) false e (λ f. absurd (let clash : false ≡ true = f in cc))

  -- a branch to a known head
  pub known_sum : (kind : FixedKind) (x y : ℕ) (c : Ratio) (q r : ℤ) → (kind ≡ Constant → Between (exact_from zones h x y c) q) →
      (kind ≡ Constant → Between (exact_from zones h y x c) r) → Between (exact_by_kind zones h kind x y c) (cond (is_constant kind) (q +ℤ r) (pos 0))
  known_sum Storage x y c q r f g = refl
  known_sum General x y c q r f g = refl
  known_sum Constant x y c q r f g = sum_append D (is_exact_between u v) (exact_from zones h x y c) (exact_from zones h y x c) q r (f refl) (g refl)
