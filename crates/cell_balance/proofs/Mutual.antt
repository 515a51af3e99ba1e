-- Where a step's cells are linked, any two cells conduct the same to each other.
use Rattle.cell_balance.proofs.Common.{◌≡◌, ℕ, suc, zero, ◌*◌, ◌<◌, ◌⊎◌, inl, inr, refl, sym, ap, ◌∙◌, subst, arith, pos, List, [], ◌∷◌, length, get_or, Contains, AllZip, cases_eq, ne_eqb, eq-eqb}
use Rattle.cell_balance.proofs.Common.{ints, All-get_or, Ratio, IsShare, ExactLink, mul-pos, ExactCell, cell_at, no_cell, HasLinkBack, AreLinked, no_link, eq_of_mul-eq-mul_right}
use Rattle.decimal_input.specs.Ratios.{Same, den}
use Rattle.cell_balance.proofs.{Zips.AllZip-at, Zips.AllZip-length, Zips.All-zip, Zips.WholeLink, Zips.WholeCell, Zips.whole_at, Zips.no_whole, Dry.weight, Dry.IsMutual, Over.LinkOver, Over.CellOver}

abbrev pub no_whole_link : WholeLink
no_whole_link = record { cell = 0; c = 0 }

-- no two links of the list lead to one cell
abbrev Apart : List WholeLink → Type 0
Apart xs = (i j : ℕ) → i < j → j < length xs → (get_or xs i no_whole_link).cell ≡ (get_or xs j no_whole_link).cell → ⊥

weight_none : (xs : List WholeLink) (k : ℕ) → ((i : ℕ) → i < length xs → (get_or xs i no_whole_link).cell ≡ k → ⊥) → weight xs k ≡ pos 0
weight_none [] k h = refl
weight_none (x ∷ xs) k h = rw (ne_eqb x.cell k (h 0 (omega arith)), weight_none xs k (λ i j e. h (suc i) (omega arith) e)) refl

weight_one : (xs : List WholeLink) (i k : ℕ) → Apart xs → i < length xs → (get_or xs i no_whole_link).cell ≡ k → weight xs k ≡ pos (get_or xs i no_whole_link).c
weight_one [] i k apart h e = absurd (omega arith)
weight_one (x ∷ xs) zero k apart h e =
    rw (eq-eqb x.cell k e, weight_none xs k (λ j l f. apart 0 (suc j) (omega arith) (omega arith) (e ∙ sym f))) (omega (arith, ints))
weight_one (x ∷ xs) (suc i) k apart h e =
    rw (ne_eqb x.cell k (λ f. apart 0 (suc i) (omega arith) h (f ∙ sym e)), weight_one xs i k (λ a b l m f. apart (suc a) (suc b) (omega arith) (omega arith) f) (omega arith) e) (omega (arith, ints))

-- a list has a link to k, or none
search_link : (xs : List WholeLink) (k : ℕ) → ((i : ℕ) × (i < length xs) × ((get_or xs i no_whole_link).cell ≡ k)) ⊎ ((i : ℕ) → i < length xs → (get_or xs i no_whole_link).cell ≡ k → ⊥)
search_link [] k = inr (λ i h e. omega arith)
search_link (x ∷ xs) k =
    elim (cases_eq x.cell k) [
      | inl e ↦ inl (0, omega arith, e)
      | inr e ↦ elim (search_link xs k) [
        | inl (i, h, f) ↦ inl (suc i, omega arith, f)
        | inr none ↦ inr (not_here e none)
      ]
    ]
  where
    not_here : (x.cell ≡ k → ⊥) → ((i : ℕ) → i < length xs → (get_or xs i no_whole_link).cell ≡ k → ⊥) → (i : ℕ) → i < suc (length xs) → (get_or (x ∷ xs) i no_whole_link).cell ≡ k → ⊥
    not_here e none zero h f = e f
    not_here e none (suc i) h f = none i (omega arith) f

-- one fraction has one share
same_share : (d a b : ℕ) (q r : Ratio) → Same q r → IsShare d q a → IsShare d r b → a ≡ b
same_share d a b q r s p o = eq_of_mul-eq-mul_right (den q * den r) (mul-pos (omega arith) (omega arith)) a b (cross q.num (den q) r.num (den r) d a b s.cross p.is o.is)
  where
    cross : (n x m y d a b : ℕ) → n * y ≡ m * x → n * d ≡ a * x → m * d ≡ b * y → a * (x * y) ≡ b * (x * y)
    cross n x m y d a b s p o =
        let first : n * d * y ≡ a * x * y = ap (λ (z : ℕ). z * y) p in
        let second : m * d * x ≡ b * y * x = ap (λ (z : ℕ). z * x) o in
        let third : n * y * d ≡ m * x * d = ap (λ (z : ℕ). z * d) s in
        omega (arith, first, second, third)

module _ (k m : ℕ) (e : List ExactCell) (w : List WholeCell) (linked : AreLinked e) (over : AllZip (CellOver k m) e w) where
  same_length : length e ≡ length w
  same_length = AllZip-length (CellOver k m) e w over

  cell_over : (c : ℕ) → c < length w → CellOver k m (cell_at e c) (whole_at w c)
  cell_over c i = AllZip-at (CellOver k m) e w c no_cell no_whole over (omega (arith, same_length))

  same_links : (c : ℕ) → c < length w → length (cell_at e c).links ≡ length (whole_at w c).links
  same_links c i = AllZip-length (LinkOver k m) (cell_at e c).links (whole_at w c).links (cell_over c i).links

  link_over : (c i : ℕ) → c < length w → i < length (whole_at w c).links → LinkOver k m (get_or (cell_at e c).links i no_link) (get_or (whole_at w c).links i no_whole_link)
  link_over c i h j = AllZip-at (LinkOver k m) (cell_at e c).links (whole_at w c).links i no_link no_whole_link (cell_over c h).links (omega (arith, same_links c h))

  apart : (c : ℕ) → c < length w → Apart (whole_at w c).links
  apart c h i j less inside same =
      linked.apart c i j (omega (arith, same_length)) less (omega (arith, same_links c h))
      ((link_over c i h (omega arith)).same ∙ same ∙ sym (link_over c j h inside).same)

  -- the link back of a link, in whole numbers
  back : (c d i : ℕ) → c < length w → i < length (whole_at w c).links → (get_or (whole_at w c).links i no_whole_link).cell ≡ d → d < length w → (j : ℕ) ×
      (j < length (whole_at w d).links) × ((get_or (whole_at w d).links j no_whole_link).cell ≡ c) ×
      ((get_or (whole_at w d).links j no_whole_link).c ≡ (get_or (whole_at w c).links i no_whole_link).c)
  back c d i h j is inside =
      let here = link_over c i h j in
      let ends = All-get_or (HasLinkBack e c) (cell_at e c).links i no_link (omega (arith, same_links c h)) (linked.ends c (omega (arith, same_length))) in
      let leads : (get_or (cell_at e c).links i no_link).cell ≡ d = here.same ∙ is in
      let (place, short, there) = subst (λ (z : ℕ). Contains (cell_at e z).links ends.back) leads ends.is_there in
      let short_w : place < length (whole_at w d).links = omega (arith, same_links d inside, short) in
      let over_there = link_over d place inside short_w in
      let is_back = default_free (cell_at e d).links place ends.back short there in (
        place,
        short_w,
        sym over_there.same ∙ ap (λ (z : ExactLink). z.cell) is_back ∙ ends.leads_back,
        same_share k _ _ ends.back.conductance (get_or (cell_at e c).links i no_link).conductance ends.same
            (subst (λ (z : ExactLink). IsShare k z.conductance (get_or (whole_at w d).links place no_whole_link).c) is_back over_there.c) here.c,
      )
    where
      default_free : (xs : List ExactLink) (i : ℕ) (x : ExactLink) → i < length xs → get_or xs i x ≡ x → get_or xs i no_link ≡ x
      default_free [] i x h f = absurd (omega arith)
      default_free (y ∷ ys) zero x h f = f
      default_free (y ∷ ys) (suc i) x h f = default_free ys i x (omega arith) f

  same_weight : (c d : ℕ) → c < length w → d < length w → weight (whole_at w c).links d ≡ weight (whole_at w d).links c
  same_weight c d h k =
      elim (search_link (whole_at w c).links d) [
        | inl (i, inside, is) ↦
            let (j, there, leads, same) = back c d i h inside is k in
            weight_one (whole_at w c).links i d (apart c h) inside is ∙ sym (weight_one (whole_at w d).links j c (apart d k) there leads ∙ ap pos same)
        | inr none ↦ elim (search_link (whole_at w d).links c) [
          | inl (i, inside, is) ↦ let (j, there, leads, same) = back d c i k inside is h in absurd (none j there leads)
          | inr none_back ↦ weight_none (whole_at w c).links d none ∙ sym (weight_none (whole_at w d).links c none_back)
        ]
      ]

  pub mutual_whole : IsMutual w
  mutual_whole = record {
    range = λ c h. All-zip (LinkOver k m) (λ x. x.cell < length e) (λ x. x.cell < length w) (λ x y r i. omega (arith, r.same, i, same_length))
        (cell_at e c).links (whole_at w c).links (cell_over c h).links (linked.range c (omega (arith, same_length)));
    same = same_weight;
  }
