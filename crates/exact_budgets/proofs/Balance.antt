-- The budget of a solution is balanced: over all cells the flows over links cancel, and each cell's balance is zero.
use Rattle.exact_budgets.proofs.Common.{◌≡◌, ℕ, zero, suc, ◌*◌, ◌<◌, refl, sym, ap, ◌∙◌, subst, arith, ℤ, pos, ◌+ℤ◌, ◌-ℤ◌, ◌*ℤ◌, List, [], ◌∷◌, length, All, true, mul-pos, AllZip, ints}
use Rattle.exact_budgets.proofs.Common.{All-from_get_or, Fraction, fraction_total, IsOver, total, In, Out, Term, ExactCell, cell_at, no_cell, AreLinked, no_link, link_flow, share, SolvesStep}
use Rattle.exact_budgets.proofs.Common.{IsOver-plus, IsOver-minus, IsOver-none, IsOver-total, zero_over, over_zero, LinkOver, CellOver, link_over, WholeCell, whole_at, no_whole, whole_link, same_over}
use Rattle.exact_budgets.proofs.Common.{all_terms, exact_part, exact_singles, exact_term, heads_of, net_flow, SolutionsBalance, AllZip-at, AllZip-length, step_common, whole_step, total_below}
use Rattle.exact_budgets.proofs.Common.{whole_solves}
use Rattle.cell_balance.proofs.ExactLaws.{heads_over, links_cancel}
use Rattle.exact_budgets.proofs.{Kept.Parts, CellNets.net_of, CellNets.parts_of, CellNets.nets_balance}

total-same : (f g : Term → ℤ) → ((t : Term) → f t ≡ g t) → (ts : List Term) → total f ts ≡ total g ts
total-same f g each [] = refl
total-same f g each (t ∷ ts) = rw (each t, total-same f g each ts) refl

total-add_differences : (a b c d : Term → ℤ) (ts : List Term) → total (λ t. a t +ℤ b t -ℤ (c t +ℤ d t)) ts ≡ total (λ t. a t -ℤ c t) ts +ℤ total (λ t. b t -ℤ d t) ts
total-add_differences a b c d [] = refl
total-add_differences a b c d (t ∷ ts) = rw (total-add_differences a b c d ts) (omega (arith, ints))

total-difference : (a b : Term → ℤ) (ts : List Term) → total (λ t. a t -ℤ b t) ts ≡ total a ts -ℤ total b ts
total-difference a b [] = refl
total-difference a b (t ∷ ts) = rw (total-difference a b ts) (omega (arith, ints))

pub over_terms : (D : ℕ) (f : Term → Fraction) (z : Term → ℤ) → ((t : Term) → IsOver D (f t) (z t)) → (ts : List Term) → IsOver D (fraction_total f ts) (total z ts)
over_terms D f z each [] = IsOver-none D
over_terms D f z each (t ∷ ts) = IsOver-plus D _ _ _ _ (each t) (over_terms D f z each ts)

-- the terms of a step over a denominator, which sum to 0
pub record TermsOver (e : List ExactCell) (h : ℕ → Fraction) : Type 0 where
  pub D : ℕ
  pub some : 0 < D
  pub into : Term → ℤ
  pub out : Term → ℤ
  pub are_in : (t : Term) → IsOver D (exact_term e h In t) (into t)
  pub are_out : (t : Term) → IsOver D (exact_term e h Out t) (out t)
  pub none : total (λ t. into t -ℤ out t) all_terms ≡ pos 0

-- the terms and the links of the first n cells
record CellsOver (e : List ExactCell) (h : ℕ → Fraction) (D n : ℕ) : Type 0 where
  into : Term → ℤ
  out : Term → ℤ
  links : ℤ
  are_in : (t : Term) → IsOver D (total_below n (λ c. fraction_total (exact_part In) (exact_singles t (cell_at e c) (h c)))) (into t)
  are_out : (t : Term) → IsOver D (total_below n (λ c. fraction_total (exact_part Out) (exact_singles t (cell_at e c) (h c)))) (out t)
  are_links : IsOver D (total_below n (λ c. fraction_total (link_flow h (h c)) (cell_at e c).links)) links
  none : links +ℤ total (λ t. into t -ℤ out t) all_terms ≡ pos 0

module _ (e : List ExactCell) (d : ℕ) (X : ℕ → ℤ) (linked : AreLinked e) (some : 0 < d) (solves : SolvesStep e d X) where
  -- over these denominators, with the whole numbers of the step
  module _ (k m : ℕ) (w : List WholeCell) (over : AllZip (CellOver k m) e w) (Y : ℕ → ℤ) (heads : (c : ℕ) → IsOver m (share d (X c)) (Y c)) where
    -- one cell more
    cell_more : (n : ℕ) → n < length e → CellsOver e (heads_of d X) (k * m) n → CellsOver e (heads_of d X) (k * m) (suc n)
    cell_more n here rest = record {
      into = λ t. rest.into t +ℤ (parts t).into;
      out = λ t. rest.out t +ℤ (parts t).out;
      links = rest.links +ℤ flows_over_links;
      are_in = λ t. IsOver-plus (k * m) _ _ _ _ (rest.are_in t) (parts t).is_in;
      are_out = λ t. IsOver-plus (k * m) _ _ _ _ (rest.are_out t) (parts t).is_out;
      are_links = IsOver-plus (k * m) _ _ _ _ rest.are_links
          (IsOver-total (LinkOver k m) (k * m) _ _ (link_over k m (share d (X n)) (Y n) (heads n) (heads_of d X) Y heads) (cell_at e n).links (whole_at w n).links cell.links);
      none = joined rest.links (total (λ t. rest.into t -ℤ rest.out t) all_terms) flows_over_links (total nets all_terms) _ sum rest.none zero_here;
    }
      where
        cell : CellOver k m (cell_at e n) (whole_at w n)
        cell = AllZip-at (CellOver k m) e w n no_cell no_whole over here

        nets : Term → ℤ
        nets t = net_of k m (share d (X n)) (Y n) (heads n) (cell_at e n) (whole_at w n) cell t

        parts : (t : Term) → Parts (k * m) (exact_singles t (cell_at e n) (share d (X n))) (nets t)
        parts t = parts_of k m (share d (X n)) (Y n) (heads n) (cell_at e n) (whole_at w n) cell t

        flows_over_links : ℤ
        flows_over_links = total (whole_link Y (Y n)) (whole_at w n).links

        zero_here : flows_over_links +ℤ total nets all_terms ≡ pos 0
        zero_here = sym (nets_balance k m (share d (X n)) (Y n) (heads n) (cell_at e n) (whole_at w n) cell Y) ∙ whole_solves k m e w d X Y over solves heads n
            (omega (arith, here, AllZip-length (CellOver k m) e w over))

        sum : total (λ t. rest.into t +ℤ (parts t).into -ℤ (rest.out t +ℤ (parts t).out)) all_terms ≡ total (λ t. rest.into t -ℤ rest.out t) all_terms +ℤ total nets all_terms
        sum =
            total-add_differences rest.into (λ t. (parts t).into) rest.out (λ t. (parts t).out) all_terms
            ∙ ap (λ (z : ℤ). total (λ t. rest.into t -ℤ rest.out t) all_terms +ℤ z) (total-same (λ t. (parts t).into -ℤ (parts t).out) nets (λ t. (parts t).net) all_terms)

        joined : (l t m u both : ℤ) → both ≡ t +ℤ u → l +ℤ t ≡ pos 0 → m +ℤ u ≡ pos 0 → l +ℤ m +ℤ both ≡ pos 0
        joined l t m u both e f g = omega (arith, ints)

    cells_over : (n : ℕ) → ((c : ℕ) → c < n → c < length e) → CellsOver e (heads_of d X) (k * m) n
    cells_over zero inside = record {
      into = λ t. pos 0;
      out = λ t. pos 0;
      links = pos 0;
      are_in = λ t. IsOver-none (k * m);
      are_out = λ t. IsOver-none (k * m);
      are_links = IsOver-none (k * m);
      none = refl;
    }
    cells_over (suc n) inside = cell_more n (inside n (omega arith)) (cells_over n (λ c i. inside c (omega arith)))

    whole_terms : 0 < k * m → TermsOver e (heads_of d X)
    unfolding exact_term
    whole_terms some_product = record {
      D = k * m;
      some = some_product;
      into = all.into;
      out = all.out;
      are_in = all.are_in;
      are_out = all.are_out;
      none = without all.links _ (zero_over (k * m) _ all.links all.are_links (links_cancel e (λ c. true) d X linked (λ c i t. all_true (cell_at e c)) some)) all.none;
    }
      where
        all : CellsOver e (heads_of d X) (k * m) (length e)
        all = cells_over (length e) (λ c i. i)

        all_true : (c : ExactCell) → All (λ x. true ≡ true) c.links
        all_true c = All-from_get_or (λ x. true ≡ true) c.links no_link (λ i h. refl)

        without : (l t : ℤ) → l ≡ pos 0 → l +ℤ t ≡ pos 0 → t ≡ pos 0
        without l t e h = omega (arith, ints)

  pub terms_over : TermsOver e (heads_of d X)
  terms_over =
      let (n, some_n, common) = step_common e in
      let (w, over) = whole_step n 1 d e common in
      whole_terms (n * 1) (n * d) w over (λ c. X c *ℤ pos n) (λ c. heads_over n d some (X c)) (mul-pos {m = n * 1} {n = n * d} (omega arith) (mul-pos some_n some))

pub net_over : (e : List ExactCell) (h : ℕ → Fraction) (o : TermsOver e h) (t : Term) → IsOver o.D (net_flow e h t) (o.into t -ℤ o.out t)
net_over e h o t = IsOver-minus o.D _ _ _ _ (o.are_in t) (o.are_out t)

pub solutions_balance : SolutionsBalance
solutions_balance e d X linked some solves = record {
  in_is_out = same_over o.D _ _ _ _ o.some (over_terms o.D (exact_term e (heads_of d X) In) o.into o.are_in all_terms)
      (over_terms o.D (exact_term e (heads_of d X) Out) o.out o.are_out all_terms)
      (equal (total o.into all_terms) (total o.out all_terms) (total (λ t. o.into t -ℤ o.out t) all_terms) (total-difference o.into o.out all_terms) o.none);
  nets = over_zero o.D (fraction_total (net_flow e (heads_of d X)) all_terms) o.some
      (subst (λ (z : ℤ). IsOver o.D (fraction_total (net_flow e (heads_of d X)) all_terms) z) o.none
      (over_terms o.D (net_flow e (heads_of d X)) (λ t. o.into t -ℤ o.out t) (net_over e (heads_of d X) o) all_terms));
}
  where
    o : TermsOver e (heads_of d X)
    o = terms_over e d X linked some solves

    equal : (a b z : ℤ) → z ≡ a -ℤ b → z ≡ pos 0 → a ≡ b
    equal a b z e h = omega (arith, ints)
