-- A problem that bounds the differences encloses their exact step, so what encloses its solutions bounds the differences of two plans' solutions.
use Rattle.plan_difference.proofs.Common.{◌≡◌, ℕ, suc, ◌*◌, ◌<◌, ◌≤◌, ◌^◌, ◌∙◌, ap, sym, subst, arith, ℤ, pos, ◌*ℤ◌, ◌-ℤ◌, ◌≤ℤ◌, List, [], ◌∷◌, ◌++◌, length, get_or, inl, inr, All, Contains, zero-*ℤ}
use Rattle.plan_difference.proofs.Common.{le_of_mul-le-mul_right, mul-le-mul_right, ints, AllZip, Encloses, Fraction, Ratio, AtMost, entries_at, no_entries, CellEncloses, ExactCell, ExactFixed}
use Rattle.plan_difference.proofs.Common.{ExactLink, FixedEncloses, HasEqualEnds, HasLinkBack, cell_at, no_cell, BoundsDifferences, SolutionsBoundDifferences, EnclosesDifferences, IsDifferenceCell}
use Rattle.plan_difference.proofs.Common.{IsDifferenceStep, IsOpenBranch, IsRampBranch, ExactFlow, All-cons, All-head, All-nil, All-tail}
use Rattle.std.proofs.{lemmas.Bool.cases_lt, lemmas.List.get_or_past}
use Rattle.decimal_input.specs.Ratios.{den}
use Rattle.step_problem.specs.{Entries.Entries, declared.entry.Fixed.Fixed}
use Rattle.plan_difference.proofs.{DifferenceBalance.difference_solves_it, DifferenceExists.difference_step_exists}

-- lists that are related place by place: from the places, one after the other, and by what both are related to
pub related_at : {X Y : Type 0} (R : X → Y → Type 0) (d : X) (e : Y) (xs : List X) (ys : List Y) → length xs ≡ length ys →
    ((c : ℕ) → c < length xs → R (get_or xs c d) (get_or ys c e)) → AllZip R xs ys
related_at R d e [] [] same each = tt
related_at R d e [] (y ∷ ys) same each = absurd (omega arith)
related_at R d e (x ∷ xs) [] same each = absurd (omega arith)
related_at R d e (x ∷ xs) (y ∷ ys) same each = (each 0 (omega arith), related_at R d e xs ys (omega arith) (λ c h. each (suc c) (omega arith)))

pub related_after : {X Y : Type 0} (R : X → Y → Type 0) (xs zs : List X) (ys ws : List Y) → AllZip R xs ys → AllZip R zs ws → AllZip R (xs ++ zs) (ys ++ ws)
related_after R [] zs [] ws first second = second
related_after R (x ∷ xs) zs (y ∷ ys) ws first second = (first.0, related_after R xs zs ys ws first.1 second)
related_after _ _ _ _ _ first second = absurd first

related_by : {X Y Z : Type 0} (R : X → Y → Type 0) (S : X → Z → Type 0) (T : Y → Z → Type 0) → ((x : X) (y : Y) (z : Z) → R x y → S x z → T y z) →
    (xs : List X) (ys : List Y) (zs : List Z) → AllZip R xs ys → AllZip S xs zs → AllZip T ys zs
related_by R S T each [] [] [] r s = tt
related_by R S T each [] [] (z ∷ zs) r s = absurd s
related_by R S T each [] (y ∷ ys) zs r s = absurd r
related_by R S T each (x ∷ xs) [] zs r s = absurd r
related_by R S T each (x ∷ xs) (y ∷ ys) [] r s = absurd s
related_by R S T each (x ∷ xs) (y ∷ ys) (z ∷ zs) r s = (each x y z r.0 s.0, related_by R S T each xs ys zs r.1 s.1)

-- a part of a conductance lies between 0 and what lies above the whole
part_enclosed : (hi s : ℕ) (own part : Ratio) → Encloses 0 hi s own → AtMost part own → Encloses 0 hi s part
part_enclosed hi s own part bound less = record { lower = omega arith; upper = le_of_mul-le-mul_right (below part.num own.num (den part) (den own) (10 ^ s) hi less.cross bound.upper) (omega arith) }
  where
    below : (n m a b t h : ℕ) → (n * b) ≤ (m * a) → (m * t) ≤ (h * b) → (n * t * b) ≤ (h * a * b)
    below n m a b t h p q = omega (arith, mul-le-mul_right t p, mul-le-mul_right a q)

module _ (s id : ℕ) (z : Fraction) where
  branch_enclosed : (own : Ratio) (gives other : Fraction) (p : Fixed) (b : ExactFixed) → IsOpenBranch s id own p → IsRampBranch id z own gives other b → FixedEncloses s p b
  branch_enclosed own gives other p b open_branch ramp = record {
    kind = open_branch.kind ∙ sym ramp.kind;
    source = open_branch.source ∙ sym ramp.source;
    conductance = rw open_branch.lo (part_enclosed p.hi s own b.conductance open_branch.conductance ramp.at_most);
    head = rw (open_branch.head.0, open_branch.head.1, ramp.head) (record { lower = none (pos (10 ^ 9)); upper = none_above (pos (10 ^ 9)) });
  }
    where
      none : (k : ℤ) → (pos 0 *ℤ pos 1) ≤ℤ (pos 0 *ℤ k)
      none k = rw (zero-*ℤ k) (omega (arith, ints))

      none_above : (k : ℤ) → (pos 0 *ℤ k) ≤ℤ (pos 0 *ℤ pos 1)
      none_above k = rw (zero-*ℤ k) (omega (arith, ints))

cell_enclosed : (s : ℕ) (v w z : Fraction) (p : Entries) (qs : List ExactFlow) (x y g : ExactCell) → BoundsDifferences s p qs x y → IsDifferenceCell v w z qs x y g → CellEncloses s p g
cell_enclosed s v w z p qs x y g bounds is = record {
  id = bounds.id ∙ sym is.id;
  flows = rw is.flows bounds.flows;
  links = rw is.links bounds.links;
  fixed = rw (bounds.fixed, is.fixed)
      (related_after (FixedEncloses s) bounds.known _ _ _ bounds.known_heads
      (related_after (FixedEncloses s) bounds.of_rivers _ is.of_rivers _
      (related_by _ _ (FixedEncloses s) (λ r. branch_enclosed s x.id z r.conductance _ _) x.rivers bounds.of_rivers is.of_rivers bounds.rivers is.rivers)
      (related_after (FixedEncloses s) bounds.of_drains _ is.of_drains _
      (related_by _ _ (FixedEncloses s) (λ r. branch_enclosed s x.id z r.conductance _ _) x.drains bounds.of_drains is.of_drains bounds.drains is.drains)
      (related_by _ _ (FixedEncloses s) (λ r. branch_enclosed s x.id z r.conductance _ _) x.evaps bounds.of_evaps is.of_evaps bounds.evaps is.evaps))));
  rivers = rw (bounds.no_ramps.0, is.no_ramps.0) tt;
  drains = rw (bounds.no_ramps.1, is.no_ramps.1) tt;
  evaps = rw (bounds.no_ramps.2, is.no_ramps.2) tt;
}

module _ (d : ℕ) (X Y : ℕ → ℤ) (qs : ℕ → List ExactFlow) (e f g : List ExactCell) (is : IsDifferenceStep d X Y qs e f g) where
  -- the differences' step has the links of the base plan's
  same_links : (k : ℕ) → (cell_at e k).links ≡ (cell_at g k).links
  same_links k = elim (cases_lt k (length e)) [
    | inl inside ↦ sym (is.cells k inside).links
    | inr past ↦ ap (λ (x : ExactCell). x.links) (get_or_past e k no_cell past ∙ sym (get_or_past g k no_cell (omega (arith, is.as_many))))
  ]

  link_back : (c : ℕ) (x : ExactLink) → HasLinkBack e c x → HasLinkBack g c x
  link_back c x back = record {
    back = back.back;
    is_there = subst (λ (ls : List ExactLink). Contains ls back.back) (same_links x.cell) back.is_there;
    leads_back = back.leads_back;
    same = back.same;
  }

  links_back : (c : ℕ) (ls : List ExactLink) → All (HasLinkBack e c) ls → All (HasLinkBack g c) ls
  links_back c [] all = All-nil (HasLinkBack g c)
  links_back c (x ∷ ls) all = All-cons (HasLinkBack g c) x ls (link_back c x (All-head (HasLinkBack e c) x ls all)) (links_back c ls (All-tail (HasLinkBack e c) x ls all))

  pub equal_ends : HasEqualEnds e → HasEqualEnds g
  equal_ends ends c h = subst (λ (ls : List ExactLink). All (HasLinkBack g c) ls) (same_links c) (links_back c (cell_at e c).links (ends c (omega (arith, is.as_many))))

pub differences_are_enclosed : EnclosesDifferences
differences_are_enclosed s p d X Y qs e f g bounds is = record {
  cells = related_at (CellEncloses s) no_entries no_cell p g (bounds.as_many.0 ∙ sym is.as_many)
      (λ c h. cell c (omega (arith, bounds.as_many.0)));
  ends = equal_ends d X Y qs e f g is bounds.ends;
}
  where
    cell : (c : ℕ) → c < length e → CellEncloses s (entries_at p c) (cell_at g c)
    cell c here = cell_enclosed s _ _ _ (entries_at p c) (qs c) (cell_at e c) (cell_at f c) (cell_at g c) (bounds.cells c here) (is.cells c here)

pub solutions_bound_differences : SolutionsBoundDifferences
solutions_bound_differences s p l u qs e f d X Y bounds solved encloses =
    let (g, is) = difference_step_exists d X Y qs e f solved.some in
    encloses s g d (λ c. X c -ℤ Y c) (differences_are_enclosed s p d X Y qs e f g bounds is) solved.some
    (difference_solves_it d X Y qs e f g solved.some solved.weather bounds.apart is solved.base solved.other)
