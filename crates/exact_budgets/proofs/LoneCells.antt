-- What flows between the zone of a lone cell and another zone is what flows over the cell's links and from its constant heads.
use Rattle.exact_budgets.proofs.Common.{◌≡◌, ◌⊎◌, inl, inr, ℕ, zero, suc, ◌+◌, ◌*◌, ◌<◌, ◌==◌, Bool, true, false, cond, ◌&&◌, List, [], ◌∷◌, length, All, refl, sym, ap, ◌∙◌, subst, arith, mul-pos, ℤ}
use Rattle.exact_budgets.proofs.Common.{pos, neg_ℤ, ◌+ℤ◌, ◌-ℤ◌, ◌*ℤ◌, slice_index, flat_map, AllZip, ints, total, Fraction, den, opposite, times, as_fraction, IsOver, Same, Constant, ExactLink}
use Rattle.exact_budgets.proofs.Common.{ExactFixed, ExactCell, cell_at, no_cell, AreLinked, minus, link_flow, fixed_flow, ExactFace, exact_link, exact_fixed, exact_cell, exact_faces, is_exact_between}
use Rattle.exact_budgets.proofs.Common.{exact_flow, is_constant, own_zone, IsAlone, inflow_from, LoneCellsHaveTheirFlows, same_over, IsOver-plus, IsOver-negated, LinkOver, FixedOver, CellOver}
use Rattle.exact_budgets.proofs.Common.{link_over, fixed_over, WholeCell, whole_at, no_whole, whole_link, whole_fixed, cases_eq, eq-eqb, ne_eqb, All-weaker, nat_eq, sum_below, WholeLink, WholeEntry}
use Rattle.exact_budgets.proofs.Common.{AllZip-at, AllZip-length, All-zip, Goes, Goes-trans, product, some_product, fraction_over, step_common, whole_step}
use Rattle.std.proofs.Math.IntN.{*ℤ-zero, zero-*ℤ}
use Rattle.std.proofs.Math.Bool.{and-true, and-false}
use Rattle.cell_balance.proofs.{Dry.weight, Dry.by_weight, Dry.IsMutual, Sums.sum-add, Sums.sum-one, Mutual.mutual_whole, Deep.add_mul, EntryFlows.difference_over, WholeBalances.times_one}
use Rattle.step_problem.proofs.Leasts.{mul_neg}
use Rattle.exact_budgets.proofs.Kept.{kept, kept_over, kept_is, kept_none, kept_turned}
use Rattle.exact_budgets.proofs.FaceSums.{sum_over, sum_append, sum_none, sum_kept, sum_at, leads, Between, from_sum, from_none, known_sum}

-- a flow from its other end
turned : (c x y : ℤ) → c *ℤ (x -ℤ y) ≡ neg_ℤ (c *ℤ (y -ℤ x))
turned c x y = let e : x -ℤ y ≡ neg_ℤ (y -ℤ x) = omega (arith, ints) in rw e (mul_neg c (y -ℤ x))

-- the whole numbers of the step over k and m, and of the heads of its cells over m
module _ (zones : List ℕ) (e : List ExactCell) (i b : ℕ) (h : ℕ → Fraction) (alone : IsAlone zones e i) (apart : own_zone zones e i ≡ b → ⊥)
    (heads : All (λ x. x.kind ≡ Constant → h x.source ≡ x.head) (cell_at e i).fixed)
    (k m : ℕ) (w : List WholeCell) (over : AllZip (CellOver k m) e w) (H : ℕ → ℤ) (is : (j : ℕ) → IsOver m (h (cell_at e j).id) (H j))
  where
    abbrev a : ℕ
    a = own_zone zones e i

    abbrev zone : ℕ → ℕ
    zone j = slice_index zones (cell_at e j).id

    abbrev to_links : ExactLink → Bool
    to_links x = zone x.cell == b

    abbrev to_known : ExactFixed → Bool
    to_known x = is_constant x.kind && (slice_index zones x.source == b)

    cell : (j : ℕ) → j < length e → CellOver k m (cell_at e j) (whole_at w j)
    cell j lt = AllZip-at (CellOver k m) e w j no_cell no_whole over lt

    -- what flows into the lone cell from zone b
    abbrev linked : ℤ
    linked = kept to_links (whole_link H (H i)) (cell_at e i).links (whole_at w i).links

    abbrev known : ℤ
    known = kept to_known (whole_fixed (H i)) (cell_at e i).fixed (whole_at w i).fixed

    inflow_over : IsOver (k * m) (inflow_from zones e i h b) (linked +ℤ known)
    inflow_over =
        let own = cell i alone.inside in
        IsOver-plus (k * m) _ _ _ _
        (kept_over (LinkOver k m) (k * m) (link_flow (λ c. h (cell_at e c).id) (h (cell_at e i).id)) (whole_link H (H i))
        (link_over k m (h (cell_at e i).id) (H i) (is i) (λ c. h (cell_at e c).id) H is) to_links (cell_at e i).links (whole_at w i).links own.links)
        (kept_over (FixedOver k m) (k * m) (fixed_flow (h (cell_at e i).id)) (whole_fixed (H i)) (fixed_over k m (h (cell_at e i).id) (H i) (is i)) to_known
        (cell_at e i).fixed (whole_at w i).fixed own.fixed)

    -- from zone u to zone v
    module _ (u v : ℕ) (some : 0 < u) (less : u < v) where
      abbrev Flows : List ExactFace → ℤ → Type 0
      Flows = Between (k * m) zones h u v some less

      abbrev crosses : ℕ → ExactLink → Bool
      crosses j x = (zone j == u) && (zone x.cell == v)

      links_cross : (j : ℕ) → j < length e →
          Flows (flat_map (exact_link zones h e (cell_at e j)) (cell_at e j).links)
          (kept (crosses j) (λ (y : WholeLink). pos y.c *ℤ (H j -ℤ H y.cell)) (cell_at e j).links (whole_at w j).links)
      links_cross j lt =
          sum_kept (k * m) (is_exact_between u v) (exact_link zones h e (cell_at e j)) (LinkOver k m) (λ x. Unit {0}) (crosses j) (λ (y : WholeLink). pos y.c *ℤ (H j -ℤ H y.cell))
          (λ x y r t. from_sum (k * m) zones h u v some less (cell_at e j).id (cell_at e x.cell).id x.conductance (pos y.c *ℤ (H j -ℤ H y.cell)) (crosses j x) refl
          (λ f. difference_over k m y.c x.conductance (h (cell_at e j).id) (h (cell_at e x.cell).id) (H j) (H y.cell) r.c (is j)
          (subst (λ (n : ℕ). IsOver m (h (cell_at e x.cell).id) (H n)) r.same (is x.cell))))
          (cell_at e j).links (whole_at w j).links (cell j lt).links (λ n d l. tt)

      -- no face of another cell's known heads
      module _ (own : (u ≡ a) ⊎ (v ≡ a)) where
        no_face : (x y : ℕ) → (slice_index zones x ≡ a → ⊥) → (slice_index zones y ≡ a → ⊥) → leads (k * m) zones h u v some less x y ≡ false
        no_face x y p q = elim own [
          | inl s ↦ rw (s, ne_eqb (slice_index zones x) a p) refl
          | inr s ↦ rw (s, ne_eqb (slice_index zones y) a q) (and-false (slice_index zones x == u))
        ]

        no_known : (j : ℕ) → j < length e → (j ≡ i → ⊥) → Flows (flat_map (exact_fixed zones h (cell_at e j)) (cell_at e j).fixed) (pos 0)
        no_known j lt other =
            sum_none (k * m) (is_exact_between u v) (exact_fixed zones h (cell_at e j)) (cell_at e j).fixed
            (All-weaker (λ x. x.kind ≡ Constant → slice_index zones x.source ≡ a → ⊥) (λ x. Flows (exact_fixed zones h (cell_at e j) x) (pos 0))
            (λ x source. subst (Flows (exact_fixed zones h (cell_at e j) x)) (nothing (is_constant x.kind))
            (known_sum (k * m) zones h u v some less x.kind (cell_at e j).id x.source x.conductance (pos 0) (pos 0)
            (λ c. from_none (k * m) zones h u v some less (cell_at e j).id x.source x.conductance (no_face (cell_at e j).id x.source (λ s. other (alone.others j lt s)) (source c)))
            (λ c. from_none (k * m) zones h u v some less x.source (cell_at e j).id x.conductance (no_face x.source (cell_at e j).id (source c) (λ s. other (alone.others j lt s))))))
            (cell_at e j).fixed (alone.sources j lt))
          where
            nothing : (t : Bool) → cond t (pos 0 +ℤ pos 0) (pos 0) ≡ pos 0
            nothing true = refl
            nothing false = refl

      -- the faces of the lone cell's known heads, of which q is the flow over one
      own_known : (q : WholeEntry → ℤ) → ((x : ExactFixed) (y : WholeEntry) → FixedOver k m x y → (x.kind ≡ Constant → h x.source ≡ x.head) →
          (x.kind ≡ Constant → slice_index zones x.source ≡ a → ⊥) → Flows (exact_fixed zones h (cell_at e i) x) (cond (to_known x) (q y) (pos 0))) →
          Flows (flat_map (exact_fixed zones h (cell_at e i)) (cell_at e i).fixed) (kept to_known q (cell_at e i).fixed (whole_at w i).fixed)
      own_known q each =
          sum_kept (k * m) (is_exact_between u v) (exact_fixed zones h (cell_at e i)) (FixedOver k m) (λ x. (x.kind ≡ Constant → h x.source ≡ x.head) ×
          (x.kind ≡ Constant → slice_index zones x.source ≡ a → ⊥)) to_known q
          (λ x y r f. each x y r f.0 f.1) (cell_at e i).fixed (whole_at w i).fixed (cell i alone.inside).fixed (λ n d l. (heads n d l, alone.sources i alone.inside n d l))

      all_cells : (z : ℕ → ℤ) → ((j : ℕ) → j < length e → Flows (exact_cell zones h e (cell_at e j)) (z j)) → IsOver (k * m) (exact_flow u v (exact_faces zones h e)) (sum_below (length e) z)
      unfolding exact_faces
      all_cells z each = sum_over (k * m) (is_exact_between u v) (flat_map (exact_cell zones h e) e) _ (sum_at (k * m) (is_exact_between u v) (exact_cell zones h e) no_cell e z each)

      cell_sum : (c : ExactCell) (p q : ℤ) → Flows (flat_map (exact_link zones h e c) c.links) p → Flows (flat_map (exact_fixed zones h c) c.fixed) q → Flows (exact_cell zones h e c) (p +ℤ q)
      unfolding exact_cell
      cell_sum c p q links fixed = sum_append (k * m) (is_exact_between u v) (flat_map (exact_link zones h e c) c.links) (flat_map (exact_fixed zones h c) c.fixed) p q links fixed

    same_zone : (a == a) ≡ true
    same_zone = eq-eqb a a refl

    other_zone : (a == b) ≡ false
    other_zone = ne_eqb a b apart

    -- to a higher zone
    module _ (some : 0 < a) (less : a < b) where
      one_known : (x : ExactFixed) (y : WholeEntry) → FixedOver k m x y → (x.kind ≡ Constant → h x.source ≡ x.head) →
          (x.kind ≡ Constant → slice_index zones x.source ≡ a → ⊥) →
          Flows a b some less (exact_fixed zones h (cell_at e i) x) (cond (to_known x) (neg_ℤ (whole_fixed (H i) y)) (pos 0))
      one_known x y r head source =
          subst (Flows a b some less (exact_fixed zones h (cell_at e i) x)) (nested (is_constant x.kind) (slice_index zones x.source == b) _)
          (known_sum (k * m) zones h a b some less x.kind (cell_at e i).id x.source x.conductance _ (pos 0)
          (λ c. from_sum (k * m) zones h a b some less (cell_at e i).id x.source x.conductance (neg_ℤ (whole_fixed (H i) y)) (slice_index zones x.source == b) (rw same_zone refl)
          (λ f. subst (IsOver (k * m) (times (as_fraction x.conductance) (minus (h (cell_at e i).id) (h x.source)))) (turned (pos y.c) (H i) y.top)
          (difference_over k m y.c x.conductance (h (cell_at e i).id) (h x.source) (H i) y.top r.c (is i)
          (subst (λ (z : Fraction). IsOver m z y.top) (sym (head c)) r.top))))
          (λ c. from_none (k * m) zones h a b some less x.source (cell_at e i).id x.conductance (rw (ne_eqb (slice_index zones x.source) a (source c)) refl)))
        where
          nested : (s t : Bool) (q : ℤ) → cond s (cond t q (pos 0) +ℤ pos 0) (pos 0) ≡ cond (s && t) q (pos 0)
          nested true true q = omega (arith, ints)
          nested true false q = refl
          nested false t q = refl

      shares : ℕ → ℤ
      shares j = cond (nat_eq i j) (neg_ℤ (linked +ℤ known)) (pos 0) *ℤ pos 1

      each_cell : (j : ℕ) → j < length e → Flows a b some less (exact_cell zones h e (cell_at e j)) (shares j)
      unfolding shares
      each_cell j lt = elim (cases_eq i j) [
        | inl s ↦ subst (λ (n : ℕ). Flows a b some less (exact_cell zones h e (cell_at e n)) (cond (nat_eq i n) (neg_ℤ (linked +ℤ known)) (pos 0) *ℤ pos 1)) s
            (subst (Flows a b some less (exact_cell zones h e (cell_at e i))) own_share
            (cell_sum a b some less (cell_at e i) _ _ (links_cross a b some less i alone.inside) (own_known a b some less (λ y. neg_ℤ (whole_fixed (H i) y)) one_known)))
        | inr o ↦ subst (Flows a b some less (exact_cell zones h e (cell_at e j)))
            (rw (
              kept_none (crosses a b some less j) (λ (y : WholeLink). pos y.c *ℤ (H j -ℤ H y.cell)) (λ x.
                  rw (ne_eqb (zone j) a (λ z. o (sym (alone.others j lt z)))) refl) (cell_at e j).links (whole_at w j).links,
              ne_eqb i j o,
            ) refl)
            (cell_sum a b some less (cell_at e j) _ (pos 0) (links_cross a b some less j lt) (no_known a b some less (inl refl) j lt (λ z. o (sym z))))
      ]
        where
          own_share : kept (crosses a b some less i) (λ (y : WholeLink). pos y.c *ℤ (H i -ℤ H y.cell)) (cell_at e i).links (whole_at w i).links +ℤ kept to_known
              (λ y. neg_ℤ (whole_fixed (H i) y)) (cell_at e i).fixed (whole_at w i).fixed ≡ cond (nat_eq i i) (neg_ℤ (linked +ℤ known)) (pos 0) *ℤ pos 1
          own_share =
              let links = kept_turned (crosses a b some less i) to_links (λ (y : WholeLink). pos y.c *ℤ (H i -ℤ H y.cell)) (whole_link H (H i)) (λ x.
              rw same_zone refl) (λ y. turned (pos y.c) (H i) (H y.cell)) (cell_at e i).links (whole_at w i).links in
              let heads = kept_turned to_known to_known (λ y. neg_ℤ (whole_fixed (H i) y)) (whole_fixed (H i)) (λ x. refl) (λ y. refl) (cell_at e i).fixed (whole_at w i).fixed in
              rw (eq-eqb i i refl) (omega (arith, ints))

      pub higher : 0 < k * m → Same (exact_flow a b (exact_faces zones h e)) (opposite (inflow_from zones e i h b))
      unfolding shares
      higher some_product =
          same_over (k * m) _ _ _ _ some_product (all_cells a b some less shares each_cell) (IsOver-negated (k * m) (inflow_from zones e i h b) (linked +ℤ known) inflow_over)
          (sum-one (length e) i (neg_ℤ (linked +ℤ known)) (λ j. pos 1) alone.inside ∙ times_one (neg_ℤ (linked +ℤ known)))

    -- from a lower zone
    module _ (some : 0 < b) (less : b < a) (are_linked : AreLinked e) (both : IsMutual w) where
      -- the difference of heads to a cell of zone b
      drop : ℕ → ℤ
      drop j = cond (zone j == b) (H j -ℤ H i) (pos 0)

      one_source : (x : ExactFixed) (y : WholeEntry) → FixedOver k m x y → (x.kind ≡ Constant → h x.source ≡ x.head) →
          (x.kind ≡ Constant → slice_index zones x.source ≡ a → ⊥) →
          Flows b a some less (exact_fixed zones h (cell_at e i) x) (cond (to_known x) (whole_fixed (H i) y) (pos 0))
      one_source x y r head source =
          subst (Flows b a some less (exact_fixed zones h (cell_at e i) x)) (nested (is_constant x.kind) (slice_index zones x.source == b) _)
          (known_sum (k * m) zones h b a some less x.kind (cell_at e i).id x.source x.conductance (pos 0) _
          (λ c. from_none (k * m) zones h b a some less (cell_at e i).id x.source x.conductance (rw other_zone refl))
          (λ c. from_sum (k * m) zones h b a some less x.source (cell_at e i).id x.conductance (whole_fixed (H i) y) (slice_index zones x.source == b)
          (rw same_zone (and-true (slice_index zones x.source == b)))
          (λ f. difference_over k m y.c x.conductance (h x.source) (h (cell_at e i).id) y.top (H i) r.c (subst (λ (z : Fraction). IsOver m z y.top) (sym (head c)) r.top) (is i))))
        where
          nested : (s t : Bool) (q : ℤ) → cond s (pos 0 +ℤ cond t q (pos 0)) (pos 0) ≡ cond (s && t) q (pos 0)
          nested true true q = omega (arith, ints)
          nested true false q = refl
          nested false t q = refl

      pick : (t : Bool) (c d : ℤ) → cond t (c *ℤ d) (pos 0) ≡ c *ℤ cond t d (pos 0)
      pick true c d = refl
      pick false c d = sym (*ℤ-zero c)

      total_times : (xs : List WholeLink) (z : ℤ) → total (λ y. cond (nat_eq y.cell i) (pos y.c) (pos 0) *ℤ z) xs ≡ weight xs i *ℤ z
      total_times [] z = sym (zero-*ℤ z)
      total_times (x ∷ xs) z = rw (total_times xs z) (sym (add_mul (cond (nat_eq x.cell i) (pos x.c) (pos 0)) (weight xs i) z))

      -- the links of another cell that cross lead to the lone cell
      links_home : (j : ℕ) → j < length e → kept (crosses b a some less j) (λ (y : WholeLink). pos y.c *ℤ (H j -ℤ H y.cell)) (cell_at e j).links
          (whole_at w j).links ≡ weight (whole_at w i).links j *ℤ drop j
      unfolding drop
      links_home j lt =
          kept_is (LinkOver k m) (λ x. x.cell < length e) (crosses b a some less j) (λ (y : WholeLink). pos y.c *ℤ (H j -ℤ H y.cell)) (λ y.
          cond (nat_eq y.cell i) (pos y.c) (pos 0) *ℤ cond (zone j == b) (H j -ℤ H i) (pos 0)) one (cell_at e j).links (whole_at w j).links
          (cell j lt).links (are_linked.range j lt)
          ∙ total_times (whole_at w j).links (cond (zone j == b) (H j -ℤ H i) (pos 0))
          ∙ ap (λ (z : ℤ). z *ℤ cond (zone j == b) (H j -ℤ H i) (pos 0)) (both.same j i (omega (arith, lt, same_length)) (omega (arith, alone.inside, same_length)))
        where
          same_length : length e ≡ length w
          same_length = AllZip-length (CellOver k m) e w over

          one : (x : ExactLink) (y : WholeLink) → LinkOver k m x y → x.cell < length e →
              cond ((zone j == b) && (zone x.cell == a)) (pos y.c *ℤ (H j -ℤ H y.cell)) (pos 0) ≡
              cond (nat_eq y.cell i) (pos y.c) (pos 0) *ℤ cond (zone j == b) (H j -ℤ H i) (pos 0)
          one x y r range = elim (cases_eq x.cell i) [
            | inl s ↦ let there : y.cell ≡ i = sym r.same ∙ s in rw (s, same_zone, and-true (zone j == b), eq-eqb y.cell i there, there) (pick (zone j == b) (pos y.c) (H j -ℤ H i))
            | inr o ↦ let elsewhere : y.cell ≡ i → ⊥ = λ s. o (r.same ∙ s) in rw (
              ne_eqb (zone x.cell) a (λ s. o (alone.others x.cell range s)),
              and-false (zone j == b),
              ne_eqb y.cell i elsewhere,
            ) (sym (zero-*ℤ (cond (zone j == b) (H j -ℤ H i) (pos 0))))
          ]

      inflows : ℕ → ℤ
      inflows j = cond (nat_eq i j) known (pos 0) *ℤ pos 1 +ℤ weight (whole_at w i).links j *ℤ drop j

      each_inflow : (j : ℕ) → j < length e → Flows b a some less (exact_cell zones h e (cell_at e j)) (inflows j)
      unfolding inflows drop
      each_inflow j lt = elim (cases_eq i j) [
        | inl s ↦ subst (λ (n : ℕ). Flows b a some less (exact_cell zones h e (cell_at e n)) (cond (nat_eq i n) known (pos 0) *ℤ pos 1 +ℤ weight (whole_at w i).links n *ℤ drop n)) s
            (subst (Flows b a some less (exact_cell zones h e (cell_at e i))) own_share
            (cell_sum b a some less (cell_at e i) _ _ (links_cross b a some less i alone.inside) (own_known b a some less (whole_fixed (H i)) one_source)))
        | inr o ↦ subst (Flows b a some less (exact_cell zones h e (cell_at e j))) (rw (links_home j lt, ne_eqb i j o) (swap (weight (whole_at w i).links j *ℤ drop j)))
            (cell_sum b a some less (cell_at e j) _ (pos 0) (links_cross b a some less j lt) (no_known b a some less (inr refl) j lt (λ z. o (sym z))))
      ]
        where
          swap : (z : ℤ) → z +ℤ pos 0 ≡ pos 0 *ℤ pos 1 +ℤ z
          swap z = omega (arith, ints)

          own_share : kept (crosses b a some less i) (λ (y : WholeLink). pos y.c *ℤ (H i -ℤ H y.cell)) (cell_at e i).links (whole_at w i).links +ℤ known ≡
              cond (nat_eq i i) known (pos 0) *ℤ pos 1 +ℤ weight (whole_at w i).links i *ℤ drop i
          own_share =
              let none = kept_none (crosses b a some less i) (λ (y : WholeLink). pos y.c *ℤ (H i -ℤ H y.cell)) (λ x. rw other_zone refl) (cell_at e i).links (whole_at w i).links in
              rw (none, eq-eqb i i refl, other_zone, *ℤ-zero (weight (whole_at w i).links i)) (omega (arith, ints))

      over_links : linked ≡ total (λ y. pos y.c *ℤ drop y.cell) (whole_at w i).links
      unfolding drop
      over_links =
          kept_is (LinkOver k m) (λ x. Unit {0}) to_links (whole_link H (H i)) (λ y. pos y.c *ℤ cond (zone y.cell == b) (H y.cell -ℤ H i) (pos 0))
          (λ x y r t. rw r.same (pick (zone y.cell == b) (pos y.c) (H y.cell -ℤ H i))) (cell_at e i).links (whole_at w i).links (cell i alone.inside).links (λ n d l. tt)

      pub lower : 0 < k * m → Same (exact_flow b a (exact_faces zones h e)) (inflow_from zones e i h b)
      unfolding inflows
      lower some_product =
          let range = All-zip (LinkOver k m) (λ x. x.cell < length e) (λ y. y.cell < length e) (λ x y r s. subst (λ (n : ℕ). n < length e) r.same s)
          (cell_at e i).links (whole_at w i).links (cell i alone.inside).links (are_linked.range i alone.inside) in
          let links = over_links ∙ by_weight (length e) (whole_at w i).links drop range in
          let sum = sum-add (length e) (λ j. cond (nat_eq i j) known (pos 0) *ℤ pos 1) (λ j. weight (whole_at w i).links j *ℤ drop j) in
          let own = sum-one (length e) i known (λ j. pos 1) alone.inside in
          same_over (k * m) _ _ _ _ some_product (all_cells b a some less inflows each_inflow) inflow_over (omega (arith, ints))

-- a common denominator of the heads
goes_at : (h : ℕ → Fraction) (e : List ExactCell) (j : ℕ) → Goes (den (h (cell_at e j).id)) (den (h 0) * product (λ (c : ExactCell). den (h c.id)) e)
goes_at h [] j = (1, omega arith)
goes_at h (c ∷ cs) zero = (den (h 0) * product (λ (c : ExactCell). den (h c.id)) cs, omega arith)
goes_at h (c ∷ cs) (suc j) = Goes-trans _ (den (h 0) * product (λ (c : ExactCell). den (h c.id)) cs) _ (goes_at h cs j) (den (h c.id), omega arith)

pub lone_cells : LoneCellsHaveTheirFlows
lone_cells zones e i b h alone some zone heads =
    let (n, some_n, common) = step_common e in
    let d = den (h 0) * product (λ (c : ExactCell). den (h c.id)) e in
    let some_d : 0 < d = mul-pos (omega arith) (some_product (λ (c : ExactCell). den (h c.id)) (λ c. omega arith) e) in
    let (w, over) = whole_step n 1 d e common in
    let H = λ (j : ℕ). (fraction_over d n (h (cell_at e j).id) (goes_at h e j)).0 in
    let is = λ (j : ℕ). subst (λ (z : ℕ). IsOver z (h (cell_at e j).id) (H j)) (omega arith) (fraction_over d n (h (cell_at e j).id) (goes_at h e j)).1 in
    let positive = mul-pos {m = n * 1} {n = n * d} (omega arith) (mul-pos some_n some_d) in
    record {
      higher = λ low. higher zones e i b h alone (λ s. omega (arith, s, low)) heads (n * 1) (n * d) w over H is some low positive;
      lower = λ linked low. lower zones e i b h alone (λ s. omega (arith, s, low)) heads (n * 1) (n * d) w over H is zone low linked (mutual_whole (n * 1) (n * d) e w linked over) positive;
    }
