-- The problem of the differences meets the conditions on problems.
use Rattle.plan_step.proofs.Common.{◌≡◌, ◌≤◌, ◌<◌, ◌+◌, ◌-◌, ◌^◌, ◌∙◌, ℕ, ap, arith, refl, subst, sym, ℤ, pos, neg_ℤ, All, Contains, List, [], ◌∷◌, ◌++◌, drop, get_or, length, map, int_max, int_min}
use Rattle.plan_step.proofs.Common.{sum_by, inl, inr, cases_lt, ints, Fixed, FixedKind, Flow, Bound, High, Entries, CellFits, DrainFits, EvapFits, FixedFits, IsHead, IsProblem, LinksFit, RiverFits}
use Rattle.plan_step.proofs.Common.{conductance_of, entries_at, flow_magnitude, link_at, magnitude, no_bound, no_entries, IsDifferenceProblem, bound_at, branch, difference_cell, drain_branch}
use Rattle.plan_step.proofs.Common.{evap_branch, known_branch, known_high, known_low, river_branch, turned, cell_limit}
use Rattle.std.proofs.lemmas.List.{get_or-append_right, get_or_append_left, get_or_past, length-append}
use Rattle.std.proofs.lemmas.List.Elements.{All-append, All-map, All-nil}
use Rattle.std.proofs.lemmas.List.Sums.{get_or-le-sum_by, sum_by-append, sum_by-cons, sum_by-take-drop}
use Rattle.step_problem.specs.{declared.entry.FixedKind.TheVariants.Constant, declared.entry.FixedKind.TheVariants.General, declared.entry.FixedKind.TheVariants.Storage, declared.entry.Link.Link}
use Rattle.plan_step.proofs.Corners.{at_most_whole}

abbrev AreHeads : List Bound → Type 0
AreHeads bounds = All (λ b. IsHead b.low × IsHead b.high) bounds

zero_head : IsHead (pos 0)
zero_head = record { above = omega (arith, ints); below = omega (arith, ints) }

head_at_place : (bounds : List Bound) → AreHeads bounds → (i : ℕ) → IsHead (bound_at bounds i).low × IsHead (bound_at bounds i).high
head_at_place bounds all i = elim (cases_lt i (length bounds)) [
  | inl inside ↦ all i no_bound inside
  | inr past ↦ subst (λ (b : Bound). IsHead b.low × IsHead b.high) (sym (get_or_past bounds i no_bound past)) (zero_head, zero_head)
]

known_heads : (old : Bound) (kind : FixedKind) → IsHead old.low → IsHead old.high → IsHead (known_low old kind) × IsHead (known_high old kind)
known_heads old Storage l h = (l, h)
known_heads old Constant l h = (zero_head, zero_head)
known_heads old General l h = (zero_head, zero_head)

branch_fits : (id lo hi : ℕ) → FixedFits (branch id lo hi)
branch_fits id lo hi = record { ordered = omega arith; head_lo = zero_head; head_hi = zero_head }

-- sums of images
sum_map_le : {X : Type 0} (f : X → Fixed) (g : X → ℕ) → ((x : X) → (f x).hi ≤ g x) → (xs : List X) → sum_by (λ x. x.hi) (map f xs) ≤ sum_by g xs
sum_map_le f g each [] = omega arith
sum_map_le f g each (x ∷ xs) =
    omega (arith, sum_by-cons (λ (y : Fixed). y.hi) (f x) (map f xs), sum_by-cons g x xs, each x, sum_map_le f g each xs)

magnitude_turned : (xs : List Flow) → sum_by (λ x. magnitude x.lo x.hi) (map turned xs) ≡ sum_by (λ x. magnitude x.lo x.hi) xs
magnitude_turned [] = refl
magnitude_turned (x ∷ xs) =
    let same = turned_magnitude x.lo x.hi in
    omega (arith, sum_by-cons (λ (y : Flow). magnitude y.lo y.hi) (turned x) (map turned xs), sum_by-cons (λ (y : Flow). magnitude y.lo y.hi) x xs, same, magnitude_turned xs)
  where
    turned_magnitude : (lo hi : ℤ) → magnitude (neg_ℤ hi) (neg_ℤ lo) ≡ magnitude lo hi
    turned_magnitude lo hi = omega (arith, ints)

-- the flows of a cell that fits
pub flows_fit : (q : Entries) → CellFits q → All (λ (x : Flow). magnitude x.lo x.hi < 2 ^ 109) q.flows
flows_fit q fits k d lt = omega (arith, get_or-le-sum_by (λ (x : Flow). magnitude x.lo x.hi) q.flows k d lt, fits.flows)

module _ (x y old : Bound) (p q : Entries) (low : IsHead old.low) (high : IsHead old.high) (base : CellFits p) (other : CellFits q) where
  abbrev own : Entries
  own = difference_cell x y old p q

  fixed_fit : All FixedFits own.fixed
  fixed_fit =
      All-append FixedFits _ _ (All-map FixedFits (known_branch old) p.fixed (λ k d lt. known (get_or p.fixed k d) (base.fixed k d lt)))
      (All-append FixedFits _ _ (All-map FixedFits (river_branch p.id x y) p.rivers (λ k d lt. branch_fits _ _ _))
      (All-append FixedFits _ _ (All-map FixedFits (drain_branch p.id x y) p.drains (λ k d lt. branch_fits _ _ _))
      (All-map FixedFits (evap_branch p.id x y) p.evaps (λ k d lt. branch_fits _ _ _))))
    where
      known : (f : Fixed) → FixedFits f → FixedFits (known_branch old f)
      known f h = record { ordered = h.ordered; head_lo = (known_heads old f.kind low high).0; head_hi = (known_heads old f.kind low high).1 }

  conductances_fit : conductance_of own < 2 ^ 60
  conductances_fit =
      let hi = λ (f : Fixed). f.hi in
      let ks = map (known_branch old) p.fixed in
      let rs = map (river_branch p.id x y) p.rivers in
      let ds = map (drain_branch p.id x y) p.drains in
      let es = map (evap_branch p.id x y) p.evaps in
      let known = sum_map_le (known_branch old) (λ f. f.hi) (λ f. omega arith) p.fixed in
      let rivers = sum_map_le (river_branch p.id x y) (λ r. r.hi) (λ r. at_most_whole High r.hi r.bottom_lo (int_min x.high y.high) (int_max x.high y.high)) p.rivers in
      let drains = sum_map_le (drain_branch p.id x y) (λ r. r.hi) (λ r. at_most_whole High r.hi r.elev_lo (int_min x.high y.high) (int_max x.high y.high)) p.drains in
      let evaps = sum_map_le (evap_branch p.id x y) (λ r. r.hi) (λ r. omega (arith, at_most_whole High r.hi r.ext_lo (int_min x.high y.high) (int_max x.high y.high))) p.evaps in
      omega (arith, sum_by-append hi ks (rs ++ (ds ++ es)), sum_by-append hi rs (ds ++ es), sum_by-append hi ds es, known, rivers, drains, evaps, base.conductances)

  flows_are_small : flow_magnitude own < 2 ^ 109
  flows_are_small =
      let size = λ (f : Flow). magnitude f.lo f.hi in
      omega (arith, magnitude_turned (drop (length p.flows) q.flows), sum_by-take-drop size q.flows (length p.flows), other.flows)

  cell_fits : CellFits own
  cell_fits = record {
    links = base.links;
    fixed = fixed_fit;
    rivers = All-nil RiverFits;
    drains = All-nil DrainFits;
    evaps = All-nil EvapFits;
    conductances = conductances_fit;
    flows = flows_are_small;
  }

module _ (base planned : List Entries) (xs ys olds : List Bound) (r : List Entries) (first : IsProblem base) (second : IsProblem planned) (heads : AreHeads olds)
    (many : length planned ≡ length base) (h : IsDifferenceProblem base planned xs ys olds r) where
  links_at : (c : ℕ) → (entries_at r c).links ≡ (entries_at base c).links
  links_at c = elim (cases_lt c (length base)) [
    | inl inside ↦ ap (λ (x : Entries). x.links) (h.cells c inside)
    | inr past ↦ ap (λ (x : Entries). x.links) (get_or_past r c no_entries (omega (arith, past, h.as_many)) ∙ sym (get_or_past base c no_entries past))
  ]

  ids_at : (c : ℕ) → c < length base → (entries_at r c).id ≡ (entries_at base c).id
  ids_at c inside = ap (λ (x : Entries). x.id) (h.cells c inside)

  module _ (c : ℕ) (lt : c < length r) where
    inside : c < length base
    inside = omega (arith, lt, h.as_many)

    fits : CellFits (entries_at r c)
    fits =
        let old = head_at_place olds heads (entries_at base c).id in
        subst CellFits (sym (h.cells c inside))
        (cell_fits (bound_at xs c) (bound_at ys c) (bound_at olds (entries_at base c).id) (entries_at base c) (entries_at planned c) old.0 old.1
        (first.cells c inside) (second.cells c (omega (arith, inside, many))))

    links_fit : LinksFit r c (entries_at r c).links
    links_fit =
        let k = first.links c inside in
        let e = sym (links_at c) in
        let count = sym h.as_many in
        let back = λ (x : Link). subst (λ (l : List Link). Contains l (record { cell = c; lo = x.lo; hi = x.hi })) (sym (links_at x.cell)) in
        record {
          few = subst (λ (l : List Link). length l ≤ 6) e k.few;
          within = subst (λ (l : List Link). All (λ x. x.cell < length r) l) e (subst (λ (n : ℕ). All (λ x. x.cell < n) (entries_at base c).links) count k.within);
          others = subst (λ (l : List Link). All (λ x. x.cell ≡ c → ⊥) l) e k.others;
          apart = subst (λ (l : List Link). (i j : ℕ) → i < j → j < length l → (link_at l i).cell ≡ (link_at l j).cell → ⊥) e k.apart;
          mutual_ends = subst (λ (l : List Link). All (λ x. Contains (entries_at r x.cell).links (record { cell = c; lo = x.lo; hi = x.hi })) l) e
              (λ i d j. back (get_or (entries_at base c).links i d) (k.mutual_ends i d j));
        }

  pub is_problem : IsProblem r
  is_problem = record {
    few = subst (λ (n : ℕ). n ≤ cell_limit) (sym h.as_many) first.few;
    ascending = λ c d lt below.
        let there : d < length base = omega (arith, below, h.as_many) in
        subst (λ (n : ℕ). n < (entries_at r d).id) (sym (ids_at c (omega (arith, lt, there)))) (subst (λ (n : ℕ). (entries_at base c).id < n) (sym (ids_at d there)) (first.ascending c d lt there));
    cells = λ c lt. fits c lt;
    links = λ c lt. links_fit c lt;
  }

-- one more cell
pub pushed : (base planned : List Entries) (xs ys olds : List Bound) (cells : List Entries) (x : Entries) (c : ℕ) → length cells ≡ c →
    ((k : ℕ) → k < c → entries_at cells k ≡ difference_cell (bound_at xs k) (bound_at ys k) (bound_at olds (entries_at base k).id) (entries_at base k) (entries_at planned k)) →
    x ≡ difference_cell (bound_at xs c) (bound_at ys c) (bound_at olds (entries_at base c).id) (entries_at base c) (entries_at planned c) →
    (length (cells ++ x ∷ []) ≡ c + 1)
    × ((k : ℕ) → k < c + 1 → entries_at (cells ++ x ∷ []) k ≡ difference_cell (bound_at xs k) (bound_at ys k) (bound_at olds (entries_at base k).id) (entries_at base k) (entries_at planned k))
pushed base planned xs ys olds cells x c count each is = (
  omega (arith, count, length-append cells (x ∷ [])),
  λ k lt. elim (cases_lt k c) [
    | inl before ↦ get_or_append_left cells (x ∷ []) no_entries k (omega (arith, count, before)) ∙ each k before
    | inr past ↦
        let here : k ≡ c = omega (arith, lt, past) in
        let none : c - c ≡ 0 = omega arith in
        let last : get_or (cells ++ x ∷ []) c no_entries ≡ x = get_or-append_right cells (x ∷ []) c c no_entries count (omega arith) ∙ ap (λ (i : ℕ). get_or (x ∷ []) i no_entries) none in
        subst (λ (i : ℕ). entries_at (cells ++ x ∷ []) i ≡ difference_cell (bound_at xs i) (bound_at ys i) (bound_at olds (entries_at base i).id)
        (entries_at base i) (entries_at planned i)) (sym here) (last ∙ is)
  ],
)
