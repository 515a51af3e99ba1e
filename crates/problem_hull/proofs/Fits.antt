-- The hull of two problems is a problem, if the sums of its cells fit.
use Rattle.problem_hull.proofs.Common.{◌≡◌, ◌<◌, ◌≤◌, ◌^◌, ℕ, ℤ, arith, List, length, min, max, sym, subst, get_or, All, Contains, int_min, int_max, ints, clamps, Entries, entries_at, link_at, IsHead}
use Rattle.problem_hull.proofs.Common.{FixedFits, RiverFits, DrainFits, EvapFits, CellFits, LinksFit, IsProblem, conductance_of, flow_magnitude, IsHullPair, fixed_hull, river_hull, drain_hull}
use Rattle.problem_hull.proofs.Common.{evap_hull, None, ap, cell_hull, cell_shape, first_refusal, sum_refusal, IsHull, cell_limit}
use Rattle.step_problem.specs.{declared.entry.Link.Link, declared.entry.Fixed.Fixed, declared.entry.River.River, declared.entry.Drain.Drain, declared.entry.Evap.Evap}
use Rattle.problem_hull.proofs.{Hulls.hull_at, Hulls.hull_count, Hulls.same_lengths, Hulls.zip_all, Refusals.conductances_are_small, Refusals.flows_are_small, Refusals.none_of_each}

min_head : (a c : ℤ) → IsHead a → IsHead c → IsHead (int_min a c)
min_head a c f g = record { above = omega (arith, ints, clamps, f.above, g.above); below = omega (arith, ints, clamps, f.below, g.below) }

max_head : (a c : ℤ) → IsHead a → IsHead c → IsHead (int_max a c)
max_head a c f g = record { above = omega (arith, ints, clamps, f.above, g.above); below = omega (arith, ints, clamps, f.below, g.below) }

pub lower_head : (a b c d lo hi : ℤ) → IsHullPair a b c d lo hi → IsHead a → IsHead c → IsHead lo
lower_head a b c d lo hi h f g = subst IsHead (sym h.low) (min_head a c f g)

pub upper_head : (a b c d lo hi : ℤ) → IsHullPair a b c d lo hi → IsHead b → IsHead d → IsHead hi
upper_head a b c d lo hi h f g = subst IsHead (sym h.high) (max_head b d f g)

ordered : (a b c d : ℕ) → a ≤ b → min a c ≤ max b d
ordered a b c d f = omega (arith, f)

fixed_fits : (a b : Fixed) → FixedFits a → FixedFits b → FixedFits (fixed_hull a b)
fixed_fits a b f g = record { ordered = ordered _ _ _ _ f.ordered; head_lo = min_head _ _ f.head_lo g.head_lo; head_hi = max_head _ _ f.head_hi g.head_hi }

river_fits : (a b : River) → RiverFits a → RiverFits b → RiverFits (river_hull a b)
river_fits a b f g = grind (arith, ordered, min_head, max_head)

drain_fits : (a b : Drain) → DrainFits a → DrainFits b → DrainFits (drain_hull a b)
drain_fits a b f g = record { ordered = ordered _ _ _ _ f.ordered; elev_lo = min_head _ _ f.elev_lo g.elev_lo; elev_hi = max_head _ _ f.elev_hi g.elev_hi }

evap_fits : (a b : Evap) → EvapFits a → EvapFits b → EvapFits (evap_hull a b)
evap_fits a b f g = record {
  ordered = ordered _ _ _ _ f.ordered;
  ext_lo = min_head _ _ f.ext_lo g.ext_lo;
  ext_hi = max_head _ _ f.ext_hi g.ext_hi;
  surf_lo = min_head _ _ f.surf_lo g.surf_lo;
  surf_hi = max_head _ _ f.surf_hi g.surf_hi;
  deep = omega (arith, ints, clamps, f.deep);
}

-- the lists of two cells that fit
module _ (a b : Entries) (first : CellFits a) (second : CellFits b) where
  pub rivers_fit : All RiverFits (cell_hull a b).rivers
  rivers_fit = zip_all river_hull RiverFits RiverFits RiverFits river_fits a.rivers b.rivers first.rivers second.rivers

  pub evaps_fit : All EvapFits (cell_hull a b).evaps
  evaps_fit = zip_all evap_hull EvapFits EvapFits EvapFits evap_fits a.evaps b.evaps first.evaps second.evaps

  cell_fits : conductance_of (cell_hull a b) < 2 ^ 60 → flow_magnitude (cell_hull a b) < 2 ^ 109 → CellFits (cell_hull a b)
  cell_fits conductances flows = record {
    links = first.links;
    fixed = zip_all fixed_hull FixedFits FixedFits FixedFits fixed_fits a.fixed b.fixed first.fixed second.fixed;
    rivers = rivers_fit;
    drains = zip_all drain_hull DrainFits DrainFits DrainFits drain_fits a.drains b.drains first.drains second.drains;
    evaps = evaps_fit;
    conductances = conductances;
    flows = flows;
  }

module _ (p q r : List Entries) (first : IsProblem p) (second : IsProblem q) (h : IsHull p q r) where
  count : length r ≡ length p
  count = hull_count p q r h

  links_at : (c : ℕ) → (entries_at r c).links ≡ (entries_at p c).links
  links_at c = ap (λ (x : Entries). x.links) (hull_at p q r h c)

  ids_at : (c : ℕ) → (entries_at r c).id ≡ (entries_at p c).id
  ids_at c = ap (λ (x : Entries). x.id) (hull_at p q r h c)

  module _ (c : ℕ) (lt : c < length r) where
    in_first : c < length p
    in_first = omega (arith, lt, count)

    in_second : c < length q
    in_second = omega (arith, lt, count, same_lengths cell_shape p q h.alike)

    -- what holds of the hull of the two cells holds of the cell
    pub cell_has : (P : Entries → Type 0) → ((a b : Entries) → CellFits a → CellFits b → P (cell_hull a b)) → P (entries_at r c)
    cell_has P each = subst P (sym (hull_at p q r h c)) (each _ _ (first.cells c in_first) (second.cells c in_second))

    links_fit : LinksFit r c (entries_at r c).links
    links_fit =
        let k = first.links c in_first in
        let e = sym (links_at c) in
        let back = λ (x : Link). subst (λ (l : List Link). Contains l (record { cell = c; lo = x.lo; hi = x.hi })) (sym (links_at x.cell)) in
        record {
          few = subst (λ (l : List Link). length l ≤ 6) e k.few;
          within = subst (λ (l : List Link). All (λ x. x.cell < length r) l) e (subst (λ (n : ℕ). All (λ x. x.cell < n) (entries_at p c).links) (sym count) k.within);
          others = subst (λ (l : List Link). All (λ x. x.cell ≡ c → ⊥) l) e k.others;
          apart = subst (λ (l : List Link). (i j : ℕ) → i < j → j < length l → (link_at l i).cell ≡ (link_at l j).cell → ⊥) e k.apart;
          mutual_ends = subst (λ (l : List Link). All (λ x. Contains (entries_at r x.cell).links (record { cell = c; lo = x.lo; hi = x.hi })) l) e
              (λ i d j. back (get_or (entries_at p c).links i d) (k.mutual_ends i d j));
        }

  pub is_problem : first_refusal r ≡ None → IsProblem r
  is_problem none = record {
    few = subst (λ (n : ℕ). n ≤ cell_limit) (sym count) first.few;
    ascending = λ c d lt below. subst (λ (n : ℕ). n < (entries_at r d).id) (sym (ids_at c)) (subst (λ (n : ℕ). (entries_at p c).id < n) (sym (ids_at d)) (first.ascending c d lt (in_first d below)));
    cells = λ c lt. cell_has c lt (λ (x : Entries). sum_refusal x ≡ None → CellFits x) (λ a b f g small.
        cell_fits a b f g (conductances_are_small (cell_hull a b) small) (flows_are_small (cell_hull a b) small)) (none_of_each r none c lt);
    links = λ c lt. links_fit c lt;
  }
