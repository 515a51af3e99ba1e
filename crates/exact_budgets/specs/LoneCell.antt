-- A cell that is alone in its zone, and what flows from it into another zone.
use Rattle.std.specs.Prelude.{◌≡◌, ℕ, ◌<◌, ◌==◌, Bool, true, false, ◌&&◌, List, length, All, slice_index}
use Rattle.std.specs.List.{filter}
use Rattle.decimal_input.specs.{Fraction, opposite, fraction_total, Fractions.plus, Fractions.Same}
use Rattle.step_problem.specs.declared.entry.FixedKind.{FixedKind}
use Rattle.step_problem.specs.declared.entry.FixedKind.TheVariants.{Storage, Constant, General}
use Rattle.cell_balance.specs.{ExactLink, ExactFixed, ExactCell, cell_at, AreLinked, link_flow, fixed_flow}
use Rattle.zone_flows.specs.{exact_faces, exact_flow}

abbrev pub is_constant : FixedKind → Bool
is_constant Storage = false
is_constant Constant = true
is_constant General = false

-- The cell with number c is in zone zones[c]. The step e has the variable cell with index k.
module _ (zones : List ℕ) (e : List ExactCell) (k : ℕ) where
  abbrev pub own_zone : ℕ
  own_zone = slice_index zones (cell_at e k).id

  -- neither another variable cell is in its zone, nor a constant-head cell beside a variable one
  pub record IsAlone : Type 0 where
    pub inside : k < length e
    pub others : (j : ℕ) → j < length e → slice_index zones (cell_at e j).id ≡ own_zone → j ≡ k
    pub sources : (j : ℕ) → j < length e → All (λ x. x.kind ≡ Constant → slice_index zones x.source ≡ own_zone → ⊥) (cell_at e j).fixed

  -- the cell's links to cells of zone b, and its branches to constant-head cells of zone b
  abbrev pub links_to : ℕ → List ExactLink
  links_to b = filter (λ x. slice_index zones (cell_at e x.cell).id == b) (cell_at e k).links

  abbrev pub constants_in : ℕ → List ExactFixed
  constants_in b = filter (λ x. is_constant x.kind && (slice_index zones x.source == b)) (cell_at e k).fixed

  -- what flows into the cell from zone b, where h are the heads by cell number: as in its balance, over its links and from constant heads
  abbrev pub inflow_from : (ℕ → Fraction) → ℕ → Fraction
  inflow_from h b =
      plus (fraction_total (link_flow (λ c. h (cell_at e c).id) (h (cell_at e k).id)) (links_to b))
      (fraction_total (fixed_flow (h (cell_at e k).id)) (constants_in b))

-- The zone flows of a lone cell: to a higher zone goes what flows into the cell from there, with the other sign; from a lower zone comes what flows
-- into the cell from there, where the two ends of each link have the same conductance.
pub record HasItsFlows (zones : List ℕ) (e : List ExactCell) (k b : ℕ) (h : ℕ → Fraction) : Type 0 where
  pub higher : own_zone zones e k < b → Same (exact_flow (own_zone zones e k) b (exact_faces zones h e)) (opposite (inflow_from zones e k h b))
  pub lower : AreLinked e → b < own_zone zones e k → Same (exact_flow b (own_zone zones e k) (exact_faces zones h e)) (inflow_from zones e k h b)

-- for zones that are zones, and heads h that are the known ones at the cell's constant heads
abbrev pub LoneCellsHaveTheirFlows : Type 0
LoneCellsHaveTheirFlows = (zones : List ℕ) (e : List ExactCell) (k b : ℕ) (h : ℕ → Fraction) → IsAlone zones e k → 0 < own_zone zones e k → 0 < b →
    All (λ x. x.kind ≡ Constant → h x.source ≡ x.head) (cell_at e k).fixed → HasItsFlows zones e k b h
