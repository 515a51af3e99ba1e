-- The hull of a problem and itself is that problem.
use Rattle.problem_hull.proofs.Common.{◌≡◌, refl, arith, ℕ, ℤ, List, min, max, int_min, int_max, ints, clamps, Entries, IsHull, flow_hull, fixed_hull, river_hull, drain_hull, evap_hull, cell_hull}
use Rattle.problem_hull.proofs.Hulls.{zip_itself}

low : (a : ℤ) → a ≡ int_min a a
low a = omega (arith, ints, clamps)

high : (a : ℤ) → a ≡ int_max a a
high a = omega (arith, ints, clamps)

least : (a : ℕ) → a ≡ min a a
least a = omega arith

most : (a : ℕ) → a ≡ max a a
most a = omega arith

cell : (c : Entries) → c ≡ cell_hull c c
cell c =
    let flows = zip_itself flow_hull (λ x i. record { kind = x.kind; lo = low x.lo i; hi = high x.hi i }) c.flows in
    let fixed = zip_itself fixed_hull (λ x i. record { kind = x.kind; source = x.source; lo = least x.lo i; hi = most x.hi i; head_lo = low x.head_lo i; head_hi = high x.head_hi i }) c.fixed in
    let rivers = zip_itself river_hull (λ x i. record {
      lo = least x.lo i;
      hi = most x.hi i;
      stage_lo = low x.stage_lo i;
      stage_hi = high x.stage_hi i;
      bottom_lo = low x.bottom_lo i;
      bottom_hi = high x.bottom_hi i;
    }) c.rivers in
    let drains = zip_itself drain_hull (λ x i. record { lo = least x.lo i; hi = most x.hi i; elev_lo = low x.elev_lo i; elev_hi = high x.elev_hi i }) c.drains in
    let evaps = zip_itself evap_hull (λ x i. record {
      lo = least x.lo i;
      hi = most x.hi i;
      ext_lo = low x.ext_lo i;
      ext_hi = high x.ext_hi i;
      surf_lo =
          low x.surf_lo i;
      surf_hi = high x.surf_hi i;
    }) c.evaps in
    λ i. record { id = c.id; flows = flows i; links = c.links; fixed = fixed i; rivers = rivers i; drains = drains i; evaps = evaps i }

pub hull_of_one : (p : List Entries) → IsHull p p p
hull_of_one p = record { alike = refl; is = zip_itself cell_hull cell p }
