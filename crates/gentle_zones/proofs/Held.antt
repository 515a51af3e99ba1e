-- The flows between zones hold at all heads that the listed ones enclose.
use Rattle.gentle_zones.proofs.Common.{◌≡◌, ℕ, ℤ, ◌+◌, List, [], Option, Some, None, Result, Ok, Err, refl, map, sym, subst, Entries, IsProblem, lower_at, upper_at, Bound, ZoneFlow, EncloseExact}
use Rattle.gentle_zones.proofs.Common.{HeadsLieWithin, exact_flow, IsZoneFlow, flows_of_pairs, FlowModel, TimeStep, IsModel, IsActive, IsCellNamed, IsProblemOver, cells_over, flows_or_large}
use Rattle.gentle_zones.proofs.Common.{branches_at}
use Rattle.std.proofs.lemmas.List.Elements.{All-weaker}
use Rattle.decimal_input.specs.{EnclosesSigned, Fraction}
use Rattle.cell_balance.specs.{EnclosesStep, ExactCell}
use Rattle.step_problem.specs.declared.place.NoBound.{NoBound}
use Rattle.budget_bounds.specs.{◌>>=◌}
use Rattle.zone_flows.proofs.Enclosed.{sums_enclose}
use Rattle.problem_builder.proofs.{Members.named_active, TimesOf.time_of}
use Rattle.listing_run.proofs.Moves.{heads_named}
use Rattle.water_table.specs.{declared.convertible_layers.ConvertibleLayers.ConvertibleLayers, convertible_step}
use Rattle.water_conductances.specs.{AreOrdered}
use Rattle.gentle_problem.proofs.{Enclosed.problems_enclose, Made.heads_have_branches, Made.problems_fit}
use Rattle.gentle_zones.specs.{FlowsHold, zone_problem}
unfoldable use Rattle.zone_flows.specs.{exact_faces, faces, zone_flows}

-- flows of a problem enclose the exact ones of a step that it encloses
zones_enclose : (p : List Entries) (zones : List ℕ) (l u : ℕ → ℤ) (s : ℕ) (e : List ExactCell) (h : ℕ → Fraction) (flows : List ZoneFlow) → IsProblem p →
    zone_flows (faces zones l u p) ≡ Ok flows → EnclosesStep s p e → HeadsLieWithin p l u h → EncloseExact s e zones h flows
zones_enclose p zones l u s e h flows ok is encloses named =
    All-weaker (IsZoneFlow (faces zones l u p)) (λ v. EnclosesSigned v.lo v.hi (s + 9) (exact_flow v.from v.to (exact_faces zones h e)))
    (λ v f. rw (f.lo, f.hi) (sums_enclose p zones l u ok s e h encloses named v.from v.to)) flows
    (flows_of_pairs (faces zones l u p) flows is).0

-- the problem of flows, and what they are in it
pub problem_of_flows : (r : Result (List Entries) NoBound) (f : List Entries → Result (List ZoneFlow) NoBound) (flows : List ZoneFlow) → (r >>= f) ≡ Ok flows →
    (p : List Entries) × (r ≡ Ok p) × (f p ≡ Ok flows)
problem_of_flows (Ok p) f flows e = (p, refl, e)
problem_of_flows (Err n) f flows e = absurd cc

-- a problem at listed heads names active cells
pub named_by : (m : FlowModel) (w : ConvertibleLayers) (s : ℕ) (at : TimeStep) (listed : List Bound) (p : List Entries) → IsModel m → AreOrdered m listed →
    IsProblemOver m s at listed (branches_at m w listed s) p → (c : ℕ) → IsCellNamed p c → IsActive m c
named_by m w s at listed p valid ordered is =
    let b = branches_at m w listed s in
    named_active m s at listed b (heads_have_branches m w listed s at valid ordered) valid.grid.size p (cells_over m s at listed b p is).each

pub flows_hold : FlowsHold
flows_hold m w s at listed None flows h valid time grid ordered is inside = tt
flows_hold m w s at listed (Some zones) flows h valid time grid ordered is inside =
    let (p, posed, are) = problem_of_flows (zone_problem m w s at listed) (λ p. flows_or_large p listed (Some zones)) flows is in
    let step = problems_enclose m w s at listed h p valid time ordered inside posed in
    let named = named_by m w s at listed p valid ordered posed in
    zones_enclose p zones (lower_at listed) (upper_at listed) s (convertible_step m w at h) h flows (problems_fit m w s at listed p valid time grid ordered posed) are step
    (heads_named m p named listed h inside)
