-- The sums for each pair of zones, in order of the pairs. The pair a, b has the key 1000 * a + b.
use Rattle.std.specs.Prelude.{◌≡◌, ℕ, ◌≤◌, All, List, [], ◌∷◌, ◌/◌, ◌%◌, Bool, ◌&&◌, if◌then◌else◌, ◌+ℤ◌, ◌-ℤ◌, Result, Ok, Err, Option, Some}
use Rattle.std.specs.{BTreeMap.BTreeMap, BTreeMap.get, BTreeMap.values, Option.unwrap_or, Ordering.nat_cmp, Int.Signed.lt_z}
use Rattle.step_problem.specs.{declared.place.Dir.TheVariants.In, declared.place.Dir.TheVariants.Out, lower_at, upper_at, Entries.Entries}
use Rattle.step_problem.specs.{declared.entry.FixedKind.FixedKind, declared.place.NoBound.NoBound, declared.place.ZoneFlow.ZoneFlow}
use Rattle.budget_bounds.specs.{declared.pair.TermPair.TermPair, IsSum, part, term_limit, capped_term, plus_pair, no_pair}
use Rattle.zone_flows.specs.{declared.sum.ZoneSum.ZoneSum, Faces.Face, Faces.cell_faces, Faces.face_from, Faces.faces, Faces.faces_by_kind, Faces.flows_between}
use Rattle.zone_flows.specs.{declared.walk.Walk.Walk}
use Rattle.step_problem.specs.declared.place.Place.TheVariants as places

abbrev pub no_flows : ZoneSum
no_flows = record { into = no_pair; out = no_pair }

-- One more flow. What goes in and what goes out are summed apart, and a sum stays at 2^126 once it is there.
abbrev pub add_flow : ZoneSum → TermPair → ZoneSum
add_flow s x = record { into = capped_term (plus_pair s.into (part In x)); out = capped_term (plus_pair s.out (part Out x)) }

pub record IsZoneSum (s : ZoneSum) : Type 0 where
  pub into : IsSum s.into
  pub out : IsSum s.out

-- the sums of all pairs
abbrev pub AreSums : BTreeMap ℕ ZoneSum → Type 0
AreSums m = All IsZoneSum (values m)

-- the sums after all these flows
unfoldable pub plus_flows : Option ZoneSum → List TermPair → Option ZoneSum
plus_flows s [] = s
plus_flows s (x ∷ xs) = plus_flows (Some (add_flow (unwrap_or s no_flows) x)) xs

-- A table has gained the flows across these faces, each at the key of its pair; all keys are below a million.
pub record Gains (old new : BTreeMap ℕ ZoneSum) (fs : List Face) : Type 0 where
  pub at : (q : ℕ) → get nat_cmp new q ≡ plus_flows (get nat_cmp old q) (flows_between (q / 1000) (q % 1000) fs)
  pub past : (q : ℕ) → 1000000 ≤ q → get nat_cmp new q ≡ get nat_cmp old q

-- The flow of an entry of a table of sums, or its refusal.
-- What goes in and what goes out add up to the magnitudes, in each sum to less than 2^126.
abbrev pub is_below_limit : ZoneSum → Bool
is_below_limit s = lt_z (s.into.lo +ℤ s.out.hi) term_limit && lt_z (s.into.hi +ℤ s.out.lo) term_limit

abbrev pub zone_flow : ℕ → ZoneSum → ZoneFlow
zone_flow q s = record { from = q / 1000; to = q % 1000; lo = s.into.lo -ℤ s.out.hi; hi = s.into.hi -ℤ s.out.lo }

-- the flow of the pair with this key, or FlowTooLarge
abbrev pub flow_or_refusal : ℕ → ZoneSum → Result ZoneFlow NoBound
flow_or_refusal q s = if is_below_limit s then Ok (zone_flow q s) else Err (record { code = 23; place = places.Zone (q / 1000) (q % 1000) })

-- The faces that a walk adds, by what it works with.
module _ (w : Walk) where
  abbrev pub from_to : ℕ → ℕ → ℕ → ℕ → List Face
  from_to = face_from w.zones.now (lower_at w.heads.now) (upper_at w.heads.now)

  abbrev pub kind_faces : FixedKind → ℕ → ℕ → ℕ → ℕ → List Face
  kind_faces = faces_by_kind w.zones.now (lower_at w.heads.now) (upper_at w.heads.now)

  abbrev pub faces_in : Entries → List Face
  faces_in = cell_faces w.zones.now (lower_at w.heads.now) (upper_at w.heads.now) w.problem.now

  abbrev pub walk_faces : List Face
  walk_faces = faces w.zones.now (lower_at w.heads.now) (upper_at w.heads.now) w.problem.now
