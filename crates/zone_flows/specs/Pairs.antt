-- The flows between zones in one time step: one for each pair of zones that share a face, in order of the pairs; or the first pair whose flow is too large.
use Rattle.std.specs.Prelude.{Bool, ◌&&◌, List, [], ◌∷◌, pos, unsigned_abs, Result, Ok, Err, if◌then◌else◌, ◌≡◌}
use Rattle.std.specs.{List.filter, List.list_any, Int.Signed.lt_z, declared.vec.Vec.Vec, declared.alloc.Global.Global}
use Rattle.step_problem.specs.{declared.place.NoBound.NoBound, declared.place.ZoneFlow.ZoneFlow, total, declared.refusal.BoundFault.BoundFault}
use Rattle.budget_bounds.specs.declared.pair.TermPair.{TermPair}
use Rattle.budget_bounds.specs.{term_limit, ◌>>=◌}
use Rattle.zone_pairs.specs.{declared.pair.ZonePair.ZonePair, pairs_below}
use Rattle.zone_flows.specs.Faces.{Face, is_between, flows_between}
use Rattle.step_problem.specs.declared.place.Place.TheVariants as places
use Rattle.step_problem.specs.declared.refusal.BoundFault.TheVariants as faults

-- what f gives of each item in turn, or its first refusal
unfoldable pub each_or_first : {X Y E : Type 0} → (X → Result Y E) → List X → Result (List Y) E
each_or_first f [] = Ok []
each_or_first f (x ∷ xs) = do
  y ← f x
  ys ← each_or_first f xs
  Ok (y ∷ ys)

-- A step has the faces fs.
module _ (fs : List Face) where
  -- there is a face from the first zone to the second
  abbrev pub share : ZonePair → Bool
  share z = list_any (is_between z.from z.to) fs

  -- the flows across the faces between two zones
  abbrev pub flows_of : ZonePair → List TermPair
  flows_of z = flows_between z.from z.to fs

  -- The magnitudes of the least flows across the faces add up to less than 2^126, and so do those of the greatest.
  abbrev pub is_small : ZonePair → Bool
  is_small z = lt_z (total (λ x. pos (unsigned_abs x.lo)) (flows_of z)) term_limit && lt_z (total (λ x. pos (unsigned_abs x.hi)) (flows_of z)) term_limit

  -- the flow between two zones: the sums of the least and of the greatest flows across the faces between them
  abbrev pub pair_flow : ZonePair → ZoneFlow
  pair_flow z = record { from = z.from; to = z.to; lo = total (λ x. x.lo) (flows_of z); hi = total (λ x. x.hi) (flows_of z) }

  -- that flow, or FlowTooLarge (23) where the magnitudes reach 2^126 in one of the two sums
  abbrev pub flow_or_large : ZonePair → Result ZoneFlow NoBound
  flow_or_large z = if is_small z then Ok (pair_flow z) else Err (record { code = 23; place = places.Zone z.from z.to })

  -- one flow for each pair of zones that share a face, in order of the pairs, or the refusal of the first pair that is too large
  unfoldable pub zone_flows : Result (List ZoneFlow) NoBound
  zone_flows = each_or_first flow_or_large (filter share (pairs_below 1000))

-- What a call for the flows between zones returns: these flows, or this refusal; out of memory may come at any place.
abbrev pub Returns : Result (List ZoneFlow) NoBound → Result (Vec ZoneFlow Global) BoundFault → Type 0
Returns listed (Ok flows) = listed ≡ Ok flows.items
Returns listed (Err (faults.NoBound refusal)) = listed ≡ Err refusal
Returns listed (Err faults.Memory) = Unit {0}
