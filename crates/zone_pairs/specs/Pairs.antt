-- The pairs of zones that share a face in a stress period. Zone 0 is no zone.
use Rattle.std.specs.Prelude.{ℕ, ◌==◌, nat_lt, Bool, false, ◌&&◌, ◌||◌, List, [], filter, map, slice_index, Option, Some, None, ◌≡◌, ◌/◌, ◌%◌, ◌≤◌, All, length}
use Rattle.std.specs.Prelude.{IfSome, option_map}
use Rattle.std.specs.{List.flat_map, List.list_any, List.range_with_len, BTreeSet.BTreeSet, BTreeSet.contains, Ordering.nat_cmp}
use Rattle.step_problem.specs.declared.place.ZoneFlow.{ZoneFlow}
use Rattle.model_types.specs.{declared.face.Face.Face, declared.model.FlowModel.FlowModel, faces, cell_count, variable_cells, given_heads, is_active, IsModel}
use Rattle.zone_pairs.specs.{declared.pair.ZonePair.ZonePair, declared.periods.Walk.Walk, declared.periods.ZonePairs.ZonePairs}

-- the two zones of a flow
abbrev pub zones_of_flow : ZoneFlow → ZonePair
zones_of_flow v = record { from = v.from; to = v.to }

-- z is the pair of the zones a and b: neither is 0, they differ, and the lower is first
abbrev pub joins : ZonePair → ℕ → ℕ → Bool
joins z a b = nat_lt 0 z.from && nat_lt z.from z.to && ((a == z.from) && (b == z.to) || (a == z.to) && (b == z.from))

-- A model, whose cell c is in zone zones[c].
module _ (m : FlowModel) (zones : List ℕ) where
  -- a face of cell c leads to an active neighbour, and z is the pair of their zones
  abbrev pub joins_by : ZonePair → ℕ → Option Face → Bool
  joins_by z c None = false
  joins_by z c (Some f) = is_active m f.end && joins z (slice_index zones c) (slice_index zones f.end)

  -- so does a face of a cell that is variable in stress period p
  unfoldable pub share_face : ℕ → ZonePair → Bool
  share_face p z = list_any (λ c. list_any (joins_by z c) (faces m.grid c)) (variable_cells m p)

-- all pairs of numbers below n, in order, each once
unfoldable pub pairs_below : ℕ → List ZonePair
pairs_below n = flat_map (λ a. map (λ b. record { from = a; to = b }) (range_with_len 0 n)) (range_with_len 0 n)

-- the pairs of zones that share a face, in order, each once
unfoldable pub zone_pairs : FlowModel → List ℕ → ℕ → List ZonePair
zone_pairs m zones p = filter (share_face m zones p) (pairs_below 1000)

-- the pairs of a stress period; none without a zone file
abbrev pub pairs_in : FlowModel → Option (List ℕ) → ℕ → List ZonePair
pairs_in m None p = []
pairs_in m (Some zones) p = zone_pairs m zones p

-- The set of pairs that a stress period's walk over the cells fills. A pair a, b has the key 1000 * a + b.
-- the pair of a key
abbrev pub pair_of : ℕ → ZonePair
pair_of q = record { from = q / 1000; to = q % 1000 }

-- a set of keys has gained those whose pairs pass a test
abbrev pub Gains : BTreeSet ℕ → BTreeSet ℕ → (ZonePair → Bool) → Type 0
Gains old new test = (q : ℕ) → contains nat_cmp new q ≡ (contains nat_cmp old q || test (pair_of q))

-- The zones of a model's cells.
-- a zone for each cell of the grid, 1 to 999, or 0 for a cell in no zone
pub record AreZonesOf (m : FlowModel) (zones : List ℕ) : Type 0 where
  pub count : length zones ≡ cell_count m.grid
  pub limits : All (λ z. z ≤ 999) zones

-- numbers of zones, if there is a zone file, are at most 999
abbrev pub AreNumbers : Option (List ℕ) → Type 0
AreNumbers zones = IfSome zones (λ zs. All (λ z. z ≤ 999) zs)

-- the zones of a model, if there is a zone file
abbrev pub AreZones : FlowModel → Option (List ℕ) → Type 0
AreZones m zones = IfSome zones (AreZonesOf m)

-- The pairs of zones at a stress period, as a walk over the periods keeps them.
-- zones with which a model's pairs can be found: they are zones of its cells, and it is valid
pub record CanPair (m : FlowModel) (zones : List ℕ) : Type 0 where
  pub model : IsModel m
  pub cells : AreZonesOf m zones

-- the pairs of the period of the walk's given heads
pub record IsWalk (m : FlowModel) (w : Walk) : Type 0 where
  pub can : CanPair m w.zones.now
  pub given : w.given ≡ given_heads m w.given.period
  pub pairs : w.pairs ≡ zone_pairs m w.zones.now w.given.period

abbrev pub ArePairs : FlowModel → ZonePairs → Type 0
ArePairs m x = IfSome x.walk (IsWalk m)

-- the zones, if there is a zone file
abbrev pub zones_of : ZonePairs → Option (List ℕ)
zones_of x = option_map (λ w. w.zones.now) x.walk

-- the pairs at the current period
abbrev pub pairs_at : Option Walk → List ZonePair
pairs_at None = []
pairs_at (Some w) = w.pairs

abbrev pub listed_pairs : ZonePairs → List ZonePair
listed_pairs x = pairs_at x.walk
