-- Stored water has no faces: a problem without storage has the faces of that with storage, so its flows have the pairs of zones of the stress period.
use Rattle.gentle_zones.proofs.Common.{◌≡◌, ℕ, zero, suc, ℤ, Bool, true, false, List, [], ◌∷◌, ◌++◌, Option, Some, None, cond, get_or, map, refl, sym, ap, ◌∙◌, subst, Entries, entries_at, no_entries}
use Rattle.gentle_zones.proofs.Common.{lower_at, upper_at, Bound, ZoneFlow, FlowModel, TimeStep, IsModel, FixedSource, FromStorage, ToConstant, ToGeneral, as_general, constant_faces, fixed_sources}
use Rattle.gentle_zones.proofs.Common.{local_entries, storage_at, variable_cells, variable_faces, period_at, Branches, IsProblemOver, cell_over, fixed_over, link_over, step_over, cells_over, Face}
use Rattle.gentle_zones.proofs.Common.{fixed_faces, link_faces, share, flows_of_pairs, AreFlowsOf, faces_of}
use Rattle.std.specs.{List.AllZip, List.filter, List.filter_map, List.flat_map, Option.option_to_list}
use Rattle.step_problem.specs.declared.entry.Link.{Link}
use Rattle.problem_builder.proofs.Zipped.{zip_image}
use Rattle.zone_pairs.specs.{declared.pair.ZonePair.ZonePair, pairs_in, zones_of_flow}
use Rattle.listing_run.proofs.Unique.{same_flows}
use Rattle.barrier_vector.proofs.Uniques.{same_tests}
use Rattle.check_run.proofs.Branches.{HasBranches, HaveBranches, IsTo, LeadsTo, pair_shares, shared_has}
unfoldable use Rattle.zone_pairs.specs.{pairs_below, share_face, zone_pairs}
unfoldable use Rattle.zone_flows.specs.{cell_faces, face_from, faces}

module _ (m : FlowModel) (s : ℕ) (at : TimeStep) (heads : List Bound) (b : Branches) where
  -- the branches with storage where the period has it
  abbrev stored : Branches
  stored = record { pair = b.pair; stored = storage_at m at.period }

  is_to : (c : ℕ) (t : FixedSource) → IsTo m at.period (fixed_over m s at heads stored c t) t
  is_to c (ToConstant f) = (refl, refl)
  is_to c (ToGeneral head conductance) = refl
  is_to c FromStorage = refl

  with_storage : HaveBranches m at.period (step_over m s at heads stored)
  with_storage = zip_image (HasBranches m at.period) (cell_over m s at heads stored) (variable_cells m at.period) (λ c i. record {
    id = refl;
    links = zip_image (LeadsTo m at.period) (link_over m s at heads stored) (variable_faces m at.period c) (λ f j. refl);
    fixed = zip_image (IsTo m at.period) (fixed_over m s at heads stored c) (fixed_sources m at.period c) (λ y j. is_to c y);
  })

module _ (m : FlowModel) (s : ℕ) (at : TimeStep) (heads : List Bound) (pair : Branches) (none : pair.stored ≡ None) (zones : List ℕ) (l u : ℕ → ℤ) where
  abbrev plain : ℕ → Entries
  plain = cell_over m s at heads pair

  abbrev whole : ℕ → Entries
  whole = cell_over m s at heads (stored m s at heads pair)

  ids : (cs : List ℕ) (k : ℕ) → (entries_at (map plain cs) k).id ≡ (entries_at (map whole cs) k).id
  ids [] k = refl
  ids (c ∷ cs) zero = refl
  ids (c ∷ cs) (suc k) = ids cs k

  -- storage, if there is one, before constant-head neighbours and general heads
  abbrev after : Option FixedSource → ℕ → List FixedSource
  after o c = option_to_list o ++ map ToConstant (constant_faces m at.period c) ++ filter_map as_general (local_entries m at.period c)

  fixed_with : (steady : Bool) (c : ℕ) → flat_map (fixed_faces zones l u (plain c)) (map (fixed_over m s at heads pair c) (after None c)) ≡
      flat_map (fixed_faces zones l u (plain c)) (map (fixed_over m s at heads pair c) (after (cond steady None (Some FromStorage)) c))
  fixed_with true c = refl
  fixed_with false c = refl

  fixed_same : (c : ℕ) → flat_map (fixed_faces zones l u (plain c)) (plain c).fixed ≡ flat_map (fixed_faces zones l u (whole c)) (whole c).fixed
  fixed_same c =
      ap (λ (o : Option FixedSource). flat_map (fixed_faces zones l u (plain c)) (map (fixed_over m s at heads pair c) (after o c))) none
      ∙ fixed_with (period_at m at.period).steady c

  cell_same : (cs : List ℕ) (c : ℕ) → cell_faces zones l u (map plain cs) (plain c) ≡ cell_faces zones l u (map whole cs) (whole c)
  unfolding cell_faces
  cell_same cs c = λ i. flat_map (λ (x : Link). face_from zones l u c (ids cs x.cell i) x.lo x.hi) (plain c).links ++ fixed_same c i

  each_same : (cs all : List ℕ) → flat_map (cell_faces zones l u (map plain all)) (map plain cs) ≡ flat_map (cell_faces zones l u (map whole all)) (map whole cs)
  each_same [] all = refl
  each_same (c ∷ cs) all = λ i. cell_same all c i ++ each_same cs all i

  pub faces_same : faces zones l u (step_over m s at heads pair) ≡ faces zones l u (step_over m s at heads (stored m s at heads pair))
  unfolding faces
  faces_same = each_same (variable_cells m at.period) (variable_cells m at.period)

-- the flows of a problem without storage
pub flows_have_pairs : (m : FlowModel) (s : ℕ) (at : TimeStep) (heads : List Bound) (b : Branches) (p : List Entries) → IsModel m → b.stored ≡ None →
    IsProblemOver m s at heads b p → (zones : Option (List ℕ)) (flows : List ZoneFlow) → AreFlowsOf p heads zones flows → map zones_of_flow flows ≡ pairs_in m zones at.period
unfolding zone_pairs
flows_have_pairs m s at heads b p valid none is None flows are = ap (map zones_of_flow) (same_flows p heads None flows [] are refl)
flows_have_pairs m s at heads b p valid none is (Some zones) flows are =
    let l = lower_at heads in
    let u = upper_at heads in
    let q = step_over m s at heads (stored m s at heads b) in
    let branches = with_storage m s at heads b in
    let whole : faces_of p heads zones ≡ faces zones l u q = ap (faces zones l u) (cells_over m s at heads b p is).each ∙ faces_same m s at heads b none zones l u in
    let same : (z : ZonePair) → share (faces_of p heads zones) z ≡ share_face m zones at.period z = λ z.
    ap (λ (fs : List Face). share fs z) whole
    ∙ same_tests _ _ (pair_shares zones l u m at.period valid.grid.size q branches z) (shared_has zones l u m at.period valid.grid.size q branches z) in
    (flows_of_pairs (faces_of p heads zones) flows are).1 ∙ (λ i. filter (λ z. same z i) (pairs_below 1000))
