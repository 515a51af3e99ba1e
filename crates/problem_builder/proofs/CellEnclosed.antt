-- A cell of the problem encloses the exact cell: one step for each kind of entry.
use Rattle.problem_builder.proofs.Common.{IsEvapValid, IsModel, ap, faces_enclose, ◌∙◌, FlowPair, In-map, IsTimeOf, well_pair, whole_drain, whole_evap, whole_flow, whole_river, ◌≡◌, ℕ, ◌+◌, ◌<◌, ◌^◌}
use Rattle.problem_builder.proofs.Common.{true, List, map, sym, subst, arith, refl, AllZip, Dec, number, size, Fraction, Encloses, EnclosesSigned, Bound, Flow, Link, Fixed, Entries, magnitude}
use Rattle.problem_builder.proofs.Common.{FlowEncloses, LinkEncloses, FixedEncloses, RiverEncloses, DrainEncloses, EvapEncloses, CellEncloses, EnclosesStep, Face, FlowModel, TimeStep, cell_count}
use Rattle.problem_builder.proofs.Common.{is_active, conductance, is_variable, is_constant, FixedSource, FlowSource, variable_faces, flow_sources, river_sources, drain_sources, evap_sources}
use Rattle.problem_builder.proofs.Common.{ToConstant, ToGeneral, FromStorage, Pumped, Received, period_at, storage, variable_cells, In, In-All, IsFaceOf, passing_are, Number, face_term, storage_term}
use Rattle.problem_builder.proofs.Common.{HeadsEnclose, AreCells, are_linked, storages_enclose, real_flow, map-map, map-id, AreBranches, AreCellsOver, Axis, Bool, Branches, IsBranch, Option, Ratio}
use Rattle.problem_builder.proofs.Common.{cell_over, constant_over, fixed_over, link_over, model_branches, sources_over, list_any, or_parts, ◌&&◌, ◌==◌, ◌++◌, option_to_list, as_general, filter_map}
use Rattle.problem_builder.proofs.Common.{local_entries, constant_faces, constant_head, index_of, Constant, General, Storage, ExactCell, ExactFixed, ExactLink, is_branch}
use Rattle.step_problem.specs.{declared.entry.River.River, declared.entry.Drain.Drain, declared.entry.Evap.Evap}
use Rattle.flow_equations.specs.{exact_flow, exact_river, exact_drain, exact_evap, exact_step}
use Rattle.conductance_bounds.proofs.Recharged.{number_encloses}
use Rattle.problem_builder.proofs.{Members.IsFixedSource, Members.variable_active, Members.constant_active, Members.source_among, Members.variable-In, CellFaces.face_branch}
use Rattle.problem_builder.proofs.{CellFits.model_has_branches, Sound.IsSound, Sound.none_passes, Sound.positive_unless_zero, Sound.sum_part, Sound.no_fault_is_sound, Sound.no_refusal_is_no_fault}
use Rattle.problem_builder.proofs.{Zipped.zip_images, HeadRange.head_encloses, Fits.capped_encloses, Fits.cond_encloses, BoundsOf.constant_head_is_enclosed, BoundsOf.recharges, BoundsOf.evaps}
use Rattle.problem_builder.proofs.{BoundsOf.past_magnitude}

well_encloses : (s : ℕ) (d : Dec) → magnitude (well_pair s d).lo (well_pair s d).hi < 2 ^ 109 → EnclosesSigned (well_pair s d).lo (well_pair s d).hi (s + 9) (number d)
well_encloses s d lt =
    let x = well_pair s d in
    subst (λ (p : FlowPair). EnclosesSigned p.lo p.hi (s + 9) (number d)) (sym (real_flow (Number (size d)) d.neg (s + 9) (past_magnitude x.lo x.hi lt))) (number_encloses d (s + 9))

-- The exact cell c over these conductances of the faces, with this source of stored water.
module _ (m : FlowModel) (at : TimeStep) (before : ℕ → Fraction) (conducts : Axis → ℕ → Ratio) where
  abbrev pub exact_link_over : Face → ExactLink
  exact_link_over x = record { cell = index_of m at.period x.end; conductance = conducts x.axis x.first }

  abbrev pub exact_fixed_over : ℕ → FixedSource → ExactFixed
  exact_fixed_over c (ToConstant x) =
      record { kind = Constant; source = x.end; conductance = conducts x.axis x.first; head = constant_head m at.period at.step x.end }
  exact_fixed_over c (ToGeneral head cond) = record { kind = General; source = c; conductance = size cond; head = number head }
  exact_fixed_over c FromStorage = record { kind = Storage; source = c; conductance = storage m (period_at m at.period) at.step c; head = before c }

  abbrev pub exact_cell_over : Option FixedSource → ℕ → ExactCell
  exact_cell_over stored c = record {
    id = c;
    flows = map (exact_flow m at.period at.step before c) (flow_sources m at.period c);
    links = map exact_link_over (variable_faces m at.period c);
    fixed = map (exact_fixed_over c) (option_to_list stored ++ map ToConstant (constant_faces m at.period c) ++ filter_map as_general (local_entries m at.period c));
    rivers = map exact_river (river_sources m at.period c);
    drains = map exact_drain (drain_sources m at.period c);
    evaps = map (exact_evap m at.period at.step before c) (evap_sources m at.period c);
  }

-- Bounds above 0 and below 2^60 enclose the conductances.
abbrev pub BranchesEnclose : FlowModel → ℕ → Branches → (Axis → ℕ → Ratio) → Type 0
BranchesEnclose m s b conducts =
    (axis : Axis) (a : ℕ) → IsBranch m axis a → 0 < (b.pair axis a).lo → (b.pair axis a).hi < 2 ^ 60 → Encloses (b.pair axis a).lo (b.pair axis a).hi s (conducts axis a)

module _ (m : FlowModel) (s : ℕ) (at : TimeStep) (old : List Bound) (b : Branches) (conducts : Axis → ℕ → Ratio) (before : ℕ → Fraction)
    (sound_branches : AreBranches m at b) (enclose : BranchesEnclose m s b conducts) (valid : IsModel m) (time : IsTimeOf m at)
    (olds : HeadsEnclose m old before) where
  module _ (c : ℕ) (lt : c < cell_count m.grid) (v : is_variable m at.period c ≡ true) (sound_cell : IsSound (cell_over m s at old b c)) where
    abbrev e : Entries
    e = cell_over m s at old b c

    here : is_active m c ≡ true
    here = variable_active m at.period c v

    face_encloses : (f : Face) → IsFaceOf m.grid c f → is_active m f.end ≡ true → 0 < (b.pair f.axis f.first).lo → (b.pair f.axis f.first).hi < 2 ^ 60 →
        Encloses (b.pair f.axis f.first).lo (b.pair f.axis f.first).hi s (conducts f.axis f.first)
    face_encloses f g active = enclose f.axis f.first (face_branch m c f valid.grid.size lt g here active)

    fixed_small : (x : Fixed) → In e.fixed x → x.hi < 2 ^ 60
    fixed_small x i = omega (arith, sum_part (λ (y : Fixed). y.hi) e.fixed x i, sound_cell.conductances)

    link_small : (x : Link) → In e.links x → x.hi < 2 ^ 60
    link_small x i = omega (arith, sum_part (λ (y : Link). y.hi) e.links x i, sound_cell.conductances)

    flow_small : (x : Flow) → In e.flows x → magnitude x.lo x.hi < 2 ^ 109
    flow_small x i = omega (arith, sum_part (λ (y : Flow). magnitude y.lo y.hi) e.flows x i, sound_cell.flows)

    abbrev small_link : Bool
    small_link = list_any (λ (x : Link). x.lo == 0) e.links

    abbrev small_fixed : Bool
    small_fixed = list_any (λ (x : Fixed). is_branch x.kind && (x.lo == 0)) e.fixed

    link_conducts : (x : Link) → In e.links x → 0 < x.lo
    link_conducts x i = positive_unless_zero x.lo (none_passes (λ (y : Link). y.lo == 0) e.links (or_parts small_link small_fixed sound_cell.branches).0 x i)

    constant_conducts : (x : Face) → In e.fixed (constant_over m s at old b x) → 0 < (b.pair x.axis x.first).lo
    constant_conducts x i =
        positive_unless_zero (b.pair x.axis x.first).lo
        (none_passes (λ (y : Fixed). is_branch y.kind && (y.lo == 0)) e.fixed (or_parts small_link small_fixed sound_cell.branches).1 (constant_over m s at old b x) i)

    one_flow : (y : FlowSource) → In e.flows (whole_flow m s c y) → FlowEncloses s (whole_flow m s c y) (exact_flow m at.period at.step before c y)
    one_flow (Pumped q) i = record { kind = refl; flow = well_encloses s q (flow_small _ i) }
    one_flow (Received rate) i = record { kind = refl; flow = recharges m s c rate (flow_small _ i) }

    source : (y : FixedSource) → In (sources_over m s at old b c) y → IsFixedSource m at.period c y
    source = source_among m at.period c b.stored sound_branches.stored

    one_fixed : (y : FixedSource) → In (sources_over m s at old b c) y → In e.fixed (fixed_over m s at old b c y) →
        FixedEncloses s (fixed_over m s at old b c y) (exact_fixed_over m at before conducts c y)
    one_fixed (ToConstant f) j i =
        let (g, k) = passing_are m.grid (is_constant m at.period) c f (source (ToConstant f) j) in
        record {
          kind = refl;
          source = refl;
          conductance = face_encloses f g (constant_active m at.period f.end k) (constant_conducts f i) (fixed_small _ i);
          head = constant_head_is_enclosed m at valid time f.end;
        }
    one_fixed (ToGeneral head k) j i = record { kind = refl; source = refl; conductance = cond_encloses s k (fixed_small _ i); head = head_encloses head }
    one_fixed FromStorage j i = record {
      kind = refl;
      source = refl;
      conductance = capped_encloses (storage_term m (period_at m at.period) at.step c) s (storage m (period_at m at.period) at.step c)
          (storages_enclose m valid (period_at m at.period) at.step c s time.valid.times (source FromStorage j) lt here) (fixed_small _ i);
      head = olds c (record { within = lt; active = here });
    }

    pub cell_over_encloses : CellEncloses s e (exact_cell_over m at before conducts b.stored c)
    cell_over_encloses = record {
      id = refl;
      flows = zip_images (FlowEncloses s) (whole_flow m s c) (exact_flow m at.period at.step before c) (flow_sources m at.period c) (λ y j.
          one_flow y (In-map (whole_flow m s c) (flow_sources m at.period c) y j));
      links = zip_images (LinkEncloses s) (link_over m s at old b) (exact_link_over m at before conducts) (variable_faces m at.period c)
          (λ f j.
          let (g, k) = passing_are m.grid (is_variable m at.period) c f j in
          let i = In-map (link_over m s at old b) (variable_faces m at.period c) f j in
          record { cell = refl; conductance = face_encloses f g (variable_active m at.period f.end k) (link_conducts _ i) (link_small _ i) });
      fixed = zip_images (FixedEncloses s) (fixed_over m s at old b c) (exact_fixed_over m at before conducts c) (sources_over m s at old b c) (λ y j.
          one_fixed y j (In-map (fixed_over m s at old b c) (sources_over m s at old b c) y j));
      rivers = zip_images (RiverEncloses s) (whole_river s) exact_river (river_sources m at.period c)
          (λ y j. record {
            conductance = cond_encloses s y.cond
                (omega (
                  arith,
                  sum_part (λ (x : River). x.hi) e.rivers (whole_river s y) (In-map (whole_river s) (river_sources m at.period c) y j),
                  sound_cell.conductances,
                ));
            stage = head_encloses y.stage;
            bottom = head_encloses y.bottom;
          });
      drains = zip_images (DrainEncloses s) (whole_drain s) exact_drain (drain_sources m at.period c)
          (λ y j. record {
            conductance = cond_encloses s y.cond
                (omega (
                  arith,
                  sum_part (λ (x : Drain). x.hi) e.drains (whole_drain s y) (In-map (whole_drain s) (drain_sources m at.period c) y j),
                  sound_cell.conductances,
                ));
            elevation = head_encloses y.elevation;
          });
      evaps = zip_images (EvapEncloses s) (whole_evap m s c) (exact_evap m at.period at.step before c) (evap_sources m at.period c)
          (λ y j. evaps m s c y (In-All IsEvapValid (evap_sources m at.period c) y (valid.evaps at.period c lt here) j).depth
          (omega (
            arith,
            sum_part (λ (x : Evap). x.hi) e.evaps (whole_evap m s c y) (In-map (whole_evap m s c) (evap_sources m at.period c) y j),
            sound_cell.conductances,
          )));
    }

  -- and so do all cells
  pub cells_over_enclose : (es : List Entries) → AreCellsOver m s at old b (cell_count m.grid) es →
      AllZip (CellEncloses s) es (map (exact_cell_over m at before conducts b.stored) (variable_cells m at.period))
  cells_over_enclose es are =
      let F = cell_over m s at old b in
      let E = exact_cell_over m at before conducts b.stored in
      subst (λ (ys : List Entries). AllZip (CellEncloses s) ys (map E (variable_cells m at.period))) (sym are.each)
      (zip_images (CellEncloses s) F E (variable_cells m at.period)
      (λ c j. let (v, lt) = variable-In m at.period (cell_count m.grid) c j in
      cell_over_encloses c lt v
      (no_fault_is_sound (F c) (no_refusal_is_no_fault es are.sound (F c)
      (subst (λ (ys : List Entries). In ys (F c)) (sym are.each) (In-map F (variable_cells m at.period) c j))))))

-- The cells of a step are the variable cells, by ascending number.
pub ids_over : (m : FlowModel) (s : ℕ) (at : TimeStep) (old : List Bound) (b : Branches) (es : List Entries) →
    AreCellsOver m s at old b (cell_count m.grid) es → map (λ e. e.id) es ≡ variable_cells m at.period
ids_over m s at old b es are =
    ap (map (λ e. e.id)) are.each ∙ map-map (λ (e : Entries). e.id) (cell_over m s at old b) (variable_cells m at.period) ∙ map-id (variable_cells m at.period)

-- Those of a confined model enclose its exact step.
module _ (m : FlowModel) (s : ℕ) (at : TimeStep) (old : List Bound) where
  model_encloses : IsModel m → BranchesEnclose m s (model_branches m s at) (conductance m)
  model_encloses valid axis a k some small =
      capped_encloses (face_term m axis a) s (conductance m axis a) (faces_enclose m valid axis a s k.within k.first k.second) small

  pub step_encloses : (es : List Entries) (before : ℕ → Fraction) → IsModel m → IsTimeOf m at → HeadsEnclose m old before →
      AreCells m s at old (cell_count m.grid) es → EnclosesStep s es (exact_step m at.period at.step before)
  step_encloses es before valid time olds are = record {
    cells = cells_over_enclose m s at old (model_branches m s at) (conductance m) before (model_has_branches m s at valid) (model_encloses valid) valid time
        olds es are;
    ends = (are_linked m at.period at.step before valid.grid.size).ends;
  }

  pub ids_are : (es : List Entries) → AreCells m s at old (cell_count m.grid) es → map (λ e. e.id) es ≡ variable_cells m at.period
  ids_are = ids_over m s at old (model_branches m s at)
