-- The branches of a step by their values: where the pairs of a cell's faces and the stored water are the same, so is the problem.
use Rattle.problem_builder.proofs.Common.{◌≡◌, ℕ, ◌<◌, ◌++◌, true, Option, List, map, ap, ◌∙◌, refl, Bound, Pair, Face, FlowModel, TimeStep, FixedSource, FromStorage, ToConstant, ToGeneral, IsFaceOf}
use Rattle.problem_builder.proofs.Common.{In, as_general, cell_count, constant_faces, filter_map, index_of, is_active, is_constant, is_variable, local_entries, option_to_list, passing_are}
use Rattle.problem_builder.proofs.Common.{variable_cells, variable_faces, known_head, constant_bound, refusal_of, unless_refused, AreBranches, Branches, cell_over, fixed_over, link_over, problem_over}
use Rattle.problem_builder.proofs.Common.{sources_over, step_over, whole_flow, whole_river, whole_drain, whole_evap, drain_sources, evap_sources, flow_sources, river_sources, Constant}
use Rattle.problem_builder.proofs.{Members.constant_active, Members.source_among, Members.variable-In, Members.variable_active, Zipped.map_within}

-- the same pairs at the faces between active cells
abbrev pub HasSamePairs : FlowModel → Branches → Branches → Type 0
HasSamePairs m b d =
    (c : ℕ) (f : Face) → c < cell_count m.grid → IsFaceOf m.grid c f → is_active m c ≡ true → is_active m f.end ≡ true →
    b.pair f.axis f.first ≡ d.pair f.axis f.first

module _ (m : FlowModel) (s : ℕ) (at : TimeStep) (old : List Bound) (b d : Branches) (sound : AreBranches m at b) (pairs : HasSamePairs m b d)
    (stored : b.stored ≡ d.stored) where
  module _ (c : ℕ) (lt : c < cell_count m.grid) (v : is_variable m at.period c ≡ true) where
    here : is_active m c ≡ true
    here = variable_active m at.period c v

    same_link : (f : Face) → In (variable_faces m at.period c) f → link_over m s at old b f ≡ link_over m s at old d f
    same_link f i =
        let (g, k) = passing_are m.grid (is_variable m at.period) c f i in
        ap (λ (x : Pair). record { cell = index_of m at.period f.end; lo = x.lo; hi = x.hi }) (pairs c f lt g here (variable_active m at.period f.end k))

    same_fixed : (x : FixedSource) → In (sources_over m s at old b c) x → fixed_over m s at old b c x ≡ fixed_over m s at old d c x
    same_fixed (ToConstant f) i =
        let (g, k) = passing_are m.grid (is_constant m at.period) c f (source_among m at.period c b.stored sound.stored (ToConstant f) i) in
        ap (λ (x : Pair). known_head Constant f.end x (constant_bound m at f.end)) (pairs c f lt g here (constant_active m at.period f.end k))
    same_fixed (ToGeneral head k) i = refl
    same_fixed FromStorage i = refl

    same_cell : cell_over m s at old b c ≡ cell_over m s at old d c
    same_cell =
        let links = map_within (link_over m s at old b) (link_over m s at old d) (variable_faces m at.period c) same_link in
        let sources : Option FixedSource → List FixedSource = λ o. option_to_list o ++ map ToConstant (constant_faces m at.period c) ++ filter_map as_general (local_entries m at.period c) in
        let fixed =
        map_within (fixed_over m s at old b c) (fixed_over m s at old d c) (sources_over m s at old b c) same_fixed
        ∙ ap (λ o. map (fixed_over m s at old d c) (sources o)) stored in
        λ t. record {
          id = c;
          flows = map (whole_flow m s c) (flow_sources m at.period c);
          links = links t;
          fixed = fixed t;
          rivers = map (whole_river s) (river_sources m at.period c);
          drains = map (whole_drain s) (drain_sources m at.period c);
          evaps = map (whole_evap m s c) (evap_sources m at.period c);
        }

  same_step : step_over m s at old b ≡ step_over m s at old d
  same_step = map_within (cell_over m s at old b) (cell_over m s at old d) (variable_cells m at.period)
      (λ c i. let (v, lt) = variable-In m at.period (cell_count m.grid) c i in same_cell c lt v)

  pub same_problem_over : problem_over m s at old b ≡ problem_over m s at old d
  same_problem_over = ap (λ es. unless_refused (filter_map refusal_of es) es) same_step
