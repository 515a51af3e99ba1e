-- The problem at heads encloses the step at these heads.
use Rattle.gentle_problem.proofs.Common.{◌≡◌, ℕ, ◌++◌, List, [], ◌∷◌, None, map, refl, ap, ◌∙◌, subst, Fraction, CellEncloses, ExactCell, ExactFixed, FlowModel, TimeStep, FixedSource, ToConstant}
use Rattle.gentle_problem.proofs.Common.{ToGeneral, as_general, constant_faces, local_entries, start_head, variable_cells, cells_over, time_of, ConvertibleLayers, pairs_enclose, ProblemsEnclose}
use Rattle.gentle_problem.proofs.Common.{branches_at}
use Rattle.std.proofs.lemmas.List.{map-append}
use Rattle.std.specs.List.{AllZip, filter_map}
use mathlib.Core.List.{map-map}
use Rattle.model_types.specs.declared.entry.Entry.{Entry}
use Rattle.model_types.specs.declared.entry.Entry.TheVariants.{Drain, General, River, Well}
use Rattle.flow_equations.specs.{exact_fixed}
use Rattle.problem_builder.proofs.{CellEnclosed.cells_over_enclose, CellEnclosed.exact_cell_over, CellEnclosed.exact_fixed_over, Zipped.map_within}
use Rattle.water_table.specs.{conductance_at, constant_branch, convertible_cell, general_branches}
use Rattle.water_enclosure.proofs.Linked.{are_linked}
use Rattle.gentle_problem.proofs.Made.{heads_have_branches}

module _ (m : FlowModel) (w : ConvertibleLayers) (at : TimeStep) (h : ℕ → Fraction) (c : ℕ) where
  abbrev exact : FixedSource → ExactFixed
  exact = exact_fixed_over m at h (conductance_at m w h) c

  -- general heads don't follow from the heads before the step
  generals_same : (entries : List Entry) → map exact (filter_map as_general entries) ≡ map (exact_fixed m at.period at.step (start_head m) c) (filter_map as_general entries)
  generals_same [] = refl
  generals_same (Well cell q ∷ xs) = generals_same xs
  generals_same (River cell stage k bottom ∷ xs) = generals_same xs
  generals_same (Drain cell elevation k ∷ xs) = generals_same xs
  generals_same (General cell head k ∷ xs) = λ t. exact (ToGeneral head k) ∷ generals_same xs t

  fixed_same : map exact (map ToConstant (constant_faces m at.period c) ++ filter_map as_general (local_entries m at.period c)) ≡
      map (constant_branch m w at h) (constant_faces m at.period c) ++ general_branches m w at h c
  fixed_same =
      map-append exact (map ToConstant (constant_faces m at.period c)) (filter_map as_general (local_entries m at.period c))
      ∙ (λ t. map-map exact ToConstant (constant_faces m at.period c) t ++ generals_same (local_entries m at.period c) t)

  pub cell_same : exact_cell_over m at h (conductance_at m w h) None c ≡ convertible_cell m w at h c
  cell_same = ap (λ fixed. record (convertible_cell m w at h c) { fixed = fixed }) fixed_same

pub problems_enclose : ProblemsEnclose
problems_enclose m w s at heads h p valid time ordered inside e =
    let b = branches_at m w heads s in
    let conducts = conductance_at m w h in
    let same = map_within (exact_cell_over m at h conducts None) (convertible_cell m w at h) (variable_cells m at.period) (λ c i. cell_same m w at h c) in
    record {
      cells = subst (λ (es : List ExactCell). AllZip (CellEncloses s) p es) same
          (cells_over_enclose m s at heads b conducts h (heads_have_branches m w heads s at valid ordered)
          (λ axis a k some small. pairs_enclose m w heads h s axis a valid inside k some small) valid (time_of m at valid time) inside p (cells_over m s at heads b p e));
      ends = (are_linked m at valid.grid.size w h).ends;
    }
