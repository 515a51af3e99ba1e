-- The problems of two valid models that are alike are alike.
use Rattle.deck_problems.proofs.Common.{◌≡◌, ◌∙◌, ℕ, refl, sym, ap, subst, List, length, map, ◌∷◌, [], Bound, Entries, FlowModel, TimeStep, cell_count, FixedSource, FlowSource, variable_faces}
use Rattle.deck_problems.proofs.Common.{AllThree, flow_shape, fixed_shape, river_shape, drain_shape, evap_shape, cell_shape, IsPeriodBetween, alike_between, IsProblemOf, ProblemsAreAlike, none, next}
use Rattle.deck_problems.proofs.Common.{whole_flow, whole_link, whole_fixed, whole_river, whole_drain, whole_evap, whole_cell, cells_of, variable_cells}
use Rattle.deck_span.proofs.StepsBetween.{framed_is}
use Rattle.decimal_input.specs.declared.dec.Dec.{Dec}
use Rattle.model_types.specs.{declared.face.Axis.Axis, declared.face.Axis.TheVariants.Row, declared.face.Axis.TheVariants.Column, declared.face.Axis.TheVariants.Vertical, declared.face.Face.Face}
use Rattle.model_types.specs.{declared.period.Period.Period}
use Rattle.conductance_bounds.specs.{face_term, capped_pair}
use Rattle.deck_span.proofs.SourcesBetween.{IsFlowSourceBetween, IsFixedSourceBetween, IsRiverSourceBetween, IsDrainSourceBetween, IsEvapSourceBetween, framed, cells_are, faces_are, three_flows}
use Rattle.deck_span.proofs.SourcesBetween.{three_fixed, three_rivers, three_drains, three_evaps}
use Rattle.deck_span.proofs.SourcesBetween.IsFlowSourceBetween.{pumped, received}
use Rattle.deck_span.proofs.SourcesBetween.IsFixedSourceBetween.{constant, general, stored}
use mathlib.Core.List.{map-map}

-- Bounds of like items have one shape.
module _ {X Y Z : Type 0} (g : X → Z) (T : Y → Y → Y → Type 0) (F G : Y → X) (each : (y z w : Y) → T y z w → g (G w) ≡ g (F y)) where
  pub like_shapes : (ys zs ws : List Y) → AllThree T ys zs ws → map g (map G ws) ≡ map g (map F ys)
  like_shapes ys zs ws none = refl
  like_shapes ys zs ws (next t ts) = λ i. each _ _ _ t i ∷ like_shapes _ _ _ ts i

map_same : {X Y : Type 0} (F G : X → Y) → ((x : X) → G x ≡ F x) → (xs : List X) → map G xs ≡ map F xs
map_same F G e [] = refl
map_same F G e (x ∷ xs) = λ i. e x i ∷ map_same F G e xs i

module _ (f : FlowModel) (s₁ s₃ : List Dec) (ps rs : List Period) (periods : AllThree IsPeriodBetween ps ps rs) (s : ℕ) (at : TimeStep) (old : List Bound) where
  abbrev A : FlowModel
  A = framed f s₁ ps

  abbrev B : FlowModel
  B = framed f s₃ rs

  -- entries of like sources

  like_flows : (c : ℕ) (y z w : FlowSource) → IsFlowSourceBetween y z w → flow_shape (whole_flow B s c w) ≡ flow_shape (whole_flow A s c y)
  like_flows c y z w (pumped t) = refl
  like_flows c y z w (received t) = refl

  like_fixed : (c : ℕ) (y z w : FixedSource) → IsFixedSourceBetween y z w → fixed_shape (whole_fixed B s at old c w) ≡ fixed_shape (whole_fixed A s at old c y)
  like_fixed c y z w constant = refl
  like_fixed c y z w (general a b) = refl
  like_fixed c y z w stored = refl

  -- links, which starting heads and periods leave alone but for the index of a cell
  term_is : (axis : Axis) (c : ℕ) → face_term B axis c ≡ face_term A axis c
  term_is Row c = refl
  term_is Column c = refl
  term_is Vertical c = refl

  same_link : (y : Face) → whole_link B s at old y ≡ whole_link A s at old y
  same_link y =
      let cell = ap length (cells_are f s₁ s₁ s₃ ps ps rs periods at.period y.end).1 in
      let pair = ap (λ t. capped_pair t s) (term_is y.axis y.first) in
      λ i. record { cell = cell i; lo = (pair i).lo; hi = (pair i).hi }

  same_shape : (c : ℕ) → cell_shape (whole_cell B s at old c) ≡ cell_shape (whole_cell A s at old c)
  same_shape c =
      let p = at.period in
      let flows = like_shapes flow_shape IsFlowSourceBetween (whole_flow A s c) (whole_flow B s c) (like_flows c) _ _ _ (three_flows f s₁ s₁ s₃ ps ps rs periods p c) in
      let links = ap (map (whole_link B s at old)) (faces_are f s₁ s₁ s₃ ps ps rs periods p c).1 ∙ map_same (whole_link A s at old) (whole_link B s at old) same_link (variable_faces A p c) in
      let fixed = like_shapes fixed_shape IsFixedSourceBetween (whole_fixed A s at old c) (whole_fixed B s at old c) (like_fixed c) _ _ _ (three_fixed f s₁ s₁ s₃ ps ps rs periods p c) in
      let rivers = like_shapes river_shape IsRiverSourceBetween (whole_river s) (whole_river s) (λ y z w r. refl) _ _ _ (three_rivers f s₁ s₁ s₃ ps ps rs periods p c) in
      let drains = like_shapes drain_shape IsDrainSourceBetween (whole_drain s) (whole_drain s) (λ y z w r. refl) _ _ _ (three_drains f s₁ s₁ s₃ ps ps rs periods p c) in
      let evaps = like_shapes evap_shape IsEvapSourceBetween (whole_evap A s c) (whole_evap B s c) (λ y z w r. refl) _ _ _ (three_evaps f s₁ s₁ s₃ ps ps rs periods p c) in
      λ i. record { id = c; flows = flows i; links = links i; fixed = fixed i; rivers = rivers i; drains = drains i; evaps = evaps i }

  shapes_are : (p q : List Entries) → IsProblemOf A s at old p → IsProblemOf B s at old q → map cell_shape q ≡ map cell_shape p
  shapes_are p q h k =
      let one = (cells_of A s at old p h).each in
      let two = (cells_of B s at old q k).each in
      let vars = (cells_are f s₁ s₁ s₃ ps ps rs periods at.period (cell_count f.grid)).1 in
      ap (map cell_shape) (two ∙ ap (map (whole_cell B s at old)) vars)
      ∙ map-map cell_shape (whole_cell B s at old) (variable_cells A at.period)
      ∙ map_same (λ c. cell_shape (whole_cell A s at old c)) (λ c. cell_shape (whole_cell B s at old c)) same_shape (variable_cells A at.period)
      ∙ sym (map-map cell_shape (whole_cell A s at old) (variable_cells A at.period))
      ∙ ap (map cell_shape) (sym one)

pub problems_alike : ProblemsAreAlike
problems_alike a b s at old p q valid alike h k =
    let between = (alike_between a b alike).0 in
    let P : FlowModel → Type 0 = λ m. IsProblemOf m s at old q in
    shapes_are a a.strt b.strt a.periods b.periods between.periods s at old p q h (subst P (sym (framed_is a b between.alike)) k)
