-- Each exact step of a model between two others lies between theirs.
use Rattle.deck_span.proofs.Common.{◌≡◌, ℕ, zero, suc, ◌-◌, ◌≤◌, ◌<◌, refl, sym, ap, ◌∙◌, subst, arith, true, Option, List, [], ◌∷◌, length, map, All, int_lt, not, ◌==◌, unsigned_abs, negsuc, Dec}
use Rattle.deck_span.proofs.Common.{number, size, Ratio, over, Fraction, as_fraction, opposite, plus, AtMost, ExactEvap, FlowModel, Period, Given, Face, cell_count, no_number, is_active, area, int_at}
use Rattle.deck_span.proofs.Common.{conductance, row_conductance, column_conductance, vertical_conductance, vertical_half, period_at, part_passed, is_variable, variable_below, variable_cells}
use Rattle.deck_span.proofs.Common.{start_head, kept_head, head_or_kept, constant_head, between_heads, EvapSource, FixedSource, FlowSource, variable_faces, evap_sources, storage, IsModel, IsEvapValid}
use Rattle.deck_span.proofs.Common.{AllThree, none, next, IsFractionBetween, IsRatioBetween, IsDecBetween, IsFlowBetween, IsFixedBetween, IsRiverBetween, IsDrainBetween, IsEvapBetween, IsCellBetween}
use Rattle.deck_span.proofs.Common.{IsStepBetween, IsGivenBetween, IsPeriodBetween, IsBetween, frame, period_frame, get_or_default, and_parts, exact_river, exact_drain, exact_link, exact_fixed}
use Rattle.deck_span.proofs.Common.{exact_flow, exact_evap, exact_cell, exact_step, All-head, All-tail}
use Rattle.std.specs.Prelude.{pos, ℤ}
use Rattle.decimal_input.specs.{Fractions.times, Ratios.times as size_times, Ratios.AtMost as IsRatioAtMost}
use Rattle.model_types.specs.{declared.face.Axis.Axis, declared.face.Axis.TheVariants.Row, declared.face.Axis.TheVariants.Column, declared.face.Axis.TheVariants.Vertical}
use Rattle.model_types.proofs.Ranks.{passing, is_at}
use Rattle.std.proofs.lemmas.Bool.Decides.{nat_tests}
use Rattle.deck_span.proofs.{ThreeLists.OptionThree, ThreeLists.three_at, ThreeLists.three_map, ThreeLists.OptionThree.nothing, ThreeLists.OptionThree.something, HullBounds.number_itself}
use Rattle.deck_span.proofs.{HullBounds.size_itself, HullBounds.between_image, HullBounds.times_keeps, HullBounds.plus_keeps, HullBounds.rate_keeps, GivenHeadsBetween.part_of}
use Rattle.deck_span.proofs.{SourcesBetween.IsFlowSourceBetween, SourcesBetween.IsFixedSourceBetween, SourcesBetween.IsRiverSourceBetween, SourcesBetween.IsDrainSourceBetween}
use Rattle.deck_span.proofs.{SourcesBetween.IsEvapSourceBetween, SourcesBetween.framed, SourcesBetween.no_dec, SourcesBetween.given_three, SourcesBetween.last_three, SourcesBetween.at_period}
use Rattle.deck_span.proofs.{SourcesBetween.cells_are, SourcesBetween.faces_are, SourcesBetween.three_flows, SourcesBetween.three_fixed, SourcesBetween.three_rivers, SourcesBetween.three_drains}
use Rattle.deck_span.proofs.{SourcesBetween.three_evaps, SourcesBetween.IsFlowSourceBetween.pumped, SourcesBetween.IsFlowSourceBetween.received, SourcesBetween.IsFixedSourceBetween.constant}
use Rattle.deck_span.proofs.{SourcesBetween.IsFixedSourceBetween.general, SourcesBetween.IsFixedSourceBetween.stored}
use Rattle.flow_equations.proofs.Downwards.{size_positive}

-- A variable cell is active.

positive_active : (z : ℤ) → int_lt (pos 0) z ≡ true → not (unsigned_abs z == 0) ≡ true
positive_active (pos zero) e = e
positive_active (pos (suc n)) e = grind (arith, nat_tests)
positive_active (negsuc n) e = grind (arith, nat_tests)

variable_active : (m : FlowModel) (p c : ℕ) → is_variable m p c ≡ true → is_active m c ≡ true
variable_active m p c e = positive_active (int_at m.ibound c) (and_parts (int_lt (pos 0) (int_at m.ibound c)) _ e).0

-- What starting heads and periods leave alone.

conductance_is : (f : FlowModel) (s : List Dec) (ps : List Period) (axis : Axis) (c : ℕ) → conductance (framed f s ps) axis c ≡ conductance f axis c
unfolding row_conductance column_conductance vertical_conductance vertical_half
conductance_is f s ps Row c = refl
conductance_is f s ps Column c = refl
conductance_is f s ps Vertical c = refl

area_is : (f : FlowModel) (s : List Dec) (ps : List Period) (c : ℕ) → area (framed f s ps) c ≡ area f c
unfolding area
area_is f s ps c = refl

storage_is : (f : FlowModel) (s t : List Dec) (ps qs : List Period) (p q : Period) (n c : ℕ) → period_frame q ≡ period_frame p → storage (framed f t qs) q n c ≡ storage (framed f s ps) p n c
unfolding storage
storage_is f s t ps qs p q n c e = ap (λ (x : Period). storage f x n c) e

passed_is : (p q : Period) (n : ℕ) → period_frame q ≡ period_frame p → part_passed q n ≡ part_passed p n
unfolding part_passed
passed_is p q n e = ap (λ (x : Period). part_passed x n) e

size_same : (f g h : Ratio) → g ≡ f → h ≡ f → IsRatioBetween f g h
size_same f g h e d = rw (e, d) (size_itself f)

module _ (f : FlowModel) (s₁ s₂ s₃ : List Dec) (ps qs rs : List Period) (starts : AllThree IsDecBetween s₁ s₂ s₃) (periods : AllThree IsPeriodBetween ps qs rs)
    (p n : ℕ) (few : n ≤ (period_at (framed f s₁ ps) p).nstp) (old : ℕ → Fraction) where
  abbrev A : FlowModel
  A = framed f s₁ ps

  abbrev M : FlowModel
  M = framed f s₂ qs

  abbrev B : FlowModel
  B = framed f s₃ rs

  here : IsPeriodBetween (period_at A p) (period_at M p) (period_at B p)
  here = at_period f s₁ s₂ s₃ ps qs rs periods p

  -- heads of constant cells

  pub started : (c : ℕ) → IsFractionBetween (start_head A c) (start_head M c) (start_head B c)
  started c = three_at IsDecBetween s₁ s₂ s₃ c no_number no_number no_number starts no_dec

  kept : (c : ℕ) (o q r : Option Given) → OptionThree IsGivenBetween o q r → IsFractionBetween (kept_head A o c) (kept_head M q c) (kept_head B r c)
  kept c o q r nothing = started c
  kept c o q r (something h) = h.end

  given_or_kept : (c : ℕ) (o q r : Option Given) → OptionThree IsGivenBetween o q r → IsFractionBetween (head_or_kept A p n o c) (head_or_kept M p n q c) (head_or_kept B p n r c)
  given_or_kept c o q r nothing = kept c _ _ _ (last_three c (p - 1) ps qs rs periods)
  given_or_kept c o q r (something {x = x} {y = y} {z = z} h) =
      subst (λ (F : Ratio). IsFractionBetween (between_heads x (part_passed (period_at A p) n)) (between_heads y F) (between_heads z (part_passed (period_at B p) n))) (sym (passed_is _ _ n here.same))
      (subst (λ (F : Ratio). IsFractionBetween (between_heads x (part_passed (period_at A p) n)) (between_heads y (part_passed (period_at A p) n))
      (between_heads z F)) (sym (passed_is _ _ n here.alike))
      (h.heads (part_passed (period_at A p) n) (part_of (period_at A p) n few)))

  pub constant_between : (c : ℕ) → IsFractionBetween (constant_head A p n c) (constant_head M p n c) (constant_head B p n c)
  unfolding constant_head
  constant_between c = given_or_kept c _ _ _ (given_three c _ _ _ here.given)

  -- entries

  flow : (c : ℕ) (x y z : FlowSource) → IsFlowSourceBetween x y z → IsFlowBetween (exact_flow A p n old c x) (exact_flow M p n old c y) (exact_flow B p n old c z)
  flow c x y z (pumped h) = record { kind = refl; flow = h }
  flow c x y z (received {q₁ = a} {q₂ = m} {q₃ = b} h) = record {
    kind = refl;
    flow = rw (area_is f s₁ ps c, area_is f s₂ qs c, area_is f s₃ rs c)
        (between_image AtMost AtMost (λ r. times r (as_fraction (area f c))) (times_keeps (area f c)) (number a) (number m) (number b) h);
  }

  through_face : (x : Face) → IsRatioBetween (conductance A x.axis x.first) (conductance M x.axis x.first) (conductance B x.axis x.first)
  through_face x = rw (conductance_is f s₁ ps x.axis x.first, conductance_is f s₂ qs x.axis x.first, conductance_is f s₃ rs x.axis x.first) (size_itself (conductance f x.axis x.first))

  fixed : (c : ℕ) (x y z : FixedSource) → IsFixedSourceBetween x y z → IsFixedBetween (exact_fixed A p n old c x) (exact_fixed M p n old c y) (exact_fixed B p n old c z)
  fixed c x y z (constant {x = face}) = record { kind = refl; source = refl; conductance = through_face face; head = constant_between face.end }
  fixed c x y z (general h k) = record { kind = refl; source = refl; conductance = k; head = h }
  fixed c x y z stored = record {
    kind = refl;
    source = refl;
    conductance = size_same _ _ _ (storage_is f s₁ s₂ ps qs (period_at A p) (period_at M p) n c here.same) (storage_is f s₁ s₃ ps rs (period_at A p) (period_at B p) n c here.alike);
    head = number_itself (old c);
  }

  evap : (c : ℕ) (x y z : EvapSource) → IsEvapSourceBetween x y z → 0 < (size x.depth).num → IsEvapBetween (exact_evap A p n old c x) (exact_evap M p n old c y) (exact_evap B p n old c z)
  evap c x y z h some = record {
    conductance = rw (area_is f s₁ ps c, area_is f s₂ qs c, area_is f s₃ rs c, h.depth, h.ends)
        (between_image IsRatioAtMost IsRatioAtMost (λ r. over (size_times r (area f c)) (size x.depth)) (rate_keeps (area f c) (size x.depth) some) (size x.rate) (size y.rate) (size z.rate) h.rate);
    surface = h.surface;
    extinction = rw (h.depth, h.ends) (between_image AtMost AtMost (λ r. plus r (opposite (number x.depth))) (plus_keeps (opposite (number x.depth)))
        (number x.surface) (number y.surface) (number z.surface) h.surface);
  }

  link : (x : Face) → exact_link M p n old x ≡ exact_link A p n old x
  link x = λ i. record { cell = length ((cells_are f s₁ s₂ s₃ ps qs rs periods p x.end).0 i); conductance = (conductance_is f s₂ qs x.axis x.first ∙ sym (conductance_is f s₁ ps x.axis x.first)) i }

  links : (c : ℕ) → map (exact_link M p n old) (variable_faces M p c) ≡ map (exact_link A p n old) (variable_faces A p c)
  links c = λ i. map (λ x. link x i) ((faces_are f s₁ s₂ s₃ ps qs rs periods p c).0 i)

  cell : (c : ℕ) → AllThree IsEvapBetween (map (exact_evap A p n old c) (evap_sources A p c)) (map (exact_evap M p n old c) (evap_sources M p c)) (map (exact_evap B p n old c) (evap_sources B p c)) →
      IsCellBetween (exact_cell A p n old c) (exact_cell M p n old c) (exact_cell B p n old c)
  cell c evaps = record {
    id = refl;
    flows = three_map IsFlowSourceBetween IsFlowBetween _ _ _ (flow c) _ _ _ (three_flows f s₁ s₂ s₃ ps qs rs periods p c);
    links = links c;
    fixed = three_map IsFixedSourceBetween IsFixedBetween _ _ _ (fixed c) _ _ _ (three_fixed f s₁ s₂ s₃ ps qs rs periods p c);
    rivers = three_map IsRiverSourceBetween IsRiverBetween exact_river exact_river exact_river (λ x y z h. h) _ _ _ (three_rivers f s₁ s₂ s₃ ps qs rs periods p c);
    drains = three_map IsDrainSourceBetween IsDrainBetween exact_drain exact_drain exact_drain (λ x y z h. h) _ _ _ (three_drains f s₁ s₂ s₃ ps qs rs periods p c);
    evaps = evaps;
  }

-- Evapotranspirations, whose depths are above 0 in a valid model.

sources_between : (R : EvapSource → EvapSource → EvapSource → Type 0) (S : ExactEvap → ExactEvap → ExactEvap → Type 0) (u v w : EvapSource → ExactEvap) →
    ((x y z : EvapSource) → R x y z → 0 < (size x.depth).num → S (u x) (v y) (w z)) →
    (xs ys zs : List EvapSource) → AllThree R xs ys zs → All IsEvapValid xs → AllThree S (map u xs) (map v ys) (map w zs)
sources_between R S u v w each xs ys zs none h = none
sources_between R S u v w each xs ys zs (next {x = x} {y = y} {z = z} {xs = us} r rs) h =
    next (each x y z r (size_positive x.depth (All-head IsEvapValid x us h).depth)) (sources_between R S u v w each _ _ _ rs (All-tail IsEvapValid x us h))

-- three images of one list, of whose elements a fact holds
images_of : {X U V W : Type 0} (P : X → Type 0) (S : U → V → W → Type 0) (f : X → U) (g : X → V) (h : X → W) → ((x : X) → P x → S (f x) (g x) (h x)) →
    (xs : List X) → All P xs → AllThree S (map f xs) (map g xs) (map h xs)
images_of P S f g h each [] k = none
images_of P S f g h each (x ∷ xs) k = next (each x (All-head P x xs k)) (images_of P S f g h each xs (All-tail P x xs k))

-- what holds of the variable cells
each_variable : (m : FlowModel) (p n : ℕ) → All (λ c. (c < n) × (is_variable m p c ≡ true)) (variable_below m p n)
unfolding variable_below
each_variable m p n k d lt =
    rw (get_or_default (passing (is_variable m p) n) k d 0 lt) (let h = is_at (is_variable m p) n k lt in (h.within, h.passes))

pub framed_steps : (f : FlowModel) (s₁ s₂ s₃ : List Dec) (ps qs rs : List Period) (p n : ℕ) (old : ℕ → Fraction) → AllThree IsDecBetween s₁ s₂ s₃ →
    AllThree IsPeriodBetween ps qs rs → n ≤ (period_at (framed f s₁ ps) p).nstp → IsModel (framed f s₁ ps) →
    IsStepBetween (exact_step (framed f s₁ ps) p n old) (exact_step (framed f s₂ qs) p n old) (exact_step (framed f s₃ rs) p n old)
framed_steps f s₁ s₂ s₃ ps qs rs p n old starts periods few valid =
    rw ((cells_are f s₁ s₂ s₃ ps qs rs periods p (cell_count f.grid)).0, (cells_are f s₁ s₂ s₃ ps qs rs periods p (cell_count f.grid)).1)
    (images_of (λ c. (c < cell_count f.grid) × (is_variable (framed f s₁ ps) p c ≡ true)) IsCellBetween _ _ _
    (λ c h. cell f s₁ s₂ s₃ ps qs rs starts periods p n few old c
    (sources_between IsEvapSourceBetween IsEvapBetween _ _ _ (evap f s₁ s₂ s₃ ps qs rs starts periods p n few old c) _ _ _ (three_evaps f s₁ s₂ s₃ ps qs rs periods p c)
    (valid.evaps p c h.0 (variable_active (framed f s₁ ps) p c h.1))))
    (variable_cells (framed f s₁ ps) p) (each_variable (framed f s₁ ps) p (cell_count f.grid)))

pub framed_is : (a m : FlowModel) → frame m ≡ frame a → framed a m.strt m.periods ≡ m
framed_is a m e = ap (λ (x : FlowModel). framed x m.strt m.periods) (sym e)

pub steps_between : (a m b : FlowModel) (p n : ℕ) (old : ℕ → Fraction) → IsModel a → n ≤ (period_at a p).nstp → IsBetween a m b →
    IsStepBetween (exact_step a p n old) (exact_step m p n old) (exact_step b p n old)
steps_between a m b p n old valid few h =
    subst (λ (x : FlowModel). IsStepBetween (exact_step a p n old) (exact_step m p n old) (exact_step x p n old)) (framed_is a b h.alike)
    (subst (λ (x : FlowModel). IsStepBetween (exact_step a p n old) (exact_step x p n old) (exact_step (framed a b.strt b.periods) p n old)) (framed_is a m h.same)
    (framed_steps a a.strt m.strt b.strt a.periods m.periods b.periods p n old h.strt h.periods few valid))
