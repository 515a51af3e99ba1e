-- What flows more between zones in the other plan's step is what flows in the step of the differences, where each head rises by its difference turned round.
use Rattle.plan_enclosed.proofs.Common.{All, AllZip, AreInOneWeather, Bool, ExactCell, ExactFixed, ExactFlow, FixedKind, Fraction, IsDifferenceStep, IsOver, List, Same, [], ap, arith, cell_at, false}
use Rattle.plan_enclosed.proofs.Common.{known_differences, length, minus, refl, share, suc, true, ℕ, ℤ, ◌*ℤ◌, ◌++◌, ◌-ℤ◌, ◌<◌, ◌∙◌, ◌∷◌, ◌≡◌, pos, All-head, All-tail, flat_map, ◌&&◌, ◌==◌}
use Rattle.plan_enclosed.proofs.Common.{slice_index, AreLinked, ExactLink, Ratio, as_fraction, times, branch_difference, difference_of_sums, AreOneNetwork, IsSameBranch}
use Rattle.std.proofs.{lemmas.List.append-nil, lemmas.Grind.flat_map-append}
use Rattle.std.specs.Prelude.{cond}
use Rattle.zone_flows.specs.{ExactFace, exact_by_kind, exact_fixed, exact_flow, exact_link, is_exact_between, is_lower_zone, exact_cell, exact_faces, exact_from}
use Rattle.step_problem.specs.declared.entry.FixedKind.TheVariants as kinds

-- a face of the base plan's step, of the other plan's and of the differences'
record OneFace (p q r : ExactFace) : Type 0 where
  first_from : q.from ≡ p.from
  second_from : r.from ≡ p.from
  first_to : q.to ≡ p.to
  second_to : r.to ≡ p.to
  flow : Same (minus q.flow p.flow) r.flow

abbrev AreFaces : List ExactFace → List ExactFace → List ExactFace → Type 0
AreFaces [] [] [] = Unit {0}
AreFaces (p ∷ ps) (q ∷ qs) (r ∷ rs) = OneFace p q r × AreFaces ps qs rs
AreFaces ps qs rs = ⊥

faces-append : (ps qs rs xs ys zs : List ExactFace) → AreFaces ps qs rs → AreFaces xs ys zs → AreFaces (ps ++ xs) (qs ++ ys) (rs ++ zs)
faces-append [] [] [] xs ys zs h k = k
faces-append (p ∷ ps) (q ∷ qs) (r ∷ rs) xs ys zs h k = (h.0, faces-append ps qs rs xs ys zs h.1 k)
faces-append _ _ _ xs ys zs h k = absurd h

module _ (a b : ℕ) where
  abbrev Differ : List ExactFace → List ExactFace → List ExactFace → Type 0
  Differ ps qs rs = Same (minus (exact_flow a b qs) (exact_flow a b ps)) (exact_flow a b rs)

  same_test : (p q : ExactFace) → q.from ≡ p.from → q.to ≡ p.to → is_exact_between a b q ≡ is_exact_between a b p
  same_test p q e f = ap (λ (n : ℕ). (n == a) && (q.to == b)) e ∙ ap (λ (n : ℕ). (p.from == a) && (n == b)) f

  one_differs : (p q r : ExactFace) (ps qs rs : List ExactFace) → OneFace p q r → Differ ps qs rs → (t : Bool) → is_exact_between a b p ≡ t → is_exact_between a b q ≡ t →
      is_exact_between a b r ≡ t → Differ (p ∷ ps) (q ∷ qs) (r ∷ rs)
  one_differs p q r ps qs rs one rest true e f g = rw (e, f, g) (difference_of_sums _ _ _ _ _ _ one.flow rest)
  one_differs p q r ps qs rs one rest false e f g = rw (e, f, g) rest

  flows_differ : (ps qs rs : List ExactFace) → AreFaces ps qs rs → Differ ps qs rs
  flows_differ [] [] [] h = record { same = refl }
  flows_differ (p ∷ ps) (q ∷ qs) (r ∷ rs) h =
      one_differs p q r ps qs rs h.0 (flows_differ ps qs rs h.1) (is_exact_between a b p) refl (same_test p q h.0.first_from h.0.first_to)
      (same_test p r h.0.second_from h.0.second_to)
  flows_differ _ _ _ h = absurd h

-- over three lists of cells
steps_faces : (F G H : ExactCell → List ExactFace) (e f g : List ExactCell) → length f ≡ length e → length g ≡ length e →
    ((c : ℕ) → c < length e → AreFaces (F (cell_at e c)) (G (cell_at f c)) (H (cell_at g c))) → AreFaces (flat_map F e) (flat_map G f) (flat_map H g)
steps_faces F G H [] [] [] m n each = tt
steps_faces F G H (x ∷ e) (y ∷ f) (z ∷ g) m n each =
    faces-append (F x) (G y) (H z) (flat_map F e) (flat_map G f) (flat_map H g) (each 0 (omega arith))
    (steps_faces F G H e f g (omega (arith, m)) (omega (arith, n)) (λ c lt. each (suc c) (omega (arith, lt))))
steps_faces F G H [] (y ∷ f) g m n each = absurd (omega (arith, m))
steps_faces F G H [] [] (z ∷ g) m n each = absurd (omega (arith, n))
steps_faces F G H (x ∷ e) [] g m n each = absurd (omega (arith, m))
steps_faces F G H (x ∷ e) (y ∷ f) [] m n each = absurd (omega (arith, n))

module _ (zones : List ℕ) (d : ℕ) (some : 0 < d) (X Y : ℕ → ℤ) where
  abbrev base_heads : ℕ → Fraction
  base_heads c = share d (X c)

  abbrev planned_heads : ℕ → Fraction
  planned_heads c = share d (Y c)

  abbrev pub rises : ℕ → Fraction
  rises c = share d (Y c -ℤ X c)

  own : (k : ℤ) → IsOver d (share d k) k
  own k = record { is = ap (λ (n : ℕ). k *ℤ pos n) (omega arith) }

  -- the face from cell x to cell y
  abbrev across : (ℕ → Fraction) → ℕ → ℕ → Ratio → ExactFace
  across h x y c = record { from = slice_index zones x; to = slice_index zones y; flow = times (as_fraction c) (minus (h x) (h y)) }

  one_face : (x y : ℕ) (c : Ratio) → OneFace (across base_heads x y c) (across planned_heads x y c) (across rises x y c)
  one_face x y c = record {
    first_from = refl;
    second_from = refl;
    first_to = refl;
    second_to = refl;
    flow =
        branch_difference c d some (planned_heads x) (planned_heads y) (base_heads x) (base_heads y) (rises x) (rises y) (Y x) (Y y) (X x) (X y) (own (Y x)) (own (Y y))
        (own (X x)) (own (X y)) (own (Y x -ℤ X x)) (own (Y y -ℤ X y));
  }

  by_order : (x y : ℕ) (c : Ratio) (t : Bool) →
      AreFaces (cond t (across base_heads x y c ∷ []) []) (cond t (across planned_heads x y c ∷ []) []) (cond t (across rises x y c ∷ []) [])
  by_order x y c true = (one_face x y c, tt)
  by_order x y c false = tt

  from_faces : (x y : ℕ) (c : Ratio) → AreFaces (exact_from zones base_heads x y c) (exact_from zones planned_heads x y c) (exact_from zones rises x y c)
  unfolding exact_from
  from_faces x y c = by_order x y c (is_lower_zone (slice_index zones x) (slice_index zones y))

  by_kind : (k : FixedKind) (x y : ℕ) (c : Ratio) → AreFaces (exact_by_kind zones base_heads k x y c) (exact_by_kind zones planned_heads k x y c) (exact_by_kind zones rises k x y c)
  by_kind kinds.Storage x y c = tt
  by_kind kinds.Constant x y c = faces-append _ _ _ _ _ _ (from_faces x y c) (from_faces y x c)
  by_kind kinds.General x y c = tt

  module _ (e f g : List ExactCell) (one : AreOneNetwork e f) (qs : ℕ → List ExactFlow) (X' Y' : ℕ → ℤ) (step : IsDifferenceStep d X' Y' qs e f g) (linked : AreLinked e)
      (weather : (c : ℕ) → c < length e → AreInOneWeather (cell_at e c) (cell_at f c))
    where
      ids : (c : ℕ) → c < length e → ((cell_at f c).id ≡ (cell_at e c).id) × ((cell_at g c).id ≡ (cell_at e c).id)
      ids c lt = (one.ids c lt, (step.cells c lt).id)

      links_faces : (k : ℕ) → k < length e → (ls : List ExactLink) → All (λ x. x.cell < length e) ls →
          AreFaces (flat_map (exact_link zones base_heads e (cell_at e k)) ls) (flat_map (exact_link zones planned_heads f (cell_at f k)) ls)
          (flat_map (exact_link zones rises g (cell_at g k)) ls)
      links_faces k lt [] all = tt
      links_faces k lt (x ∷ ls) all =
          let here = ids k lt in
          let there = ids x.cell (All-head (λ (x : ExactLink). x.cell < length e) x ls all) in
          faces-append _ _ _ _ _ _ (rw (here.0, here.1, there.0, there.1) (from_faces (cell_at e k).id (cell_at e x.cell).id x.conductance))
          (links_faces k lt ls (All-tail (λ (x : ExactLink). x.cell < length e) x ls all))

      known_faces : (k : ℕ) → k < length e → (ps rs : List ExactFixed) → AllZip IsSameBranch ps rs → AllZip (λ p q. q.conductance ≡ p.conductance) ps rs →
          AreFaces (flat_map (exact_fixed zones base_heads (cell_at e k)) ps) (flat_map (exact_fixed zones planned_heads (cell_at f k)) rs)
          (flat_map (exact_fixed zones rises (cell_at g k)) (known_differences ps rs))
      known_faces k lt [] [] h c = tt
      known_faces k lt [] (r ∷ rs) h c = absurd h
      known_faces k lt (p ∷ ps) [] h c = absurd h
      known_faces k lt (p ∷ ps) (r ∷ rs) h c =
          let here = ids k lt in
          faces-append _ _ _ _ _ _ (rw (here.0, here.1, h.0.kind, h.0.source, c.0) (by_kind p.kind (cell_at e k).id p.source p.conductance)) (known_faces k lt ps rs h.1 c.1)

      none : (c : ExactCell) (b : ExactFixed) → b.kind ≡ kinds.General → exact_fixed zones rises c b ≡ []
      none c b same = ap (λ (k : FixedKind). exact_by_kind zones rises k c.id b.source b.conductance) same

      no_faces : {R : Type 0} (S : R → ExactFixed → Type 0) (c : ExactCell) → ((r : R) (b : ExactFixed) → S r b → b.kind ≡ kinds.General) → (rs : List R) (bs : List ExactFixed) →
          AllZip S rs bs → flat_map (exact_fixed zones rises c) bs ≡ []
      no_faces S c general [] [] h = refl
      no_faces S c general [] (b ∷ bs) h = absurd h
      no_faces S c general (r ∷ rs) [] h = absurd h
      no_faces S c general (r ∷ rs) (b ∷ bs) h = rw (none c b (general r b h.0), no_faces S c general rs bs h.1) refl

      no_ramps : (k : ℕ) (lt : k < length e) → flat_map (exact_fixed zones rises (cell_at g k)) (cell_at g k).fixed ≡
          flat_map (exact_fixed zones rises (cell_at g k)) (known_differences (cell_at e k).fixed (cell_at f k).fixed)
      no_ramps k lt =
          let i = step.cells k lt in
          let c = cell_at g k in
          let known = known_differences (cell_at e k).fixed (cell_at f k).fixed in
          ap (flat_map (exact_fixed zones rises c)) i.fixed ∙ flat_map-append (exact_fixed zones rises c) known (i.of_rivers ++ (i.of_drains ++ i.of_evaps))
          ∙ rw (
            flat_map-append (exact_fixed zones rises c) i.of_rivers (i.of_drains ++ i.of_evaps),
            flat_map-append (exact_fixed zones rises c) i.of_drains i.of_evaps,
            no_faces _ c (λ r b h. h.kind) (cell_at e k).rivers i.of_rivers i.rivers,
            no_faces _ c (λ r b h. h.kind) (cell_at e k).drains i.of_drains i.drains,
            no_faces _ c (λ r b h. h.kind) (cell_at e k).evaps i.of_evaps i.evaps,
          ) (append-nil (flat_map (exact_fixed zones rises c) known))

      cell_faces : (k : ℕ) → k < length e → AreFaces (exact_cell zones base_heads e (cell_at e k)) (exact_cell zones planned_heads f (cell_at f k)) (exact_cell zones rises g (cell_at g k))
      unfolding exact_cell
      cell_faces k lt =
          rw ((weather k lt).links, (step.cells k lt).links, no_ramps k lt)
          (faces-append _ _ _ _ _ _ (links_faces k lt (cell_at e k).links (linked.range k lt))
          (known_faces k lt (cell_at e k).fixed (cell_at f k).fixed (one.branches k lt) (weather k lt).known))

      pub faces_differ : (many : length f ≡ length e) (a b : ℕ) →
          Same (minus (exact_flow a b (exact_faces zones planned_heads f)) (exact_flow a b (exact_faces zones base_heads e))) (exact_flow a b (exact_faces zones rises g))
      unfolding exact_faces
      faces_differ many a b =
          flows_differ a b _ _ _ (steps_faces (exact_cell zones base_heads e) (exact_cell zones planned_heads f) (exact_cell zones rises g) e f g many step.as_many cell_faces)
