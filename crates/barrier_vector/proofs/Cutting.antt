-- What a cut barrier gives to its caller, and that a problem has one cut barrier or one refusal of it.
use Rattle.barrier_vector.proofs.Common.{◌≡◌, ℕ, ◌<◌, ◌≤ℤ◌, inl, inr, sym, ◌∙◌, ap, subst, arith, List, length, ℤ, pos, neg_ℤ, ints, clamps, Side, Low, High, NoBound, Entries, Edges, head_at}
use Rattle.barrier_vector.proofs.Common.{IsProblem, IsHead, head_limit, number_of, IsHeldBelow, IsSolution, IsCellFloor, IsCellCeiling, HasNoBound, no_barrier_on, cut_on, AreCutBounds, IsCutBarrierOf}
use Rattle.barrier_vector.proofs.Common.{IsCutFaultOn, Refuses, EnclosesUncut, IsCutFault, BoundFault, Memory, CutBarrierIsOne, BarrierIsCut, CutBarrierExcludesRefusal, CutRefusalIsOne, BarrierIsOne}
use Rattle.step_problem.specs.{declared.refusal.StepRefusal.StepRefusal, declared.refusal.BoundFault.TheVariants.NoBound as AFault}
use Rattle.barrier_vector.proofs.{Uniques.bound_one, Floors.floors_enclose, Floors.ceilings_enclose, Floors.held_cell, OneAnswer.same_heads, OneAnswer.same_least, Sides.cut_nowhere_without}

-- a floor that isn't below all heads is no cut one, and a ceiling that isn't above all of them
low_uncut : (v f : ℤ) → v ≡ cut_on Low f → neg_ℤ (pos head_limit) ≤ℤ v → f ≡ v
low_uncut v f cut h = omega (arith, ints, clamps, cut, h)

high_uncut : (v f : ℤ) → v ≡ cut_on High f → v ≤ℤ pos head_limit → f ≡ v
high_uncut v f cut h = omega (arith, ints, clamps, cut, h)

head_is_cut : (side : Side) (v : ℤ) → IsHead v → v ≡ cut_on side v
head_is_cut Low v h = omega (arith, ints, clamps, h.above)
head_is_cut High v h = omega (arith, ints, clamps, h.below)

pub cut_encloses : (p : List Entries) (b : Edges) → IsProblem p → IsCutBarrierOf p b → EnclosesUncut p b
cut_encloses p b ok is s e d X encloses some solves =
    let given : IsSolution p s e d X = record { problem = ok; encloses = encloses; some = some; solves = solves } in
    record {
      low = λ c i uncut.
          let (f, floor, cut) = is.floors.each c i in
          floors_enclose p s e d X given c (head_at b.floor c) i (subst (IsCellFloor p c) (low_uncut (head_at b.floor c) f cut uncut) floor);
      high = λ c i uncut.
          let (f, ceiling, cut) = is.ceilings.each c i in
          ceilings_enclose p s e d X given c (head_at b.ceiling c) i (subst (IsCellCeiling p c) (high_uncut (head_at b.ceiling c) f cut uncut) ceiling);
    }

pub cut_holds : (p : List Entries) (vs : List ℤ) → AreCutBounds Low p vs → IsHeldBelow p
cut_holds p vs is c i = let (f, floor, cut) = is.each c i in held_cell p c f floor

-- a side has one list of cut bounds
one_cut_side : (side : Side) (p : List Entries) (xs ys : List ℤ) → IsProblem p → AreCutBounds side p xs → AreCutBounds side p ys → xs ≡ ys
one_cut_side side p xs ys ok x y = same_heads xs ys (x.whole ∙ sym y.whole) same
  where
    same : (c : ℕ) → c < length xs → head_at xs c ≡ head_at ys c
    same c within =
        let i : c < length p = subst (λ (n : ℕ). c < n) x.whole within in
        let (f, f_is, f_cut) = x.each c i in
        let (g, g_is, g_cut) = y.each c i in
        f_cut ∙ ap (cut_on side) (bound_one side p ok c f g f_is g_is) ∙ sym g_cut

pub cut_barrier_is_one : CutBarrierIsOne
cut_barrier_is_one p b c ok x y =
    let by_floor : List ℤ → Edges = λ f. record { floor = f; ceiling = b.ceiling } in
    let by_ceiling : List ℤ → Edges = λ f. record { floor = c.floor; ceiling = f } in
    ap by_floor (one_cut_side Low p b.floor c.floor ok x.floors y.floors) ∙ ap by_ceiling (one_cut_side High p b.ceiling c.ceiling ok x.ceilings y.ceilings)

pub barrier_is_cut : BarrierIsCut
barrier_is_cut p b is = record {
  floors = record { whole = is.fits.floors; each = λ c i. (head_at b.floor c, is.floors c i, head_is_cut Low (head_at b.floor c) (is.fits.floor c i)) };
  ceilings = record { whole = is.fits.ceilings; each = λ c i. (head_at b.ceiling c, is.ceilings c i, head_is_cut High (head_at b.ceiling c) (is.fits.ceiling c i)) };
}

pub barrier_is_one : BarrierIsOne
barrier_is_one p b c ok x y = cut_barrier_is_one p b c ok (barrier_is_cut p b x) (barrier_is_cut p c y)

-- a fault of the high side after the low side's cut bounds were found
pub high_cut_fault : (p : List Entries) → IsProblem p → (vs : List ℤ) → AreCutBounds Low p vs → (e : BoundFault) → IsCutFaultOn High p e → IsCutFault p e
high_cut_fault p ok vs low (AFault n) refused = inr (cut_nowhere_without Low p ok vs low, refused)
high_cut_fault p ok vs low Memory refused = tt

-- a side with cut bounds isn't refused
pub cut_barrier_excludes_refusal : CutBarrierExcludesRefusal
cut_barrier_excludes_refusal p b n ok is (inl (c, named, least)) = cut_nowhere_without Low p ok b.floor is.floors c least.within least.has
cut_barrier_excludes_refusal p b n ok is (inr (none, (c, named, least))) = cut_nowhere_without High p ok b.ceiling is.ceilings c least.within least.has

-- a cause has at most one refusal, at the least cell with its property
pub refusal_is_one : (cause : Side → StepRefusal) (P : Side → ℕ → Type 0) (p : List Entries) (n m : NoBound) → Refuses cause P p n → Refuses cause P p m → n ≡ m
refusal_is_one cause P p n m (inl (c, named, least)) (inl (d, named', least')) = same_least p (P Low) n m (number_of (cause Low)) c d Low named named' least least'
refusal_is_one cause P p n m (inl (c, named, least)) (inr (none, y)) = absurd (none c least.within least.has)
refusal_is_one cause P p n m (inr (none, x)) (inl (c, named, least)) = absurd (none c least.within least.has)
refusal_is_one cause P p n m (inr (_, (c, named, least))) (inr (_, (d, named', least'))) = same_least p (P High) n m (number_of (cause High)) c d High named named' least least'

pub cut_refusal_is_one : CutRefusalIsOne
cut_refusal_is_one p = refusal_is_one no_barrier_on (λ side. HasNoBound side p) p
