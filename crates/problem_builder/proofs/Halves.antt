-- The halves of branches, and the bed between two layers.
use Rattle.problem_builder.proofs.Common.{arith, eq-eqb, ne_eqb, Bool, cond, Some, None, ◌≡◌, ℕ, ◌+◌, ◌<◌, ◌⊎◌, inl, inr, true, false, refl, sym, ap, ◌∙◌, ◌==◌, none-some, Axis, Vertical, Face, Grid}
use Rattle.problem_builder.proofs.Common.{stride, has_after, face_after, FlowModel, layer_size, delr_at, delc_at, thickness, bed_thickness, vkcb_at, bottom_at, lowest, thick_positive, IsBedValid}
use Rattle.problem_builder.proofs.Common.{Span, IsBed, vertical_of, face_term, IsBedOf, IsNoBed, layer_half}
use Rattle.problem_builder.proofs.Members.{some_same}

tests : (m : FlowModel) (a : ℕ) (t : Span) → IsBedOf m a t ⊎ IsNoBed m a t → (t.lo.m == 0) ≡ ((bed_thickness m a).num == 0)
tests m a t (inl k) = ne_eqb t.lo.m 0 (λ q. omega (arith, q, k.thick.low_size.positive)) ∙ sym (ne_eqb (bed_thickness m a).num 0 (λ q. omega (arith, q, k.some)))
tests m a t (inr k) = eq-eqb t.lo.m 0 k.low.0 ∙ sym (eq-eqb (bed_thickness m a).num 0 k.none)

-- a bed's decimals are zeros exactly where it has no thickness
pub bed_tests : (m : FlowModel) (a : ℕ) (t : Span) → IsBedOf m a t ⊎ IsNoBed m a t →
    vertical_of (layer_half m a) (layer_half m (a + layer_size m.grid)) (record { thick_lo = t.lo; thick_hi = t.hi; vkcb = vkcb_at m a }) (delr_at m a)
    (delc_at m a) (thickness m a) (thickness m (a + layer_size m.grid)) (bed_thickness m a) ≡ face_term m Vertical a
bed_tests m a t (inl k) = grind (arith, tests)
bed_tests m a t (inr k) = grind (arith, eq-eqb)

pub bed_fits : (m : FlowModel) (a : ℕ) (t : Span) → IsBedOf m a t ⊎ IsNoBed m a t → IsBed (record { thick_lo = t.lo; thick_hi = t.hi; vkcb = vkcb_at m a })
bed_fits m a t (inl k) = inr (record { vkcb = k.vkcb; thick = k.thick })
bed_fits m a t (inr k) = inl (k.low, k.high)

some_cond : (b : Bool) (x f : Face) → Some f ≡ cond b (Some x) None → (b ≡ true) × (f ≡ x)
some_cond true x f e = (refl, some_same e)
some_cond false x f e = absurd (none-some f (sym e))

-- the face to the next cell
pub next_face : (g : Grid) (axis : Axis) (c : ℕ) (f : Face) → Some f ≡ face_after g axis c → (has_after g axis c ≡ true) × (f.end ≡ c + stride g axis)
next_face g axis c f e = let (h, k) = some_cond (has_after g axis c) (record { axis = axis; first = c; end = c + stride g axis }) f e in (h, ap (λ (z : Face). z.end) k)

-- a bed that is one has a thickness
pub bed_some : (m : FlowModel) (c : ℕ) → IsBedValid m c → 0 < (bed_thickness m c).num
bed_some m c k = thick_positive (bottom_at m c) (lowest m c) k.thick
