-- Entries by kind: a flow is the conductance times a gap between heads, which falls with the cell's head, and its bounds.
use Rattle.cell_balance.proofs.Common.{◌≡◌, ◌∙◌, ap, ℕ, ◌*◌, refl, sym, arith, ℤ, pos, neg_ℤ, ◌-ℤ◌, ◌*ℤ◌, int_max, int_min, ints, clamps, zero-*ℤ, mul_neg, IsBetweenWhole, Fixed, River, Drain, Evap}
use Rattle.cell_balance.proofs.Common.{Side, Low, High, bound_on, branch_flow}
use Rattle.step_problem.specs.{fixed_flow, river_flow, drain_flow, evap_flow}
use Rattle.cell_balance.proofs.{Deep.sub_mul, Deep.Bounds, Deep.bound_bounds, Deep.bounds_other, Deep.entry_bounds, Scaling.max_times, Scaling.min_times, Zips.WholeEntry, Zips.whole_fixed}
use Rattle.cell_balance.proofs.{Zips.whole_river, Zips.whole_drain, Zips.whole_evap, Zips.FixedWithin, Zips.RiverWithin, Zips.DrainWithin, Zips.EvapWithin}

pub data Kind : Type 0 where
  OfFixed : Kind
  OfRiver : Kind
  OfDrain : Kind
  OfEvap : Kind

abbrev pub gap : Kind → ℤ → ℤ → ℤ → ℤ
gap OfFixed top foot v = top -ℤ v
gap OfRiver top foot v = top -ℤ int_max v foot
gap OfDrain top foot v = int_min (foot -ℤ v) (pos 0)
gap OfEvap top foot v = int_min (foot -ℤ int_min v top) (pos 0)

abbrev pub whole_flow : Kind → ℤ → WholeEntry → ℤ
whole_flow OfFixed = whole_fixed
whole_flow OfRiver = whole_river
whole_flow OfDrain = whole_drain
whole_flow OfEvap = whole_evap

flow_is : (k : Kind) (v : ℤ) (x : WholeEntry) → whole_flow k v x ≡ pos x.c *ℤ gap k x.top x.foot v
flow_is OfFixed v x = refl
flow_is OfRiver v x = refl
flow_is OfDrain v x = sym (mul_neg (pos x.c) _) ∙ ap (λ (z : ℤ). pos x.c *ℤ z) (let e : neg_ℤ (int_max (v -ℤ x.foot) (pos 0)) ≡ gap OfDrain x.top x.foot v = omega (arith, ints, clamps) in e)
flow_is OfEvap v x = sym (mul_neg (pos x.c) _) ∙ ap (λ (z : ℤ). pos x.c *ℤ z)
    (let e : neg_ℤ (int_max (int_min v x.top -ℤ x.foot) (pos 0)) ≡ gap OfEvap x.top x.foot v = omega (arith, ints, clamps) in e)

gap_scales : (k : Kind) (t f v : ℤ) (n : ℕ) → gap k t f v *ℤ pos n ≡ gap k (t *ℤ pos n) (f *ℤ pos n) (v *ℤ pos n)
gap_scales OfFixed t f v n = sub_mul t v (pos n)
gap_scales OfRiver t f v n = rw (sub_mul, max_times) refl
gap_scales OfDrain t f v n = rw (min_times, sub_mul, zero-*ℤ) refl
gap_scales OfEvap t f v n = rw (min_times, sub_mul, min_times, zero-*ℤ) refl

-- on a side, an entry with the heads t and f gives a bound of what one with the heads a and b does
abbrev Gives : Side → Kind → ℤ → ℤ → ℤ → ℤ → Type 0
Gives side OfFixed t f a b = Bounds side t a
Gives side OfRiver t f a b = Bounds side t a × Bounds side b f
Gives side OfDrain t f a b = Bounds side f b
Gives side OfEvap t f a b = Bounds side a t × Bounds side f b

gap_bounds : (side : Side) (k : Kind) (t f a b v y : ℤ) → Gives side k t f a b → Bounds side y v → Bounds side (gap k t f v) (gap k a b y)
gap_bounds Low OfFixed t f a b v y g h = omega (arith, ints)
gap_bounds Low OfRiver t f a b v y g h = omega (arith, ints, clamps, g.0, g.1)
gap_bounds Low OfDrain t f a b v y g h = omega (arith, ints, clamps)
gap_bounds Low OfEvap t f a b v y g h = omega (arith, ints, clamps, g.0, g.1)
gap_bounds High OfFixed t f a b v y g h = omega (arith, ints)
gap_bounds High OfRiver t f a b v y g h = omega (arith, ints, clamps, g.0, g.1)
gap_bounds High OfDrain t f a b v y g h = omega (arith, ints, clamps)
gap_bounds High OfEvap t f a b v y g h = omega (arith, ints, clamps, g.0, g.1)

-- a flow by the cell's head that bounds, on the side, that of an entry in whole numbers: conductances over m, heads over n
pub record IsSeen (side : Side) (k : Kind) (m n : ℕ) (bound : ℤ → ℤ) (w : WholeEntry) : Type 0 where
  pub lo : ℕ
  pub hi : ℕ
  pub top : ℤ
  pub foot : ℤ
  pub is : (v : ℤ) → bound v ≡ branch_flow side lo hi (gap k top foot v)
  pub c : IsBetweenWhole lo hi m w.c
  pub heads : Gives side k (top *ℤ pos n) (foot *ℤ pos n) w.top w.foot

module _ (side : Side) (k : Kind) (m n : ℕ) (bound : ℤ → ℤ) (w : WholeEntry) (s : IsSeen side k m n bound w) (v y : ℤ) where
  pub seen_bounds : Bounds side y (v *ℤ pos n) → Bounds side (bound v *ℤ pos (m * n)) (whole_flow k y w)
  seen_bounds at =
      rw (s.is v, flow_is k y w) (entry_bounds side s.lo s.hi w.c m n _ _ s.c (rw (gap_scales k s.top s.foot v n) (gap_bounds side k _ _ _ _ _ _ s.heads at)))

module _ (m n : ℕ) where
  pub fixed_seen : (side : Side) (p : Fixed) (w : WholeEntry) → FixedWithin m n p w → IsSeen side OfFixed m n (λ v. fixed_flow side v p) w
  fixed_seen side p w e = let head = bound_on side p.head_lo p.head_hi in record { lo = p.lo; hi = p.hi; top = head; foot = head; is = λ v. refl; c = e.c; heads = bound_bounds side _ _ n w.top e.top }

  pub river_seen : (side : Side) (p : River) (w : WholeEntry) → RiverWithin m n p w → IsSeen side OfRiver m n (λ v. river_flow side v p) w
  river_seen side p w e = record {
    lo = p.lo;
    hi = p.hi;
    top = bound_on side p.stage_lo p.stage_hi;
    foot = bound_on side p.bottom_hi p.bottom_lo;
    is = λ v.
        refl;
    c = e.c;
    heads = (bound_bounds side _ _ n w.top e.top, bounds_other side _ _ n w.foot e.foot);
  }

  pub drain_seen : (side : Side) (p : Drain) (w : WholeEntry) → DrainWithin m n p w → IsSeen side OfDrain m n (λ v. drain_flow side v p) w
  drain_seen side p w e = let head = bound_on side p.elev_lo p.elev_hi in record {
    lo = p.lo;
    hi = p.hi;
    top = head;
    foot = head;
    is = λ v. refl;
    c = e.c;
    heads = bound_bounds side _ _ n w.foot e.foot;
  }

  pub evap_seen : (side : Side) (p : Evap) (w : WholeEntry) → EvapWithin m n p w → IsSeen side OfEvap m n (λ v. evap_flow side v p) w
  evap_seen side p w e = record {
    lo = p.lo;
    hi = p.hi;
    top = bound_on side p.surf_hi p.surf_lo;
    foot = bound_on side p.ext_lo p.ext_hi;
    is = λ v. refl;
    c =
        e.c;
    heads = (bounds_other side _ _ n w.top e.top, bound_bounds side _ _ n w.foot e.foot);
  }
