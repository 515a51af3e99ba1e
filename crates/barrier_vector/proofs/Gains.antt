-- Beyond the base of a side a cell gets, besides its links, at least what its anchor gives less what it needs: each side with its heads and flows turned so that flows go in.
use Rattle.barrier_vector.proofs.Common.{◌≡◌, ℕ, zero, suc, ◌*◌, ◌<◌, ◌≤◌, ◌⊎◌, inl, inr, refl, ◌∙◌, ap, subst, arith, ℤ, pos, negsuc, neg_ℤ, ◌+ℤ◌, ◌-ℤ◌, ◌*ℤ◌, ◌≤ℤ◌, ◌<ℤ◌, List, [], ◌∷◌, get_or, All}
use Rattle.barrier_vector.proofs.Common.{max, int_max, int_min, AllZip, mul-le-mul_right, cases_lt, ints, clamps, All-head, All-tail, Contains-get_or, Side, Low, High, Entries, total, mul_mono}
use Rattle.barrier_vector.proofs.Common.{mul_nonneg, le_trans_z, total_neg, total_nonneg, mul_mono_right, WholeLink, WholeCell, WholeEntry, whole_balance, whole_deep, whole_link, whole_fixed}
use Rattle.barrier_vector.proofs.Common.{whole_river, whole_drain, whole_evap, CellWithin, FixedWithin, RiverWithin, DrainWithin, FlowWithin, Bounds, greatest, anchor_on, need_on, deep_low, high_flow}
use Rattle.barrier_vector.proofs.Common.{total-same, mul_neg, total_bounds, deep_less, dry_balance}
use Rattle.decimal_input.specs.{down, up}
use Rattle.std.proofs.Math.IntN.{zero-*ℤ}
use Rattle.barrier_vector.proofs.Marking.{IsCellMark, some_at, cell_dry}

-- a head or a flow, turned on the high side
abbrev pub inward : Side → ℤ → ℤ
inward Low v = v
inward High v = neg_ℤ v

-- what a cell of head v gets besides its links
abbrev pub rest_of : WholeCell → ℤ → ℤ
rest_of w v = total (λ q. q) w.flows +ℤ total (whole_fixed v) w.fixed +ℤ total (whole_river v) w.rivers +ℤ total (whole_drain v) w.drains +ℤ total (whole_evap v) w.evaps

pub inward_balance : (side : Side) (w : WholeCell) (v : ℤ) (Y : ℕ → ℤ) → whole_balance w v Y ≡ pos 0 →
    total (whole_link (λ k. inward side (Y k)) (inward side v)) w.links +ℤ inward side (rest_of w v) ≡ pos 0
inward_balance Low w v Y e = omega (arith, ints, e)
inward_balance High w v Y e = omega (arith, ints, total-same (λ x. Unit {0}) _ _ w.links (λ x u. turned x) (λ k d i. tt) ∙ total_neg (whole_link Y v) w.links)
  where
    turned : (x : WholeLink) → pos x.c *ℤ (neg_ℤ (Y x.cell) -ℤ neg_ℤ v) ≡ neg_ℤ (whole_link Y v x)
    turned x = ap (λ (z : ℤ). pos x.c *ℤ z) (omega (arith, ints)) ∙ mul_neg (pos x.c) (Y x.cell -ℤ v)

-- a conductance with its lower bound, over a distance and over a greater one
gain : (lo m c : ℕ) (d e : ℤ) → lo * m ≤ c → pos 0 ≤ℤ d → (c ≡ 0) ⊎ (d ≤ℤ e) → (pos (lo * m) *ℤ d) ≤ℤ (pos c *ℤ e)
gain lo m c d e h some (inl none) = let z : lo * m ≡ 0 = omega (arith, h, none) in rw (z, none, zero-*ℤ) (omega (arith, ints))
gain lo m c (negsuc d) e h some (inr far) = absurd (omega (arith, ints))
gain lo m c (pos d) e h some (inr far) = let a : lo * m * d ≤ c * d = mul-le-mul_right d h in let b = mul_mono c (pos d) e far in omega (arith, ints, a, b)

-- of two gains the greater is at most both
module _ (m : ℕ) (d : ℤ) (some : pos 0 ≤ℤ d) where
  both_gains : (a b : ℕ) (u v : ℤ) → (pos (a * m) *ℤ d) ≤ℤ u → (pos (b * m) *ℤ d) ≤ℤ v → (pos (max a b * m) *ℤ d) ≤ℤ (u +ℤ v)
  both_gains a b u v p q =
      elim (cases_lt a b) [
        | inl less ↦ let e : max a b ≡ b = omega (arith, less) in rw e (omega (arith, ints, nonneg a u p))
        | inr most ↦ let e : max a b ≡ a = omega (arith, most) in rw e (omega (arith, ints, nonneg b v q))
      ]
    where
      nonneg : (a : ℕ) (u : ℤ) → (pos (a * m) *ℤ d) ≤ℤ u → pos 0 ≤ℤ u
      nonneg a u h = le_trans_z _ _ _ (mul_nonneg (pos (a * m)) d (omega (arith, ints)) some) h

  -- entries that each gain give together what the greatest does
  all_gain : {X W : Type 0} (R : X → W → Type 0) (P : X → Type 0) (lo : X → ℕ) (g : W → ℤ) → ((x : X) (z : W) → R x z → P x → (pos (lo x * m) *ℤ d) ≤ℤ g z) →
      (xs : List X) (zs : List W) → AllZip R xs zs → All P xs → (pos (greatest lo xs * m) *ℤ d) ≤ℤ total g zs
  all_gain R P lo g each [] [] h a = nothing (0 * m) (omega arith)
    where
      nothing : (k : ℕ) → k ≡ 0 → (pos k *ℤ d) ≤ℤ pos 0
      nothing k e = rw (e, zero-*ℤ) (omega (arith, ints))
  all_gain R P lo g each (x ∷ xs) (z ∷ zs) h a = both_gains (lo x) (greatest lo xs) (g z) (total g zs) (each x z h.0 (All-head P x xs a)) (all_gain R P lo g each xs zs h.1 (All-tail P x xs a))
  all_gain R P lo g each xs zs h a = absurd h

module _ (m n cells : ℕ) (b : ℤ) (p : Entries) (w : WholeCell) (e : CellWithin m n cells p w) (y : ℤ) where
  lacking : (z f : ℤ) (k : ℕ) → (z *ℤ pos k) ≤ℤ f → pos 0 ≤ℤ (f +ℤ pos (down z) *ℤ pos k)
  lacking (pos a) f k h = omega (arith, ints)
  lacking (negsuc a) f k h = omega (arith, ints)

  exceeding : (z f : ℤ) (k : ℕ) → f ≤ℤ (z *ℤ pos k) → f ≤ℤ (pos (up z) *ℤ pos k)
  exceeding (pos a) f k h = h
  exceeding (negsuc a) f k h = omega (arith, ints)

  -- an entry that conducts has its head inside the base
  inside_base : (side : Side) (hi c : ℕ) (v z : ℤ) → (0 < hi → Bounds side b v) → c ≤ hi * m → Bounds side (v *ℤ pos n) z → (c ≡ 0) ⊎ Bounds side (b *ℤ pos n) z
  inside_base side zero c v z h k q = inl (omega arith)
  inside_base Low (suc hi) c v z h k q = inr (le_trans_z _ _ _ (mul_mono_right n b v (h (omega arith))) q)
  inside_base High (suc hi) c v z h k q = inr (le_trans_z _ _ _ q (mul_mono_right n v b (h (omega arith))))

  gives_low : ((v : ℤ) → IsCellMark Low p v → b ≤ℤ v) → y <ℤ (b *ℤ pos n) → (pos (anchor_on Low p * m) *ℤ (b *ℤ pos n -ℤ y)) ≤ℤ (rest_of w y +ℤ pos (need_on Low p) *ℤ pos (m * n))
  gives_low marks low =
      let far : pos 0 ≤ℤ (b *ℤ pos n -ℤ y) = omega (arith, ints, low) in
      let fixed = all_gain m (b *ℤ pos n -ℤ y) far (FixedWithin m n) (λ x. 0 < x.hi → b ≤ℤ x.head_lo) (λ x. x.lo) (whole_fixed y)
      (λ x z r h. gain x.lo m z.c _ _ r.c.lower far (near z.c z.top (inside_base Low x.hi z.c x.head_lo z.top h r.c.upper r.top.lower))) p.fixed w.fixed e.fixed
      (λ k d i some. marks _ (inl (get_or p.fixed k d, Contains-get_or p.fixed k d i, some_at _ _ some))) in
      let dry = dry_balance (λ k. pos 0) y (b *ℤ pos n) w (omega (arith, ints, low)) (cell_dry m n cells b p w e marks) in
      omega (arith, ints, lacking (deep_low p) (whole_deep w) (m * n) (deep_less m n cells p w e))
    where
      near : (c : ℕ) (h : ℤ) → (c ≡ 0) ⊎ ((b *ℤ pos n) ≤ℤ h) → (c ≡ 0) ⊎ ((b *ℤ pos n -ℤ y) ≤ℤ (h -ℤ y))
      near c h (inl z) = inl z
      near c h (inr k) = inr (omega (arith, ints, k))

  gives_high : ((v : ℤ) → IsCellMark High p v → v ≤ℤ b) → (b *ℤ pos n) <ℤ y → (pos (anchor_on High p * m) *ℤ (y -ℤ b *ℤ pos n)) ≤ℤ (neg_ℤ (rest_of w y) +ℤ pos (need_on High p) *ℤ pos (m * n))
  gives_high marks high =
      let d = y -ℤ b *ℤ pos n in
      let far : pos 0 ≤ℤ d = omega (arith, ints, high) in
      let fixed = all_gain m d far (FixedWithin m n) (λ x. 0 < x.hi → x.head_hi ≤ℤ b) (λ x. x.lo) (λ z. neg_ℤ (whole_fixed y z))
      (λ x z r h. out z.c _ (gain x.lo m z.c _ _ r.c.lower far
      (near z.c z.top (neg_ℤ (z.top -ℤ y)) (inside_base High x.hi z.c x.head_hi z.top h r.c.upper r.top.upper) (λ k. omega (arith, ints, k))))) p.fixed
      w.fixed e.fixed
      (λ k d i some. marks _ (inl (get_or p.fixed k d, Contains-get_or p.fixed k d i, some_at _ _ some))) in
      let rivers = all_gain m d far (RiverWithin m n) (λ x. 0 < x.hi → int_max x.stage_hi x.bottom_hi ≤ℤ b) (λ x. x.lo) (λ z. neg_ℤ (whole_river y z))
      (λ x z r h. out z.c _ (gain x.lo m z.c _ _ r.c.lower far
      (near z.c z.top (neg_ℤ (z.top -ℤ int_max y z.foot))
      (inside_base High x.hi z.c x.stage_hi z.top (λ some. (omega (arith, ints, clamps, h some))) r.c.upper r.top.upper) (λ k.
      omega (arith, ints, clamps, k))))) p.rivers w.rivers e.rivers
      (λ k d i some. marks _ (inr (inl (get_or p.rivers k d, Contains-get_or p.rivers k d i, some_at _ _ some)))) in
      let drains = all_gain m d far (DrainWithin m n) (λ x. 0 < x.hi → x.elev_hi ≤ℤ b) (λ x. x.lo) (λ z. neg_ℤ (whole_drain y z))
      (λ x z r h. twice (gain x.lo m z.c _ _ r.c.lower far
      (near z.c z.foot (int_max (y -ℤ z.foot) (pos 0)) (inside_base High x.hi z.c x.elev_hi z.foot h r.c.upper r.foot.upper) (λ k.
      omega (arith, ints, clamps, k))))) p.drains w.drains e.drains
      (λ k d i some. marks _ (inr (inr (get_or p.drains k d, Contains-get_or p.drains k d i, some_at _ _ some)))) in
      let evaps = total_nonneg (λ z. Unit {0}) (λ z. neg_ℤ (whole_evap y z)) w.evaps (λ z u. takes z) (λ k d i. tt) in
      let flows = exceeding (high_flow p) _ (m * n) (total_bounds High (FlowWithin m n) (λ x. x.hi) (pos (m * n)) (λ z. z) (λ x z r. r.flow.upper) p.flows w.flows e.flows) in
      let anchors = both_gains m d far _ _ _ _ fixed (both_gains m d far _ _ _ _ rivers drains) in
      omega (arith, ints, (rw (total_neg (whole_fixed y) w.fixed, total_neg (whole_river y) w.rivers, total_neg (whole_drain y) w.drains) at anchors), (rw (total_neg (whole_evap y) w.evaps) at evaps))
    where
      near : (c : ℕ) (h g : ℤ) → (c ≡ 0) ⊎ (h ≤ℤ (b *ℤ pos n)) → (h ≤ℤ (b *ℤ pos n) → (y -ℤ b *ℤ pos n) ≤ℤ g) → (c ≡ 0) ⊎ ((y -ℤ b *ℤ pos n) ≤ℤ g)
      near c h g (inl z) then = inl z
      near c h g (inr k) then = inr (then k)

      out : {k : ℤ} (c : ℕ) (a : ℤ) → k ≤ℤ (pos c *ℤ neg_ℤ a) → k ≤ℤ neg_ℤ (pos c *ℤ a)
      out c a h = rw (mul_neg (pos c) a) at h

      twice : {k a : ℤ} → k ≤ℤ a → k ≤ℤ neg_ℤ (neg_ℤ a)
      twice {k} {a} h = omega (arith, ints)

      takes : (x : WholeEntry) → pos 0 ≤ℤ neg_ℤ (whole_evap y x)
      takes x = twice (mul_nonneg (pos x.c) (int_max (int_min y x.top -ℤ x.foot) (pos 0)) (omega (arith, ints)) (omega (arith, ints, clamps)))

  pub gives : (side : Side) → ((v : ℤ) → IsCellMark side p v → Bounds side b v) → inward side y <ℤ inward side (b *ℤ pos n) →
      (pos (anchor_on side p * m) *ℤ (inward side (b *ℤ pos n) -ℤ inward side y)) ≤ℤ (inward side (rest_of w y) +ℤ pos (need_on side p) *ℤ pos (m * n))
  gives Low marks low = gives_low marks low
  gives High marks high = subst (λ (z : ℤ). (pos (anchor_on High p * m) *ℤ z) ≤ℤ (neg_ℤ (rest_of w y) +ℤ pos (need_on High p) *ℤ pos (m * n)))
      (omega (arith, ints)) (gives_high marks (omega (arith, ints, high)))
