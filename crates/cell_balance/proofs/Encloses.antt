-- The comparison: from fractions to whole numbers and back.
use Rattle.cell_balance.proofs.Common.{◌≡◌, ℕ, ◌-◌, ◌*◌, ◌^◌, ◌<◌, sym, ◌∙◌, subst, arith, ℤ, pos, ◌*ℤ◌, List, length, mul-pos, refl, AllZip, IsOver, Ratio, Fraction, cancel_right, mul_mono_right}
use Rattle.cell_balance.proofs.Common.{last_factors_swap, mul_assoc, ◌≤ℤ◌, ◌⊎◌, inl, inr, IsProblem, ExactCell, cell_at, no_cell, balance, share, SolvesStep, Compares, EnclosesStep, ExactFlow}
use Rattle.cell_balance.proofs.Common.{ExactLink, Entries, Side, Low, High, den, mul_comm, LiesBetween, IsHeldBelow, entries_at, lower_balance, upper_balance}
use Rattle.cell_balance.proofs.{Zips.AllZip-at, Zips.AllZip-length, Zips.CellWithin, Zips.WholeCell, Zips.whole_at, Zips.no_whole, Zips.whole_balance, Zips.WholeLink, Zips.WholeEntry}
use Rattle.cell_balance.proofs.{Scaling.zero_over, Over.CellOver, Over.balance_over, Over.FlowOver, Over.LinkOver, Over.EntryOver, Over.FixedOver, Over.RiverOver, Over.DrainOver, Over.EvapOver}
use Rattle.cell_balance.proofs.{Denominators.Goes, Denominators.share_over, Denominators.fraction_over, Denominators.left_goes, Denominators.right_goes, Denominators.flow_den, Denominators.link_den}
use Rattle.cell_balance.proofs.{Denominators.entry_den, Denominators.fixed_den, Denominators.river_den, Denominators.drain_den, Denominators.evap_den, Denominators.cell_den, Denominators.product}
use Rattle.cell_balance.proofs.{Denominators.all_over_product, Denominators.step_common, Enclosed.step_within, Enclosed.entries_are_linked, Enclosed.links_good, Mutual.mutual_whole, Compare.compare}
use Rattle.cell_balance.proofs.{Deep.Bounds, Deep.le_trans_z, Dry.IsMutual}
use Rattle.decimal_input.specs.Ratios.{den as ratio_den}

-- An exact step with a common denominator has whole numbers.
module _ (d a b : ℕ) where
  pub flow : (e : ExactFlow) → Goes (flow_den e) d → (q : ℤ) × FlowOver (d * a) (d * b) e q
  flow e g =
      let (q, over) = fraction_over d (a * (d * b)) e.flow g in
      (q, record { flow = subst (λ (z : ℕ). IsOver z e.flow q) same over })
    where
      same : d * (a * (d * b)) ≡ d * a * (d * b)
      same = omega arith

  pub link : (e : ExactLink) → Goes (link_den e) d → (w : WholeLink) × LinkOver (d * a) (d * b) e w
  link e g = let (c, share) = share_over d a e.conductance g in (record { cell = e.cell; c = c }, record { same = refl; c = share })

  pub entry_over_denominator : (r : Ratio) (top foot : Fraction) → Goes (entry_den r top foot) d → (w : WholeEntry) × EntryOver (d * a) (d * b) r top foot w
  entry_over_denominator r top foot g =
      let (c, share) = share_over d a r (left_goes (ratio_den r) (den top * den foot) d g) in
      let both = right_goes (ratio_den r) (den top * den foot) d g in
      let (z, high) = fraction_over d b top (left_goes (den top) (den foot) d both) in
      let (t, low) = fraction_over d b foot (right_goes (den top) (den foot) d both) in
      (record { c = c; top = z; foot = t }, record { c = share; top = high; foot = low })

  pub whole_cell : (e : ExactCell) → Goes (cell_den e) d → (w : WholeCell) × CellOver (d * a) (d * b) e w
  whole_cell e g =
      let to_links = right_goes _ _ d g in
      let to_fixed = right_goes _ _ d to_links in
      let to_rivers = right_goes _ _ d to_fixed in
      let to_drains = right_goes _ _ d to_rivers in
      let (flows, f) = all_over_product (FlowOver (d * a) (d * b)) flow_den d flow e.flows (left_goes _ _ d g) in
      let (links, l) = all_over_product (LinkOver (d * a) (d * b)) link_den d link e.links (left_goes _ _ d to_links) in
      let (fixeds, h) = all_over_product (FixedOver (d * a) (d * b)) fixed_den d (λ x. entry_over_denominator x.conductance x.head x.head) e.fixed (left_goes _ _ d to_fixed) in
      let (rivers, r) = all_over_product (RiverOver (d * a) (d * b)) river_den d (λ x. entry_over_denominator x.conductance x.stage x.bottom) e.rivers (left_goes _ _ d to_rivers) in
      let (drains, n) = all_over_product (DrainOver (d * a) (d * b)) drain_den d (λ x. entry_over_denominator x.conductance x.elevation x.elevation) e.drains (left_goes _ _ d to_drains) in
      let (evaps, v) = all_over_product (EvapOver (d * a) (d * b)) evap_den d (λ x. entry_over_denominator x.conductance x.surface x.extinction) e.evaps (right_goes _ _ d to_drains) in (
        record { flows = flows; links = links; fixed = fixeds; rivers = rivers; drains = drains; evaps = evaps },
        record { flows = f; links = l; fixed = h; rivers = r; drains = n; evaps = v },
      )

  pub whole_step : (e : List ExactCell) → Goes (product cell_den e) d → (w : List WholeCell) × AllZip (CellOver (d * a) (d * b)) e w
  whole_step e g = all_over_product (CellOver (d * a) (d * b)) cell_den d whole_cell e g

-- a numerator over d, over a multiple of d
pub share_is : (d j : ℕ) (z : ℤ) → 0 < d → IsOver (d * j) (share d z) (z *ℤ pos j)
share_is d j z some = grind (arith, mul_assoc, mul_comm)

-- a solution, in whole numbers
pub whole_solves : (k m : ℕ) (e : List ExactCell) (w : List WholeCell) (d : ℕ) (X Y : ℕ → ℤ) → AllZip (CellOver k m) e w → SolvesStep e d X →
    ((c : ℕ) → IsOver m (share d (X c)) (Y c)) → (c : ℕ) → c < length w → whole_balance (whole_at w c) (Y c) Y ≡ pos 0
whole_solves k m e w d X Y over solves heads c i =
    let here : c < length e = omega (arith, AllZip-length (CellOver k m) e w over, i) in
    zero_over (k * m) (balance (cell_at e c) (share d (X c)) (λ z. share d (X z))) _
    (balance_over k m (share d (X c)) (Y c) (heads c) (λ z. share d (X z)) Y heads (cell_at e c) (whole_at w c) (AllZip-at (CellOver k m) e w c no_cell no_whole over here))
    (solves c here)

-- the heads X, in units of 10^-9, over n times their denominator
abbrev pub whole_head : ℕ → (ℕ → ℤ) → ℕ → ℤ
whole_head n X c = (X c *ℤ pos (10 ^ 9)) *ℤ pos n

pub record IsWholeSolution (p : List Entries) (d : ℕ) (X : ℕ → ℤ) (n : ℕ) (w : List WholeCell) : Type 0 where
  pub some : 0 < n
  pub some_heads : 0 < n * d
  pub within : AllZip (CellWithin n (n * d) (length p)) p w
  pub both : IsMutual w
  pub solves : (c : ℕ) → c < length w → whole_balance (whole_at w c) (whole_head n X c) (whole_head n X) ≡ pos 0

-- a solution of an exact step that a problem encloses, in whole numbers
pub whole_solution : (p : List Entries) (s : ℕ) (e : List ExactCell) (d : ℕ) (X : ℕ → ℤ) → IsProblem p → EnclosesStep s p e → 0 < d → SolvesStep e d X →
    (n : ℕ) × (w : List WholeCell) × IsWholeSolution p d X n w
whole_solution p s e d X problem encloses some solves =
    let (n, some_n, common) = step_common e in
    let (w, over') = whole_step n (10 ^ s) (d * 10 ^ 9) e common in
    let over = subst (λ (z : ℕ). AllZip (CellOver (n * 10 ^ s) z) e w) (assoc n d (10 ^ 9)) over' in (
      n,
      w,
      record {
        some = some_n;
        some_heads = mul-pos some_n some;
        within = step_within s n (n * d) (length p) p e w encloses.cells over (links_good p problem);
        both = mutual_whole (n * 10 ^ s) (n * d * 10 ^ 9) e w (entries_are_linked s p e problem encloses) over;
        solves = whole_solves (n * 10 ^ s) (n * d * 10 ^ 9) e w d X (whole_head n X) over solves (λ c. heads_over n c);
      },
    )
  where
    assoc : (a b c : ℕ) → a * (b * c) ≡ a * b * c
    assoc a b c = omega arith

    heads_over : (n c : ℕ) → IsOver (n * d * 10 ^ 9) (share d (X c)) (whole_head n X c)
    heads_over n c = subst (λ (z : ℤ). IsOver (n * d * 10 ^ 9) (share d (X c)) z) (same (10 ^ 9))
        (subst (λ (z : ℕ). IsOver z (share d (X c)) (X c *ℤ pos (10 ^ 9 * n))) (ring n d (10 ^ 9)) (share_is d (10 ^ 9 * n) (X c) some))
      where
        ring : (n d t : ℕ) → d * (t * n) ≡ n * d * t
        ring n d t = omega arith

        same : (t : ℕ) → X c *ℤ pos (t * n) ≡ (X c *ℤ pos t) *ℤ pos n
        same t = sym (mul_assoc (X c) (pos t) (pos n))

-- a bound over d is one over n * d, and back
module _ (n d : ℕ) (a y : ℤ) where
  spread : a *ℤ pos (n * d) ≡ (a *ℤ pos d) *ℤ pos n
  spread = sym (last_factors_swap a (pos d) (pos n) ∙ mul_assoc a (pos n) (pos d))

  bound_over : (side : Side) → Bounds side (a *ℤ pos d) y → Bounds side (a *ℤ pos (n * d)) (y *ℤ pos n)
  bound_over Low h = rw spread (mul_mono_right n _ _ h)
  bound_over High h = rw spread (mul_mono_right n _ _ h)

  pub bound_back : (side : Side) → 0 < n → Bounds side (a *ℤ pos (n * d)) (y *ℤ pos n) → Bounds side (a *ℤ pos d) y
  bound_back Low some k = cancel_right n _ _ some (rw spread at k)
  bound_back High some k = cancel_right n _ _ some (rw spread at k)

-- Bounds of which each bounds the solution at its cell, or has a balance that lets it lie past the solution, enclose the solution.
module _ (p : List Entries) (l u : ℕ → ℤ) (s : ℕ) (e : List ExactCell) (d : ℕ) (X : ℕ → ℤ) where
  pub bounds_enclose : IsProblem p → IsHeldBelow p → EnclosesStep s p e → 0 < d → SolvesStep e d X →
      ((c : ℕ) → c < length p → ((l c *ℤ pos d) ≤ℤ (X c *ℤ pos (10 ^ 9))) ⊎ (pos 0 ≤ℤ lower_balance (entries_at p c) (l c) l)) →
      ((c : ℕ) → c < length p → ((X c *ℤ pos (10 ^ 9)) ≤ℤ (u c *ℤ pos d)) ⊎ (upper_balance (entries_at p c) (u c) u ≤ℤ pos 0)) → LiesBetween (length p) d X l u
  bounds_enclose problem held encloses some solves low high =
      let (n, w, whole) = whole_solution p s e d X problem encloses some solves in
      let on = compare n (n * d) whole.some whole.some_heads p w whole.within whole.both held (whole_head n X) whole.solves in
      record {
        low = λ c i. bound_back n d _ _ Low whole.some (on l Low (λ k j. elim (low k j) [ inl lies ↦ inl (bound_over n d _ _ Low lies) | inr can ↦ inr can ]) c i);
        high = λ c i. bound_back n d _ _ High whole.some (on u High (λ k j. elim (high k j) [ inl lies ↦ inl (bound_over n d _ _ High lies) | inr can ↦ inr can ]) c i);
      }

pub certified_bounds_enclose : Compares
certified_bounds_enclose p b l u s e d X given =
    bounds_enclose p l u s e d X given.problem given.held given.encloses given.some given.solves
    (λ c i. elim (given.certificate.low c i) [ inl under ↦ inl (le_trans_z _ _ _ (mul_mono_right d _ _ under) (given.barrier.low c i)) | inr can ↦ inr can ])
    (λ c i. elim (given.certificate.high c i) [ inl over ↦ inl (le_trans_z _ _ _ (given.barrier.high c i) (mul_mono_right d _ _ over)) | inr can ↦ inr can ])
