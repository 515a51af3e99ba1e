-- An exact step and its whole numbers: conductances over k, heads over m, flows over k * m.
use Rattle.cell_balance.proofs.Common.{◌≡◌, ℕ, ◌*◌, subst, arith, ℤ, pos, ◌+ℤ◌, ◌-ℤ◌, ◌*ℤ◌, AllZip, int_max, int_min, ints, Fraction, IsOver, whole, as_fraction, times, Ratio, IsShare, total}
use Rattle.cell_balance.proofs.Common.{ExactFlow, ExactLink, ExactFixed, ExactRiver, ExactDrain, ExactEvap, ExactCell, minus, greater, lesser, link_flow, fixed_flow, river_flow, drain_flow, evap_flow}
use Rattle.cell_balance.proofs.Common.{balance, deep_flow, full_rate}
use Rattle.cell_balance.specs.{deep_river}
use Rattle.cell_balance.proofs.Scaling.{IsOver-plus, IsOver-times, IsOver-negated, IsOver-minus, IsOver-none, IsOver-signed, IsOver-greater, IsOver-lesser, IsOver-total}
use Rattle.cell_balance.proofs.Zips.{WholeLink, WholeEntry, WholeCell, whole_link, whole_fixed, whole_river, whole_drain, whole_evap, whole_balance, whole_deep, whole_deep_river, whole_full}

module _ (k m : ℕ) where
  pub record FlowOver (e : ExactFlow) (q : ℤ) : Type 0 where
    pub flow : IsOver (k * m) e.flow q

  pub record LinkOver (e : ExactLink) (w : WholeLink) : Type 0 where
    pub same : e.cell ≡ w.cell
    pub c : IsShare k e.conductance w.c

  pub record EntryOver (r : Ratio) (f g : Fraction) (w : WholeEntry) : Type 0 where
    pub c : IsShare k r w.c
    pub top : IsOver m f w.top
    pub foot : IsOver m g w.foot

  abbrev pub FixedOver : ExactFixed → WholeEntry → Type 0
  FixedOver e = EntryOver e.conductance e.head e.head

  abbrev pub RiverOver : ExactRiver → WholeEntry → Type 0
  RiverOver e = EntryOver e.conductance e.stage e.bottom

  abbrev pub DrainOver : ExactDrain → WholeEntry → Type 0
  DrainOver e = EntryOver e.conductance e.elevation e.elevation

  abbrev pub EvapOver : ExactEvap → WholeEntry → Type 0
  EvapOver e = EntryOver e.conductance e.surface e.extinction

  pub record CellOver (e : ExactCell) (w : WholeCell) : Type 0 where
    pub flows : AllZip FlowOver e.flows w.flows
    pub links : AllZip LinkOver e.links w.links
    pub fixed : AllZip FixedOver e.fixed w.fixed
    pub rivers : AllZip RiverOver e.rivers w.rivers
    pub drains : AllZip DrainOver e.drains w.drains
    pub evaps : AllZip EvapOver e.evaps w.evaps

  pub deep_river_over : (e : ExactRiver) (w : WholeEntry) → RiverOver e w → IsOver (k * m) (deep_river e) (whole_deep_river w)
  deep_river_over e w r = IsOver-times k m (as_fraction e.conductance) (minus e.stage e.bottom) (pos w.c) _ (IsOver-signed k e.conductance w.c r.c)
      (IsOver-minus m e.stage e.bottom w.top w.foot r.top r.foot)

  pub full_over : (e : ExactEvap) (w : WholeEntry) → EvapOver e w → IsOver (k * m) (full_rate e) (whole_full w)
  full_over e w r =
      let depth = IsOver-greater m (minus e.surface e.extinction) (whole (pos 0)) (w.top -ℤ w.foot) (pos 0) (IsOver-minus m e.surface e.extinction w.top w.foot r.top r.foot) (IsOver-none m) in
      IsOver-times k m (as_fraction e.conductance) (greater (minus e.surface e.extinction) (whole (pos 0))) (pos w.c) _ (IsOver-signed k e.conductance w.c r.c) depth

  pub deep_over : (e : ExactCell) (w : WholeCell) → CellOver e w → IsOver (k * m) (deep_flow e) (whole_deep w)
  deep_over e w o =
      rw (regroup (total (λ q. q) w.flows) (total whole_deep_river w.rivers) (total whole_full w.evaps))
      (IsOver-plus (k * m) _ _ _ _ (IsOver-total FlowOver (k * m) (λ x. x.flow) (λ q. q) (λ x q s. s.flow) e.flows w.flows o.flows)
      (IsOver-minus (k * m) _ _ _ _ (IsOver-total RiverOver (k * m) deep_river whole_deep_river deep_river_over e.rivers w.rivers o.rivers)
      (IsOver-total EvapOver (k * m) full_rate whole_full full_over e.evaps w.evaps o.evaps)))
    where
      regroup : (a b c : ℤ) → a +ℤ b -ℤ c ≡ a +ℤ (b -ℤ c)
      regroup a b c = omega (arith, ints)

  module _ (v : Fraction) (y : ℤ) (own : IsOver m v y) where
    pub link_over : (h : ℕ → Fraction) (Y : ℕ → ℤ) → ((c : ℕ) → IsOver m (h c) (Y c)) → (e : ExactLink) (w : WholeLink) → LinkOver e w → IsOver (k * m) (link_flow h v e) (whole_link Y y w)
    link_over h Y heads e w r =
        IsOver-times k m (as_fraction e.conductance) (minus (h e.cell) v) (pos w.c) (Y w.cell -ℤ y) (IsOver-signed k e.conductance w.c r.c)
        (IsOver-minus m (h e.cell) v (Y w.cell) y (subst (λ (z : ℕ). IsOver m (h e.cell) (Y z)) r.same (heads e.cell)) own)

    pub fixed_over : (e : ExactFixed) (w : WholeEntry) → FixedOver e w → IsOver (k * m) (fixed_flow v e) (whole_fixed y w)
    fixed_over e w r = IsOver-times k m (as_fraction e.conductance) (minus e.head v) (pos w.c) (w.top -ℤ y) (IsOver-signed k e.conductance w.c r.c) (IsOver-minus m e.head v w.top y r.top own)

    pub river_over : (e : ExactRiver) (w : WholeEntry) → RiverOver e w → IsOver (k * m) (river_flow v e) (whole_river y w)
    river_over e w r =
        IsOver-times k m (as_fraction e.conductance) (minus e.stage (greater v e.bottom)) (pos w.c) (w.top -ℤ int_max y w.foot) (IsOver-signed k e.conductance w.c r.c)
        (IsOver-minus m e.stage (greater v e.bottom) w.top (int_max y w.foot) r.top (IsOver-greater m v e.bottom y w.foot own r.foot))

    pub drain_over : (e : ExactDrain) (w : WholeEntry) → DrainOver e w → IsOver (k * m) (drain_flow v e) (whole_drain y w)
    drain_over e w r =
        let depth = IsOver-greater m (minus v e.elevation) (whole (pos 0)) (y -ℤ w.foot) (pos 0) (IsOver-minus m v e.elevation y w.foot own r.foot) (IsOver-none m) in
        let out = IsOver-times k m (as_fraction e.conductance) (greater (minus v e.elevation) (whole (pos 0))) (pos w.c) (int_max (y -ℤ w.foot) (pos 0))
        (IsOver-signed k e.conductance w.c r.c) depth in
        IsOver-negated (k * m) (times (as_fraction e.conductance) (greater (minus v e.elevation) (whole (pos 0)))) (pos w.c *ℤ int_max (y -ℤ w.foot) (pos 0)) out

    pub evap_over : (e : ExactEvap) (w : WholeEntry) → EvapOver e w → IsOver (k * m) (evap_flow v e) (whole_evap y w)
    evap_over e w r =
        let top = IsOver-lesser m v e.surface y w.top own r.top in
        let depth = IsOver-greater m (minus (lesser v e.surface) e.extinction) (whole (pos 0)) (int_min y w.top -ℤ w.foot) (pos 0)
        (IsOver-minus m (lesser v e.surface) e.extinction (int_min y w.top) w.foot top r.foot) (IsOver-none m) in
        let out = IsOver-times k m (as_fraction e.conductance) (greater (minus (lesser v e.surface) e.extinction) (whole (pos 0))) (pos w.c)
        (int_max (int_min y w.top -ℤ w.foot) (pos 0)) (IsOver-signed k e.conductance w.c r.c) depth in
        IsOver-negated (k * m) (times (as_fraction e.conductance) (greater (minus (lesser v e.surface) e.extinction) (whole (pos 0)))) (pos w.c *ℤ int_max (int_min y w.top -ℤ w.foot) (pos 0)) out

    pub balance_over : (h : ℕ → Fraction) (Y : ℕ → ℤ) → ((c : ℕ) → IsOver m (h c) (Y c)) → (e : ExactCell) (w : WholeCell) → CellOver e w → IsOver (k * m) (balance e v h) (whole_balance w y Y)
    balance_over h Y heads e w r =
        let flows = IsOver-total FlowOver (k * m) (λ x. x.flow) (λ q. q) (λ x q s. s.flow) e.flows w.flows r.flows in
        let links = IsOver-total LinkOver (k * m) (link_flow h v) (whole_link Y y) (link_over h Y heads) e.links w.links r.links in
        let fixed = IsOver-total FixedOver (k * m) (fixed_flow v) (whole_fixed y) fixed_over e.fixed w.fixed r.fixed in
        let rivers = IsOver-total RiverOver (k * m) (river_flow v) (whole_river y) river_over e.rivers w.rivers r.rivers in
        let drains = IsOver-total DrainOver (k * m) (drain_flow v) (whole_drain y) drain_over e.drains w.drains r.drains in
        let evaps = IsOver-total EvapOver (k * m) (evap_flow v) (whole_evap y) evap_over e.evaps w.evaps r.evaps in
        rw (six (total (λ q. q) w.flows) (total (whole_link Y y) w.links) (total (whole_fixed y) w.fixed) (total (whole_river y) w.rivers)
        (total (whole_drain y) w.drains) (total (whole_evap y) w.evaps))
        (IsOver-plus (k * m) _ _ _ _ flows (IsOver-plus (k * m) _ _ _ _ links (IsOver-plus (k * m) _ _ _ _ fixed (IsOver-plus (k * m) _ _ _ _ rivers (IsOver-plus (k * m) _ _ _ _ drains evaps)))))
      where
        six : (a b c d e f : ℤ) → a +ℤ b +ℤ c +ℤ d +ℤ e +ℤ f ≡ a +ℤ (b +ℤ (c +ℤ (d +ℤ (e +ℤ f))))
        six a b c d e f = omega (arith, ints)
