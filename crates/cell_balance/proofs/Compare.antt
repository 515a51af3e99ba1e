-- The comparison in whole numbers: a certificate over a barrier encloses every solution that the barrier does.
use Rattle.cell_balance.proofs.Common.{◌≡◌, ℕ, ◌*◌, ◌<◌, ◌⊎◌, inl, inr, arith, ℤ, pos, ◌*ℤ◌, ◌≤ℤ◌, ◌<ℤ◌, List, length, refl, ◌+ℤ◌, ◌-ℤ◌, AllZip, ints, zero-*ℤ, Entries, entries_at, flow_bound}
use Rattle.cell_balance.proofs.Common.{IsHeldBelow, mul_mono_right, Side, Low, High, Flow, Link}
use Rattle.step_problem.specs.{balance, link_flow, fixed_flow, river_flow, drain_flow, evap_flow}
use Rattle.cell_balance.proofs.{Deep.Bounds, Deep.bound_bounds, Deep.bounds_trans, Deep.add_mul, Deep.sub_mul, Deep.bounds_same, Deep.entry_bounds, Deep.total_bounds, Zips.AllZip-length}
use Rattle.cell_balance.proofs.{Zips.WholeCell, Zips.whole_at, Zips.whole_balance, Zips.CellWithin, Zips.WholeLink, Zips.whole_link, Zips.whole_fixed, Zips.whole_river, Zips.whole_drain}
use Rattle.cell_balance.proofs.{Zips.whole_evap, Zips.FlowWithin, Zips.LinkWithin, Zips.FixedWithin, Zips.RiverWithin, Zips.DrainWithin, Zips.EvapWithin, Dry.IsMutual, Comparison.heads_compare}
use Rattle.cell_balance.proofs.{Conducting.both_ways, HeldBelow.held_below, HeldBelow.cell_within, WholeBalances.ramps_from, WholeBalances.a_of, WholeBalances.b_of, WholeBalances.q_of}
use Rattle.cell_balance.proofs.{WholeBalances.balance_is_net_flow, Gaps.Kind.OfFixed, Gaps.Kind.OfRiver, Gaps.Kind.OfDrain, Gaps.Kind.OfEvap, Gaps.seen_bounds, Gaps.fixed_seen, Gaps.river_seen}
use Rattle.cell_balance.proofs.{Gaps.drain_seen, Gaps.evap_seen}

-- The balance of a cell's bounds on a side, scaled, bounds the balance of its whole numbers at the same heads.
flow_bounds : (side : Side) (m n : ℕ) (p : Flow) (q : ℤ) → FlowWithin m n p q → Bounds side (flow_bound side p *ℤ pos (m * n)) q
flow_bounds side m n p q r = bound_bounds side p.lo p.hi (m * n) q r.flow

six : (side : Side) (a b c d e f k a' b' c' d' e' f' : ℤ) → Bounds side (a *ℤ k) a' → Bounds side (b *ℤ k) b' → Bounds side (c *ℤ k) c' →
    Bounds side (d *ℤ k) d' → Bounds side (e *ℤ k) e' → Bounds side (f *ℤ k) f' →
    Bounds side ((a +ℤ b +ℤ c +ℤ d +ℤ e +ℤ f) *ℤ k) (a' +ℤ b' +ℤ c' +ℤ d' +ℤ e' +ℤ f')
six Low a b c d e f k a' b' c' d' e' f' p q r s t u = simp add_mul (omega (arith, ints))
six High a b c d e f k a' b' c' d' e' f' p q r s t u = simp add_mul (omega (arith, ints))

pub balance_bounds : (side : Side) (m n cells : ℕ) (p : Entries) (w : WholeCell) → CellWithin m n cells p w → (v : ℤ) (h : ℕ → ℤ) →
    Bounds side (balance side p v h *ℤ pos (m * n)) (whole_balance w (v *ℤ pos n) (λ k. h k *ℤ pos n))
balance_bounds side m n cells p w e v h =
    let k = pos (m * n) in
    let y = v *ℤ pos n in
    let here = bounds_same side y in
    six side _ _ _ _ _ _ k _ _ _ _ _ _
    (total_bounds side (FlowWithin m n) (flow_bound side) k (λ q. q) (flow_bounds side m n) p.flows w.flows e.flows)
    (total_bounds side (LinkWithin m n cells) (link_flow side h v) k (whole_link (λ k. h k *ℤ pos n) y) link p.links w.links e.links)
    (total_bounds side (FixedWithin m n) (fixed_flow side v) k (whole_fixed y) (λ x z r.
    seen_bounds side OfFixed m n (λ u. fixed_flow side u x) z (fixed_seen m n side x z r) v y here) p.fixed w.fixed e.fixed)
    (total_bounds side (RiverWithin m n) (river_flow side v) k (whole_river y) (λ x z r.
    seen_bounds side OfRiver m n (λ u. river_flow side u x) z (river_seen m n side x z r) v y here) p.rivers w.rivers e.rivers)
    (total_bounds side (DrainWithin m n) (drain_flow side v) k (whole_drain y) (λ x z r.
    seen_bounds side OfDrain m n (λ u. drain_flow side u x) z (drain_seen m n side x z r) v y here) p.drains w.drains e.drains)
    (total_bounds side (EvapWithin m n) (evap_flow side v) k (whole_evap y) (λ x z r.
    seen_bounds side OfEvap m n (λ u. evap_flow side u x) z (evap_seen m n side x z r) v y here) p.evaps w.evaps e.evaps)
  where
    link : (p : Link) (w : WholeLink) → LinkWithin m n cells p w → Bounds side (link_flow side h v p *ℤ pos (m * n)) (whole_link (λ k. h k *ℤ pos n) (v *ℤ pos n) w)
    link p w e = rw e.same (entry_bounds side p.lo p.hi w.c m n (h w.cell -ℤ v) _ e.c (rw sub_mul (bounds_same side _)))

bounds_times : (side : Side) (k : ℕ) (a b : ℤ) → Bounds side a b → Bounds side (a *ℤ pos k) (b *ℤ pos k)
bounds_times Low k a b h = mul_mono_right k a b h
bounds_times High k a b h = mul_mono_right k b a h

module _ (m n : ℕ) (some_m : 0 < m) (some_n : 0 < n) (p : List Entries) (w : List WholeCell)
    (within : AllZip (CellWithin m n (length p)) p w) (both : IsMutual w) (held : IsHeldBelow p)
  where
    same_length : length p ≡ length w
    same_length = AllZip-length (CellWithin m n (length p)) p w within

    -- heads X at which no cell gains water lie nowhere below heads Z at which none loses water
    highest : (X Z : ℕ → ℤ) → ((c : ℕ) → c < length p → X c <ℤ Z c → whole_balance (whole_at w c) (X c) X ≤ℤ pos 0) →
        ((c : ℕ) → c < length p → X c <ℤ Z c → pos 0 ≤ℤ whole_balance (whole_at w c) (Z c) Z) → (c : ℕ) → c < length p → Z c ≤ℤ X c
    highest X Z loses gains c i =
        heads_compare (length w) (a_of w) (b_of w) (q_of w) (ramps_from 0 w) (both_ways w both) (held_below m n some_m some_n p w within held) 1 X Z (omega arith)
        (λ k j up. rw (← balance_is_net_flow w X k (both.range k j)) (loses k (omega (arith, j, same_length)) up))
        (λ k j up. rw (← balance_is_net_flow w Z k (both.range k j)) (gains k (omega (arith, j, same_length)) up))
        c (omega (arith, i, same_length))

    module _ (Y : ℕ → ℤ) (solves : (c : ℕ) → c < length w → whole_balance (whole_at w c) (Y c) Y ≡ pos 0) (h : ℕ → ℤ) where
      -- a head that bounds the solution, or whose balance lets it lie where it does
      lets : (side : Side) → ((c : ℕ) → c < length p → Bounds side (h c *ℤ pos n) (Y c) ⊎ Bounds side (pos 0) (balance side (entries_at p c) (h c) h)) →
          (c : ℕ) → c < length p → Bounds side (h c *ℤ pos n) (Y c) ⊎ Bounds side (pos 0) (whole_balance (whole_at w c) (h c *ℤ pos n) (λ k. h k *ℤ pos n))
      lets side given c i =
          elim (given c i) [
            | inl lies ↦ inl lies
            | inr can ↦ inr (bounds_trans side _ _ _ (rw zero-*ℤ at (bounds_times side (m * n) _ _ can))
                (balance_bounds side m n (length p) (entries_at p c) (whole_at w c) (cell_within m n p w within c i) (h c) h))
          ]

      zero_at : (c : ℕ) → c < length p → whole_balance (whole_at w c) (Y c) Y ≡ pos 0
      zero_at c i = solves c (omega (arith, i, same_length))

      pub compare : (side : Side) → ((c : ℕ) → c < length p → Bounds side (h c *ℤ pos n) (Y c) ⊎ Bounds side (pos 0) (balance side (entries_at p c) (h c) h)) →
          (c : ℕ) → c < length p → Bounds side (h c *ℤ pos n) (Y c)
      compare Low given =
          highest Y (λ k. h k *ℤ pos n) (λ c i up. omega (arith, ints, zero_at c i))
          (λ c i up. elim (lets Low given c i) [ inl under ↦ absurd (omega (arith, ints, up, under)) | inr can ↦ can ])
      compare High given =
          highest (λ k. h k *ℤ pos n) Y (λ c i up. elim (lets High given c i) [ inl over ↦ absurd (omega (arith, ints, up, over)) | inr can ↦ can ])
          (λ c i up. omega (arith, ints, zero_at c i))
