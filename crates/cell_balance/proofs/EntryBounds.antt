-- The bounds of single flows enclose them, from their whole numbers.
use Rattle.cell_balance.proofs.Common.{ℕ, ◌+◌, ◌*◌, ◌^◌, ◌<◌, refl, sym, subst, arith, ℤ, pos, ◌-ℤ◌, ◌*ℤ◌, ◌≤ℤ◌, mul-pos, ints, Ratio, Fraction, den, IsOver, EnclosesSigned, IsBetweenSigned, Link}
use Rattle.cell_balance.proofs.Common.{least, most, ExactLink, link_flow, fixed_flow, river_flow, drain_flow, evap_flow, LinkEncloses, BoundsHold, Side, Low, High}
use Rattle.cell_balance.proofs.{Deep.sub_mul, Deep.entry_bounds, Gaps.Kind, Gaps.whole_flow, Gaps.IsSeen, Gaps.seen_bounds, Gaps.fixed_seen, Gaps.river_seen, Gaps.drain_seen, Gaps.evap_seen}
use Rattle.cell_balance.proofs.{Gaps.Kind.OfFixed, Gaps.Kind.OfRiver, Gaps.Kind.OfDrain, Gaps.Kind.OfEvap, Enclosed.between_share, Enclosed.between_over, Enclosed.flow_denominator}
use Rattle.cell_balance.proofs.{Enclosed.entry_within, Enclosing.enclosed_over, EntryFlows.difference_over, Denominators.Goes, Denominators.Goes-first, Denominators.Goes-second}
use Rattle.cell_balance.proofs.{Denominators.fraction_over, Denominators.share_over, Denominators.left_goes, Denominators.right_goes, Denominators.link_den, Denominators.entry_den}
use Rattle.cell_balance.proofs.{Denominators.some_entry, Zips.WholeEntry, Over.EntryOver, Over.fixed_over, Over.river_over, Over.drain_over, Over.evap_over, Encloses.entry_over_denominator}
use Rattle.step_problem.specs.{link_flow as link_on, fixed_flow as fixed_on, river_flow as river_on, drain_flow as drain_on, evap_flow as evap_on}

-- an entry's flow in whole numbers over d and d, with its head
enclosed : (s d : ℕ) (f : Fraction) (z lo hi : ℤ) → 0 < d → IsOver (d * 10 ^ s * (d * 10 ^ 9)) f z → (lo *ℤ pos (d * d)) ≤ℤ z → z ≤ℤ (hi *ℤ pos (d * d)) → EnclosesSigned lo hi (s + 9) f
enclosed s d f z lo hi some over low high = enclosed_over lo hi (s + 9) (d * d) f z (mul-pos some some) (subst (λ (k : ℕ). IsOver k f z) (flow_denominator s d d) over) low high

module _ (s : ℕ) (v : Fraction) (l u : ℤ) (own : EnclosesSigned l u 9 v) where
  -- the cell's head over d
  head : (d : ℕ) → Goes (den v) d → (y : ℤ) × IsOver (d * 10 ^ 9) v y × IsBetweenSigned l u d y
  head d go = let (y, over) = fraction_over d (10 ^ 9) v go in (y, over, between_over l u 9 d v y own over)

  -- an entry's flow at that head, by a flow that bounds it on each side
  entry_holds : (k : Kind) (r : Ratio) (top foot f : Fraction) (bound : Side → ℤ → ℤ) →
      ((d : ℕ) (y : ℤ) → IsOver (d * 10 ^ 9) v y → (w : WholeEntry) → EntryOver (d * 10 ^ s) (d * 10 ^ 9) r top foot w →
      IsOver (d * 10 ^ s * (d * 10 ^ 9)) f (whole_flow k y w) × ((side : Side) → IsSeen side k d d (bound side) w)) →
      EnclosesSigned (bound Low u) (bound High l) (s + 9) f
  entry_holds k r top foot f bound seen =
      let d = den v * entry_den r top foot in
      let (y, over, between) = head d (Goes-first (den v) _) in
      let (w, e) = entry_over_denominator d (10 ^ s) (10 ^ 9) r top foot (Goes-second (den v) _) in
      let (is, by) = seen d y over w e in
      enclosed s d f (whole_flow k y w) _ _ (mul-pos (omega arith) (some_entry r top foot)) is
      (seen_bounds Low k d d (bound Low) w (by Low) u y between.upper) (seen_bounds High k d d (bound High) w (by High) l y between.lower)

  link_holds : (d : ℕ) → 0 < d → Goes (den v) d → (p : Link) (x : ExactLink) (h : ℕ → Fraction) (L U : ℕ → ℤ) → Goes (den (h x.cell)) d → Goes (link_den x) d →
      LinkEncloses s p x → EnclosesSigned (L x.cell) (U x.cell) 9 (h x.cell) → EnclosesSigned (link_on Low L u p) (link_on High U l p) (s + 9) (link_flow h v x)
  link_holds d some go p x h L U there goes e other =
      let (y, over, between) = head d go in
      let (z, over_z) = fraction_over d (10 ^ 9) (h x.cell) there in
      let between_z = between_over (L x.cell) (U x.cell) 9 d (h x.cell) z other over_z in
      let (c, part) = share_over d (10 ^ s) x.conductance goes in
      let conducts = between_share p.lo p.hi s d c x.conductance e.conductance part in
      enclosed s d (link_flow h v x) (pos c *ℤ (z -ℤ y)) _ _ some
      (difference_over (d * 10 ^ s) (d * 10 ^ 9) c x.conductance (h x.cell) v z y part over_z over)
      (subst (λ (k : ℕ). (least p.lo p.hi (L k -ℤ u) *ℤ pos (d * d)) ≤ℤ (pos c *ℤ (z -ℤ y))) (sym e.cell)
      (entry_bounds Low p.lo p.hi c d d (L x.cell -ℤ u) (z -ℤ y) conducts (rw sub_mul (omega (arith, ints, between_z.lower, between.upper)))))
      (subst (λ (k : ℕ). (pos c *ℤ (z -ℤ y)) ≤ℤ (most p.lo p.hi (U k -ℤ l) *ℤ pos (d * d))) (sym e.cell)
      (entry_bounds High p.lo p.hi c d d (U x.cell -ℤ l) (z -ℤ y) conducts (rw sub_mul (omega (arith, ints, between_z.upper, between.lower)))))

pub bounds_hold : BoundsHold
bounds_hold s v l u own = record {
  links = λ p x h L U e other. link_holds s v l u own (den v * (den (h x.cell) * link_den x)) (mul-pos (omega arith) (mul-pos (omega arith) (omega arith)))
      (Goes-first (den v) _) p x h L U (left_goes (den (h x.cell)) (link_den x) _ (Goes-second (den v) _))
      (right_goes (den (h x.cell)) (link_den x) _ (Goes-second (den v) _)) e other;
  fixed = λ p x e. entry_holds s v l u own OfFixed x.conductance x.head x.head (fixed_flow v x) (λ side z. fixed_on side z p)
      (λ d y over w o. (
        fixed_over (d * 10 ^ s) (d * 10 ^ 9) v y over x w o,
        λ side.
            fixed_seen d d side p w (entry_within s d d p.lo p.hi _ _ _ _ x.conductance x.head x.head w e.conductance e.head e.head o),
      ));
  rivers = λ p x e. entry_holds s v l u own OfRiver x.conductance x.stage x.bottom (river_flow v x) (λ side z. river_on side z p)
      (λ d y over w o. (
        river_over (d * 10 ^ s) (d * 10 ^ 9) v y over x w o,
        λ side.
            river_seen d d side p w (entry_within s d d p.lo p.hi _ _ _ _ x.conductance x.stage x.bottom w e.conductance e.stage e.bottom o),
      ));
  drains = λ p x e. entry_holds s v l u own OfDrain x.conductance x.elevation x.elevation (drain_flow v x) (λ side z. drain_on side z p)
      (λ d y over w o. (
        drain_over (d * 10 ^ s) (d * 10 ^ 9) v y over x w o,
        λ side.
            drain_seen d d side p w (entry_within s d d p.lo p.hi _ _ _ _ x.conductance x.elevation x.elevation w e.conductance e.elevation e.elevation o),
      ));
  evaps = λ p x e. entry_holds s v l u own OfEvap x.conductance x.surface x.extinction (evap_flow v x) (λ side z. evap_on side z p)
      (λ d y over w o. (
        evap_over (d * 10 ^ s) (d * 10 ^ 9) v y over x w o,
        λ side.
            evap_seen d d side p w (entry_within s d d p.lo p.hi _ _ _ _ x.conductance x.surface x.extinction w e.conductance e.surface e.extinction o),
      ));
}
