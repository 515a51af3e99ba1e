-- What each branch of the exact step of the differences gives more, term by term, and that the bounds of the problem's branches enclose it.
use Rattle.plan_enclosed.proofs.Common.{AllZip, AllZip-filter, AllZip-length, AllZip-map, CellEncloses, ConstantHead, Drains, EnclosesSigned, Entries, Et, ExactCell, ExactFixed, ExactFlow}
use Rattle.plan_enclosed.proofs.Common.{FixedEncloses, FixedKind, FlowEncloses, Fraction, HeadDepBounds, List, PairEncloses, Recharge, RiverLeakage, Storage, Term, Wells, [], ap, branch_gain, drop}
use Rattle.plan_enclosed.proofs.Common.{exact_fixed_of, fixed_flow, fixed_term, is_term, known, length, map, negated_enclosed, opposite, ramps, take, well_gain, ℕ, ℤ, ◌+◌, gains, fixed_of}
use Rattle.step_problem.specs.{declared.entry.Fixed.Fixed, declared.heads.Side.TheVariants.High, declared.heads.Side.TheVariants.Low, fixed_flow as fixed_bound}
use Rattle.cell_balance.proofs.EntryBounds.{bounds_hold}
use Rattle.plan_enclosed.proofs.Lists.{AllZip-drop, AllZip-take}

-- the branches of the exact cell g of the differences, by the base plan's cell x, as those of the problem
module _ (x g : ExactCell) where
  abbrev pub exact_known : List ExactFixed
  exact_known = take (length x.fixed) g.fixed

  abbrev pub exact_ramps : List ExactFixed
  exact_ramps = drop (length x.fixed) g.fixed

  abbrev pub exact_rivers : List ExactFixed
  exact_rivers = take (length x.rivers) exact_ramps

  abbrev pub after_rivers : List ExactFixed
  after_rivers = drop (length x.rivers) exact_ramps

  abbrev pub exact_drains : List ExactFixed
  exact_drains = take (length x.drains) after_rivers

  abbrev pub exact_evaps : List ExactFixed
  exact_evaps = drop (length x.drains) after_rivers

-- what a branch gives more under the plan, at the difference z of the heads
abbrev pub gain : Fraction → ExactFixed → Fraction
gain z b = opposite (fixed_flow z b)

unfoldable pub exact_gains : Term → ExactCell → ExactCell → Fraction → List Fraction
exact_gains Storage x g z = map (gain z) (exact_fixed_of Storage (exact_known x g))
exact_gains ConstantHead x g z = map (gain z) (exact_fixed_of ConstantHead (exact_known x g))
exact_gains Wells x g z = map (λ q. opposite q.flow) g.flows
exact_gains Drains x g z = map (gain z) (exact_drains x g)
exact_gains RiverLeakage x g z = map (gain z) (exact_rivers x g)
exact_gains HeadDepBounds x g z = map (gain z) (exact_fixed_of HeadDepBounds (exact_known x g))
exact_gains Recharge x g z = []
exact_gains Et x g z = map (gain z) (exact_evaps x g)

module _ (s : ℕ) (z : Fraction) (l u : ℤ) (own : EnclosesSigned l u 9 z) (b p : Entries) (x g : ExactCell) (base : CellEncloses s b x) (of : CellEncloses s p g) where
  abbrev Enclose : List Fixed → List ExactFixed → Type 0
  Enclose = AllZip (FixedEncloses s)

  within : (q : Fixed) (r : ExactFixed) → FixedEncloses s q r → PairEncloses (s + 9) (branch_gain l u q) (gain z r)
  within q r h = record { within = negated_enclosed (fixed_bound Low u q) (fixed_bound High l q) (s + 9) (fixed_flow z r) ((bounds_hold s z l u own).fixed q r h) }

  front : {X Y : Type 0} (R : X → Y → Type 0) (es : List X) (cs : List Y) → AllZip R es cs → (qs : List Fixed) (rs : List ExactFixed) → Enclose qs rs →
      Enclose (take (length es) qs) (take (length cs) rs)
  front R es cs same qs rs h = rw (AllZip-length R es cs same) (AllZip-take (FixedEncloses s) (length cs) qs rs h)

  back : {X Y : Type 0} (R : X → Y → Type 0) (es : List X) (cs : List Y) → AllZip R es cs → (qs : List Fixed) (rs : List ExactFixed) → Enclose qs rs →
      Enclose (drop (length es) qs) (drop (length cs) rs)
  back R es cs same qs rs h = rw (AllZip-length R es cs same) (AllZip-drop (FixedEncloses s) (length cs) qs rs h)

  knowns : Enclose (known b p) (exact_known x g)
  knowns = front _ b.fixed x.fixed base.fixed p.fixed g.fixed of.fixed

  all_ramps : Enclose (ramps b p) (exact_ramps x g)
  all_ramps = back _ b.fixed x.fixed base.fixed p.fixed g.fixed of.fixed

  others : Enclose (drop (length b.rivers) (ramps b p)) (after_rivers x g)
  others = back _ b.rivers x.rivers base.rivers (ramps b p) (exact_ramps x g) all_ramps

  all_within : (qs : List Fixed) (rs : List ExactFixed) → Enclose qs rs → AllZip (PairEncloses (s + 9)) (map (branch_gain l u) qs) (map (gain z) rs)
  all_within qs rs h = AllZip-map (FixedEncloses s) (PairEncloses (s + 9)) (branch_gain l u) (gain z) within qs rs h

  of_kind : (t : Term) → AllZip (PairEncloses (s + 9)) (map (branch_gain l u) (fixed_of t (known b p))) (map (gain z) (exact_fixed_of t (exact_known x g)))
  of_kind t =
      all_within _ _
      (AllZip-filter (FixedEncloses s) (λ (q : Fixed). is_term t (fixed_term q.kind)) (λ (r : ExactFixed). is_term t (fixed_term r.kind))
      (λ q r h. ap (λ (k : FixedKind). is_term t (fixed_term k)) h.kind) (known b p) (exact_known x g) knowns)

  pub gains_within : (t : Term) → AllZip (PairEncloses (s + 9)) (gains t b p l u) (exact_gains t x g z)
  unfolding gains exact_gains
  gains_within Storage = of_kind Storage
  gains_within ConstantHead = of_kind ConstantHead
  gains_within Wells =
      AllZip-map (FlowEncloses s) (PairEncloses (s + 9)) well_gain (λ (q : ExactFlow). opposite q.flow)
      (λ q r h. record { within = negated_enclosed q.lo q.hi (s + 9) r.flow h.flow }) p.flows g.flows of.flows
  gains_within Drains = all_within _ _ (front _ b.drains x.drains base.drains (drop (length b.rivers) (ramps b p)) (after_rivers x g) others)
  gains_within RiverLeakage = all_within _ _ (front _ b.rivers x.rivers base.rivers (ramps b p) (exact_ramps x g) all_ramps)
  gains_within HeadDepBounds = of_kind HeadDepBounds
  gains_within Recharge = tt
  gains_within Et = all_within _ _ (back _ b.drains x.drains base.drains (drop (length b.rivers) (ramps b p)) (after_rivers x g) others)
