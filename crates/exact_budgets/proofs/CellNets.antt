-- The net flow of each term into a cell, over one denominator. With the flows over its links they sum to its balance.
use Rattle.exact_budgets.proofs.Common.{◌≡◌, ℕ, ◌*◌, arith, ℤ, pos, ◌+ℤ◌, Bool, cond, map, filter, ints, Fraction, IsOver, total, FixedKind, Term, Storage, ConstantHead, Wells, Drains, RiverLeakage}
use Rattle.exact_budgets.proofs.Common.{HeadDepBounds, Recharge, Et, ExactFlow, ExactFixed, ExactCell, fixed_flow, river_flow, drain_flow, evap_flow, FlowOver, FixedOver, RiverOver, DrainOver}
use Rattle.exact_budgets.proofs.Common.{EvapOver, CellOver, fixed_over, river_over, drain_over, evap_over, WholeCell, whole_link, whole_fixed, whole_river, whole_drain, whole_evap, whole_balance}
use Rattle.exact_budgets.proofs.Common.{fixed_term, flow_term, is_term, all_terms, exact_singles}
use Rattle.step_problem.specs.declared.entry.FlowKind.{FlowKind}
use Rattle.exact_budgets.proofs.Kept.{Parts, kept, all_parts, kept_parts, total_by_three, total_by_two}
use Rattle.step_problem.specs.declared.entry.FixedKind.TheVariants as kinds
use Rattle.step_problem.specs.declared.entry.FlowKind.TheVariants as packages

abbrev is_fixed : Term → ExactFixed → Bool
is_fixed t x = is_term t (fixed_term x.kind)

abbrev is_flow : Term → ExactFlow → Bool
is_flow t x = is_term t (flow_term x.kind)

-- each known head is of one of three terms, and each constant flow of one of two
one_of_three : (k : FixedKind) (a : ℤ) → cond (is_term Storage (fixed_term k)) a (pos 0) +ℤ cond (is_term ConstantHead (fixed_term k)) a (pos 0) +ℤ cond
    (is_term HeadDepBounds (fixed_term k)) a (pos 0) ≡ a
one_of_three kinds.Storage a = omega (arith, ints)
one_of_three kinds.Constant a = omega (arith, ints)
one_of_three kinds.General a = omega (arith, ints)

one_of_two : (k : FlowKind) (a : ℤ) → cond (is_term Wells (flow_term k)) a (pos 0) +ℤ cond (is_term Recharge (flow_term k)) a (pos 0) ≡ a
one_of_two packages.Wells a = omega (arith, ints)
one_of_two packages.Recharge a = omega (arith, ints)

module _ (k m : ℕ) (v : Fraction) (y : ℤ) (own : IsOver m v y) (c : ExactCell) (w : WholeCell) (over : CellOver k m c w) where
  -- the net flow of a term
  abbrev pub net_of : Term → ℤ
  net_of Storage = kept (is_fixed Storage) (whole_fixed y) c.fixed w.fixed
  net_of ConstantHead = kept (is_fixed ConstantHead) (whole_fixed y) c.fixed w.fixed
  net_of Wells = kept (is_flow Wells) (λ (q : ℤ). q) c.flows w.flows
  net_of Drains = total (whole_drain y) w.drains
  net_of RiverLeakage = total (whole_river y) w.rivers
  net_of HeadDepBounds = kept (is_fixed HeadDepBounds) (whole_fixed y) c.fixed w.fixed
  net_of Recharge = kept (is_flow Recharge) (λ (q : ℤ). q) c.flows w.flows
  net_of Et = total (whole_evap y) w.evaps

  fixed_parts : (t : Term) → Parts (k * m) (map (fixed_flow v) (filter (is_fixed t) c.fixed)) (kept (is_fixed t) (whole_fixed y) c.fixed w.fixed)
  fixed_parts t = kept_parts (FixedOver k m) (k * m) (fixed_flow v) (whole_fixed y) (fixed_over k m v y own) (is_fixed t) c.fixed w.fixed over.fixed

  flow_parts : (t : Term) → Parts (k * m) (map (λ x. x.flow) (filter (is_flow t) c.flows)) (kept (is_flow t) (λ (q : ℤ). q) c.flows w.flows)
  flow_parts t = kept_parts (FlowOver k m) (k * m) (λ (x : ExactFlow). x.flow) (λ (q : ℤ). q) (λ x q s. s.flow) (is_flow t) c.flows w.flows over.flows

  pub parts_of : (t : Term) → Parts (k * m) (exact_singles t c v) (net_of t)
  unfolding exact_singles
  parts_of Storage = fixed_parts Storage
  parts_of ConstantHead = fixed_parts ConstantHead
  parts_of Wells = flow_parts Wells
  parts_of Drains = all_parts (DrainOver k m) (k * m) (drain_flow v) (whole_drain y) (drain_over k m v y own) c.drains w.drains over.drains
  parts_of RiverLeakage = all_parts (RiverOver k m) (k * m) (river_flow v) (whole_river y) (river_over k m v y own) c.rivers w.rivers over.rivers
  parts_of HeadDepBounds = fixed_parts HeadDepBounds
  parts_of Recharge = flow_parts Recharge
  parts_of Et = all_parts (EvapOver k m) (k * m) (evap_flow v) (whole_evap y) (evap_over k m v y own) c.evaps w.evaps over.evaps

  pub nets_balance : (Y : ℕ → ℤ) → whole_balance w y Y ≡ total (whole_link Y y) w.links +ℤ total net_of all_terms
  nets_balance Y =
      omega (
        arith,
        ints,
        total_by_three (FixedOver k m) (whole_fixed y) (is_fixed Storage) (is_fixed ConstantHead) (is_fixed HeadDepBounds) (λ x a. one_of_three x.kind a) c.fixed w.fixed over.fixed,
        total_by_two (FlowOver k m) (λ (q : ℤ). q) (is_flow Wells) (is_flow Recharge) (λ x a. one_of_two x.kind a) c.flows w.flows over.flows,
      )
