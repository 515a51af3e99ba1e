-- Directions of flow: water flows from the higher head to the lower one (TM 6-A16, chapter 2, Darcy's law).
use Rattle.std.specs.Prelude.{ℕ}
use Rattle.decimal_input.specs.{Fraction, opposite, Fractions.Same}
use Rattle.cell_balance.specs.{ExactLink, ExactFixed, link_flow, fixed_flow}

-- a branch to a known head, with that head turned round zero
abbrev pub turned_branch : ExactFixed → ExactFixed
turned_branch x = record { kind = x.kind; source = x.source; conductance = x.conductance; head = opposite x.head }

-- If all heads are turned round zero, each flow over a branch changes its sign. If the heads at the two ends of a branch change
-- places, it does too: what one cell gives the other receives.
pub record FlowsChangeSign : Type 0 where
  pub links : (h : ℕ → Fraction) (v : Fraction) (x : ExactLink) → Same (link_flow (λ k. opposite (h k)) (opposite v) x) (opposite (link_flow h v x))
  pub fixed : (v : Fraction) (x : ExactFixed) → Same (fixed_flow (opposite v) (turned_branch x)) (opposite (fixed_flow v x))
  pub ends : (h : ℕ → Fraction) (v : Fraction) (x y : ExactLink) →
      Same (link_flow (λ k. v) (h x.cell) (record { cell = y.cell; conductance = x.conductance })) (opposite (link_flow h v x))
