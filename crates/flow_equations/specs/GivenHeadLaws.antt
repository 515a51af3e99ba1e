-- What the given heads of CHD owe to the manual (TM 6-A16, chapter 6, CHD; that a given head is kept in later periods is this program's choice).
use Rattle.std.specs.Prelude.{◌≡◌, ℕ, ◌<◌, ◌≤◌, Some, None, length}
use Rattle.decimal_input.specs.{number, Fractions.plus, Fractions.Same}
use Rattle.model_types.specs.{declared.model.FlowModel.FlowModel, period_at, given_in, constant_head}
use Rattle.model_types.specs.declared.entry.Given.{Given}
use Rattle.flow_equations.specs.TimeLaws.{Lasts, HasEqualSteps}

-- a cell c that the list of period p names with the entry x
pub record HasGivenHead (m : FlowModel) (p c : ℕ) (x : Given) : Type 0 where
  -- at the last step it has the head Ehead
  pub last : Same (constant_head m p (period_at m p).nstp c) (number x.ehead)
  -- after the first of two equal steps it is half-way: twice the head is Shead + Ehead
  pub half : Lasts (period_at m p) → HasEqualSteps (period_at m p) → (period_at m p).nstp ≡ 2 →
      Same (plus (constant_head m p 1 c) (constant_head m p 1 c)) (plus (number x.shead) (number x.ehead))
  -- and it keeps Ehead in later periods, as long as no list names the cell again
  pub kept : (q n : ℕ) → 1 ≤ p → p ≤ length m.periods → p < q → ((r : ℕ) → p < r → r ≤ q → given_in (period_at m r).stresses.given c ≡ None) →
      Same (constant_head m q n c) (number x.ehead)

abbrev pub HasGivenHeads : FlowModel → Type 0
HasGivenHeads m = (p c : ℕ) (x : Given) → given_in (period_at m p).stresses.given c ≡ Some x → HasGivenHead m p c x
