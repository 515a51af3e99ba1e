-- Whether listed heads of all cells are those of a step by its certificate, and the first cell where they aren't.
use Rattle.std.specs.Prelude.{◌≡◌, ℕ, List}
use Rattle.step_problem.specs.{declared.heads.Bound.Bound, declared.heads.Side.Side, Entries.Entries, Edges, certified, entries_at}
use Rattle.step_problem.specs.declared.place.Place.TheVariants as places
use Rattle.certificate_check.specs.{IsFirstFailing}
use Rattle.model_types.specs.{declared.limits.Limits.Limits, declared.time_steps.TimeStep.TimeStep}
use Rattle.deck_problems.specs.declared.decks.Decks.{Decks}
use Rattle.step_chain.specs.{declared.solved.Solved.Solved, HasNoPose, IsPosed, IsStepBy}
use Rattle.check_run.specs.declared.listing.CheckFault.{CheckFault}
use Rattle.check_run.specs.declared.listing.CheckFault.TheVariants as fault
use Rattle.check_run.specs.Steps.{AllReach, ConstantsReach, IsFirstUnreached, ReachesAt, variable_bounds}

-- Listed bounds of a time's cells: of the constant cells, each of which is to reach so far, and of the variable cells, where they are to be a certificate
-- of a problem over its barrier.
module _ (d : Decks) (at : TimeStep) (listed : List Bound) (Reaches : ℕ → Side → Type 0) (Posed : List Entries → Edges → Type 0) where
  -- the first cell that fails, and its side: a constant cell; where those hold, a variable cell
  pub data CellFails (c : ℕ) (side : Side) : Type 0 where
    short : (p : List Entries) (b : Edges) → Posed p b → IsFirstUnreached d at Reaches c side → CellFails c side
    failing : (p : List Entries) (b : Edges) (k : ℕ) → Posed p b → AllReach d at Reaches →
        IsFirstFailing p b (variable_bounds d at listed) k side → c ≡ (entries_at p k).id → CellFails c side

-- A time of decks by these limits, with s digits of conductances, where `old` are the heads of all cells before it, and `heads` the listed ones.
module _ (limits : Limits) (d : Decks) (s : ℕ) (at : TimeStep) (old heads : List Bound) where
  -- x is its step by a certificate, that of the listed heads of the variable cells; those of the constant cells are as wide as their pairs
  pub record AreChecked (x : Solved) : Type 0 where
    pub step : IsStepBy limits d s at old certified x
    pub listed : x.bounds ≡ variable_bounds d at heads
    pub constants : ConstantsReach d at heads

  -- the first cell that fails, and its side
  abbrev pub FailAt : ℕ → Side → Type 0
  FailAt = CellFails d at heads (ReachesAt d at heads) (IsPosed limits d s at old)

  -- why they aren't; lack of memory is possible at any time
  abbrev pub HeadsFailBy : CheckFault → Type 0
  HeadsFailBy (fault.Fails place) = (c : ℕ) × (side : Side) × FailAt c side × (place ≡ places.Cell c side)
  HeadsFailBy (fault.Refused n) = HasNoPose limits d s at old n
  HeadsFailBy fault.Memory = Unit {0}
