-- The differences of two plans' heads at a time step: their problem, its barrier, a pair over it, and the differences of all cells.
use Rattle.std.specs.Prelude.{◌≡◌, ◌⊎◌, ℕ, ◌<◌, List, length}
use Rattle.step_problem.specs.{declared.heads.Bound.Bound, declared.place.NoBound.NoBound, Entries.Entries, Edges, IsCertificate, IsPairOf, PairKind}
use Rattle.step_problem.specs.{RoundsSettleBoth, entries_at, lower_at, no_bound, upper_at}
use Rattle.model_types.specs.declared.limits.Limits.{Limits}
use Rattle.problem_builder.specs.{bound_at}
use Rattle.step_chain.specs.{declared.solved.Solved.Solved, declared.solved.StepFault.StepFault, HasNoBarrier, IsBarrierBy, IsNoCertificate, edges_by}
use Rattle.step_chain.specs.declared.solved.StepFault.TheVariants as fault
use Rattle.plan_step.specs.{IsDifferenceProblem}

-- One bound for each of `count` cells, by cell number: a variable cell of the problem has that of its index, any other cell zeros.
pub record AreByCell (count : ℕ) (p : List Entries) (bounds all : List Bound) : Type 0 where
  pub whole : length all ≡ count
  pub variable : (k : ℕ) → k < length p → bound_at all (entries_at p k).id ≡ bound_at bounds k
  pub other : (c : ℕ) → ((k : ℕ) → k < length p → c ≡ (entries_at p k).id → ⊥) → bound_at all c ≡ no_bound

-- The differences of a step by these limits, from the solved steps x of the base plan and y of the other one, and the old differences
-- of all cells.
module _ (limits : Limits) (x y : Solved) (olds : List Bound) where
  abbrev pub IsTheirProblem : List Entries → Type 0
  IsTheirProblem p = IsDifferenceProblem x.problem y.problem x.bounds y.bounds olds p

  -- v is their problem, a pair of this kind over the problem's barrier, which is a certificate, and the differences of `count` cells by that pair
  pub record AreDifferencesBy (count : ℕ) (kind : PairKind) (v : Solved) : Type 0 where
    pub barrier : Edges
    pub problem : IsTheirProblem v.problem
    pub of_problem : IsBarrierBy limits v.problem barrier
    pub pair : IsPairOf v.problem kind (edges_by limits barrier) v.bounds
    pub certificate : IsCertificate v.problem barrier (lower_at v.bounds) (upper_at v.bounds)
    pub heads : AreByCell count v.problem v.bounds v.heads

  -- They have this refusal: their problem has no barrier; with wide limits its settled pair may be no certificate.
  pub record HaveNoBound (n : NoBound) : Type 0 where
    pub problem : List Entries
    pub is : IsTheirProblem problem
    pub refused : HasNoBarrier limits problem n ⊎ ((b : Edges) × IsBarrierBy limits problem b × IsNoCertificate limits problem b n)

  -- this many rounds don't settle them
  pub record AreOpen (rounds : ℕ) : Type 0 where
    pub problem : List Entries
    pub is : IsTheirProblem problem
    pub barrier : Edges
    pub of_problem : IsBarrierBy limits problem barrier
    pub open_rounds : RoundsSettleBoth problem (edges_by limits barrier) rounds → ⊥

  -- lack of memory is possible at any time
  abbrev pub FailBy : ℕ → StepFault → Type 0
  FailBy rounds (fault.NoBound n) = HaveNoBound n
  FailBy rounds (fault.Unfinished o) = AreOpen rounds
  FailBy rounds fault.Memory = Unit {0}
