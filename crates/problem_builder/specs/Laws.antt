-- Problems meet their conditions: for valid models and their times.
use Rattle.std.specs.Prelude.{◌≡◌, ℕ, ◌<◌, true, ℤ, pos, neg_ℤ, List, Contains, replicate}
use Rattle.decimal_input.specs.{EnclosesSigned}
use Rattle.step_problem.specs.{declared.heads.Bound.Bound, Entries.Entries, IsProblem, IsHead, head_limit}
use Rattle.model_types.specs.{declared.model.FlowModel.FlowModel, declared.time_steps.TimeStep.TimeStep, cell_count, constant_head, is_constant, start_head}
use Rattle.model_types.specs.{times, IsModel}
use Rattle.problem_builder.specs.{GridHeads.IsConstantPair, GridHeads.AreGridHeads, GridHeads.AreStartHeads, GridHeads.HeadsEnclose, Problems.IsProblemOf}

-- a problem meets the conditions on problems
abbrev pub ProblemFits : Type 0
ProblemFits =
    (m : FlowModel) (s : ℕ) (at : TimeStep) (old : List Bound) (p : List Entries) → IsModel m →
    Contains (times m) at → AreGridHeads m old → IsProblemOf m s at old p → IsProblem p

-- the pair of a constant-head cell at a time encloses its head, and its ends are heads in range
abbrev pub ConstantPairFits : Type 0
ConstantPairFits =
    (m : FlowModel) (at : TimeStep) (c : ℕ) (lo hi : ℤ) → IsModel m → Contains (times m) at → c < cell_count m.grid →
    is_constant m at.period c ≡ true → IsConstantPair m at c lo hi → IsHead lo × IsHead hi

abbrev pub ConstantPairEncloses : Type 0
ConstantPairEncloses =
    (m : FlowModel) (at : TimeStep) (c : ℕ) (lo hi : ℤ) → IsModel m → Contains (times m) at → c < cell_count m.grid →
    is_constant m at.period c ≡ true → IsConstantPair m at c lo hi →
    EnclosesSigned lo hi 9 (constant_head m at.period at.step c)

-- the bounds of STRT are heads of all cells, in range
abbrev pub StartHeadsFit : Type 0
StartHeadsFit = (m : FlowModel) (bounds : List Bound) → IsModel m → AreStartHeads m bounds → AreGridHeads m bounds

-- the premises of the builder's calls can be met: by each valid model, its first step, the widest bounds of heads, and STRT as the heads that they enclose
abbrev pub widest : Bound
widest = record { low = neg_ℤ (pos head_limit); high = pos head_limit }

pub record IsBuildable (m : FlowModel) : Type 0 where
  pub time : Contains (times m) (record { period = 1; step = 1 })
  pub old : AreGridHeads m (replicate (cell_count m.grid) widest)
  pub heads : HeadsEnclose m (replicate (cell_count m.grid) widest) (start_head m)

abbrev pub ModelsAreBuildable : Type 0
ModelsAreBuildable = (m : FlowModel) → IsModel m → IsBuildable m
