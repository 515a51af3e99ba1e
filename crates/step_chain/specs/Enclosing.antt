-- How a step's heads enclose every solution of the exact equations.
use Rattle.std.specs.Prelude.{ℕ, ◌^◌, ◌<◌, List, length, ℤ, pos, neg_ℤ, ◌*ℤ◌, ◌≤ℤ◌, ◌≡◌, ◌⊎◌, Bool, false}
use Rattle.decimal_input.specs.{Fraction}
use Rattle.step_problem.specs.{declared.heads.Bound.Bound, Entries.Entries, head_limit, lower_at, upper_at, Edges, IsSettledPair}
use Rattle.step_problem.specs.{declared.place.NoBound.NoBound, declared.refusal.BoundFault.BoundFault}
use Rattle.step_problem.specs.{declared.refusal.BoundFault.TheVariants.NoBound as IsNoBound, declared.refusal.BoundFault.TheVariants.Memory}
use Rattle.cell_balance.specs.{EnclosesStep, LiesBetween}
use Rattle.model_types.specs.{declared.limits.Limits.Limits, declared.limits.Limits.TheVariants.Plain, declared.limits.Limits.TheVariants.Wide}
use Rattle.model_types.specs.{declared.model.FlowModel.FlowModel, declared.time_steps.TimeStep.TimeStep}
use Rattle.flow_equations.specs.{variable_heads}
use Rattle.deck_span.specs.{Choice, SolvesChoiceAt, step_from}
use Rattle.problem_builder.specs.{IsActive, HeadsEnclose}
use Rattle.step_chain.specs.declared.solved.Solved.{Solved}
use Rattle.barrier_vector.specs.{IsBarrierOf, IsRefused, IsCutBarrierOf, IsUnbounded, clamped_edges}
use Rattle.deck_problems.specs.{declared.decks.Decks.Decks, EachChoice, IsProblemFor}

-- The vector X over d lies between the heads, which are in units of 10^-9, at each active cell.
pub record LiesWithin (m : FlowModel) (heads : List Bound) (d : ℕ) (X : ℕ → ℤ) : Type 0 where
  pub low : (c : ℕ) → IsActive m c → (lower_at heads c *ℤ pos d) ≤ℤ (X c *ℤ pos (10 ^ 9))
  pub high : (c : ℕ) → IsActive m c → (X c *ℤ pos (10 ^ 9)) ≤ℤ (upper_at heads c *ℤ pos d)

-- X over d solves a choice of a time's equations, from exact heads before it that lie within the old ones.
pub record IsMove (m : FlowModel) (at : TimeStep) (y : Choice) (old : List Bound) (before : ℕ → Fraction) (d : ℕ) (X : ℕ → ℤ) : Type 0 where
  pub within : HeadsEnclose m old before
  pub some : 0 < d
  pub solves : SolvesChoiceAt m at y before d X

-- the heads X over d of n cells are in the range of heads
abbrev pub IsInRange : ℕ → ℕ → (ℕ → ℤ) → Type 0
IsInRange n d X = LiesBetween n d X (λ c. neg_ℤ (pos head_limit)) (λ c. pos head_limit)

-- X lies between these bounds of n cells; with wide limits, if its heads are in range
abbrev pub LiesBetweenBy : Limits → ℕ → ℕ → (X l u : ℕ → ℤ) → Type 0
LiesBetweenBy Plain n d X l u = LiesBetween n d X l u
LiesBetweenBy Wide n d X l u = IsInRange n d X → LiesBetween n d X l u

-- Every solution of the choice, from all exact heads within the old ones, lies so between these heads of the variable cells of its problem.
abbrev pub LieBetween : Limits → FlowModel → TimeStep → Choice → List Bound → List Entries → (ℕ → ℤ) → (ℕ → ℤ) → Type 0
LieBetween limits m at y old p l u =
    (before : ℕ → Fraction) (d : ℕ) (X : ℕ → ℤ) → IsMove m at y old before d X →
    LiesBetweenBy limits (length p) d (variable_heads (step_from before y.cells) X) l u

module _ (m : FlowModel) (s : ℕ) (at : TimeStep) (y : Choice) where
  -- The problem encloses the choice, and X lies between the bounds at the variable cells, and between the heads at all active cells.
  pub record EnclosesMove (x : Solved) (before : ℕ → Fraction) (d : ℕ) (X : ℕ → ℤ) : Type 0 where
    pub step : EnclosesStep s x.problem (step_from before y.cells)
    pub variables : LiesBetween (length x.problem) d (variable_heads (step_from before y.cells) X) (lower_at x.bounds) (upper_at x.bounds)
    pub heads : LiesWithin m x.heads d X

  -- This holds for all exact heads within the old ones, and every solution from them.
  abbrev pub EnclosesMoves : List Bound → Solved → Type 0
  EnclosesMoves old x = (before : ℕ → Fraction) (d : ℕ) (X : ℕ → ℤ) → IsMove m at y old before d X → EnclosesMove x before d X

-- The barrier of a problem by the limits of a run, why it has none, and where its settling begins: with wide limits floors and ceilings out of range are cut.
-- the barrier; the cut one with wide limits
abbrev pub IsBarrierBy : Limits → List Entries → Edges → Type 0
IsBarrierBy Plain = IsBarrierOf
IsBarrierBy Wide = IsCutBarrierOf

-- its refusal; with wide limits none for the range of heads
abbrev pub HasNoBarrier : Limits → List Entries → NoBound → Type 0
HasNoBarrier Plain = IsRefused
HasNoBarrier Wide = IsUnbounded

-- the floors and ceilings that settling begins at; what was cut begins at the end of the range of heads
abbrev pub edges_by : Limits → Edges → Edges
edges_by Plain b = b
edges_by Wide b = clamped_edges b

-- a fault is that refusal, or lack of memory
abbrev pub IsBarrierFault : Limits → List Entries → BoundFault → Type 0
IsBarrierFault limits p (IsNoBound n) = HasNoBarrier limits p n
IsBarrierFault limits p Memory = Unit {0}

-- How a step changes its settler, where `leads old p b ended new` says that settling the problem p over the barrier
-- b, ending with heads or not, takes one of its states to another.
module _ {S : Type 0} (leads : S → List Entries → Edges → Bool → S → Type 0) (limits : Limits) where
  -- The settling of p, a step's problem, over its barrier did this; and every solution of each choice of the step lies between the settled pair, whether
  -- the settling reached it or not; with wide limits every solution whose heads are in range.
  pub record LeadsBy (d : Decks) (at : TimeStep) (old : List Bound) (p : List Entries) (ended : Bool) (before after : S) : Type 0 where
    pub barrier : Edges
    pub is : IsBarrierBy limits p barrier
    pub low : ℕ → ℤ
    pub high : ℕ → ℤ
    pub pair : IsSettledPair p (edges_by limits barrier) low high
    pub encloses : EachChoice d at (λ y. LieBetween limits d.first at y old p low high)
    pub led : leads before p (edges_by limits barrier) ended after

  -- The settling of p over its barrier b did this, without heads for the step: it was not begun, or ended without heads; with wide limits also with heads
  -- that were refused.
  abbrev pub LeadsWithout : List Entries → Edges → S → S → Type 0
  LeadsWithout p b before after = (after ≡ before) ⊎ ((ended : Bool) × (limits ≡ Plain → ended ≡ false) × leads before p (edges_by limits b) ended after)

  -- A step without heads left its settler unchanged, or the settling of its problem changed it so. That ended without heads; with wide limits also with
  -- heads that were refused.
  abbrev pub LeadsOrRests : Decks → ℕ → TimeStep → List Bound → S → S → Type 0
  LeadsOrRests d s at old before after =
      (after ≡ before) ⊎ ((p : List Entries) × IsProblemFor d s at old p × (ended : Bool) × (limits ≡ Plain → ended ≡ false)
      × LeadsBy d at old p ended before after)
