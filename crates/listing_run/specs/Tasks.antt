-- The kind of a task's pairs, the task of decks, and that of one deck.
use Rattle.std.specs.Prelude.{ℕ, Bool, List, Option, if◌then◌else◌, ◌≡◌, [], Some, None, IfSome, Result, Ok, Err}
use Rattle.step_problem.specs.{PairKind, settled, certified, lower_at, upper_at, declared.heads.Bound.Bound, declared.place.NoBound.NoBound}
use Rattle.step_problem.specs.{declared.place.ZoneFlow.ZoneFlow, Entries.Entries, declared.refusal.BoundFault.BoundFault}
use Rattle.model_types.specs.{declared.limits.Limits.Limits, declared.model.FlowModel.FlowModel}
use Rattle.deck_problems.specs.{declared.decks.Decks.Decks, one_deck}
use Rattle.listing_run.specs.declared.steps.Task.{Task}
use Rattle.step_chain.specs.declared.solved.Solved.{Solved}
use Rattle.zone_flows.specs.{Face, faces, zone_flows, EncloseEveryStep}
use Rattle.step_problem.specs.declared.refusal.BoundFault.TheVariants as fault

-- a step has the settled pair; with --quick any pair that is a certificate
abbrev pub pairs_of : Task → PairKind
pairs_of k = if k.quick then certified else settled

-- the limits, the decks, the digits of conductances, the zones, if there is a zone file, the rounds, and whether it is quick
abbrev pub deck_task : Limits → Decks → ℕ → Option (List ℕ) → ℕ → Bool → Task
deck_task limits d s zones rounds quick = record { limits = limits; decks = d; digits = s; zones = zones; rounds = rounds; quick = quick }

-- that of one deck's model
abbrev pub one_task : Limits → FlowModel → ℕ → Option (List ℕ) → ℕ → Bool → Task
one_task limits m s zones rounds quick = deck_task limits (one_deck m) s zones rounds quick

-- The zones of a task, and the flows between them at a step.
-- A step's problem, and the heads of all cells.
module _ (p : List Entries) (heads : List Bound) where
  -- the faces between zones
  abbrev pub faces_of : List ℕ → List Face
  faces_of zones = faces zones (lower_at heads) (upper_at heads) p

  -- the flows between the zones of a zone file, or the first pair whose flow is too large; none without a zone file
  abbrev pub flows_or_large : Option (List ℕ) → Result (List ZoneFlow) NoBound
  flows_or_large None = Ok []
  flows_or_large (Some zones) = zone_flows (faces_of zones)

  abbrev pub AreFlowsOf : Option (List ℕ) → List ZoneFlow → Type 0
  AreFlowsOf zones flows = flows_or_large zones ≡ Ok flows

  abbrev pub HasLargeFlowOf : Option (List ℕ) → NoBound → Type 0
  HasLargeFlowOf zones n = flows_or_large zones ≡ Err n

  -- the flows enclose the exact flows of every exact step that the problem encloses, at all heads within these
  abbrev pub FlowsEnclose : Option (List ℕ) → List ZoneFlow → Type 0
  FlowsEnclose zones flows = IfSome zones (λ zs. EncloseEveryStep p zs (lower_at heads) (upper_at heads) flows)

  -- why there are no flows between zones
  abbrev pub NoFlowsBy : Option (List ℕ) → BoundFault → Type 0
  NoFlowsBy zones (fault.NoBound n) = HasLargeFlowOf zones n
  NoFlowsBy zones fault.Memory = Unit {0}

-- the same at a solved step
abbrev pub AreFlowsAt : Option (List ℕ) → Solved → List ZoneFlow → Type 0
AreFlowsAt zones x flows = AreFlowsOf x.problem x.heads zones flows

abbrev pub HasLargeFlow : Option (List ℕ) → Solved → NoBound → Type 0
HasLargeFlow zones x n = HasLargeFlowOf x.problem x.heads zones n
