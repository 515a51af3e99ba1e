-- Decks with a plan's wells, as they are made.
use Rattle.std.specs.Prelude.{◌≡◌, ℕ, List, Option, Some, None, Result, Ok, length}
use Rattle.outside.specs.declared.inputs.Refusal.{Refusal}
use Rattle.record_lines.specs.{◌>>=◌}
use Rattle.model_types.specs.{declared.entry.Entry.Entry, declared.model.FlowModel.FlowModel, declared.limits.Limits.Limits}
use Rattle.deck_problems.specs.{declared.decks.Decks.Decks, AreDecks}
use Rattle.plan_chain.specs.{decks_with}
use Rattle.plan_wells.specs.{IsPlan, plan_of, planned}
use Rattle.plan_run.specs.declared.decks.PlannedDecks.{PlannedDecks}
use Rattle.run_puts.specs.{Text}

-- a second model with a plan's wells, if there is one
abbrev pub second_planned : List (List Entry) → Text → Option FlowModel → Result (Option FlowModel) Refusal
second_planned plan file None = Ok None
second_planned plan file (Some m) = planned plan file m >>= λ b. Ok (Some b)

-- Both decks with the plan's wells, or the first refusal of too many.
abbrev pub decks_planned : List (List Entry) → Text → Decks → Result Decks Refusal
decks_planned plan file d = do
  first ← planned plan file d.first
  second ← second_planned plan file d.second
  Ok (record { first = first; second = second })

-- the plan that a file of WEL gives for decks, and both decks with its wells, or the first refusal
abbrev pub planned_in : Limits → Text → Decks → List ℕ → Result PlannedDecks Refusal
planned_in limits file d bytes = do
  plan ← plan_of limits file bytes d.first.grid (length d.first.periods)
  decks ← decks_planned plan file d
  Ok (record { plan = plan; decks = decks })

-- a plan for decks by these limits, and the decks with its wells, which are valid
pub record IsPlannedBy (limits : Limits) (d : Decks) (p : PlannedDecks) : Type 0 where
  pub plan : IsPlan limits d.first.grid (length d.first.periods) p.plan
  pub are : p.decks ≡ decks_with p.plan d
  pub valid : AreDecks p.decks
