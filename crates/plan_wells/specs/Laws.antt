-- Models with a plan's wells: valid, alike, and between two others.
use Rattle.std.specs.Prelude.{ℕ, ◌≡◌, ◌≤◌, true, List, All, length}
use Rattle.model_types.specs.{IsModel, most_entries, declared.entry.Entry.Entry, declared.limits.Limits.Limits, declared.limits.Limits.TheVariants.Plain}
use Rattle.model_types.specs.{declared.model.FlowModel.FlowModel}
use Rattle.deck_span.specs.{AreAlike, IsBetween}
use Rattle.plan_wells.specs.Plans.{IsPlan, are_few, plan_of, with_plan}

-- a valid model with a plan's wells is valid, where they are few enough
abbrev pub PlannedAreValid : Type 0
PlannedAreValid =
    (limits : Limits) (plan : List (List Entry)) (m : FlowModel) → IsModel m → IsPlan limits m.grid (length m.periods) plan →
    are_few (with_plan plan m) ≡ true → IsModel (with_plan plan m)

-- they are, where the model's lists and the plan's have at most as many as plain limits allow
abbrev pub PlainAreFew : Type 0
PlainAreFew =
    (plan : List (List Entry)) (m : FlowModel) → All (λ p. length p.stresses.wells ≤ most_entries Plain) m.periods →
    IsPlan Plain m.grid (length m.periods) plan → are_few (with_plan plan m) ≡ true

abbrev pub PlannedAreAlike : Type 0
PlannedAreAlike = (plan : List (List Entry)) (a b : FlowModel) → AreAlike a b → AreAlike (with_plan plan a) (with_plan plan b)

-- a file gives models that are alike the same plan
abbrev pub AlikeHaveOnePlan : Type 0
AlikeHaveOnePlan =
    (limits : Limits) (file bytes : List ℕ) (a b : FlowModel) → AreAlike a b →
    plan_of limits file bytes b.grid (length b.periods) ≡ plan_of limits file bytes a.grid (length a.periods)

abbrev pub PlannedLieBetween : Type 0
PlannedLieBetween =
    (plan : List (List Entry)) (a m b : FlowModel) → IsBetween a m b → IsBetween (with_plan plan a) (with_plan plan m) (with_plan plan b)
