-- Decks with a plan's wells: valid, and alike where there are two.
use Rattle.plan_run.proofs.Common.{◌≡◌, ◌∙◌, Err, List, None, Ok, Option, Result, Some, ap, length, refl, subst, sym, Bool, IfSome, if◌then◌else◌, option_map, true, false, FlowModel, IsModel}
use Rattle.plan_run.proofs.Common.{AreDecks, IsSecond, refusal, IsPlan, PlannedAreAlike, PlannedAreValid, are_few, planned, with_plan, decks_with, second_planned, Text, length_all_zip, Limits, Decks}
use Rattle.plan_run.proofs.Common.{Entry, AreAlike, ArePeriodsAlike}
use Rattle.model_types.specs.declared.grid.Grid.{Grid}
use Rattle.outside.specs.{declared.inputs.Refusal.Refusal, declared.codes.Code.TheVariants.TooManyEntries}
use Rattle.record_lines.specs.{◌>>=◌}

module _ (plan : List (List Entry)) (file : Text) where
  -- a model with the plan's wells that isn't refused
  planned_is : (m x : FlowModel) → planned plan file m ≡ Ok x → (x ≡ with_plan plan m) × (are_few (with_plan plan m) ≡ true)
  planned_is m x = by_test (are_few (with_plan plan m)) refl
    where
      by_test : (few : Bool) → are_few (with_plan plan m) ≡ few → (if few then Ok (with_plan plan m) else Err (refusal TooManyEntries file 0)) ≡ Ok x →
          (x ≡ with_plan plan m) × (are_few (with_plan plan m) ≡ true)
      by_test true is e = ((let both : Path (Result FlowModel Refusal) (Ok (with_plan plan m)) (Ok x) = e in cc), is)
      by_test false is e = absurd (let bad : Path (Result FlowModel Refusal) (Err (refusal TooManyEntries file 0)) (Ok x) = e in cc)

  -- models that are alike have one grid and as many stress periods
  same_grid : (a b : FlowModel) → AreAlike a b → b.grid ≡ a.grid
  same_grid a b alike = ap (λ (m : FlowModel). m.grid) alike.same

  as_many : (a b : FlowModel) → AreAlike a b → length b.periods ≡ length a.periods
  as_many a b alike = sym (length_all_zip ArePeriodsAlike a.periods b.periods alike.periods)

  pub long_for_second : (limits : Limits) (a : FlowModel) (second : Option FlowModel) → IfSome second (IsSecond a) → IsPlan limits a.grid (length a.periods) plan →
      IfSome second (λ m. length plan ≡ length m.periods)
  long_for_second limits a None s p = tt
  long_for_second limits a (Some b) s p = p.long ∙ sym (as_many a b s.alike)

  module _ (valid : PlannedAreValid) (alike : PlannedAreAlike) (limits : Limits) (a : FlowModel) (is_plan : IsPlan limits a.grid (length a.periods) plan) where
    plan_for : (b : FlowModel) → AreAlike a b → IsPlan limits b.grid (length b.periods) plan
    plan_for b like =
        let P : FlowModel → Type 0 = λ m. IsPlan limits m.grid (length m.periods) plan in
        subst (λ (g : Grid). IsPlan limits g (length b.periods) plan) (sym (same_grid a b like))
        (subst (λ n. IsPlan limits a.grid n plan) (sym (as_many a b like)) is_plan)

    second_is : (second : Option FlowModel) (x : Option FlowModel) → IfSome second (IsSecond a) → second_planned plan file second ≡ Ok x →
        (x ≡ option_map (with_plan plan) second) × IfSome (option_map (with_plan plan) second) (IsSecond (with_plan plan a))
    second_is None x s e = ((let both : Path (Result (Option FlowModel) Refusal) (Ok None) (Ok x) = e in cc), tt)
    second_is (Some b) x s e = by_read (planned plan file b) refl e
      where
        by_read : (r : Result FlowModel Refusal) → planned plan file b ≡ r → (r >>= λ m. Ok (Some m)) ≡ Ok x →
            (x ≡ Some (with_plan plan b)) × IsSecond (with_plan plan a) (with_plan plan b)
        by_read (Err refusal) is h = absurd (let bad : Path (Result (Option FlowModel) Refusal) (Err refusal) (Ok x) = h in cc)
        by_read (Ok m) is h =
            let p = planned_is b m is in
            let both : Path (Result (Option FlowModel) Refusal) (Ok (Some m)) (Ok x) = h in
            let same : x ≡ Some m = cc in (
              same ∙ ap (λ (y : FlowModel). Some y) p.0,
              record { model = valid limits plan b s.model (plan_for b s.alike) p.1; alike = alike plan a b s.alike },
            )

    -- decks with the plan's wells that aren't refused
    pub decks_are : (second : Option FlowModel) (m : FlowModel) (x : Option FlowModel) → IsModel a → IfSome second (IsSecond a) →
        planned plan file a ≡ Ok m → second_planned plan file second ≡ Ok x → AreDecks (record { first = m; second = x })
    decks_are second m x first s is was =
        let p = planned_is a m is in
        let q = second_is second x s was in
        let are : Path Decks (record { first = m; second = x }) (decks_with plan (record { first = a; second = second })) = λ i. record { first = p.0 i; second = q.0 i } in
        subst AreDecks (sym are) (record { first = valid limits plan a first is_plan p.1; second = q.1 })
