-- In each weather both plans have histories, and any two are the same: each plan's model has one, or so has each choice of weathers.
use Rattle.plan_run.proofs.Common.{List, [], ◌∷◌, arith, length, map, mul-pos, refl, subst, sym, ap, ℕ, ℤ, ◌<◌, ◌*◌, ◌∙◌, ◌≡◌, Option, None, Some, Contains, length-map, All-head, All-map, All-tail}
use Rattle.plan_run.proofs.Common.{AllZip, All, not, ◌&&◌, Fraction, Entry, FlowModel, TimeStep, IsModel, is_constant, start_head, times, SolvesAt, SolvesFrom, heads_of, AreChoices, Choice, IsBetween}
use Rattle.plan_run.proofs.Common.{IsChoiceBetween, SolvesChoiceAt, SolvesChoicesFrom, own_choice, Decks, IsMember, IsOf, own_solves, solves_own, first_in, next_in, with_plan, SolvesPairsFrom}
use Rattle.plan_run.proofs.Common.{PlanTask, IsPlanTask, planned_member, member_cells, ListedPlanStep, EnclosesPairs, EnclosesWeathers, HistoriesGiveWeathers, IsWeatherOf, SolveSteps, SolveWeather}
use Rattle.plan_run.proofs.Common.{Weather}
use Rattle.std.proofs.Math.Nat.{mul_comm}
use Rattle.std.specs.Prelude.{get_or}
use Rattle.decimal_input.specs.Fractions.{Same}
use Rattle.problem_builder.proofs.TimesOf.{time_of}
use Rattle.deck_span.proofs.{OwnChoices.models_give, SameFrames.starts_between}
use Rattle.exact_histories.specs.{AreSame, HaveOneBy, HaveOneHistory}
use Rattle.exact_histories.proofs.GridVectors.{multiples_solve, multiplied}
use Rattle.plan_wells.proofs.Between.{planned_lie_between}
use Rattle.plan_histories.proofs.Pairs.{times_same}

-- A member's equations are a choice of the decks.
module _ (ds : Decks) (m : FlowModel) (member : IsMember ds m) (at : TimeStep) (old : ℕ → Fraction) (d : ℕ) (X : ℕ → ℤ) where
  constant_is : (c : ℕ) → is_constant m at.period c ≡ is_constant ds.first at.period c
  constant_is c = let cells = member_cells ds m member in λ i. cells.active c i && not (cells.variable at.period c i)

  to_choice : SolvesAt m at old d X → SolvesChoiceAt ds.first at (own_choice m at) old d X
  to_choice h =
      let own = own_solves m at old d X h in
      record {
        constant = λ c lt is. own.constant c (subst (λ (n : ℕ). c < n) (sym (member_cells ds m member).count) lt) (constant_is c ∙ is);
        balances = own.balances;
      }

  from_choice : SolvesChoiceAt ds.first at (own_choice m at) old d X → SolvesAt m at old d X
  from_choice h = solves_own m at old d X (record {
    constant = λ c lt is. h.constant c (subst (λ (n : ℕ). c < n) (member_cells ds m member).count lt) (sym (constant_is c) ∙ is);
    balances = h.balances;
  })

abbrev own_choices : List TimeStep → List FlowModel → List Choice
own_choices [] ms = []
own_choices (at ∷ ats) [] = []
own_choices (at ∷ ats) (m ∷ ms) = own_choice m at ∷ own_choices ats ms

-- the histories of one plan
abbrev SolveModels : ℕ → (ℕ → Fraction) → List TimeStep → List FlowModel → List (ℕ → ℤ) → Type 0
SolveModels d old [] [] [] = Unit {0}
SolveModels d old (at ∷ ats) (m ∷ ms) (X ∷ Xs) = SolvesAt m at old d X × SolveModels d (heads_of d X) ats ms Xs
SolveModels d old ats ms Xs = ⊥

module _ (ds : Decks) (d : ℕ) where
  to_choices : (ats : List TimeStep) (old : ℕ → Fraction) (ms : List FlowModel) (Xs : List (ℕ → ℤ)) → All (IsMember ds) ms → SolveModels d old ats ms Xs →
      SolvesChoicesFrom ds.first d old ats (own_choices ats ms) Xs
  to_choices [] old [] [] all h = tt
  to_choices (at ∷ ats) old (m ∷ ms) (X ∷ Xs) all h = (
    to_choice ds m (All-head (IsMember ds) m ms all) at old d X h.0,
    to_choices ats (heads_of d X) ms Xs (All-tail (IsMember ds) m ms all) h.1,
  )
  to_choices _ old _ _ all h = absurd h

  from_choices : (ats : List TimeStep) (old : ℕ → Fraction) (ms : List FlowModel) (Xs : List (ℕ → ℤ)) → All (IsMember ds) ms → length ms ≡ length ats →
      SolvesChoicesFrom ds.first d old ats (own_choices ats ms) Xs → SolveModels d old ats ms Xs
  from_choices [] old [] [] all many h = tt
  from_choices [] old [] (X ∷ Xs) all many h = absurd h
  from_choices [] old (m ∷ ms) Xs all many h = absurd (omega (arith, many))
  from_choices (at ∷ ats) old [] Xs all many h = absurd (omega (arith, many))
  from_choices (at ∷ ats) old (m ∷ ms) [] all many h = absurd h
  from_choices (at ∷ ats) old (m ∷ ms) (X ∷ Xs) all many h = (
    from_choice ds m (All-head (IsMember ds) m ms all) at old d X h.0,
    from_choices ats (heads_of d X) ms Xs (All-tail (IsMember ds) m ms all) (omega (arith, many)) h.1,
  )

-- the members of one deck are its model
module _ (a : FlowModel) (d : ℕ) where
  from_one : (ats : List TimeStep) (old : ℕ → Fraction) (ms : List FlowModel) (Xs : List (ℕ → ℤ)) → All (λ m. m ≡ a) ms → length ms ≡ length ats →
      SolvesFrom a d old ats Xs → SolvesChoicesFrom a d old ats (own_choices ats ms) Xs
  from_one [] old ms [] all many h = tt
  from_one [] old ms (X ∷ Xs) all many h = absurd h
  from_one (at ∷ ats) old [] Xs all many h = absurd (omega (arith, many))
  from_one (at ∷ ats) old (m ∷ ms) [] all many h = absurd h
  from_one (at ∷ ats) old (m ∷ ms) (X ∷ Xs) all many h =
      let P : FlowModel → Type 0 = λ x. SolvesChoiceAt a at (own_choice x at) old d X in (
        subst P (sym (All-head (λ x. x ≡ a) m ms all)) (own_solves a at old d X h.0),
        from_one ats (heads_of d X) ms Xs (All-tail (λ x. x ≡ a) m ms all) (omega (arith, many)) h.1,
      )

  to_one : (ats : List TimeStep) (old : ℕ → Fraction) (ms : List FlowModel) (Xs : List (ℕ → ℤ)) → All (λ m. m ≡ a) ms → length ms ≡ length ats →
      SolvesChoicesFrom a d old ats (own_choices ats ms) Xs → SolvesFrom a d old ats Xs
  to_one [] old ms [] all many h = tt
  to_one [] old ms (X ∷ Xs) all many h = absurd h
  to_one (at ∷ ats) old [] Xs all many h = absurd (omega (arith, many))
  to_one (at ∷ ats) old (m ∷ ms) [] all many h = absurd h
  to_one (at ∷ ats) old (m ∷ ms) (X ∷ Xs) all many h =
      let P : FlowModel → Type 0 = λ x. SolvesChoiceAt a at (own_choice x at) old d X in (
        solves_own a at old d X (subst P (All-head (λ x. x ≡ a) m ms all) h.0),
        to_one ats (heads_of d X) ms Xs (All-tail (λ x. x ≡ a) m ms all) (omega (arith, many)) h.1,
      )

-- the members between two decks are choices between them
are_choices : (a b : FlowModel) → IsModel a → (ats : List TimeStep) → ((at : TimeStep) → Contains ats at → Contains (times a) at) → (ms : List FlowModel) →
    All (λ m. IsBetween a m b) ms → length ms ≡ length ats → AllZip (IsChoiceBetween a b) ats (own_choices ats ms)
are_choices a b valid [] these ms all many = tt
are_choices a b valid (at ∷ ats) these [] all many = absurd (omega (arith, many))
are_choices a b valid (at ∷ ats) these (m ∷ ms) all many = (
  models_give a m b at valid (time_of a at valid (these at (first_in at ats))).step.1 (All-head (λ x. IsBetween a x b) m ms all),
  are_choices a b valid ats (λ u i. these u (next_in at ats u i)) ms (All-tail (λ x. IsBetween a x b) m ms all) (omega (arith, many)),
)

-- A plan's history in a weather, and that any two are the same.
module _ (a : FlowModel) (o : Option FlowModel) (start : FlowModel) (ms : List FlowModel) where
  abbrev Solves : ℕ → List (ℕ → ℤ) → Type 0
  Solves d Xs = SolvesChoicesFrom a d (start_head start) (times a) (own_choices (times a) ms) Xs

  pub record HasOne : Type 0 where
    pub solvable : (d : ℕ) × (Xs : List (ℕ → ℤ)) × (0 < d) × Solves d Xs
    pub one : (d e : ℕ) (Xs Us : List (ℕ → ℤ)) → 0 < d → 0 < e → Solves d Xs → Solves e Us → AreSame a d e Xs Us

has_one : (a : FlowModel) (o : Option FlowModel) (start : FlowModel) (ms : List FlowModel) → IsModel a → HaveOneBy a o → IsOf a o start → All (IsOf a o) ms →
    length ms ≡ length (times a) → HasOne a o start ms
has_one a None start ms valid h is all many =
    let ats = times a in
    let (d, Xs, solves) = h.solvable in
    let P : FlowModel → Type 0 = λ s. SolvesChoicesFrom a d (start_head s) ats (own_choices ats ms) Xs in
    record {
      solvable = (d, Xs, solves.some, subst P (sym is) (from_one a d ats (start_head a) ms Xs all many solves.steps));
      one = λ n e Ys Us some also first second.
          let Q : ℕ → List (ℕ → ℤ) → FlowModel → Type 0 = λ k Zs s. SolvesChoicesFrom a k (start_head s) ats (own_choices ats ms) Zs in
          h.one n e Ys Us (record { some = some; steps = to_one a n ats (start_head a) ms Ys all many (subst (Q n Ys) is first) })
          (record { some = also; steps = to_one a e ats (start_head a) ms Us all many (subst (Q e Us) is second) });
    }
has_one a (Some b) start ms valid h is all many =
    let ats = times a in
    let xs = own_choices ats ms in
    let are : AreChoices a b (start_head start) xs = record { starts = starts_between a start b is; steps = are_choices a b valid ats (λ at i. i) ms all many } in
    let (d, Xs, solves) = h.solvable (start_head start) xs are in
    record {
      solvable = (d, Xs, solves.some, solves.steps);
      one = λ n e Ys Us some also first second. h.one (start_head start) xs are n e Ys Us (record { some = some; steps = first }) (record { some = also; steps = second });
    }

-- both plans' steps are those of each
module _ (plan : List (List Entry)) (d : ℕ) where
  both : (old older : ℕ → Fraction) (ats : List TimeStep) (ms : List FlowModel) (Xs Ys : List (ℕ → ℤ)) → SolveModels d old ats ms Xs →
      SolveModels d older ats (map (with_plan plan) ms) Ys → SolveSteps plan d old older ats ms Xs Ys
  both old older [] [] [] [] h g = tt
  both old older (at ∷ ats) (m ∷ ms) (X ∷ Xs) (Y ∷ Ys) h g = (h.0, g.0, both (heads_of d X) (heads_of d Y) ats ms Xs Ys h.1 g.1)
  both old older [] [] [] (Y ∷ Ys) h g = absurd g
  both old older [] [] (X ∷ Xs) Ys h g = absurd h
  both old older [] (m ∷ ms) Xs Ys h g = absurd h
  both old older (at ∷ ats) [] Xs Ys h g = absurd h
  both old older (at ∷ ats) (m ∷ ms) [] Ys h g = absurd h
  both old older (at ∷ ats) (m ∷ ms) (X ∷ Xs) [] h g = absurd g

  of_base : (old older : ℕ → Fraction) (ats : List TimeStep) (ms : List FlowModel) (Xs Ys : List (ℕ → ℤ)) → SolveSteps plan d old older ats ms Xs Ys →
      SolveModels d old ats ms Xs
  of_base old older [] [] [] [] h = tt
  of_base old older (at ∷ ats) (m ∷ ms) (X ∷ Xs) (Y ∷ Ys) h = (h.0, of_base (heads_of d X) (heads_of d Y) ats ms Xs Ys h.2)
  of_base old older _ _ _ _ h = absurd h

  of_planned : (old older : ℕ → Fraction) (ats : List TimeStep) (ms : List FlowModel) (Xs Ys : List (ℕ → ℤ)) → SolveSteps plan d old older ats ms Xs Ys →
      SolveModels d older ats (map (with_plan plan) ms) Ys
  of_planned old older [] [] [] [] h = tt
  of_planned old older (at ∷ ats) (m ∷ ms) (X ∷ Xs) (Y ∷ Ys) h = (h.1, of_planned (heads_of d X) (heads_of d Y) ats ms Xs Ys h.2)
  of_planned old older _ _ _ _ h = absurd h

-- a weather's histories are a pair of histories
module _ (ds : Decks) (plan : List (List Entry)) (d : ℕ) where
  pairs_from : (old older : ℕ → Fraction) (ats : List TimeStep) (ms : List FlowModel) (Xs Ys : List (ℕ → ℤ)) → All (IsMember ds) ms →
      SolveSteps plan d old older ats ms Xs Ys → SolvesPairsFrom ds plan d old older ats Xs Ys
  pairs_from old older [] [] [] [] all h = tt
  pairs_from old older (at ∷ ats) (m ∷ ms) (X ∷ Xs) (Y ∷ Ys) all h = (
    record { model = m; member = All-head (IsMember ds) m ms all; base = h.0; planned = h.1 },
    pairs_from (heads_of d X) (heads_of d Y) ats ms Xs Ys (All-tail (IsMember ds) m ms all) h.2,
  )
  pairs_from old older _ _ _ _ all h = absurd h

pub weathers_enclosed : (k : PlanTask) (values : List ListedPlanStep) → EnclosesPairs k values → EnclosesWeathers k values
weathers_enclosed k values pairs w is d Xs Ys h = pairs d Xs Ys (record {
  some = h.some;
  first = w.start;
  member = is.start;
  steps = pairs_from k.base k.plan d (start_head w.start) (start_head w.start) (times k.base.first) w.steps Xs Ys is.steps h.steps;
})

module _ (k : PlanTask) (task : IsPlanTask k) (base : HaveOneHistory k.base) (planned : HaveOneHistory k.planned) (w : Weather) (is : IsWeatherOf k.base w) where
  abbrev ats : List TimeStep
  ats = times k.base.first

  abbrev with_wells : List FlowModel
  with_wells = map (with_plan k.plan) w.steps

  times_are : times k.planned.first ≡ ats
  times_are = ap (λ (e : Decks). times e.first) task.with_wells ∙ times_same k.base.first k.plan task.long

  members : All (IsMember k.planned) with_wells
  members = All-map (IsMember k.planned) (with_plan k.plan) w.steps (λ i e lt. planned_member planned_lie_between k.plan k.base k.planned task.with_wells (get_or w.steps i e) (is.steps i e lt))

  many : length with_wells ≡ length (times k.planned.first)
  many = length-map w.steps (with_plan k.plan) ∙ is.many ∙ sym (ap (λ (ts : List TimeStep). length ts) times_are)

  of_first : HasOne k.base.first k.base.second w.start w.steps
  of_first = has_one k.base.first k.base.second w.start w.steps task.base.first base is.start is.steps is.many

  of_other : HasOne k.planned.first k.planned.second (with_plan k.plan w.start) with_wells
  of_other = has_one k.planned.first k.planned.second (with_plan k.plan w.start) with_wells task.planned.first planned
      (planned_member planned_lie_between k.plan k.base k.planned task.with_wells w.start is.start) members many

  long : length with_wells ≡ length ats
  long = length-map w.steps (with_plan k.plan) ∙ is.many

  solved : (d : ℕ) × (Xs : List (ℕ → ℤ)) × (Ys : List (ℕ → ℤ)) × SolveWeather k.base k.plan w d Xs Ys
  solved =
      let (d, Xs, some, xs) = of_first.solvable in
      let (e, Ys, also, ys) = of_other.solvable in
      let start = start_head w.start in
      let same = λ (c : ℕ). let s : Same (start c) (start c) = record { same = refl } in s in
      let T : List TimeStep → Type 0 = λ ts. SolvesChoicesFrom k.planned.first e start ts (own_choices ts with_wells) Ys in
      let other = subst T times_are ys in
      let one = multiples_solve k.base.first ats (own_choices ats w.steps) start start same d e some also Xs xs in
      let two = multiples_solve k.planned.first ats (own_choices ats with_wells) start start same e d also some Ys other in
      let N : ℕ → Type 0 = λ n. SolvesChoicesFrom k.planned.first n start ats (own_choices ats with_wells) (map (multiplied d) Ys) in (
        d * e,
        map (multiplied e) Xs,
        map (multiplied d) Ys,
        record {
          some = mul-pos some also;
          steps = both k.plan (d * e) start start ats w.steps (map (multiplied e) Xs) (map (multiplied d) Ys)
              (from_choices k.base (d * e) ats start w.steps (map (multiplied e) Xs) is.steps is.many one)
              (from_choices k.planned (d * e) ats start with_wells (map (multiplied d) Ys) members long (subst N (mul_comm e d) two));
        },
      )

  unique : (d e : ℕ) (Xs Ys Us Vs : List (ℕ → ℤ)) → SolveWeather k.base k.plan w d Xs Ys → SolveWeather k.base k.plan w e Us Vs →
      AreSame k.base.first d e Xs Us × AreSame k.planned.first d e Ys Vs
  unique d e Xs Ys Us Vs h g =
      let start = start_head w.start in
      let T : ℕ → List (ℕ → ℤ) → List TimeStep → Type 0 = λ n Zs ts. SolvesChoicesFrom k.planned.first n start ts (own_choices ts with_wells) Zs in (
        of_first.one d e Xs Us h.some g.some (to_choices k.base d ats start w.steps Xs is.steps (of_base k.plan d start start ats w.steps Xs Ys h.steps))
            (to_choices k.base e ats start w.steps Us is.steps (of_base k.plan e start start ats w.steps Us Vs g.steps)),
        of_other.one d e Ys Vs h.some g.some
            (subst (T d Ys) (sym times_are) (to_choices k.planned d ats start with_wells Ys members (of_planned k.plan d start start ats w.steps Xs Ys h.steps)))
            (subst (T e Vs) (sym times_are) (to_choices k.planned e ats start with_wells Vs members (of_planned k.plan e start start ats w.steps Us Vs g.steps))),
      )

pub histories_give_weathers : HistoriesGiveWeathers
histories_give_weathers k task base planned = record {
  solvable = λ w is. solved k task base planned w is;
  one = λ w is d e Xs Ys Us Vs h g.
      let both = unique k task base planned w is d e Xs Ys Us Vs h g in
      let A : Decks → Type 0 = λ ds. AreSame ds.first d e Ys Vs in
      (both.0, subst A task.with_wells both.1);
}
