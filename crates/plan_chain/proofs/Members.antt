-- What a member of decks, the model of one deck or one between two, has of the choices of the decks, and of the steps that enclose them.
use Rattle.plan_chain.proofs.Common.{◌<◌, ◌≤◌, ℕ, ℤ, List, Option, Some, None, length, refl, sym, ap, subst, Fraction, EnclosesStep, ExactCell, LiesBetween, SolvesAt, exact_step, variable_heads}
use Rattle.plan_chain.proofs.Common.{IsModel, period_at, start_head, Limits, FlowModel, TimeStep, HeadsEnclose, PairKind, lower_at, upper_at, Bound, SolvesChoiceAt, own_choice, Decks, IsBefore}
use Rattle.plan_chain.proofs.Common.{IsChoiceOf, IsMember, IsOf, IsOwnChoice, IsStartOf, HasCellsOf, between_cells, cell_of_first, cell_of_member, own_choice_is, own_solves, IsStepBy, LiesWithin}
use Rattle.plan_chain.proofs.Common.{StepEncloses, Solved}
use Rattle.problem_builder.proofs.TimesOf.{time_of}
use Rattle.deck_span.proofs.{OwnChoices.models_give, OwnChoices.models_solve, OwnChoices.own_step, SameFrames.starts_between}

cells_by : (a : FlowModel) (o : Option FlowModel) (m : FlowModel) → IsOf a o m → HasCellsOf a m
cells_by a None m e =
    let P : FlowModel → Type 0 = HasCellsOf a in
    subst P (sym e) (record { count = refl; active = λ c. refl; variable = λ p c. refl; index = λ p c. refl; steps = refl })
cells_by a (Some b) m h = between_cells a m b h

pub member_cells : (d : Decks) (m : FlowModel) → IsMember d m → HasCellsOf d.first m
member_cells d m h = cells_by d.first d.second m h

choice_by : (a : FlowModel) (o : Option FlowModel) (m : FlowModel) (at : TimeStep) → IsModel a → at.step ≤ (period_at a at.period).nstp → IsOf a o m → IsChoiceOf a o at (own_choice m at)
choice_by a None m at valid few e = let P : FlowModel → Type 0 = λ x. IsOwnChoice a at (own_choice x at) in subst P (sym e) (own_choice_is a at)
choice_by a (Some b) m at valid few h = models_give a m b at valid few h

solves_by : (a : FlowModel) (o : Option FlowModel) (m : FlowModel) (at : TimeStep) (old : ℕ → Fraction) (d : ℕ) (X : ℕ → ℤ) → IsOf a o m →
    SolvesAt m at old d X → SolvesChoiceAt a at (own_choice m at) old d X
solves_by a None m at old d X e =
    let P : FlowModel → Type 0 = λ x. SolvesAt x at old d X → SolvesChoiceAt a at (own_choice x at) old d X in
    subst P (sym e) (own_solves a at old d X)
solves_by a (Some b) m at old d X h = models_solve a m b at old d X h

starts_by : (a : FlowModel) (o : Option FlowModel) (m : FlowModel) → IsOf a o m → IsStartOf a o (start_head m)
starts_by a None m e = ap start_head e
starts_by a (Some b) m h = starts_between a m b h

-- STRT of a member is one of the starting heads
pub member_starts : (d : Decks) (m : FlowModel) → IsMember d m → IsStartOf d.first d.second (start_head m)
member_starts d m h = starts_by d.first d.second m h

-- what holds at the cells of the first deck holds at those of a member, and the other way round
module _ (a m : FlowModel) (cells : HasCellsOf a m) where
  pub encloses_first : (old : List Bound) (before : ℕ → Fraction) → HeadsEnclose m old before → HeadsEnclose a old before
  encloses_first old before olds c k = olds c (cell_of_member a m cells c k)

  pub lies_in_first : (heads : List Bound) (d : ℕ) (X : ℕ → ℤ) → LiesWithin m heads d X → LiesWithin a heads d X
  lies_in_first heads d X h = record { low = λ c k. h.low c (cell_of_member a m cells c k); high = λ c k. h.high c (cell_of_member a m cells c k) }

  lies_in_member : (heads : List Bound) (d : ℕ) (X : ℕ → ℤ) → LiesWithin a heads d X → LiesWithin m heads d X
  lies_in_member heads d X h = record { low = λ c k. h.low c (cell_of_first a m cells c k); high = λ c k. h.high c (cell_of_first a m cells c k) }

-- what a step of decks says of a solution of a member
pub record MemberMove (m : FlowModel) (s : ℕ) (at : TimeStep) (x : Solved) (before : ℕ → Fraction) (n : ℕ) (X : ℕ → ℤ) : Type 0 where
  pub step : EnclosesStep s x.problem (exact_step m at.period at.step before)
  pub variables : LiesBetween (length x.problem) n (variable_heads (exact_step m at.period at.step before) X) (lower_at x.bounds) (upper_at x.bounds)
  pub heads : LiesWithin m x.heads n X

pub member_move : StepEncloses → (limits : Limits) (d : Decks) (s : ℕ) (at : TimeStep) (old : List Bound) (kind : PairKind) (x : Solved) → IsBefore d at old →
    IsStepBy limits d s at old kind x → (m : FlowModel) → IsMember d m → (before : ℕ → Fraction) (n : ℕ) (X : ℕ → ℤ) → HeadsEnclose m old before → 0 < n →
    SolvesAt m at before n X → MemberMove m s at x before n X
member_move encloses limits d s at old kind x b step m member before n X olds some solves =
    let cells = member_cells d m member in
    let few = (time_of d.first at b.decks.first b.time).step.1 in
    let move = encloses limits d s at old kind x b step (own_choice m at) (choice_by d.first d.second m at b.decks.first few member) before n X
    (record { within = encloses_first d.first m cells old before olds; some = some; solves = solves_by d.first d.second m at before n X member solves }) in
    let same = own_step m at.period at.step (start_head m) before in
    let S : List ExactCell → Type 0 = EnclosesStep s x.problem in
    let V : List ExactCell → Type 0 = λ e. LiesBetween (length x.problem) n (variable_heads e X) (lower_at x.bounds) (upper_at x.bounds) in
    record { step = subst S same move.step; variables = subst V same move.variables; heads = lies_in_member d.first m cells x.heads n X move.heads }
