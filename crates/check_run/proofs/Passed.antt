-- Steps that passed the check in turn: they bound every move of their decks, and the decks have one history each.
use Rattle.check_run.proofs.Common.{Limits, Contains, ℕ, List, [], ◌∷◌, Option, map, refl, Bound, TimeStep, FlowModel, times, Fraction, AreGridHeads, HeadsEnclose, ListedStep, BoundsMoves, Passes}
use Rattle.check_run.proofs.Common.{checked_task, step_of, steps_of, Decks, AreDecks, IsStartOf, AllBoundMoves, HaveOneBy, lies_encloses}
use Rattle.exact_histories.proofs.{OneTurn.Lands, Turns.AreTurns, HaveOne.have_one_by}

module _ (limits : Limits) (ds : Decks) (s : ℕ) (zones : Option (List ℕ)) where
  -- a step of a time of the decks, which passed from heads in range, and bounds every move
  pub record IsPassed (at : TimeStep) (old : List Bound) (w : ListedStep) : Type 0 where
    pub time : Contains (times ds.first) at
    pub grid : AreGridHeads ds.first old
    pub passes : Passes limits ds s zones at old w
    pub moves : BoundsMoves (checked_task ds s zones) at old (step_of at w)

  -- these steps, each from the heads of the one before
  abbrev pub ArePassed : List Bound → List TimeStep → List ListedStep → Type 0
  ArePassed old [] [] = Unit {0}
  ArePassed old [] (w ∷ steps) = ⊥
  ArePassed old (at ∷ rest) [] = ⊥
  ArePassed old (at ∷ rest) (w ∷ steps) = IsPassed at old w × ArePassed w.heads rest steps

  pub all_move : (old : List Bound) (rest : List TimeStep) (steps : List ListedStep) → ArePassed old rest steps →
      AllBoundMoves (checked_task ds s zones) ds.first ds.second old rest (steps_of rest steps)
  all_move old [] [] h = tt
  all_move old [] (w ∷ steps) h = absurd h
  all_move old (at ∷ rest) [] h = absurd h
  all_move old (at ∷ rest) (w ∷ steps) (p, h) = (refl, p.moves, all_move w.heads rest steps h)

-- Each step that passed is a turn.
module _ (limits : Limits) (ds : Decks) (s : ℕ) (zones : Option (List ℕ)) (valid : AreDecks ds) where
  abbrev heads_at : ListedStep → List Bound
  heads_at w = w.heads

  -- a solution of a step that bounds them all lies within its heads
  lands : (at : TimeStep) (old : List Bound) (w : ListedStep) → IsPassed limits ds s zones at old w → Lands limits ds s at old w.heads
  lands at old w p x chosen before d X olds some solves =
      let bound = p.moves x chosen before d X (record { within = olds; some = some; solves = solves }) in
      lies_encloses ds.first w.heads d X some bound.heads

  turns_of : (old : List Bound) (rest : List TimeStep) (steps : List ListedStep) → ArePassed limits ds s zones old rest steps → AreTurns limits ds s old rest (map heads_at steps)
  turns_of old [] [] h = tt
  turns_of old [] (w ∷ steps) h = absurd h
  turns_of old (at ∷ rest) [] h = absurd h
  turns_of old (at ∷ rest) (w ∷ steps) (p, h) = (
    record { start = record { decks = valid; time = p.time; heads = p.grid }; problem = p.passes.problem; barrier = p.passes.barrier; posed = p.passes.terms.heads.posed; lands = lands at old w p },
    turns_of w.heads rest steps h,
  )

pub have_one : (limits : Limits) (a : FlowModel) (o : Option FlowModel) (s : ℕ) (zones : Option (List ℕ)) → AreDecks (record { first = a; second = o }) → (start : List Bound) (all : List ListedStep) →
    ((f : ℕ → Fraction) → IsStartOf a o f → HeadsEnclose a start f) → ArePassed limits (record { first = a; second = o }) s zones start (times a) all → HaveOneBy a o
have_one limits a o s zones valid start all starts h =
    have_one_by limits a o s start (map (heads_at limits (record { first = a; second = o }) s zones valid) all) starts
    (turns_of limits (record { first = a; second = o }) s zones valid start (times a) all h)
