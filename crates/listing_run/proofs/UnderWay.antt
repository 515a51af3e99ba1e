-- The steps so far, from one to the next, and the end of a listing after them.
use Rattle.listing_run.proofs.Common.{◌≡◌, ◌∙◌, ◌<◌, ℕ, List, [], ◌∷◌, ◌++◌, Bool, ap, arith, drop, get_or, length, refl, subst, sym, Bound, Entries, Edges, TimeStep, times, AreStartHeadsFor, Text}
use Rattle.listing_run.proofs.Common.{ListingEnd, Task, Step, AllSteps, EndsAt, FirstSteps, IsStep, StepsThen, EnclosesStarts, BoundsMoves, EnclosesHistories, first_pieces, listing, IsListing}
use Rattle.listing_run.proofs.Common.{IsCutListing, last_line, status_of, Steps, IsAtFirst, IsNext, IsNextText, IsWalk, times_left}
use Rattle.listing_run.proofs.HistoriesBound.{AllBoundMoves, histories_bound}
use Rattle.listing_run.specs.declared.text.ListingEnd.TheVariants as ends

module _ (k : Task) where
  -- these heads and times are left
  abbrev pub AreLeft : List Bound → List TimeStep → List Bound → List TimeStep → Type 0
  AreLeft old rest heads times = (heads ≡ old) × (times ≡ rest)

  -- each of these steps bounds every move from the heads of the step before
  abbrev pub AllMove : List Bound → List TimeStep → List Step → Type 0
  AllMove = AllBoundMoves k k.decks.first k.decks.second

  -- the steps so far, and the moves that they bound
  pub record IsSolved (old : List Bound) (rest : List TimeStep) (values : List Step) : Type 0 where
    pub steps : FirstSteps k (AreLeft old rest) values
    pub starts : EnclosesStarts k.decks steps.start
    pub moves : AllMove steps.start (times k.decks.first) values

  pub solved_at_first : (start : List Bound) → AreStartHeadsFor k.decks start → EnclosesStarts k.decks start → IsSolved start (times k.decks.first) []
  solved_at_first start is encloses = record { steps = record { start = start; is_start = is; steps = (refl, refl) }; starts = encloses; moves = tt }

  -- one step more
  step_then : (old : List Bound) (at : TimeStep) (rest : List TimeStep) (v : Step) (heads : List Bound) → IsStep k at old v → heads ≡ v.heads →
      (start : List Bound) (all : List TimeStep) (values : List Step) →
      StepsThen k (AreLeft old (at ∷ rest)) start all values → StepsThen k (AreLeft heads rest) start all (values ++ (v ∷ []))
  step_then old at rest v heads is same start all [] (here, left) =
      let P : List TimeStep → Type 0 = λ ts. StepsThen k (AreLeft heads rest) start ts (v ∷ []) in
      let Q : List Bound → Type 0 = λ hs. IsStep k at hs v × AreLeft heads rest v.heads rest in
      subst P (sym left) (subst Q (sym here) (is, (sym same, refl)))
  step_then old at rest v heads is same start (t ∷ all) (w ∷ values) (x, h) = (x, step_then old at rest v heads is same w.heads all values h)
  step_then old at rest v heads is same start [] (w ∷ values) h = absurd h

  moves_then : (old : List Bound) (at : TimeStep) (rest : List TimeStep) (v : Step) → v.at ≡ at → BoundsMoves k at old v → (start : List Bound) (all : List TimeStep) (values : List Step) →
      StepsThen k (AreLeft old (at ∷ rest)) start all values → AllMove start all values → AllMove start all (values ++ (v ∷ []))
  moves_then old at rest v time moves start all [] (here, left) done =
      let P : List TimeStep → Type 0 = λ ts. AllMove start ts (v ∷ []) in
      let Q : List Bound → Type 0 = λ hs. AllMove hs (at ∷ rest) (v ∷ []) in
      subst P (sym left) (subst Q (sym here) (time, moves, tt))
  moves_then old at rest v time moves start (t ∷ all) (w ∷ values) (x, h) (when, m, done) = (when, m, moves_then old at rest v time moves w.heads all values h done)
  moves_then old at rest v time moves start [] (w ∷ values) h done = absurd h

  pub solved_more : (old : List Bound) (at : TimeStep) (rest : List TimeStep) (values : List Step) (v : Step) (heads : List Bound) →
      IsSolved old (at ∷ rest) values → IsStep k at old v → heads ≡ v.heads → BoundsMoves k at old v → IsSolved heads rest (values ++ (v ∷ []))
  solved_more old at rest values v heads s is same moves = record {
    steps = record { start = s.steps.start; is_start = s.steps.is_start; steps = step_then old at rest v heads is same s.steps.start (times k.decks.first) values s.steps.steps };
    starts = s.starts;
    moves = moves_then old at rest v is.time moves s.steps.start (times k.decks.first) values s.steps.steps s.moves;
  }

  -- what holds of the heads and times that are left
  then_also : (P Q : List Bound → List TimeStep → Type 0) → ((heads : List Bound) (times : List TimeStep) → P heads times → Q heads times) →
      (old : List Bound) (rest : List TimeStep) (values : List Step) → StepsThen k P old rest values → StepsThen k Q old rest values
  then_also P Q takes old rest [] h = takes old rest h
  then_also P Q takes old (at ∷ rest) (v ∷ values) (is, h) = (is, then_also P Q takes v.heads rest values h)
  then_also P Q takes old [] (v ∷ values) h = absurd h

  steps_end : (Q : List Bound → List TimeStep → Type 0) (old : List Bound) (rest : List TimeStep) (values : List Step) → IsSolved old rest values → Q old rest → FirstSteps k Q values
  steps_end Q old rest values s h =
      let takes = λ (heads : List Bound) (times : List TimeStep) (left : AreLeft old rest heads times).
      let P : List Bound → Type 0 = λ hs. Q hs times in
      let R : List TimeStep → Type 0 = λ ts. Q old ts in
      subst P (sym left.0) (subst R (sym left.1) h) in
      record { start = s.steps.start; is_start = s.steps.is_start; steps = then_also (AreLeft old rest) Q takes s.steps.start (times k.decks.first) values s.steps.steps }

  pub solved_steps_are_all : (old : List Bound) (rest : List TimeStep) (values : List Step) (last : ListingEnd) → IsSolved old rest values → EndsAt k last old rest → AllSteps k values last
  solved_steps_are_all old rest values last = steps_end (EndsAt k last) old rest values

  pub cut_listing : (old : List Bound) (rest : List TimeStep) (values : List Step) → IsSolved old rest values → IsCutListing k (first_pieces k values)
  cut_listing old rest values s = record { values = values; steps = steps_end (λ heads times. Unit {0}) old rest values s tt; are = refl }

  -- no time is left after as many steps as there are times
  as_many : (old start : List Bound) (all : List TimeStep) (values : List Step) → StepsThen k (AreLeft old []) start all values → length all ≡ length values
  as_many old start all [] (here, left) = ap length left
  as_many old start (t ∷ all) (w ∷ values) (x, h) = let e = as_many old w.heads all values h in omega (arith, e)
  as_many old start [] (w ∷ values) h = absurd h

  all_enclosed : (old : List Bound) (values : List Step) → IsSolved old [] values → EnclosesHistories k values
  all_enclosed old values s =
      histories_bound k k.decks.first k.decks.second s.steps.start values (as_many old s.steps.start (times k.decks.first) values s.steps.steps) s.moves s.starts

  whole_encloses : (old : List Bound) (rest : List TimeStep) (values : List Step) → IsSolved old rest values → EndsAt k ends.Whole old rest → EnclosesHistories k values
  whole_encloses old [] values s h = all_enclosed old values s
  whole_encloses old (at ∷ rest) values s h = absurd h

  pub encloses_if_whole : (old : List Bound) (rest : List TimeStep) (values : List Step) (last : ListingEnd) → IsSolved old rest values →
      EndsAt k last old rest → last ≡ ends.Whole → EnclosesHistories k values
  encloses_if_whole old rest values last s h whole = let P : ListingEnd → Type 0 = λ e. EndsAt k e old rest in whole_encloses old rest values s (subst P whole h)

  pub is_listing : (old : List Bound) (rest : List TimeStep) (values : List Step) (last : ListingEnd) → IsSolved old rest values → EndsAt k last old rest →
      IsListing k (status_of last) (listing k values (last_line k.decks.first.grid last))
  is_listing old rest values last s h = record {
    last = last;
    status = refl;
    values = values;
    steps = solved_steps_are_all old rest values last s h;
    encloses =
        encloses_if_whole old rest values last s h;
    are = refl;
  }

-- one time is at the front
pub first_same : (a b : TimeStep) (ss ts : List TimeStep) → a ∷ ss ≡ b ∷ ts → a ≡ b
first_same a b ss ts e = ap (λ (l : List TimeStep). get_or l 0 a) e

-- each step leaves one time less
pub fewer_left : {S : Type 0} {leads : S → List Entries → Edges → Bool → S → Type 0} {k : Task} {s t : Steps} {before after : S} {text : Text} →
    IsNextText leads k s t before after text → length (times_left t) < length (times_left s)
fewer_left n = let left = ap (λ (ts : List TimeStep). length ts) n.next.time in omega (arith, left)

module _ (k : Task) where
  pub all_left : (s : Steps) → IsWalk k s → IsAtFirst k s → times_left s ≡ times k.decks.first
  all_left s w f = ap (λ (n : ℕ). drop n s.times) f.done ∙ w.times

  pub none_solved : (s : Steps) → IsWalk k s → IsAtFirst k s → IsSolved k s.heads (times_left s) []
  none_solved s w f =
      let P : List TimeStep → Type 0 = λ ts. IsSolved k s.heads ts [] in
      subst P (sym (all_left s w f)) (solved_at_first k s.heads f.start f.encloses)

  pub one_more_solved : {S : Type 0} (leads : S → List Entries → Edges → Bool → S → Type 0) (s t : Steps) (before after : S) (v : Step) (values : List Step) →
      IsSolved k s.heads (times_left s) values → IsNext leads k s t before after v → IsSolved k t.heads (times_left t) (values ++ (v ∷ []))
  one_more_solved leads s t before after v values so n =
      let P : List TimeStep → Type 0 = λ ts. IsSolved k s.heads ts values in
      solved_more k s.heads n.at (times_left t) values v t.heads (subst P n.time so) n.is n.heads n.encloses
