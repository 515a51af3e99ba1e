-- The parts of a listing, read in turn.
use Rattle.listing_io.proofs.Common.{◌≡◌, ℕ, [], ◌∷◌, List, Result, Ok, Err, refl, ap, ◌∙◌, subst, FlowModel, TimeStep, times, Fault, BadLine, Memory, Line, end_line, Left, Stops, none_of, over_at}
use Rattle.listing_io.proofs.Common.{text_at, ◌>>=◌}
use Rattle.listing_io.proofs.{Terms.ok_is_not_err, Terms.bind_goes_through, Terms.same_ok, Readers.text_row}

-- a whole listing: its first line, its steps, the line END and no others
abbrev pub whole_at : {X : Type 0} → Result Left ℕ → (Left → Result (List X × Left) ℕ) → Result (List X) ℕ
whole_at first read = do
  after ← first
  steps ← read after
  end ← text_at end_line steps.1
  over ← over_at end
  Ok steps.0

none_over : (n : ℕ) (rows : List Line) (u : Unit {0}) → none_of n rows ≡ Ok u → rows ≡ []
none_over n [] u h = refl
none_over n (row ∷ rows) u h = absurd (ok_is_not_err n u (none_of n (row ∷ rows)) refl h)

-- what was read of a whole listing: its steps, after which only the line END stood
pub record IsWhole {X : Type 0} (first : Result Left ℕ) (read : Left → Result (List X × Left) ℕ) (steps : List X) : Type 0 where
  pub after : Left
  pub started : first ≡ Ok after
  pub last : Left
  pub read_is : read after ≡ Ok (steps, last)
  pub end : last.lines ≡ end_line ∷ []

pub whole_was : {X : Type 0} (first : Result Left ℕ) (read : Left → Result (List X × Left) ℕ) (steps : List X) → whole_at first read ≡ Ok steps → IsWhole first read steps
whole_was {X = X} first read steps h =
    let start = bind_goes_through first _ steps h in
    let all = bind_goes_through (read start.item) _ steps start.then_ in
    let end = bind_goes_through (text_at end_line all.item.1) _ steps all.then_ in
    let over = bind_goes_through (over_at end.item) _ steps end.then_ in
    let P : List X → Type 0 = λ xs. IsWhole first read xs in
    subst P (same_ok all.item.0 steps _ refl over.then_) (record {
      after = start.item;
      started = start.first;
      last = all.item.1;
      read_is = all.first;
      end = text_row end_line all.item.1 end.item end.first ∙ ap (λ (t : List Line). end_line ∷ t) (none_over end.item.number end.item.lines over.item over.first);
    })

module _ {X : Type 0} (first : Result Left ℕ) (read : List TimeStep → Left → Result (List X × Left) ℕ) (m : FlowModel) (after : Left)
    (ts : List TimeStep) (same : ts ≡ times m) (started : first ≡ Ok after) where
  abbrev Reads : Result (List X × Left) ℕ → Type 0
  Reads r = read ts after ≡ r

  abbrev Whole : Result (List X) ℕ
  Whole = whole_at first (read (times m))

  at_times : (r : Result (List X × Left) ℕ) → Reads r → read (times m) after ≡ r
  at_times r h = let P : List TimeStep → Type 0 = λ xs. read xs after ≡ r in subst P same h

  pub steps_stop : (fault : Fault) → Stops fault (read ts after) → Stops fault Whole
  steps_stop (BadLine n) h = rw (started, at_times (Err n) h) refl
  steps_stop Memory h = tt

  module _ (steps : List X) (last : Left) (read_is : Reads (Ok (steps, last))) where
    pub end_stops : (fault : Fault) → Stops fault (text_at end_line last) → Stops fault Whole
    end_stops (BadLine n) h = rw (started, at_times (Ok (steps, last)) read_is, h) refl
    end_stops Memory h = tt

    module _ (over : Left) (end : text_at end_line last ≡ Ok over) where
      pub over_stops : (fault : Fault) → Stops fault (over_at over) → Stops fault Whole
      over_stops (BadLine n) h = rw (started, at_times (Ok (steps, last)) read_is, end, h) refl
      over_stops Memory h = tt

      pub all_read : (u : Unit {0}) → over_at over ≡ Ok u → Whole ≡ Ok steps
      all_read u h = rw (started, at_times (Ok (steps, last)) read_is, end, h) refl
