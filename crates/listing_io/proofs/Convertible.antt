-- The listing of a model with convertible layers is read as it is written, and no other listing is read as one.
use Rattle.listing_io.proofs.Common.{◌≡◌, ℕ, ◌≤◌, Bool, true, false, List, [], ◌∷◌, ◌++◌, codes, Ok, refl, ap, ◌∙◌, arith, inl, inr, AllByRecursion, for_each, lines, next_number, FlowModel, times}
use Rattle.listing_io.proofs.Common.{ZonePair, ListedStep, AreListed, AreZonePairs, IsListing, IsWritable, Left, Line, all_lines, all_step_lines, digits_line, end_line, first_line, first_line_before}
use Rattle.listing_io.proofs.Common.{listing, step_at, text_at, ConvertibleListingsAreApart, ConvertibleListingsAreReadAgain, ConvertibleListingsWereWritten, convertible_first_line}
use Rattle.listing_io.proofs.{Exactly.Without, Exactly.Without-append, Exactly.by_test, Exactly.title_without, Terms.left_of, Readers.text_again, Readers.text_row, Rows.whole_was}
use Rattle.listing_io.proofs.{Steps.listings_were_written, Steps.steps_read, Feeds.NoFeed, Feeds.all_appended, Feeds.first_without, Feeds.lines_of, Feeds.steps_without, Walks.rest_without}
use Rattle.listing_io.proofs.{Walks.same_first}
unfoldable use Rattle.listing_io.specs.{convertible_listing, convertible_listing_at}

rows_again : (m : FlowModel) (s : ℕ) (pairs : ℕ → List ZonePair) (steps : List ListedStep) → s ≤ 18 → AreListed m pairs steps →
    convertible_listing_at m s pairs (left_of (convertible_listing m s steps) 1) ≡ Ok steps
unfolding convertible_listing_at convertible_listing
rows_again m s pairs steps few h =
    let (k, read) = (steps_read m s pairs).again few steps (end_line ∷ []) (next_number 1) h.steps in
    rw (text_again (convertible_first_line m s) (all_step_lines m s (times m) steps ++ (end_line ∷ [])) 1, read, text_again end_line [] k) refl

listing_was : (m : FlowModel) (s : ℕ) (pairs : ℕ → List ZonePair) (left : Left) (steps : List ListedStep) → convertible_listing_at m s pairs left ≡ Ok steps →
    AreListed m pairs steps × (left.lines ≡ convertible_listing m s steps)
unfolding convertible_listing_at convertible_listing
listing_was m s pairs left steps h =
    let was = whole_was (text_at (convertible_first_line m s) left) (for_each (step_at m s pairs) (times m)) steps h in
    let (are, rows) = (steps_read m s pairs).was was.after (steps, was.last) was.read_is in (
      record { steps = are },
      text_row (convertible_first_line m s) left was.after was.started
          ∙ ap (λ (t : List Line). convertible_first_line m s ∷ t) (rows ∙ ap (λ (t : List Line). all_step_lines m s (times m) steps ++ t) was.end),
    )

pub listed_is : (m : FlowModel) (s : ℕ) (pairs : ℕ → List ZonePair) (left : Left) (steps : List ListedStep) → convertible_listing_at m s pairs left ≡ Ok steps → AreListed m pairs steps
listed_is m s pairs left steps h = (listing_was m s pairs left steps h).0

pub convertible_listings_were_written : ConvertibleListingsWereWritten
convertible_listings_were_written m s pairs text steps h = (listing_was m s pairs (all_lines text) steps h).1

listing_without : (m : FlowModel) (s : ℕ) (pairs : ℕ → List ZonePair) (steps : List ListedStep) → IsWritable m s → AreZonePairs pairs → AreListed m pairs steps →
    AllByRecursion NoFeed (convertible_listing m s steps)
unfolding convertible_listing
listing_without m s pairs steps good are h = (
  Without-append 10 (first_line false m s) (codes " CONVERTIBLE") (first_without (codes "HEADS 2") (by_test 10 (codes "HEADS 2") refl) false m s good) (by_test 10 (codes " CONVERTIBLE") refl),
  all_appended NoFeed (all_step_lines m s (times m) steps) (end_line ∷ []) (steps_without m s pairs steps good are h.steps) (by_test 10 end_line refl, tt),
)

pub convertible_listings_are_read_again : ConvertibleListingsAreReadAgain
convertible_listings_are_read_again m s pairs steps good are h = grind (arith, left_of, lines_of, listing_without, rows_again)

-- The first line has the letter V, of CONVERTIBLE, which no other first line has.
digits_apart : (n : FlowModel) (t : ℕ) → IsWritable n t → Without 86 (digits_line (codes "HEADS 2") n t)
digits_apart n t good = title_without 86 (inr (omega arith)) refl (codes "HEADS 2") (by_test 86 (codes "HEADS 2") refl) n t good (by_test 86 (codes " DIGITS") refl) (by_test 86 (codes " UNIT ") refl)

others_without : (between : Bool) (n : FlowModel) (t : ℕ) → IsWritable n t → Without 86 (first_line between n t)
others_without false n t good = digits_apart n t good
others_without true n t good = Without-append 86 (digits_line (codes "HEADS 2") n t) (codes " TO") (digits_apart n t good) (by_test 86 (codes " TO") refl)

has_letter : (m : FlowModel) (s : ℕ) (row : Line) → convertible_first_line m s ≡ row → Without 86 row → ⊥
has_letter m s row e h = grind (arith, rest_without, codes)

apart : (between : Bool) (m n : FlowModel) (s t : ℕ) (steps more : List ListedStep) (rows : List Line) → IsWritable n t → rows ≡ convertible_listing m s steps →
    IsListing between n t more rows → ⊥
unfolding convertible_listing listing
apart between m n s t steps more rows good e (inl f) = has_letter m s _ (same_first _ _ _ _ rows e f) (others_without between n t good)
apart between m n s t steps more rows good e (inr (is, f)) = has_letter m s _ (same_first _ _ _ _ rows e f) (by_test 86 first_line_before refl)

pub convertible_listings_are_apart : ConvertibleListingsAreApart
convertible_listings_are_apart between m n s t pairs others text steps more good h k =
    apart between m n s t steps more (lines text) good (convertible_listings_were_written m s pairs text steps h) (listings_were_written between n t others text more k)
