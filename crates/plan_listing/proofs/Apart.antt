-- The first line of a plan's listing tells which listing it is.
use Rattle.plan_listing.proofs.Common.{◌≡◌, inl, inr, ℕ, Bool, true, false, List, [], refl, ap, drop, get_or, arith, FlowModel, IsListing, IsWritable, Line, first_line, first_line_before}
use Rattle.plan_listing.proofs.Common.{listings_were_written, not_without, one_deck_apart, same_first, ListedPlanStep, PlanListingsAreApart, PlanListingsAreNoListings, plan_first_line}
use Rattle.listing_io.specs.declared.listing.ListedStep.{ListedStep}
use Rattle.plan_listing.proofs.Steps.{plan_listings_were_written}
unfoldable use Rattle.outside.specs.{lines}
unfoldable use Rattle.listing_io.specs.{listing}
unfoldable use Rattle.plan_listing.specs.{plan_listing_lines}

-- after their title the first lines differ by the word TO
first_apart : (m n : FlowModel) (s t : ℕ) → IsWritable n t → plan_first_line true m s ≡ plan_first_line false n t → ⊥
first_apart m n s t good e = not_without [] m s _ (ap (drop 10) e) (one_deck_apart [] tt n t good)

apart : (m n : FlowModel) (s t : ℕ) (steps more : List ListedPlanStep) (rows : List Line) → IsWritable n t →
    rows ≡ plan_listing_lines true m s steps → rows ≡ plan_listing_lines false n t more → ⊥
unfolding plan_listing_lines
apart m n s t steps more rows good e f = first_apart m n s t good (same_first _ _ _ _ rows e f)

pub plan_listings_are_apart : PlanListingsAreApart
plan_listings_are_apart m n s t pairs others text steps more good h k =
    apart m n s t steps more (lines text) good (plan_listings_were_written true m s pairs text steps h) (plan_listings_were_written false n t others text more k)

-- a title begins with D, and one of heads with H
starts : (between : Bool) (m : FlowModel) (s : ℕ) → get_or (plan_first_line between m s) 0 0 ≡ 68
starts true m s = refl
starts false m s = refl

heads_start : (spanned : Bool) (n : FlowModel) (t : ℕ) → get_or (first_line spanned n t) 0 0 ≡ 72
heads_start true n t = refl
heads_start false n t = refl

other_letter : (a b : List ℕ) → get_or a 0 0 ≡ 68 → get_or b 0 0 ≡ 72 → a ≡ b → ⊥
other_letter a b h k e = let same : get_or a 0 0 ≡ get_or b 0 0 = ap (λ (t : List ℕ). get_or t 0 0) e in absurd (omega arith)

no_listing : (between spanned : Bool) (m n : FlowModel) (s t : ℕ) (steps : List ListedPlanStep) (listed : List ListedStep) (rows : List Line) →
    rows ≡ plan_listing_lines between m s steps → IsListing spanned n t listed rows → ⊥
unfolding plan_listing_lines listing
no_listing between spanned m n s t steps listed rows e (inl f) = other_letter _ _ (starts between m s) (heads_start spanned n t) (same_first _ _ _ _ rows e f)
no_listing between spanned m n s t steps listed rows e (inr (is, f)) = other_letter _ _ (starts between m s) refl (same_first _ first_line_before _ _ rows e f)

pub plan_listings_are_no_listings : PlanListingsAreNoListings
plan_listings_are_no_listings between spanned m n s t pairs others text steps listed h k =
    no_listing between spanned m n s t steps listed (lines text) (plan_listings_were_written between m s pairs text steps h) (listings_were_written spanned n t others text listed k)
