-- How a check ends, and with which line.
use Rattle.std.specs.Prelude.{◌≡◌, ℕ, List, [], ◌∷◌, codes}
use Rattle.model_types.specs.{declared.grid.Grid.Grid, declared.limits.Limits.Limits}
use Rattle.deck_problems.specs.declared.decks.Decks.{Decks}
use Rattle.listing_io.specs.{no_bound_line, not_certified_line}
use Rattle.run_puts.specs.{Text, declared.puts.Status.Status}
use Rattle.run_puts.specs.declared.puts.Status.TheVariants as status
use Rattle.engine.specs.declared.zoned.ZonedListing.{ZonedListing}
use Rattle.check_run.specs.{declared.verdict.ListingVerdict.ListingVerdict, declared.verdict.ListingVerdict.TheVariants.Certified}
use Rattle.check_run.specs.{declared.verdict.ListingVerdict.TheVariants.Fails, declared.verdict.ListingVerdict.TheVariants.Refused, IsVerdict, ListingEncloses}
use Rattle.exact_histories.specs.{HaveOneHistory}

abbrev pub certified_line : Text
certified_line = codes "CERTIFIED\n"

-- the line of a check with this verdict, and its status
abbrev pub verdict_line : Grid → ListingVerdict → Text
verdict_line g Certified = certified_line
verdict_line g (Fails at place) = not_certified_line g at place
verdict_line g (Refused at n) = no_bound_line g at n

abbrev pub verdict_status : ListingVerdict → Status
verdict_status Certified = status.Ok
verdict_status (Fails at place) = status.NotCertified at.period at.step place
verdict_status (Refused at n) = status.NoBound at.period at.step n

-- The check of this listing by these limits has this end and this line, by its verdict. A listing that is certified encloses every history
-- that solves its model, and there is exactly one; of two decks every history of choices between them, and each choice has
-- exactly one.
pub record IsCheck (limits : Limits) (d : Decks) (s : ℕ) (listing : ZonedListing) (end : Status) (pieces : List Text) : Type 0 where
  pub verdict : ListingVerdict
  pub is : IsVerdict limits d s listing.zones listing.steps verdict
  pub encloses : verdict ≡ Certified → ListingEncloses d s listing.zones listing.steps
  pub history : verdict ≡ Certified → HaveOneHistory d
  pub status : end ≡ verdict_status verdict
  pub are : pieces ≡ verdict_line d.first.grid verdict ∷ []
