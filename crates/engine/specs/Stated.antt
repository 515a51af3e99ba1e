-- What is promised over the text of a deck: how files are read has no part in it.
use Rattle.std.specs.Prelude.{◌≡◌, ◌≤◌, ℕ, ℤ, false, [], All, List, length, map, ◌++◌, None, Ok, Option, Some}
use Rattle.std.specs.{List.concat, Io.KnownBytes.Appends}
use Rattle.command_line.specs.{ListingOrder}
use Rattle.outside.specs.{FileSet, with_limit}
use Rattle.model_types.specs.{declared.model.FlowModel.FlowModel, declared.limits.Limits.Limits, start_head, times, most_bytes, IsModel}
use Rattle.model_reader.specs.{reads}
use Rattle.array_text.specs.{IsShort}
use Rattle.model_text.specs.{deck_name, deck_files, zoned_text}
use Rattle.flow_equations.specs.{Solves}
use Rattle.deck_problems.specs.{one_deck}
use Rattle.decimal_input.specs.{Fraction}
use Rattle.deck_span.specs.{AreChoices, Choice, SolvesChoices}
use Rattle.step_chain.specs.{two}
use Rattle.run_puts.specs.{Text, end_line}
use Rattle.listing_run.specs.{declared.solving.Step.Step, listing, BoundAll, BoundChoices}
use Rattle.check_run.specs.{checked_task}
use Rattle.exact_histories.specs.{HasHistory, AreSame, ChoicesHaveOne}
use Rattle.engine.specs.{Decks.OneDeck, Headline.Headline, Headline.ListsPairs, OneListing.OneListing, SpanHeadline.SpanHeadline}

-- Between the bytes `old` and the bytes `new` stands the text of a deck, with the zones of its cells if there are some, and then a listing of
-- its model; and every history of heads that solves the manual's exact equations of this model lies, step by step and
-- cell by cell, between the listed heads, with each of its budget flows between its terms, and each of its flows between two zones
-- between its two numbers.
pub record Stated (old new : Option (List ℕ)) : Type 0 where
  -- The model is valid.
  pub model : FlowModel
  pub valid : IsModel model
  -- Its deck, with the zones of its cells, and then the listing of some values, which are the heads, the budget and the flows
  -- between zones of each step, was appended, and nothing else.
  pub zones : Option (List ℕ)
  pub digits : ℕ
  pub values : List Step
  pub written : Appends old new (zoned_text model zones ++ concat (listing (checked_task (one_deck model) digits zones) values end_line))
  -- The block of each time step stands under its own line STEP, and lists the flow between each two zones that share a face.
  pub at : map (λ v. v.at) values ≡ times model
  pub pairs : All (ListsPairs model zones) values
  -- Every history over any denominator d that solves the model's exact equations lies between them.
  pub encloses : (d : ℕ) (history : List (ℕ → ℤ)) → Solves model d history →
      BoundAll (checked_task (one_deck model) digits zones) model d (start_head model) values history
  -- And there is one: a history solves them, and any two are the same heads at all active cells, step by step.
  pub solvable : HasHistory model
  pub one : (d e : ℕ) (history other : List (ℕ → ℤ)) → Solves model d history → Solves model e other → AreSame model d e history other

-- The same of the texts of two decks, and then a listing of all that lies between them: every history of heads each step of which solves
-- the manual's exact equations with numbers that lie between those of the two decks, chosen anew at each step, lies within it.
pub record SpanStated (old new : Option (List ℕ)) : Type 0 where
  -- The models are valid.
  pub first : FlowModel
  pub valid : IsModel first
  pub second : FlowModel
  pub valid_to : IsModel second
  -- Both decks, each with the zones of its cells, and then the listing of some values, which are the heads, the budget and the
  -- flows between zones of each step, were appended, and nothing else.
  pub zones : Option (List ℕ)
  pub digits : ℕ
  pub values : List Step
  pub written : Appends old new (zoned_text first zones ++
      (zoned_text second zones ++ concat (listing (checked_task (two first second) digits zones) values end_line)))
  -- The block of each time step stands under its own line STEP, and lists the flow between each two zones that share a face.
  pub at : map (λ v. v.at) values ≡ times first
  pub pairs : All (ListsPairs first zones) values
  -- Every history of choices between the two decks over any denominator d lies between them.
  pub encloses : (start : ℕ → Fraction) (xs : List Choice) → AreChoices first second start xs →
      (d : ℕ) (history : List (ℕ → ℤ)) → SolvesChoices first start xs d history →
      BoundChoices (checked_task (two first second) digits zones) first d start values xs history
  -- And each choice has one: a history solves it, and any two are the same heads at all active cells, step by step.
  pub choices : ChoicesHaveOne first second

-- Laws.
-- Where `heads write` has put the deck of some files, and then `heads run`, without a zone file, a listing of the same files by the same limits,
-- what they put is so, as if `heads run --deck` had put it.
abbrev pub DeckAndListingAreStated : Type 0
DeckAndListingAreStated =
    (asked : ListingOrder) (files : FileSet) (old mid new : Option (List ℕ)) → OneDeck asked.limits asked.name files old mid →
    (h : Headline asked files mid new) → h.zones ≡ None → Stated old new

-- So it is where both decks were put, and then a listing of the two.
abbrev pub DecksAndListingAreStated : Type 0
DecksAndListingAreStated =
    (asked : ListingOrder) (to : Text) (files : FileSet) (old mid last new : Option (List ℕ)) → OneDeck asked.limits asked.name files old mid →
    OneDeck asked.limits to files mid last → (h : SpanHeadline asked to files last new) → h.zones ≡ None → SpanStated old new

-- Two runs without --quick, by the same limits, digits and rounds, whose files read as the same model with the same zones, put the same bytes.
abbrev pub SameModelHasSameListing : Type 0
SameModelHasSameListing =
    (asked : ListingOrder) (name : Text) (zones : Option Text) (files others : FileSet) (bytes anew : List ℕ) → asked.quick ≡ false →
    (h : OneListing asked files (Some []) (Some bytes)) → (o : OneListing (record asked { name = name; zones = zones }) others (Some []) (Some anew)) →
    o.headline.model ≡ h.headline.model → o.headline.zones ≡ h.headline.zones → anew ≡ bytes

-- A run of a deck that `heads write` has put has the bytes of the run of the files that it was written from, without a zone file,
-- where each IBOUND has at most 18 digits and no file of the deck is too long.
abbrev pub DeckHasSameListing : Type 0
DeckHasSameListing =
    (asked : ListingOrder) (files : FileSet) (bytes anew : List ℕ) → asked.quick ≡ false → asked.zones ≡ None →
    (h : OneListing asked files (Some []) (Some bytes)) → All IsShort h.headline.model.ibound →
    All (λ f. length f.bytes ≤ most_bytes asked.limits) (deck_files h.headline.model) →
    OneListing (record asked { name = deck_name }) (with_limit (most_bytes asked.limits) (deck_files h.headline.model)) (Some []) (Some anew) → anew ≡ bytes

-- Two models that were read, whose decks have the same files, are the same model, where each IBOUND has at most 18 digits and no file is too long.
abbrev pub SameDeckHasSameModel : Type 0
SameDeckHasSameModel =
    (limits : Limits) (files others : FileSet) (name other : Text) (a b : FlowModel) → reads limits files name ≡ Ok a → reads limits others other ≡ Ok b →
    All IsShort a.ibound → All IsShort b.ibound → All (λ f. length f.bytes ≤ most_bytes limits) (deck_files a) → deck_files a ≡ deck_files b → a ≡ b
