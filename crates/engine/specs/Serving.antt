-- How a program ends that runs its words and ends with the number of the run's status.
use Rattle.std.specs.Prelude.{◌≡◌, ◌⊎◌, ℕ, Bool, List, Option, Some, true, false, [], ◌∷◌, ◌++◌, None, option_to_list}
use Rattle.std.specs.Io.KnownBytes.{Appends}
use Rattle.outside.specs.{FileSet, Rose}
use Rattle.run_puts.specs.{Text, code_of, declared.puts.Status.Status}
use Rattle.run_puts.specs.declared.puts.Status.TheVariants as status
use Rattle.engine.specs.{Certified.Certified, DeckListing.DeckHeadline, DeckListing.DeckSpanHeadline, DeckListing.OneDeckListing, DeckListing.OneDeckSpan}
use Rattle.engine.specs.{ConvertibleCertified.ConvertibleCertified, ConvertibleCertified.ConvertibleVerdict, Decks.OneDeck, Headline.Headline, Made.Made}
use Rattle.engine.specs.{OneListing.OneListing, OneListing.OneSummary, OneListing.OneVerdict, PlanCertified.PlanCertified, PlanCertified.PlanVerdict}
use Rattle.engine.specs.{PlanHeadline.OnePlan, PlanHeadline.PlanHeadline, SpanHeadline.OneSpan, SpanHeadline.SpanCertified, SpanHeadline.SpanHeadline}
use Rattle.engine.specs.{SpanHeadline.SpanVerdict, TextCertified.OneTextVerdict, TextCertified.TextCertified, Parts.IsStopped, Runs.EndsOk, Runs.EndIsDefined}
use Rattle.engine.specs.{Runs.Puts, Uses.FolderUse, Uses.HasFailed, Uses.SinkUse, Uses.failed_write, Watched.SidePuts, Watched.Watched, Watched.views_in}
use Rattle.engine.specs.{Words.words_text, Batched.Batched, Batched.HasNoList, Cases.case_of}
use Rattle.command_line.specs.{AskedBatch, Batch, Check, CheckConvertible, CheckPlan, CheckText, ListingOrder, Make, Plan, Run, Wanted, Words, Write}
use Rattle.command_line.specs.{order_of_words}
use Rattle.model_types.specs.{most_bytes, declared.limits.Limits.Limits, declared.limits.Limits.TheVariants.Plain}

-- The files that the words name, and how many bytes of one are read.
-- the name file of a run, the second one if there is one, and its zone file if there is one; the same of a plan, and its wells; the same of a
-- check, and its listing, also of one with convertible layers; the same of a check of a plan, and its wells and its listing; the list of a
-- batch; the name file of a deck; the text that is checked; none to make a model, and to say the words
abbrev pub files_of : Wanted → List Text
files_of (Run asked to) = asked.name ∷ (option_to_list to ++ option_to_list asked.zones)
files_of (Plan asked to) = asked.name ∷ (option_to_list to ++ (option_to_list asked.zones ++ asked.wells ∷ []))
files_of (Check asked to) = asked.name ∷ (option_to_list to ++ (option_to_list asked.zones ++ asked.listing ∷ []))
files_of (CheckPlan asked wells to) =
    asked.name ∷ (option_to_list to ++ (option_to_list asked.zones ++ (wells ∷ (asked.listing ∷ []))))
files_of (CheckConvertible asked) = asked.name ∷ (option_to_list asked.zones ++ asked.listing ∷ [])
files_of (Make seed size) = []
files_of (Batch asked) = asked.list ∷ []
files_of (Write limits name) = name ∷ []
files_of (CheckText asked) = asked.text ∷ []
files_of Words = []

abbrev pub files_if : Option Wanted → List Text
files_if None = []
files_if (Some wanted) = files_of wanted

-- what the words name, if they are accepted
abbrev pub files_named : List Text → List Text
files_named words = files_if (order_of_words words)

-- the limits that are asked for
abbrev pub limits_asked : Option Wanted → Limits
limits_asked (Some (Run asked to)) = asked.limits
limits_asked (Some (Plan asked to)) = asked.limits
limits_asked (Some (Check asked to)) = asked.limits
limits_asked (Some (CheckPlan asked wells to)) = asked.limits
limits_asked (Some (CheckConvertible asked)) = asked.limits
limits_asked (Some (Batch asked)) = asked.limits
limits_asked (Some (Write limits name)) = limits
limits_asked (Some (CheckText asked)) = asked.limits
limits_asked other = Plain

-- how many bytes of a file are read
abbrev pub bytes_asked : List Text → ℕ
bytes_asked words = most_bytes (limits_asked (order_of_words words))

-- The headline of a run; of one with --deck, which has put the text of the deck first; and the same of two decks.
abbrev pub RunHeadline : (deck : Bool) → ListingOrder → FileSet → (old new : Option (List ℕ)) → Type 0
RunHeadline false asked files old new = Headline asked files old new
RunHeadline true asked files old new = DeckHeadline asked files old new

abbrev pub RunSpanHeadline : (deck : Bool) → ListingOrder → Text → FileSet → (old new : Option (List ℕ)) → Type 0
RunSpanHeadline false asked to files old new = SpanHeadline asked to files old new
RunSpanHeadline true asked to files old new = DeckSpanHeadline asked to files old new

-- The headline of an order: of a listing, or of one of two decks; of a plan; of a check, or of one of two decks, of a plan, of convertible
-- layers, or of a text; of a made model, whose listing is summed up; of each listing of a batch; of a deck; or of the words.
abbrev pub HeadlineOf : Option Wanted → FileSet → Status → (old new : Option (List ℕ)) → Type 0
HeadlineOf None files end old new = ⊥
HeadlineOf (Some (Run asked None)) files end old new = RunHeadline asked.deck asked files old new
HeadlineOf (Some (Run asked (Some to))) files end old new = RunSpanHeadline asked.deck asked to files old new
HeadlineOf (Some (Plan asked to)) files end old new = PlanHeadline asked to files old new
HeadlineOf (Some (Check asked None)) files end old new = Certified asked files old new
HeadlineOf (Some (Check asked (Some to))) files end old new = SpanCertified asked to files old new
HeadlineOf (Some (CheckPlan asked wells to)) files end old new = PlanCertified asked wells to files old new
HeadlineOf (Some (CheckConvertible asked)) files end old new = ConvertibleCertified asked files old new
HeadlineOf (Some (Make seed size)) files end old new = Made seed size old new
HeadlineOf (Some (Batch asked)) files end old new = Batched asked files end old new
HeadlineOf (Some (Write limits name)) files end old new = OneDeck limits name files old new
HeadlineOf (Some (CheckText asked)) files end old new = TextCertified asked files old new
HeadlineOf (Some Words) files end old new = Appends old new words_text

-- what is so of a listing alone, and of one after the text of its decks
abbrev pub ByDeck : (deck : Bool) → (alone after_deck : Type 0) → Type 0
ByDeck false alone after_deck = alone
ByDeck true alone after_deck = after_deck

-- And what was put is the one listing that the files define, or with --quick one by certificates; or each step of the one that was
-- checked is certified; or what was put sums it up, is the one deck, or is the words.
abbrev pub OneOf : Option Wanted → FileSet → Status → (old new : Option (List ℕ)) → Type 0
OneOf None files end old new = ⊥
OneOf (Some (Run asked None)) files end old new = ByDeck asked.deck (OneListing asked files old new) (OneDeckListing asked files old new)
OneOf (Some (Run asked (Some to))) files end old new = ByDeck asked.deck (OneSpan asked to files old new) (OneDeckSpan asked to files old new)
OneOf (Some (Plan asked to)) files end old new = OnePlan asked to files old new
OneOf (Some (Check asked None)) files end old new = OneVerdict asked files old new
OneOf (Some (Check asked (Some to))) files end old new = SpanVerdict asked to files old new
OneOf (Some (CheckPlan asked wells to)) files end old new = PlanVerdict asked wells to files old new
OneOf (Some (CheckConvertible asked)) files end old new = ConvertibleVerdict asked files old new
OneOf (Some (Make seed size)) files end old new = OneSummary seed size old new
OneOf (Some (Batch asked)) files end old new = Batched asked files end old new
OneOf (Some (Write limits name)) files end old new = OneDeck limits name files old new
OneOf (Some (CheckText asked)) files end old new = OneTextVerdict asked files old new
OneOf (Some Words) files end old new = Appends old new words_text

-- What a run of this order has come to, by what it did with its folder, its side sink and its output.
pub record IsRunResult (order : Option Wanted) (folder : FolderUse) (beside out : SinkUse) (end : Status) : Type 0 where
  -- What is put to `out`, for every status, with the status' cause.
  pub puts : (files : FileSet) → folder.agrees files → Puts folder beside out order files end
  -- What is put to `side`, for every status: nothing without `--watch`, else the views of the first steps, in turn, up to the
  -- first put that failed. If the run ends Ok, they are the views of all steps.
  pub side : (files : FileSet) → folder.agrees files → SidePuts beside.leads (case_of order files) (views_in order)
  pub watched : end ≡ status.Ok → (n : ℕ) → views_in order ≡ Some n → (files : FileSet) → folder.agrees files →
      Watched true (case_of order files) n beside.leads
  -- Some files agree with all that the folder has answered.
  pub told : (files : FileSet) × folder.agrees files
  -- The headline, and that the listing is the one that the files define.
  pub headline : end ≡ status.Ok → (files : FileSet) → folder.agrees files → HeadlineOf order files end out.old.written out.new.written
  pub one : end ≡ status.Ok → (files : FileSet) → folder.agrees files → OneOf order files end out.old.written out.new.written
  -- A batch that didn't stop has put the text of each job, whatever the jobs' statuses, or its list is refused.
  pub batch : (IsStopped end → ⊥) → (asked : AskedBatch) → order ≡ Some (Batch asked) → (files : FileSet) → folder.agrees files →
      HasNoList asked files end ⊎ Batched asked files end out.old.written out.new.written
  -- These statuses have a count as their cause.
  pub read_fault : end ≡ status.ReadFault → Rose folder.before folder.after
  pub write_fault : end ≡ status.WriteFault → failed_write out ⊎ failed_write beside
  -- The end that the words and files define is the end of the run, if nothing outside failed.
  pub decided : (files : FileSet) → folder.agrees files → EndIsDefined (HasFailed folder beside out) order files end
  pub complete : (files : FileSet) → folder.agrees files → EndsOk (HasFailed folder beside out) order files end

-- the numbers of a run that stopped: since a read failed, a write failed, or memory ran out
abbrev pub IsStopNumber : ℕ → Type 0
IsStopNumber number = (number ≡ 5) ⊎ ((number ≡ 6) ⊎ (number ≡ 7))

-- A program that ends with this number: it is that of its run's status; and where it is 0, the headline holds of files that agree
-- with the folder, of which there are some, and the listing is the one that they define. As many bytes of a file are read as the
-- limits say that the words ask for. A batch with any number but 5, 6 and 7 has its list refused, or has put the text of each of its models.
pub record IsProgramEnd (words : List Text) (folder : FolderUse) (beside out : SinkUse) (number : ℕ) : Type 0 where
  pub end : Status
  pub number_is : number ≡ code_of end
  pub run : IsRunResult (order_of_words words) folder beside out end
  pub limit : (files : FileSet) → folder.agrees files → files.limit ≡ bytes_asked words
  pub headline : number ≡ 0 → (files : FileSet) → folder.agrees files → HeadlineOf (order_of_words words) files end out.old.written out.new.written
  pub one : number ≡ 0 → (files : FileSet) → folder.agrees files → OneOf (order_of_words words) files end out.old.written out.new.written
  pub batch : (IsStopNumber number → ⊥) → (asked : AskedBatch) → order_of_words words ≡ Some (Batch asked) → (files : FileSet) →
      folder.agrees files → HasNoList asked files end ⊎ Batched asked files end out.old.written out.new.written
