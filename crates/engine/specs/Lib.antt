pub mod Headline
pub mod SpanHeadline
pub mod PlanHeadline
pub mod PlanCertified
pub mod ConvertibleCertified
pub mod Words
pub mod TextCertified
pub mod DeckListing
pub mod TwoDecks
pub mod Certified
pub mod Cases
pub mod Made
pub mod OneListing
pub mod Checked
pub mod PlanChecked
pub mod ConvertibleChecked
pub mod Decks
pub mod Commands
pub mod Defined
pub mod Watched
pub mod Runs
pub mod Storage
pub mod Parts
pub mod Written
pub mod TextWritten
pub mod Stated
pub mod Serving
pub mod Batched
pub mod BatchReads
pub mod Uses
pub use Rattle.engine.specs.BatchReads.{AreTasks, HasNames, IsBatchRead, NeverRefused}
pub use Rattle.engine.specs.Batched.{HasEnded, HasNoList, IsJobListing}
pub use Rattle.engine.specs.Cases.{After, Case, Checking, Comparing, ConvertibleChecking, IsListingOf, IsOrder, Jobs, Listing, Making, NoWords, PlanChecking}
pub use Rattle.engine.specs.Cases.{Planning, ReadsNothing, Refuses, Saying, WorkersChangeNoCase, Writing, after_text, as_plan, but_batch, case_decks}
pub use Rattle.engine.specs.Cases.{case_listed, case_named, case_of, case_parts, case_read, case_rest, convertible_listing_read, convertible_steps_read}
pub use Rattle.engine.specs.Cases.{decks_task, decks_text, job_of, job_task, jobs_read, listing_read, made_model, names_read, parts_read, plan_steps_read}
pub use Rattle.engine.specs.Cases.{planned_task, read_by_name, second_text, span_task_of, steps_read, task_of, to_convertible_check, to_plan_check, wells_read}
pub use Rattle.engine.specs.Cases.{zones_read}
pub use Rattle.engine.specs.Checked.{IsCheck, certified_line, verdict_line, verdict_status}
pub use Rattle.engine.specs.Commands.{MayRead}
pub use Rattle.engine.specs.ConvertibleCertified.{ConvertibleVerdict}
pub use Rattle.engine.specs.ConvertibleChecked.{HasGentleHistories, IsConvertibleCheck, gentle_verdict_line, gentle_verdict_status}
pub use Rattle.engine.specs.DeckListing.{OneDeckListing, OneDeckSpan}
pub use Rattle.engine.specs.Decks.{OneDeck}
pub use Rattle.engine.specs.Defined.{CutOf, Defines, Due, IsDue, IsJobEnd, IsRunText, IsSaid, JobDefines, ReadsFolder, broken_off, defined, model_line, unread}
pub use Rattle.engine.specs.Headline.{ListsPairs}
pub use Rattle.engine.specs.Made.{IsMade, made_task, summed_text}
pub use Rattle.engine.specs.OneListing.{AreItsSteps, OneSummary, OneVerdict}
pub use Rattle.engine.specs.Parts.{Answers, AnswersBeside, AreDecksAs, AreDecksOf, ArePlanParts, IsAsked, IsFaultOf, IsFirstIf, IsFirstPut, IsListed}
pub use Rattle.engine.specs.Parts.{IsNoSecond, IsPlanRead, IsReadingEnd, IsRefusedBy, IsStopped, IsTaskRead, IsValid, IsValidJob, Serves, ServesAlone}
pub use Rattle.engine.specs.Parts.{made_fault, second_by}
pub use Rattle.engine.specs.PlanCertified.{PlanVerdict}
pub use Rattle.engine.specs.PlanChecked.{IsPlanCheck, place_of_plan, plan_verdict_line, plan_verdict_status}
pub use Rattle.engine.specs.PlanHeadline.{AreReadAs, OnePlan, plan_task}
pub use Rattle.engine.specs.Runs.{EndIsDefined, EndsOk, GoesThrough, GoesWell, IsPlain, IsRunOf, PlanGoesThrough}
pub use Rattle.engine.specs.Serving.{ByDeck, HeadlineOf, IsProgramEnd, IsRunResult, IsStopNumber, OneOf, RunHeadline, RunSpanHeadline, bytes_asked, files_if}
pub use Rattle.engine.specs.Serving.{files_named, files_of, limits_asked}
pub use Rattle.engine.specs.SpanHeadline.{ArePairOf, OneSpan, SpanVerdict}
pub use Rattle.engine.specs.Stated.{DeckAndListingAreStated, DeckHasSameListing, DecksAndListingAreStated, SameDeckHasSameModel, SameModelHasSameListing}
pub use Rattle.engine.specs.Stated.{SpanStated}
pub use Rattle.engine.specs.Storage.{StorageHolds}
pub use Rattle.engine.specs.TextCertified.{AreText, OneTextVerdict}
pub use Rattle.engine.specs.TextWritten.{ChecksText, IsReadableText, OneSpanTextIsCertified, OneTextIsCertified}
pub use Rattle.engine.specs.TwoDecks.{IsDecksRefusal, Second, not_alike, of_both, of_first, of_second}
unfoldable pub use Rattle.engine.specs.TwoDecks.{second_in}
pub use Rattle.engine.specs.Uses.{FolderUse, SinkUse, failed_write, folder_use, sink_use}
pub use Rattle.engine.specs.Watched.{ArePutInTurn, AreViews, AreWatched, IsView, IsWatched, Shows, SidePuts, ViewsPut, lines_of, views_in}
pub use Rattle.engine.specs.Words.{words_text}
pub use Rattle.engine.specs.Written.{ChecksWritten, OneListingIsCertified, OneSpanIsCertified, WrittenIsCertified}
