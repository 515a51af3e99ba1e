pub mod Tasks
pub mod Settlers
pub mod Listing
pub mod Ends
pub use Rattle.listing_run.specs.Ends.{AreTablesOf, IsAtFirst, IsNext, IsNextText, IsStopEnd, IsTask, IsWalk, ListingExcludesRefusal, ListingIsOne}
pub use Rattle.listing_run.specs.Ends.{RefusalIsOne, SettledListingIsClosed, StopsAt, WideKeepsListings, stop_of, times_left, with_heads}
pub use Rattle.listing_run.specs.Listing.{BoundAll, BoundChoices, Bounds, BoundsMoves, BoundsMovesOf, EnclosesHistories, HistoriesBound, IsCutListing}
pub use Rattle.listing_run.specs.Listing.{IsListing, IsListingBeside, IsPushed, first_pieces, is_between, last_line, left, listed, listing, status_of, text_of}
pub use Rattle.listing_run.specs.Listing.{time}
pub use Rattle.listing_run.specs.Settlers.{AllSettle, AllSteps, EnclosesSolutions, EndsAt, FirstSteps, HasNoBound, IsSettledBy, IsSolved, IsStep, PairEncloses}
pub use Rattle.listing_run.specs.Settlers.{Reaches, ReachesFirst, RestsOrSettles, RestsOrSettlesFirst, Steps, StepsThen, begun, budget_at, no_budget, no_heads}
pub use Rattle.listing_run.specs.Settlers.{no_zones, rests, settled}
pub use Rattle.listing_run.specs.Tasks.{AreFlowsAt, AreFlowsOf, FlowsEnclose, HasLargeFlow, HasLargeFlowOf, NoFlowsBy, deck_task, faces_of, flows_or_large}
pub use Rattle.listing_run.specs.Tasks.{one_task, pairs_of}
