pub mod Decks
pub mod Steps
pub mod Walks
pub mod Listings
pub mod Laws
pub mod Weathers
pub use Rattle.plan_run.specs.Decks.{IsPlannedBy, decks_planned, planned_in, second_planned}
pub use Rattle.plan_run.specs.Laws.{BoundPairs, BoundsPairStep, EnclosesPairs, IsDefinedEnd, ListsMore, PlanListingIsOne, PlanListingsEnclose}
pub use Rattle.plan_run.specs.Listings.{IsCutPlanListing, IsPlanListing, first_pieces, last_line, plan_listing, status_of}
pub use Rattle.plan_run.specs.Steps.{AllListedSteps, FirstSteps, HasRefusal, IsListedStep, ListingEndsAt, StepsThen, flows_of, heads_listed, listed_of}
pub use Rattle.plan_run.specs.Walks.{HasNoFlowsBy, IsNextText, IsStepText, ListingStopsAt, text_of}
pub use Rattle.plan_run.specs.Weathers.{EnclosesWeathers, HistoriesGiveWeathers, IsWeatherOf, SolveSteps, SolveWeather, Weather, WeathersHaveOne}
