pub mod Order
pub mod Steps
pub mod Choices
pub mod Models
pub mod Alike
pub mod Shared
pub mod Cells
pub mod Laws
pub use Rattle.deck_span.specs.Alike.{AreAlike, AreEntriesAlike, AreGivenAlike, ArePeriodsAlike, AreRatesAlike}
pub use Rattle.deck_span.specs.Cells.{DifferenceIsOne, IsCell, IsCellIn, IsFirstDifference, IsHeadCell, IsPeriodCell, SharedPackagesAreAlike, SharesCounts}
pub use Rattle.deck_span.specs.Cells.{SharesLengths, SharesOptions, SharesSizes, SharesWidths, bottoms, properties}
pub use Rattle.deck_span.specs.Choices.{AreChoices, Choice, IsChoiceBetween, SolvesChoiceAt, SolvesChoices, SolvesChoicesFrom, fixed_from, head_from, step_from}
pub use Rattle.deck_span.specs.Laws.{AlikeLieBetween, BetweenAreAlike, HullsEnclose, IsGivenAtMost, ModelsGiveChoices, ModelsSolveChoices}
pub use Rattle.deck_span.specs.Laws.{OrderedHeadsLieBetween, StepsLieBetween, own_choice}
pub use Rattle.deck_span.specs.Models.{IsBetween, IsDecBetween, IsEntryBetween, IsGivenBetween, IsPeriodBetween, IsRateBetween, IsSizeBetween, frame}
pub use Rattle.deck_span.specs.Models.{period_frame}
pub use Rattle.deck_span.specs.Models.IsEntryBetween.{drains, generals, rivers, wells}
pub use Rattle.deck_span.specs.Order.{AreArraysSame, AreSame, Finds, InOrder, IsArrayCell, IsFirst, IsFirstOfLayers, IsFound, IsLayerCell, IsListCell, apart}
pub use Rattle.deck_span.specs.Order.{array_at, cell_in_grid, earlier}
pub use Rattle.deck_span.specs.Shared.{Shares, SharesBounds, SharesEvaporation, SharesGrid, SharesHead, SharesIn, SharesProperties, SharesTimes}
pub use Rattle.deck_span.specs.Shared.{comparing_order}
pub use Rattle.deck_span.specs.Steps.{AllThree, IsCellBetween, IsDrainBetween, IsEvapBetween, IsFixedBetween, IsFlowBetween, IsFractionBetween, IsRatioBetween}
pub use Rattle.deck_span.specs.Steps.{IsRiverBetween, IsStepBetween, LiesBetween}
pub use Rattle.deck_span.specs.Steps.AllThree.{next, none}
