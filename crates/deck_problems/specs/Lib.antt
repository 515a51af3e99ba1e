pub mod Kept
pub mod Laws
pub use Rattle.deck_problems.specs.Kept.{AreConstantHeadsFor, AreDeckTables, AreDecks, AreHullBounds, AreRunTables, AreStartHeadsFor, AreStartHulls}
pub use Rattle.deck_problems.specs.Kept.{AreStartsBy, AreTablesOf, EachChoice, EnclosesChoice, EnclosesChoices, EnclosesStarts, EnclosesSteps, HasCellsOf}
pub use Rattle.deck_problems.specs.Kept.{HasConstantHeadFor, IsChoiceOf, IsConstantHull, IsConstantPairFor, IsHullBound, IsHullRefusal, IsMember}
pub use Rattle.deck_problems.specs.Kept.{IsModelProblem, IsOf, IsOwnChoice, IsPairOf, IsSecond, IsStartOf, digits_of, one_deck}
pub use Rattle.deck_problems.specs.Laws.{ConstantPairEncloses, ConstantPairFits, ConstantPairIsOne, HasNoProblemFor, IsBefore, IsFaultFor, IsProblemBy}
pub use Rattle.deck_problems.specs.Laws.{IsProblemFor, ProblemEncloses, ProblemFits, ProblemsAreAlike, StartHeadsAreOne, StartHeadsEnclose, StartHeadsFit}
pub use Rattle.deck_problems.specs.Laws.{hull_or_refusal, problem_by}
