pub mod Ends
pub mod Numbers
pub use Rattle.batch_book.specs.Ends.{AreJobEnds, AreOwn, HasEnd, IsBook, IsGathered, IsMissing, IsPut, end_at, first_of, those_there}
pub use Rattle.batch_book.specs.Numbers.{AreOnce, numbers_from, weigh}
