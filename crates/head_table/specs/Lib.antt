pub mod Rule
pub mod Seats
pub use Rattle.head_table.specs.Rule.{AreNoTighterThanSettled, HasMoved, IsKnown, IsNoTighterThanSettled, IsSound, IsTableKept, SeesHead, claim_play}
pub use Rattle.head_table.specs.Rule.{exchange_play, head_of_word, join_views, load_play, spent_view, starting, tighter_word, tightest, word_of, words_on}
pub use Rattle.head_table.specs.Seats.{HasTighter, IsSeatOf, SameOn, SameOnBut, ShowsSeen, barrier_of, seen_of, seen_on}
