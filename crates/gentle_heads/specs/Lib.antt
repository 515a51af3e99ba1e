pub mod Tests
pub use Rattle.gentle_heads.specs.Tests.{AllBetweenAreGentle, AreGentleBetween, FallsAlong, FallsFrom, FallsThrough, IsFirstSteep, IsGentleAt, IsOverBottom}
pub use Rattle.gentle_heads.specs.Tests.{lower_head, upper_head}
