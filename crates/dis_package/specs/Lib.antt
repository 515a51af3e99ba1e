pub mod Frames
pub mod Grids
pub mod Forms
pub use Rattle.dis_package.specs.Forms.{IsBegun, IsDiscretized, IsFrame, IsGridWithin, IsNewPeriod, IsOfBeds, IsSize, IsTime, without_stresses}
pub use Rattle.dis_package.specs.Frames.{inside, is_growth, is_time, kind_of, kind_or_refusal, model_of_grid, period_of}
unfoldable pub use Rattle.dis_package.specs.Frames.{beds_of, count_at, dis_of, frame_of, head_of, period_at, periods_of, size_at, time_of}
unfoldable pub use Rattle.dis_package.specs.Grids.{bottom_at, bottoms_of, grid_of, widths}
