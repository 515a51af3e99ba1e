mod Common
pub mod ProblemsAlike
pub mod OneProblem
pub mod Enclosing
pub mod Hulled
pub mod Counted
pub mod Starting
pub mod HullFor
