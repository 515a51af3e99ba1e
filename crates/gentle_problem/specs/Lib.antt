pub mod Problems
pub use Rattle.gentle_problem.specs.Problems.{ArePairsAt, HasPairAt, ProblemsEnclose, ProblemsFit, branches_at}
