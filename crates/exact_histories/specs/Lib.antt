pub mod Histories
pub use Rattle.exact_histories.specs.Histories.{AreSame, AreSameHeads, ChoicesHaveOne, ChoicesHaveOneHistory, HasHistory, HasOneHistory, HaveOneBy}
pub use Rattle.exact_histories.specs.Histories.{HaveOneHistory, ModelsAreChosen, RunsHaveAHistory, RunsHaveOneHistory}
