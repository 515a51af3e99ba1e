pub mod Signs
pub use Rattle.gentle_check.specs.Signs.{BalancesEnclose, HaveSide, SignsAreShown, one_head, whole_balance}
