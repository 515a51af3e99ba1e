-- Names that several proofs of this crate cite, of the crates below and of its own definitions, passed on from one place. Declares nothing.
pub use Rattle.std.proofs.Common.{All, FitsSigned, List, [], ap, arith, get_or, inl, inr, length, pos, refl, rules, slice_set, subst, sym, take, ℕ, ℤ, ◌++◌, ◌+◌, ◌-ℤ◌, ◌<ℤ◌, ◌<◌, ◌∙◌, ◌∷◌, ◌≡◌, ◌≤ℤ◌}
pub use Rattle.std.proofs.Common.{◌⊎◌}
pub use Rattle.std.proofs.lemmas.Int.{by_lt_z, clamps, ints, to_z-of_z}
pub use Rattle.std.specs.Int.{w128, w64}
pub use Rattle.cell_relax.specs.{AreWords, IsAsTight, IsRelaxedOn, LetsMove, Moves, RelaxedKeepOrder, heads_on, other, tighter_of, turned_on}
pub use Rattle.step_problem.proofs.{BothSides.high_side, BothSides.le_trans, BothSides.low_side, Falls.balance_falls, Falls.balance_rises}
pub use Rattle.step_problem.specs.{IsHead, IsProblem, balance, ends_in, entries_at, link_at, no_link, Entries.Entries, declared.heads.Side.Side, declared.heads.Side.TheVariants.High}
pub use Rattle.step_problem.specs.{declared.heads.Side.TheVariants.Low}
