-- Names that several proofs of this crate cite, of the crates below and of its own definitions, passed on from one place. Declares nothing.
pub use Rattle.std.proofs.Common.{All, FitsSigned, List, [], ap, arith, length, length-set, refl, rules, slice_set, subst, suc, sym, take, zero, ℕ, ℤ, ⊎_elim, ◌%◌, ◌+◌, ◌-◌, ◌<◌, ◌∙◌, ◌∷◌, ◌≡◌}
pub use Rattle.std.proofs.lemmas.Int.{clamps, ints, to_z-of_z}
pub use Rattle.std.specs.Int.{w64}
pub use Rattle.cell_relax.proofs.{Relaxing.ends_in_range, Relaxing.read_more, Sides.is_side, Sides.tighter_second}
pub use Rattle.cell_relax.specs.{AreNoLooser, IsAsTight, IsRelaxedOn, other, tighter_of}
pub use Rattle.head_table.proofs.WordReads.{moves_no_looser, no_looser_trans, same_no_looser}
pub use Rattle.head_table.specs.{HasMoved, IsSeatOf, SameOn, SameOnBut, seen_of, seen_on, declared.table.HeadSeat.HeadSeat}
pub use Rattle.step_problem.specs.{AsTight, IsPast, IsProblem, IsRelaxed, ends_in, link_at, no_link, Entries.Entries, declared.entry.Link.Link, declared.heads.Side.Side}
pub use Rattle.step_problem.specs.{declared.heads.Side.TheVariants.High, declared.heads.Side.TheVariants.Low}
