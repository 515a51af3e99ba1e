-- Names that several proofs of this crate cite, of the crates below and of its own definitions, passed on from one place. Declares nothing.
pub use Rattle.std.proofs.Common.{All, Bool, Err, FitsSigned, Global, IsTrue, List, Ok, Result, Vec, [], add-one, ap, append_assoc, arith, below_more, false, get_or, get_or-set_same, inl, inr, length}
pub use Rattle.std.proofs.Common.{length-append, pos, refl, rules, slice_index_or, slice_set, subst, suc, sym, true, vec_len, zero, ℕ, ℤ, ◌%◌, ◌*◌, ◌++◌, ◌+◌, ◌<ℤ◌, ◌<◌, ◌↔◌, ◌∙◌, ◌∷◌, ◌≡◌, ◌≤ℤ◌, ◌≤◌}
pub use Rattle.std.proofs.Common.{◌⊎◌}
pub use Rattle.std.proofs.{Math.ListN.get_or-append, lemmas.Bool.cases_eq, lemmas.Bool.false≢true, lemmas.Bool.or_parts, lemmas.Int.by_lt_z, lemmas.Int.ints, lemmas.Int.to_z-of_z}
pub use Rattle.std.proofs.{lemmas.List.get_or_at, lemmas.List.set-get_or}
pub use Rattle.std.specs.Int.{w64}
pub use Rattle.std.specs.Prelude.{IfOk, MatchOption, None, Option, Some, is_some, not, ◌&&◌, ◌||◌}
pub use Rattle.cell_relax.proofs.Sides.{heads_in_range, is_side, tighter_first, tighter_second}
pub use Rattle.cell_relax.specs.{AreNoLooser, AreWords, IsAsTight, Moves, head_of, heads_on}
pub use Rattle.head_table.proofs.WordReads.{no_looser_trans, tight_refl}
pub use Rattle.head_table.specs.{AreNoTighterThanSettled, HasMoved, HasTighter, IsSeatOf, ShowsSeen, barrier_of, seen_of, seen_on, declared.table.HeadSeat.HeadSeat, declared.table.HeadTable.HeadTable}
pub use Rattle.relax_core.proofs.Keeping.{way_on}
pub use Rattle.relax_core.specs.{OnTheWay, edge_on}
pub use Rattle.settle_driver.specs.{AddsPhases, AddsTurns, AddsViews, AreBothSettled, ArePastBarrier, EnclosesPair, HasLeft, HasSeen, HasWorked, IsFirstSide, IsHeadFrom, IsPastCell, IsRelaxedCell}
pub use Rattle.settle_driver.specs.{StayOnTheWay, had_memory}
pub use Rattle.step_problem.proofs.Sides.{CoversRounds, IsSide, as_tight_refl, as_tight_trans, covers_more, covers_none, edge_kept, first_settled, passes_more, past_covers, rounds_settle, turn_passes}
pub use Rattle.step_problem.specs.{AreHeads, AreOnTheWay, AreSettled, AsTight, CanMove, Edges, Gives, HaveLeft, IsBarrier, IsFirstOpen, IsFirstSettled, IsGiven, IsHead, IsOnTheWay, IsPast, IsProblem}
pub use Rattle.step_problem.specs.{IsRaise, IsRelaxed, IsSink, IsUnfinished, OpenHeads, PairKind, RoundsSettle, RoundsSettleBoth, head_at, lower_at, no_bound, upper_at, Entries.Entries}
pub use Rattle.step_problem.specs.{declared.heads.Bound.Bound, declared.heads.Side.Side, declared.heads.Side.TheVariants.High, declared.heads.Side.TheVariants.Low}
