-- Names that several proofs of this crate cite, of the crates below and of its own definitions, passed on from one place. Declares nothing.
pub use Rattle.std.proofs.Common.{Contains, FitsSigned, IsTrue, List, [], ap, arith, below_more, drop, get_or, inl, inr, length, min, neg_ℤ, negsuc, of_z, pos, refl, rules, slice_index_or, subst, suc}
pub use Rattle.std.proofs.Common.{sum_by, sym, take, to_z, unsigned_abs, zero, ℕ, ℤ, ⊎_elim, ◌*ℤ◌, ◌*◌, ◌+ℤ◌, ◌+◌, ◌-ℤ◌, ◌-◌, ◌<ℤ◌, ◌<◌, ◌^◌, ◌∙◌, ◌∷◌, ◌≡◌, ◌≤ℤ◌, ◌≤◌, ◌⊎◌}
pub use Rattle.std.proofs.{Math.Nat.mul-le-mul, Math.Nat.mul-le-mul_left, Math.Nat.mul-le-mul_right, lemmas.Bool.cases_eq, lemmas.Bool.cases_lt, lemmas.Int.by_lt_z, lemmas.Int.clamps, lemmas.Int.ints}
pub use Rattle.std.proofs.{lemmas.Int.to_z-of_z, lemmas.Int.to_z_pos, lemmas.List.at_drop_more, lemmas.List.get_or-map, lemmas.List.get_or_default, lemmas.List.Elements.All-head}
pub use Rattle.std.proofs.{lemmas.List.Elements.All-tail, lemmas.List.Elements.All-weaker}
pub use Rattle.std.specs.Int.{int_max, int_min, w128, w64}
pub use Rattle.std.specs.Prelude.{All, Err, Ok, Result}
pub use Rattle.step_problem.specs.{AreCertified, AreHeads, AreSeen, AreSettled, AsTight, CanRise, CanSink, Edges, FallsInOwnHead, Ge, Gives, IsBarrier, IsCertified, IsExchange, IsFirstSettled}
pub use Rattle.step_problem.specs.{IsGiven, IsHead, IsMagnitudeAtMost, IsNoTighterThanSettled, IsOnTheWay, IsPairOf, IsPast, IsProblem, IsRelaxed, IsRound, IsSettled, KeepsOrder, LeavingSettles}
pub use Rattle.step_problem.specs.{LinksFit, LowerShifts, PairKind, RisesInOtherHeads, RiverFits, Rounds, RoundsSettle, SettledPairCertifies, SettledPairExists, SettledPairIsOne, UpperShifts, balance}
pub use Rattle.step_problem.specs.{bound_on, branch_flow, certified, deep_river, drain_flow, ends_in, entries_at, evap_flow, fixed_flow, flow_bound, head_at, head_limit, least, link_at, link_flow}
pub use Rattle.step_problem.specs.{lower_at, most, no_entries, no_link, river_flow, settled, total, upper_at, Entries.Entries, declared.entry.Link.Link, declared.heads.Side.Side}
pub use Rattle.step_problem.specs.{declared.heads.Side.TheVariants.High, declared.heads.Side.TheVariants.Low}
pub use borrow.Author.Differences.{le_out, up}
