-- Names that several proofs of this crate cite, of the crates below and of its own definitions, passed on from one place. Declares nothing.
pub use Rattle.std.proofs.Common.{All, Bool, FitsSigned, Global, IsTrue, List, Vec, [], ap, arith, get_or, get_or-set_other, get_or-set_same, length, length-set, map, refl, rules, set, subst, sym}
pub use Rattle.std.proofs.Common.{w64, ℕ, ℤ, ◌<◌, ◌↔◌, ◌∙◌, ◌∷◌, ◌≡◌}
pub use Rattle.std.proofs.{lemmas.Int.to_z-of_z, lemmas.List.get_or-map, lemmas.List.get_or_default, lemmas.List.length-map, lemmas.List.map-set, lemmas.List.Elements.All-get_or}
pub use Rattle.std.proofs.{lemmas.List.Elements.All-map, lemmas.List.Elements.All-set, lemmas.List.Elements.All-weaker}
pub use Rattle.cell_relax.proofs.Sides.{each_side, heads_in_range, is_side, tighter_first, tighter_head, tighter_is_one, tighter_second}
pub use Rattle.cell_relax.specs.{AreNoLooser, AreWords, IsAsTight, IsRelaxedOn, head_of, heads_on, other, tighter_of}
pub use Rattle.relax_core.specs.{Becomes, Core, IsInRange, IsKept, IsNamed, KeepsHeads, OnTheWay, Path, Relaxes, Step, WasSeen, WereSeen, edge_on, seen_by, with_head, declared.events.Event.Event}
pub use Rattle.relax_core.specs.{declared.events.Event.TheVariants.Claim, declared.events.Event.TheVariants.Raise, declared.events.Event.TheVariants.See, declared.events.Event.TheVariants.Sink}
pub use Rattle.step_problem.proofs.Sides.{IsSide, relaxed_head, same_on_the_way}
pub use Rattle.step_problem.proofs.SidesTurns.{by_cell, exchange_is_as_tight, own_turn_keeps_seen, same_seen, still_seen, turn_keeps}
pub use Rattle.step_problem.specs.{AreOnTheWay, Edges, IsExchange, IsHead, IsProblem, lower_at, no_bound, upper_at, Entries.Entries, declared.heads.Bound.Bound, declared.heads.Side.Side}
pub use Rattle.step_problem.specs.{declared.heads.Side.TheVariants.High, declared.heads.Side.TheVariants.Low}
