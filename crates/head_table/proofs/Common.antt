-- Names that several proofs of this crate cite, of the crates below and of its own definitions, passed on from one place. Declares nothing.
pub use Rattle.std.proofs.Common.{Err, IfOk, List, Ok, Result, [], ap, arith, get_or, get_or-set_other, get_or-set_same, length, length-append, length-set, pos, refl, rules, set, subst, suc, sym}
pub use Rattle.std.proofs.Common.{true, vec_len, zero, ℕ, ℤ, ⊎_elim, ◌*◌, ◌++◌, ◌+◌, ◌<◌, ◌∙◌, ◌∷◌, ◌≡◌, ◌≢◌, ◌⊎◌}
pub use Rattle.std.proofs.lemmas.Int.{clamps, ints, to_z-of_z}
pub use Rattle.std.specs.Mem.Slots.{slots_items}
pub use mathlib.Core.Option.{none, some, some-injective, some-ne-none}
pub use Rattle.atomic_table.proofs.Lists.{at_set, at_snoc, set_again, set_else}
pub use Rattle.atomic_table.specs.Table.{Allows, Final, Joins, Me, Seen, Splits, State, keeps, opening, step, stepped}
pub use Rattle.cell_relax.proofs.Sides.{each_side, is_side, tighter_first, tighter_head, tighter_is_one, tighter_second}
pub use Rattle.cell_relax.specs.{AreNoLooser, IsAsTight, IsRelaxedOn, head_of, heads_on, other, tighter_of}
pub use Rattle.head_table.specs.{IsKnown, IsNoTighterThanSettled, IsSeatOf, IsSound, IsTableKept, SameOn, SameOnBut, SeesHead, barrier_of, claim_play, exchange_play, head_of_word, join_views}
pub use Rattle.head_table.specs.{load_play, seen_of, seen_on, spent_view, starting, tighter_word, tightest, word_of, words_on, declared.known.Known.Known}
pub use Rattle.relax_core.proofs.Keeping.{other_seen, seen_else, seen_here, seen_length, way_on}
pub use Rattle.relax_core.specs.{OnTheWay, WereSeen, edge_on, with_head}
pub use Rattle.step_problem.proofs.Sides.{relaxed_head, same_on_the_way}
pub use Rattle.step_problem.proofs.SidesTurns.{exchange_is_as_tight, own_turn_keeps_seen, same_seen, seen_itself, still_seen, turn_keeps}
pub use Rattle.step_problem.specs.{AreOnTheWay, Edges, IsExchange, IsHead, IsProblem, head_at, lower_at, no_bound, upper_at, Entries.Entries, declared.heads.Bound.Bound, declared.heads.Side.Side}
pub use Rattle.step_problem.specs.{declared.heads.Side.TheVariants.High, declared.heads.Side.TheVariants.Low}
pub use lib.ListN.{get_elem?}
pub use mir.Syntax.{w64}
pub use mir.Val.{SFits, of_z, to_z}
