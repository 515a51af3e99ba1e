-- Names that several proofs of this crate cite, of the crates below and of its own definitions, passed on from one place. Declares nothing.
pub use Rattle.std.proofs.Common.{All, Bool, Contains, IfSome, List, None, Option, Some, [], ap, arith, cond, drop, false, get_or, if◌then◌else◌, inl, inr, length, map, nat_le, refl, rules, subst}
pub use Rattle.std.proofs.Common.{suc, sym, take, take-append-drop, take-take, take_all, true, zero, ℕ, ◌&&◌, ◌++◌, ◌+◌, ◌-◌, ◌<◌, ◌==◌, ◌∙◌, ◌∷◌, ◌≡◌, ◌≤◌}
pub use Rattle.std.proofs.{KnownBytes.Appends-trans, lemmas.List.drop-take, lemmas.List.length-replicate, lemmas.List.take_rest, lemmas.List.Elements.All-map}
pub use Rattle.std.proofs.{lemmas.List.Elements.Contains-append_right, lemmas.List.Elements.Contains-get_or}
pub use Rattle.std.specs.{Io.KnownBytes.Appends, Io.KnownBytes.Consumes, Io.KnownBytes.Keeps, Str.IsUtf8, Str.bytes_eq}
pub use Rattle.outside.specs.{AgreeWith, AgreesWith, File, FileSet, FoundMay, FoundNames, IsAsFound, IsFound, IsGoodName, IsNameByte, IsNamedBy, IsNoLongerThan, IsOneMore, Put, PutMakes, PutsMake}
pub use Rattle.outside.specs.{Read, ReadState, Seen, bytes_under, folder_name, kept_at, lines, reading_of, the_row, the_type, with_limit, words}
unfoldable pub use Rattle.outside.specs.{is_good_name}
pub use base.Logic.{SProp, ent}
pub use contract.Monad.{Fun}
pub use contract.Running.{tables}
pub use denote.Builtin.{RefOf, SliceRefOf, u8}
pub use denote.Exit.{yes}
pub use denote.Laws.{Is}
pub use denote.Param.{layouts, param}
pub use denote.RattleType.{RattleType, Valss, owns}
pub use denote.Signature.{plain, types_at}
pub use denote.Steps.{nothing, owned}
pub use denote.Struct.Laws.{makes}
pub use denote.Triple.Clauses.{Clauses, Ended, closing}
pub use denote.Triple.Entry.{alive}
pub use denote.Triple.Spec.{Meets, triple_of}
pub use denote.Triple.Table.{entered}
pub use denote.Triple.Walked.{Goes-dropped, Stays, ends_at, says, stay_dropped, walk_Meets, walk_of}
pub use mir.MapTy.{inst_fn}
pub use mir.Syntax.{Args, Fn, a_type}
pub use mir.Val.{Val, vcons, vnil, vptr, vstruct}
pub use prog.Memory.{Memory}
pub use prog.Routine.{Routine}
pub use prog.Wp.{Calls, Loops, Tables, WpFn}
pub use seplogic.Ra.Ura.{Ura}
pub use sound.WpLaws.{WpFn-mono}
pub use types.ByLocal.{alloc_all, free_all, get, look_at, pass_all, sets}
pub use types.Kit.{ !, Goal, Item, Step, done, feq_i, feq_l, fjoin, flt_l, fpack, fsplit, keep, move, prop, qed, raw, regoal, split, step, suffices, ‵, ◌$◌, ◌∵◌, ◌⊛◌}
pub use types.Logic.{Logic}
pub use types.Part.{agg}
pub use types.Run.{and_then, enter, no_more, returns}
