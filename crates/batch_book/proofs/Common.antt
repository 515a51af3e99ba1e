-- Names that several proofs of this crate cite, of the crates below and of its own definitions, passed on from one place. Declares nothing.
pub use Rattle.std.proofs.Common.{All, List, None, Option, [], ap, arith, false, get_or, inl, inr, length, refl, rules, set, subst, suc, sym, true, true≢false, vec_len, zero, ℕ, ◌++◌, ◌+◌, ◌-◌, ◌<◌}
pub use Rattle.std.proofs.Common.{◌∙◌, ◌∷◌, ◌≡◌, ◌≤◌}
pub use Rattle.std.specs.Prelude.{IfSome, Some, is_none, slice_get}
pub use Rattle.batch_book.specs.{AreJobEnds, AreOnce, AreOwn, HasEnd, IsMissing, IsPut, end_at, first_of, numbers_from, those_there, weigh}
pub use Rattle.crossbeam_queue.specs.Passes.{IsPassOf, view}
