-- Names that several proofs of this crate cite, of the crates below and of its own definitions, passed on from one place. Declares nothing.
pub use Rattle.std.proofs.Common.{ap, arith, codes, refl, subst, suc, sym, zero, ℕ, ◌*◌, ◌++◌, ◌+◌, ◌∙◌, ◌≡◌}
pub use Rattle.model_maker.specs.{Text, gap, hk_row, hk_text, ibound_row, next_state, reach_text}
unfoldable pub use Rattle.model_maker.specs.{after, texts_below}
