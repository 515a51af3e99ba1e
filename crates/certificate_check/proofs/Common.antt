-- Names that several proofs of this crate cite, of the crates below and of its own definitions, passed on from one place. Declares nothing.
pub use Rattle.std.proofs.Common.{List, arith, below_more, inl, inr, length, neg_ℤ, pos, subst, ℕ, ℤ, ◌*ℤ◌, ◌<ℤ◌, ◌<◌, ◌^◌, ◌≤ℤ◌}
pub use Rattle.cell_balance.proofs.Encloses.{bounds_enclose, certified_bounds_enclose}
pub use Rattle.certificate_check.specs.{CertificateEncloses, CertificateExcludesRefusal, ClampedPairEncloses, FailsOnlyWhereCut, HoldsAt, RangeRefusalIsOne, SettledPairEncloses}
pub use Rattle.step_problem.proofs.BothSettle.{pair_certifies}
pub use Rattle.step_problem.specs.{Edges, IsCertificate, IsProblem, head_at, head_limit, lower_at, upper_at, declared.heads.Side.TheVariants.High, declared.heads.Side.TheVariants.Low}
