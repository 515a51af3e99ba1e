-- A pair of either kind is a certificate, and what a settler gives is a pair of its kind.
use Rattle.step_problem.proofs.Common.{Result, Ok, Err, Entries, IsProblem, Edges, IsBarrier, lower_at, upper_at, inl, inr, PairKind, AreCertified, AreSettled, IsGiven, IsPairOf, Gives, settled}
use Rattle.step_problem.proofs.Common.{certified}
use Rattle.std.specs.Prelude.{ℕ, List}
use Rattle.std.specs.{declared.vec.Vec.Vec, declared.alloc.Global.Global}
use Rattle.step_problem.specs.{declared.heads.Bound.Bound, declared.heads.SettleFault.SettleFault, declared.heads.SettleFault.TheVariants.Unfinished, declared.heads.SettleFault.TheVariants.Memory}
use Rattle.step_problem.proofs.BothSettle.{pair_certifies}

-- the settled pair is a pair of either kind
pub settled_is : (kind : PairKind) (p : List Entries) (b : Edges) (bounds : List Bound) → IsProblem p → IsBarrier p b → AreSettled p b bounds → IsPairOf p kind b bounds
settled_is settled p b bounds problem barrier h = h
settled_is certified p b bounds problem barrier h = record {
  whole = h.whole;
  low = h.pair.low.heads;
  high = h.pair.high.heads;
  certificate = pair_certifies p b (lower_at bounds) (upper_at bounds) problem barrier h.pair;
}

module _ (p : List Entries) (b : Edges) (problem : IsProblem p) (barrier : IsBarrier p b) where
  pub either_certifies : (kind : PairKind) (bounds : List Bound) → IsPairOf p kind b bounds → AreCertified p b bounds
  either_certifies settled bounds h = settled_is certified p b bounds problem barrier h
  either_certifies certified bounds h = h

  -- what a settler gives is a pair of its kind
  pub given_is : (kind : PairKind) (bounds : List Bound) → IsGiven p kind b bounds → IsPairOf p kind b bounds
  given_is settled bounds h = h
  given_is certified bounds (inl h) = settled_is certified p b bounds problem barrier h
  given_is certified bounds (inr h) = h.certified

  -- so what gives pairs of either kind gives certificates
  given_certifies : (kind : PairKind) (bounds : List Bound) → IsGiven p kind b bounds → IsGiven p certified b bounds
  given_certifies settled bounds h = inl h
  given_certifies certified bounds h = h

  pub either_gives : (kind : PairKind) (rounds : ℕ) (r : Result (Vec Bound Global) SettleFault) → Gives p kind b rounds r → Gives p certified b rounds r
  either_gives kind rounds (Ok bounds) h = given_certifies kind bounds.items h
  either_gives kind rounds (Err (Unfinished o)) h = h
  either_gives kind rounds (Err Memory) h = h
