-- What is decided by the files: at most one value, or at most one refusal. A problem decides its settled pair.
use Rattle.plan_run.proofs.Common.{List, subst, ◌≡◌, ◌⊎◌, inl, inr, Bound, NoBound, Entries, AreSettled, Edges, IsCertificate, IsProblem, SettledPairIsOne, lower_at, upper_at, Limits}
use Rattle.plan_run.proofs.Common.{BarrierExcludesRefusal, CutBarrierExcludesRefusal, CutBarrierIsOne, CutRefusalIsOne, CertificateExcludesRefusal, IsRangeRefusal, RangeRefusalIsOne, HasNoBarrier}
use Rattle.plan_run.proofs.Common.{IsBarrierBy, IsNoCertificate, edges_by, settled_one}
use Rattle.model_types.specs.declared.limits.Limits.TheVariants.{Plain, Wide}
use Rattle.barrier_vector.specs.{RefusalIsOne as BarrierRefusalIsOne}

-- at most one value is so, at most one refusal, and never both
pub record IsDecided {X : Type 0} (V : X → Type 0) (R : NoBound → Type 0) : Type 0 where
  pub value : (x y : X) → V x → V y → x ≡ y
  pub refusal : (n m : NoBound) → R n → R m → n ≡ m
  pub apart : (x : X) (n : NoBound) → V x → R n → ⊥

-- what is known of the barriers and pairs of problems
pub record PairLaws : Type 0 where
  pub pair_one : SettledPairIsOne
  pub barrier_one : CutBarrierIsOne
  pub plain_excludes : BarrierExcludesRefusal
  pub cut_excludes : CutBarrierExcludesRefusal
  pub plain_refusal : BarrierRefusalIsOne
  pub cut_refusal : CutRefusalIsOne
  pub certificate : CertificateExcludesRefusal
  pub range_one : RangeRefusalIsOne

module _ (limits : Limits) (p : List Entries) where
  -- its settled pair, which is a certificate
  pub record HasPair (bounds : List Bound) : Type 0 where
    pub barrier : Edges
    pub of_problem : IsBarrierBy limits p barrier
    pub pair : AreSettled p (edges_by limits barrier) bounds
    pub certificate : IsCertificate p barrier (lower_at bounds) (upper_at bounds)

  -- it has none
  abbrev pub HasNoPair : NoBound → Type 0
  HasNoPair n = HasNoBarrier limits p n ⊎ ((b : Edges) × IsBarrierBy limits p b × IsNoCertificate limits p b n)

module _ (laws : PairLaws) (p : List Entries) (fits : IsProblem p) where
  -- the refusal of one settled pair is that of any other
  range_refusal : (b c : Edges) (xs ys : List Bound) (n : NoBound) → IsBarrierBy Wide p b → IsBarrierBy Wide p c → AreSettled p (edges_by Wide b) xs →
      AreSettled p (edges_by Wide c) ys → IsRangeRefusal p c ys n → IsRangeRefusal p b xs n
  range_refusal b c xs ys n of_b of_c x y refused =
      let pairs : ys ≡ xs = settled_one laws.barrier_one laws.pair_one Wide p c b ys xs fits of_c of_b y x in
      let barriers : c ≡ b = laws.barrier_one p c b fits of_c of_b in
      let P : List Bound → Type 0 = λ bs. IsRangeRefusal p c bs n in
      let Q : Edges → Type 0 = λ e. IsRangeRefusal p e xs n in
      subst Q barriers (subst P pairs refused)

  pairs_apart : (limits : Limits) (xs : List Bound) (n : NoBound) → HasPair limits p xs → HasNoPair limits p n → ⊥
  pairs_apart Plain xs n h (inl none) = laws.plain_excludes p h.barrier n fits h.of_problem none
  pairs_apart Plain xs n h (inr (b, of_b, none)) = none
  pairs_apart Wide xs n h (inl none) = laws.cut_excludes p h.barrier n fits h.of_problem none
  pairs_apart Wide xs n h (inr (b, of_b, (ys, pair, refused))) =
      laws.certificate p h.barrier xs n h.certificate (range_refusal h.barrier b xs ys n h.of_problem of_b h.pair pair refused)

  refusals_one : (limits : Limits) (n m : NoBound) → HasNoPair limits p n → HasNoPair limits p m → n ≡ m
  refusals_one Plain n m (inl x) (inl y) = laws.plain_refusal p n m x y
  refusals_one Plain n m (inl x) (inr (c, of_c, none)) = absurd none
  refusals_one Plain n m (inr (b, of_b, none)) y = absurd none
  refusals_one Wide n m (inl x) (inl y) = laws.cut_refusal p n m x y
  refusals_one Wide n m (inl x) (inr (c, of_c, y)) = absurd (laws.cut_excludes p c n fits of_c x)
  refusals_one Wide n m (inr (b, of_b, x)) (inl y) = absurd (laws.cut_excludes p b m fits of_b y)
  refusals_one Wide n m (inr (b, of_b, (xs, pair, refused))) (inr (c, of_c, (ys, other, also))) =
      laws.range_one p b xs n m refused (range_refusal b c xs ys m of_b of_c pair other also)

  pub pair_decided : (limits : Limits) → IsDecided (HasPair limits p) (HasNoPair limits p)
  pair_decided limits = record {
    value = λ xs ys h k. settled_one laws.barrier_one laws.pair_one limits p h.barrier k.barrier xs ys fits h.of_problem k.of_problem h.pair k.pair;
    refusal = refusals_one limits;
    apart = pairs_apart limits;
  }
