-- A step that is posed has no refusal before it settles, a settled step none at all, and a time at most one.
use Rattle.step_chain.proofs.Common.{◌≡◌, ℕ, inl, inr, subst, List, Bound, Entries, Edges, IsProblem, AreSettled, IsPairOf, PairKind, SettledPairIsOne, Solved, Decks, TimeStep, IsBefore, ProblemFits}
use Rattle.step_chain.proofs.Common.{CutBarrierExcludesRefusal, CutBarrierIsOne, IsBarrierBy, edges_by, Limits, Plain, Wide, StepExcludesRefusal, RefusalIsOne, NoBound, settled, CutRefusalIsOne}
use Rattle.step_chain.proofs.Common.{IsRangeRefusal, CertificateExcludesRefusal, RangeRefusalIsOne, HasNoBarrier, HasNoPose, IsPosed, IsStepBy, LeavesRange, IsProblemFor, BoundFault, FailsBy}
use Rattle.step_chain.proofs.Common.{IsNoCertificate, SettlesNot, HasNoHeads, BarrierExcludesRefusal, not_refused, same_problem, same_refusal}
use Rattle.barrier_vector.specs.{RefusalIsOne as BarrierRefusalIsOne}
use Rattle.step_chain.proofs.OneStep.{settled_one}
use Rattle.step_chain.specs.declared.solved.StepFault.{StepFault}
use Rattle.step_chain.specs.declared.solved.StepFault.TheVariants as step
use Rattle.step_problem.specs.declared.refusal.BoundFault.TheVariants as bound

-- a problem with a barrier by limits has no refusal by them
barrier_excludes : BarrierExcludesRefusal → CutBarrierExcludesRefusal → (limits : Limits) (p : List Entries) (b : Edges) (n : NoBound) → IsProblem p →
    IsBarrierBy limits p b → HasNoBarrier limits p n → ⊥
barrier_excludes plain cut Plain p b n = plain p b n
barrier_excludes plain cut Wide p b n = cut p b n

not_plain : Wide ≡ Plain → ⊥
not_plain e = cc

-- and at most one refusal
barriers_one : BarrierRefusalIsOne → CutRefusalIsOne → (limits : Limits) (p : List Entries) (a b : NoBound) → HasNoBarrier limits p a → HasNoBarrier limits p b → a ≡ b
barriers_one plain cut Plain p a b = plain p a b
barriers_one plain cut Wide p a b = cut p a b

-- so a step that is posed has no refusal before it settles
pub posed_excludes : ProblemFits → BarrierExcludesRefusal → CutBarrierExcludesRefusal →
    (limits : Limits) (d : Decks) (s : ℕ) (at : TimeStep) (old : List Bound) (p : List Entries) (b : Edges) (n : NoBound) → IsBefore d at old →
    IsPosed limits d s at old p b → HasNoPose limits d s at old n → ⊥
posed_excludes problem_fits plain cut limits d s at old p b n before h (inl none) = not_refused h.problem none
posed_excludes problem_fits plain cut limits d s at old p b n before h (inr (q, is, refused)) =
    let R : List Entries → Type 0 = λ p. HasNoBarrier limits p n in
    barrier_excludes plain cut limits p b n (problem_fits d s at old p before h.problem) h.barrier (subst R (same_problem is h.problem) refused)

-- the range refusal of a posed step is one of its settled pair
ranges_one : ProblemFits → CutBarrierIsOne → SettledPairIsOne → (d : Decks) (s : ℕ) (at : TimeStep) (old : List Bound) (p : List Entries) (b : Edges)
    (bounds : List Bound) (n : NoBound) → IsBefore d at old →
    IsPosed Wide d s at old p b → AreSettled p (edges_by Wide b) bounds → LeavesRange Wide d s at old n → IsRangeRefusal p b bounds n
ranges_one problem_fits barrier_one pair_one d s at old p b bounds n before h pair r =
    let same : r.problem ≡ p = same_problem r.posed.problem h.problem in
    let fits = problem_fits d s at old p before h.problem in
    let B : List Entries → Type 0 = λ q. IsBarrierBy Wide q r.barrier in
    let of_p = subst B same r.posed.barrier in
    let S : List Entries → Type 0 = λ q. AreSettled q (edges_by Wide r.barrier) r.bounds in
    let bounds_same : r.bounds ≡ bounds = settled_one barrier_one pair_one Wide p r.barrier b r.bounds bounds fits of_p h.barrier (subst S same r.pair) pair in
    let edges_same : r.barrier ≡ b = barrier_one p r.barrier b fits of_p h.barrier in
    let P : List Entries → Type 0 = λ q. IsRangeRefusal q r.barrier r.bounds n in
    let Q : Edges → Type 0 = λ e. IsRangeRefusal p e r.bounds n in
    let R : List Bound → Type 0 = λ bs. IsRangeRefusal p b bs n in
    subst R bounds_same (subst Q edges_same (subst P same r.refused))

-- and at most one such refusal
pub poses_one : BarrierRefusalIsOne → CutRefusalIsOne → (limits : Limits) (d : Decks) (s : ℕ) (at : TimeStep) (old : List Bound) (a b : NoBound) →
    HasNoPose limits d s at old a → HasNoPose limits d s at old b → a ≡ b
poses_one of_plain of_cut limits d s at old a b (inl x) (inl y) = same_refusal x y
poses_one of_plain of_cut limits d s at old a b (inl x) (inr (p, is, y)) = absurd (not_refused is x)
poses_one of_plain of_cut limits d s at old a b (inr (p, is, x)) (inl y) = absurd (not_refused is y)
poses_one of_plain of_cut limits d s at old a b (inr (p, is, x)) (inr (q, also, y)) =
    let R : List Entries → Type 0 = λ p. HasNoBarrier limits p b in
    barriers_one of_plain of_cut limits p a b x (subst R (same_problem also is) y)

module _ (problem_fits : ProblemFits) (plain : BarrierExcludesRefusal) (cut : CutBarrierExcludesRefusal) (barrier_one : CutBarrierIsOne) (pair_one : SettledPairIsOne) where
  settled_excludes : CertificateExcludesRefusal → (d : Decks) (s : ℕ) (at : TimeStep) (old : List Bound) (kind : PairKind) (x : Solved) (n : NoBound) → IsBefore d at old → kind ≡ settled →
      IsStepBy Wide d s at old kind x → LeavesRange Wide d s at old n → ⊥
  settled_excludes certified d s at old kind x n before is h r =
      let P : PairKind → Type 0 = λ k. IsPairOf x.problem k (edges_by Wide h.barrier) x.bounds in
      certified x.problem h.barrier x.bounds n h.certificate (ranges_one problem_fits barrier_one pair_one d s at old x.problem h.barrier x.bounds n before h.posed (subst P is h.pair) r)

  pub step_excludes : CertificateExcludesRefusal → StepExcludesRefusal
  step_excludes certified Plain d s at old kind x n before which h none = posed_excludes problem_fits plain cut Plain d s at old x.problem h.barrier n before h.posed none
  step_excludes certified Wide d s at old kind x n before which h (inl none) = posed_excludes problem_fits plain cut Wide d s at old x.problem h.barrier n before h.posed none
  step_excludes certified Wide d s at old kind x n before (inl is) h (inr r) = absurd (not_plain is)
  step_excludes certified Wide d s at old kind x n before (inr is) h (inr r) = settled_excludes certified d s at old kind x n before is h r

  pub refusals_one : BarrierRefusalIsOne → CutRefusalIsOne → RangeRefusalIsOne → RefusalIsOne
  refusals_one of_plain of_cut of_range Plain d s at old a b before x y = poses_one of_plain of_cut Plain d s at old a b x y
  refusals_one of_plain of_cut of_range Wide d s at old a b before (inl x) (inl y) = poses_one of_plain of_cut Wide d s at old a b x y
  refusals_one of_plain of_cut of_range Wide d s at old a b before (inl x) (inr y) = absurd (posed_excludes problem_fits plain cut Wide d s at old y.problem y.barrier a before y.posed x)
  refusals_one of_plain of_cut of_range Wide d s at old a b before (inr x) (inl y) = absurd (posed_excludes problem_fits plain cut Wide d s at old x.problem x.barrier b before x.posed y)
  refusals_one of_plain of_cut of_range Wide d s at old a b before (inr x) (inr y) =
      of_range x.problem x.barrier x.bounds a b x.refused (ranges_one problem_fits barrier_one pair_one d s at old x.problem x.barrier x.bounds b before x.posed x.pair y)

-- The faults of the settling of a step.
module _ (d : Decks) (s : ℕ) (at : TimeStep) (old : List Bound) (rounds : ℕ) (p : List Entries) (is : IsProblemFor d s at old p) where
  -- a settled pair that is no certificate over its barrier
  out_of_range : (limits : Limits) (b : Edges) → IsBarrierBy limits p b → (n : NoBound) → IsNoCertificate limits p b n → HasNoHeads limits d s at old n
  out_of_range Plain b of_p n h = absurd h
  out_of_range Wide b of_p n (bounds, pair, refused) = inr (record { problem = p; barrier = b; posed = record { problem = is; barrier = of_p }; bounds = bounds; pair = pair; refused = refused })

  pub settle_fails : (limits : Limits) (b : Edges) → IsBarrierBy limits p b → (fault : StepFault) → SettlesNot limits p b rounds fault → FailsBy limits d s at old rounds fault
  settle_fails limits b of_p (step.NoBound n) h = out_of_range limits b of_p n h
  settle_fails limits b of_p (step.Unfinished o) h = record { problem = p; barrier = b; posed = record { problem = is; barrier = of_p }; unfinished = h }
  settle_fails limits b of_p step.Memory h = tt
