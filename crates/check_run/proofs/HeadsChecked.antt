-- The heads of a step by the certificate that listed heads are: by what its calls gave; and that they are one, or fail at one place.
use Rattle.check_run.proofs.Common.{Limits, ◌≡◌, ◌∙◌, ℕ, ◌<◌, inl, inr, List, length, map, refl, sym, ap, subst, arith, ints, cases_Bool, Bound, Side, Low, High, NoBound, Entries, entries_at, Edges}
use Rattle.check_run.proofs.Common.{lower_at, upper_at, IsCertificate, HoldsAt, IsFirstFailing, TimeStep, cell_count, is_active, is_variable, bound_at, AreWords, CheckFault, ArePosed, ConstantsReach}
use Rattle.check_run.proofs.Common.{IsConstantCell, IsFirstShort, ReachesAt, variable_bounds, Decks, IsBefore, IsPosed, HasNoPose, IsBarrierBy, edges_by, cut_by, same_problem, same_bound, same_bounds}
use Rattle.check_run.proofs.Common.{ConstantPairIsOne, IsUnposed, Solved, clamped_edges, Posed, AllReach, AreChecked, CellFails, FailAt, HeadsFailBy, IsFirstUnreached, failing, short, clamps}
use Rattle.check_run.proofs.Common.{active_constant, poses_one, posed_excludes, AreHeadsOf}
use Rattle.barrier_vector.proofs.Outlining.{clamped_at}
use Rattle.check_run.proofs.{Firsts.IsFirst, Firsts.first_one, OneVerdict.Laws, RunText.bounds_are}
use Rattle.model_types.specs.declared.limits.Limits.TheVariants.{Plain, Wide}
use Rattle.check_run.specs.declared.listing.CheckFault.TheVariants as fault
use Rattle.step_problem.specs.declared.place.Place.TheVariants as places

-- a certificate over a barrier is one over its clamped edges
clamped_certifies : (p : List Entries) (b : Edges) (bounds : List Bound) → AreWords p bounds → IsCertificate p b (lower_at bounds) (upper_at bounds) →
    IsCertificate p (clamped_edges b) (lower_at bounds) (upper_at bounds)
clamped_certifies p b bounds words h = record {
  low = λ c lt. elim (h.low c lt) [
    | inl edge ↦ inl (omega (arith, ints, clamps, clamped_at b.floor c, edge, (words.low c lt).above, (words.low c lt).below))
    | inr sign ↦ inr sign
  ];
  high = λ c lt. elim (h.high c lt) [
    | inl edge ↦ inl (omega (arith, ints, clamps, clamped_at b.ceiling c, edge, (words.high c lt).above, (words.high c lt).below))
    | inr sign ↦ inr sign
  ];
}

pub edges_certify : (limits : Limits) (p : List Entries) (b : Edges) (bounds : List Bound) → AreWords p bounds → IsCertificate p b (lower_at bounds) (upper_at bounds) →
    IsCertificate p (edges_by limits b) (lower_at bounds) (upper_at bounds)
edges_certify Plain p b bounds words h = h
edges_certify Wide p b bounds words h = clamped_certifies p b bounds words h

module _ (limits : Limits) (ds : Decks) (s : ℕ) (at : TimeStep) (old : List Bound) (x : Posed) (posed : ArePosed limits ds s at old x) (heads : List Bound) where
  -- the first cell with a constant head whose listed bound is too narrow
  pub short_fails : (c : ℕ) (side : Side) → IsFirstShort ds at heads c side → HeadsFailBy limits ds s at old heads (fault.Fails (places.Cell c side))
  short_fails c side f = (c, side, short x.problem x.barrier posed.posed f, refl)

  module _ (reach : ConstantsReach ds at heads) (bs lent : List Bound) (lent_is : lent ≡ bs) (are : bs ≡ map (λ (e : Entries). bound_at heads e.id) x.problem) where
    same : lent ≡ variable_bounds ds at heads
    same = lent_is ∙ are ∙ bounds_are ds at heads x.problem posed.cells

    -- the first variable cell that fails
    pub failing_fails : (e : CheckFault) → (k : ℕ) × (side : Side) × IsFirstFailing x.problem x.barrier lent k side ×
        (e ≡ fault.Fails (places.Cell (entries_at x.problem k).id side)) → HeadsFailBy limits ds s at old heads e
    failing_fails e (k, side, f, is) =
        let F : List Bound → Type 0 = λ v. IsFirstFailing x.problem x.barrier v k side in
        let P : CheckFault → Type 0 = HeadsFailBy limits ds s at old heads in
        subst P (sym is) ((entries_at x.problem k).id, side, failing x.problem x.barrier k posed.posed reach (subst F same f) refl, refl)

    -- the step of a certificate
    pub are_checked : AreWords x.problem lent → IsCertificate x.problem x.barrier (lower_at lent) (upper_at lent) → (all : List Bound) →
        AreHeadsOf ds at (variable_bounds ds at heads) all → AreChecked limits ds s at old heads (record { problem = x.problem; bounds = bs; heads = all })
    are_checked words certificate all placed =
        let C : List Bound → Type 0 = λ v. AreWords x.problem v × IsCertificate x.problem x.barrier (lower_at v) (upper_at v) in
        let H : List Bound → Type 0 = λ v. AreHeadsOf ds at v all in
        let h = subst C lent_is (words, certificate) in
        record {
          step = record {
            barrier = x.barrier;
            posed = posed.posed;
            pair = record { whole = h.0.whole; low = h.0.low; high = h.0.high; certificate = edges_certify limits x.problem x.barrier bs h.0 h.1 };
            certificate = h.1;
            heads = subst H (sym (sym lent_is ∙ same)) placed;
          };
          listed = sym lent_is ∙ same;
          constants = reach;
        }

-- a fault before the heads are checked
pub unposed_fails : (limits : Limits) (ds : Decks) (s : ℕ) (at : TimeStep) (old heads : List Bound) (e : CheckFault) →
    IsUnposed limits ds s at old e → HeadsFailBy limits ds s at old heads e
unposed_fails limits ds s at old heads (fault.Fails place) h = absurd h
unposed_fails limits ds s at old heads (fault.Refused n) h = h
unposed_fails limits ds s at old heads fault.Memory h = tt

-- Listed bounds fail at one cell, and don't fail where they are a certificate; of the problems that are posed there is one.
module _ (ds : Decks) (at : TimeStep) (listed : List Bound) (Reaches : ℕ → Side → Type 0) (Posed : List Entries → Edges → Type 0)
    (posed_one : (p q : List Entries) (b c : Edges) → Posed p b → Posed q c → (q ≡ p) × (c ≡ b)) where
  abbrev bs : List Bound
  bs = variable_bounds ds at listed

  first_failing : (p : List Entries) (b : Edges) (k : ℕ) (side : Side) → IsFirstFailing p b bs k side → IsFirst (HoldsAt p b bs) k side
  first_failing p b k side f = record { fails = f.fails; least = f.least; low_first = f.low_first }

  abbrev Reached : ℕ → Side → Type 0
  Reached c side = IsConstantCell ds at c → Reaches c side

  first_short : (c : ℕ) (side : Side) → IsFirstUnreached ds at Reaches c side → IsFirst Reached c side
  first_short c side f = record { fails = λ h. f.short (h f.cell); least = λ d lt other cell. f.least d lt cell other; low_first = λ e cell. f.low_first e }

  certified_at : (p : List Entries) (b : Edges) (k : ℕ) (side : Side) → k < length p → IsCertificate p b (lower_at bs) (upper_at bs) → HoldsAt p b bs k side
  certified_at p b k Low lt h = h.low k lt
  certified_at p b k High lt h = h.high k lt

  failing_one : (p q : List Entries) (b c : Edges) (k j : ℕ) (x y : Side) → Posed p b → Posed q c → IsFirstFailing p b bs k x → IsFirstFailing q c bs j y →
      ((entries_at q j).id ≡ (entries_at p k).id) × (y ≡ x)
  failing_one p q b c k j x y here there f g =
      let same = posed_one p q b c here there in
      let P : List Entries → Type 0 = λ z. IsFirstFailing z c bs j y in
      let Q : Edges → Type 0 = λ e. IsFirstFailing p e bs j y in
      let (cells, sides) = first_one (HoldsAt p b bs) j k y x (first_failing p b j y (subst Q same.1 (subst P same.0 g))) (first_failing p b k x f) in
      (ap (λ (z : List Entries). (entries_at z j).id) same.0 ∙ ap (λ (i : ℕ). (entries_at p i).id) cells, sides)

  pub cells_fail_once : (c d : ℕ) (x y : Side) → CellFails ds at listed Reaches Posed c x → CellFails ds at listed Reaches Posed d y → (d ≡ c) × (y ≡ x)
  cells_fail_once c d x y (short p b here f) (short q e there g) = first_one Reached d c y x (first_short d y g) (first_short c x f)
  cells_fail_once c d x y (short p b here f) (failing q e j there reach g is) = absurd (f.short (reach c f.cell x))
  cells_fail_once c d x y (failing p b k here reach f is) (short q e there g) = absurd (g.short (reach d g.cell y))
  cells_fail_once c d x y (failing p b k here reach f is) (failing q e j there also g same) =
      let (cells, sides) = failing_one p q b e k j x y here there f g in
      (same ∙ cells ∙ sym is, sides)

  pub certified_never_fail : (p : List Entries) (b : Edges) → Posed p b → AllReach ds at Reaches → IsCertificate p b (lower_at bs) (upper_at bs) → (c : ℕ) (side : Side) →
      CellFails ds at listed Reaches Posed c side → ⊥
  certified_never_fail p b posed reach h c side (short q e there f) = f.short (reach c f.cell side)
  certified_never_fail p b posed reach h c side (failing q e k there also f is) =
      let same = posed_one q p e b there posed in
      let P : List Entries → Type 0 = λ z. IsCertificate z b (lower_at bs) (upper_at bs) in
      let Q : Edges → Type 0 = λ z. IsCertificate q z (lower_at bs) (upper_at bs) in
      f.fails (certified_at q e k side f.within (subst Q same.1 (subst P same.0 h)))

  pub a_problem : (c : ℕ) (side : Side) → CellFails ds at listed Reaches Posed c side → (p : List Entries) × (b : Edges) × Posed p b
  a_problem c side (short p b posed f) = (p, b, posed)
  a_problem c side (failing p b k posed reach f is) = (p, b, posed)

-- One step, one cell, one refusal.
module _ (limits : Limits) (ds : Decks) (s : ℕ) (at : TimeStep) (old heads : List Bound) (laws : Laws) (before : IsBefore ds at old) where
  posed_one : (p q : List Entries) (b c : Edges) → IsPosed limits ds s at old p b → IsPosed limits ds s at old q c → (q ≡ p) × (c ≡ b)
  posed_one p q b c x y =
      let problems : q ≡ p = same_problem y.problem x.problem in
      let B : List Entries → Type 0 = λ z. IsBarrierBy limits z c in
      (problems, laws.barrier_one p c b (laws.problem_fits ds s at old p before x.problem) (cut_by limits p c (subst B problems y.barrier)) (cut_by limits p b x.barrier))

  pub fails_one : (c d : ℕ) (x y : Side) → FailAt limits ds s at old heads c x → FailAt limits ds s at old heads d y → (d ≡ c) × (y ≡ x)
  fails_one c d x y f g = cells_fail_once ds at heads (ReachesAt ds at heads) (IsPosed limits ds s at old) posed_one c d x y f g

  pub checked_never_fails : (x : Solved) (c : ℕ) (side : Side) → AreChecked limits ds s at old heads x → FailAt limits ds s at old heads c side → ⊥
  checked_never_fails x c side h f =
      let R : List Bound → Type 0 = λ v. IsCertificate x.problem h.step.barrier (lower_at v) (upper_at v) in
      certified_never_fail ds at heads (ReachesAt ds at heads) (IsPosed limits ds s at old) posed_one x.problem h.step.barrier h.step.posed h.constants
      (subst R h.listed h.step.certificate) c side f

  pub fails_never_refused : (c : ℕ) (side : Side) (n : NoBound) → FailAt limits ds s at old heads c side → HasNoPose limits ds s at old n → ⊥
  fails_never_refused c side n f none =
      let (p, b, posed) = a_problem ds at heads (ReachesAt ds at heads) (IsPosed limits ds s at old) posed_one c side f in
      posed_excludes laws.problem_fits laws.barrier_excludes laws.cut_excludes limits ds s at old p b n before posed none

  pub checked_never_refused : (x : Solved) (n : NoBound) → AreChecked limits ds s at old heads x → HasNoPose limits ds s at old n → ⊥
  checked_never_refused x n h none =
      posed_excludes laws.problem_fits laws.barrier_excludes laws.cut_excludes limits ds s at old x.problem h.step.barrier n before h.step.posed none

  pub refusals_one : (a b : NoBound) → HasNoPose limits ds s at old a → HasNoPose limits ds s at old b → b ≡ a
  refusals_one a b x y = poses_one laws.barrier_refusal_one laws.cut_refusal_one limits ds s at old b a y x

  -- the heads of all cells, from those of the variable ones
  heads_one : ConstantPairIsOne → (bounds xs ys : List Bound) → AreHeadsOf ds at bounds xs → AreHeadsOf ds at bounds ys → xs ≡ ys
  heads_one pair_one bounds xs ys x y =
      same_bounds xs ys (x.whole ∙ sym y.whole) (λ c within.
      let lt : c < cell_count ds.first.grid = omega (arith, within, x.whole) in
      elim (cases_Bool (is_variable ds.first at.period c)) [
        | inl v ↦ x.variable c lt v ∙ sym (y.variable c lt v)
        | inr v ↦ (elim (cases_Bool (is_active ds.first c)) [
          | inl a ↦ (let k = active_constant ds.first at.period c a v in
              same_bound (bound_at xs c) (bound_at ys c) (pair_one ds at c (lower_at xs c) (upper_at xs c) (lower_at ys c) (upper_at ys c)
              (record { decks = before.decks; time = before.time; within = lt; constant = k }) (x.constant c lt k) (y.constant c lt k)))
          | inr a ↦ x.no_flow c lt a ∙ sym (y.no_flow c lt a)
        ])
      ])

  pub checked_one : ConstantPairIsOne → (x y : Solved) → AreChecked limits ds s at old heads x → AreChecked limits ds s at old heads y → y ≡ x
  checked_one pair_one x y h k =
      let problems : y.problem ≡ x.problem = same_problem k.step.posed.problem h.step.posed.problem in
      let bounds : y.bounds ≡ x.bounds = k.listed ∙ sym h.listed in
      let H : List Bound → Type 0 = λ v. AreHeadsOf ds at v y.heads in
      let all : y.heads ≡ x.heads = heads_one pair_one x.bounds y.heads x.heads (subst H bounds k.step.heads) h.step.heads in
      λ i. record { problem = problems i; bounds = bounds i; heads = all i }
