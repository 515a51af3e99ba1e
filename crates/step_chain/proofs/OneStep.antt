-- A time has one step, or one refusal, from the heads before it.
use Rattle.step_chain.proofs.Common.{◌≡◌, ℕ, suc, ◌<◌, inl, inr, List, [], ◌∷◌, length, sym, ap, ◌∙◌, subst, refl, arith, ℤ, cases_Bool, Bound, IsProblem, Entries, Edges, lower_at, upper_at}
use Rattle.step_chain.proofs.Common.{SettledPairIsOne, AreSettled, IsBarrierBy, edges_by, CutBarrierIsOne, Limits, Plain, TimeStep, cell_count, is_active, is_variable, Decks, IsBefore, ProblemFits}
use Rattle.step_chain.proofs.Common.{ConstantPairIsOne, ConstantPairFits, Solved, bound_at, AreHeadsOf, StepIsOne, HeadsFit, WideKeepsSteps, IsPairOf, clamped_fits, ◌^◌, true, pos, ◌*ℤ◌, ◌≤ℤ◌}
use Rattle.step_chain.proofs.Common.{Fraction, IsCertificate, AreWords, CertificateEncloses, is_constant, index_of, variable_heads, IsActive, map, variable_cells, ProblemEncloses}
use Rattle.step_chain.proofs.Common.{ConstantPairEncloses, Choice, EnclosesChoice, step_from, IsMove, EnclosesMove, EnclosesMoves, StepEncloses, PairKind, settled, certified, EnclosesStep}
use Rattle.step_chain.proofs.Common.{CellEncloses, LiesBetween, EnclosesSolutions, EnclosesSigned, same_problem}
use Rattle.deck_problems.proofs.{OneProblem.chosen_cells, Counted.problem_count}
use Rattle.step_chain.proofs.{Limits.cut_by, Limits.held_by, Limits.uncut_by, Assembled.active_constant, Assembled.heads_in_range, Assembled.index_below, Assembled.count_of, Assembled.number_of}
use Rattle.decimal_input.proofs.FloorLaws.{whole_signed}
use Rattle.cell_balance.proofs.Zips.{AllZip-length}

-- From a step's settled pair to the enclosure of every solution of every choice.
-- a pair of either kind has one bound in range for each cell
pub pair_words : (kind : PairKind) (p : List Entries) (b : Edges) (bounds : List Bound) → IsPairOf p kind b bounds → AreWords p bounds
pair_words settled p b bounds h = record { whole = h.whole; low = h.pair.low.heads; high = h.pair.high.heads }
pair_words certified p b bounds h = record { whole = h.whole; low = h.low; high = h.high }

between_solutions : CertificateEncloses → (limits : Limits) (kind : PairKind) (p : List Entries) (b : Edges) (bounds : List Bound) → IsPairOf p kind (edges_by limits b) bounds →
    IsCertificate p b (lower_at bounds) (upper_at bounds) → IsProblem p → IsBarrierBy limits p b → EnclosesSolutions p (lower_at bounds) (upper_at bounds)
between_solutions certificate_encloses limits kind p b bounds h certificate fits bars =
    certificate_encloses p b bounds fits (pair_words kind p (edges_by limits b) bounds h) (held_by limits p b bars) certificate (uncut_by limits p b fits bars)

-- the head x over d lies within a bound
record Holds (b : Bound) (d : ℕ) (x : ℤ) : Type 0 where
  low : (b.low *ℤ pos d) ≤ℤ (x *ℤ pos (10 ^ 9))
  high : (x *ℤ pos (10 ^ 9)) ≤ℤ (b.high *ℤ pos d)

-- for a choice y of the decks
module _ (d : Decks) (s : ℕ) (at : TimeStep) (old : List Bound) (x : Solved) (y : Choice)
    (cells : (before : ℕ → Fraction) → map (λ e. e.id) (step_from before y.cells) ≡ variable_cells d.first at.period)
    (encloses : EnclosesChoice d.first s old x.problem y)
    (variable : (c : ℕ) → c < cell_count d.first.grid → is_variable d.first at.period c ≡ true → bound_at x.heads c ≡ bound_at x.bounds (index_of d.first at.period c))
    (constant : (c : ℕ) → c < cell_count d.first.grid → is_constant d.first at.period c ≡ true → EnclosesSigned (lower_at x.heads c) (upper_at x.heads c) 9 (y.heads c))
    (solutions : EnclosesSolutions x.problem (lower_at x.bounds) (upper_at x.bounds)) where
  module _ (before : ℕ → Fraction) (n : ℕ) (X : ℕ → ℤ) (move : IsMove d.first at y old before n X) where
    step : EnclosesStep s x.problem (step_from before y.cells)
    step = encloses before move.within

    between : LiesBetween (length x.problem) n (variable_heads (step_from before y.cells) X) (lower_at x.bounds) (upper_at x.bounds)
    between = solutions s (step_from before y.cells) n (variable_heads (step_from before y.cells) X) step move.some move.solves.balances

    variable_holds : (c : ℕ) → c < cell_count d.first.grid → is_variable d.first at.period c ≡ true → Holds (bound_at x.heads c) n (X c)
    variable_holds c lt v =
        let k : ℕ = index_of d.first at.period c in
        let inside : k < length x.problem = omega (
          arith,
          AllZip-length (CellEncloses s) x.problem (step_from before y.cells) step.cells,
          count_of d.first at.period (step_from before y.cells) (cells before),
          index_below d.first at.period c v lt,
        ) in
        let P : ℕ → Type 0 = λ i. Holds (bound_at x.bounds k) n (X i) in
        let Q : Bound → Type 0 = λ b. Holds b n (X c) in
        subst Q (sym (variable c lt v))
        (subst P (number_of d.first at.period c (step_from before y.cells) (cells before) v lt) (record { low = between.low k inside; high = between.high k inside }))

    constant_holds : (c : ℕ) → c < cell_count d.first.grid → is_constant d.first at.period c ≡ true → Holds (bound_at x.heads c) n (X c)
    constant_holds c lt e =
        let b = whole_signed (lower_at x.heads c) (upper_at x.heads c) 9 n (y.heads c) (X c) (constant c lt e) (move.solves.constant c lt e) in
        record { low = b.lower; high = b.upper }

    active_holds : (c : ℕ) → IsActive d.first c → Holds (bound_at x.heads c) n (X c)
    active_holds c a = elim (cases_Bool (is_variable d.first at.period c)) [
      | inl v ↦ variable_holds c a.within v
      | inr v ↦ constant_holds c a.within (active_constant d.first at.period c a.active v)
    ]

    moved : EnclosesMove d.first s at y x before n X
    moved = record {
      step = step;
      variables = between;
      heads = record { low = λ c a. (active_holds c a).low; high = λ c a. (active_holds c a).high };
    }

  pub follows : EnclosesMoves d.first s at y old x
  follows before n X move = moved before n X move

pub steps_enclose : ProblemFits → ProblemEncloses → ConstantPairEncloses → CertificateEncloses → StepEncloses
steps_enclose problem_fits problem_encloses pair_encloses certificate_encloses limits d s at old kind x b h =
    let fits = problem_fits d s at old x.problem b h.posed.problem in
    let solutions = between_solutions certificate_encloses limits kind x.problem h.barrier x.bounds h.pair h.certificate fits h.posed.barrier in
    λ y k.
    follows d s at old x y (chosen_cells d at y k) (problem_encloses d s at old x.problem b h.posed.problem y k) h.heads.variable
    (λ c lt e. pair_encloses d at c (lower_at x.heads c) (upper_at x.heads c) (record { decks = b.decks; time = b.time; within = lt; constant = e }) (h.heads.constant c lt e) y k)
    solutions

pub same_bounds : (xs ys : List Bound) → length xs ≡ length ys → ((c : ℕ) → c < length xs → bound_at xs c ≡ bound_at ys c) → xs ≡ ys
same_bounds [] [] whole same = refl
same_bounds [] (y ∷ ys) whole same = absurd (omega arith)
same_bounds (x ∷ xs) [] whole same = absurd (omega arith)
same_bounds (x ∷ xs) (y ∷ ys) whole same =
    let rest = same_bounds xs ys (omega arith) (λ c within. same (suc c) (omega arith)) in
    ap (λ b. b ∷ xs) (same 0 (omega arith)) ∙ ap (λ bs. y ∷ bs) rest

pub same_bound : (a b : Bound) → (a.low ≡ b.low) × (a.high ≡ b.high) → a ≡ b
same_bound a b (low, high) = λ i. record { low = low i; high = high i }

-- the heads of all cells are one list
heads_one : ConstantPairIsOne → (d : Decks) (at : TimeStep) (old bounds xs ys : List Bound) → IsBefore d at old → AreHeadsOf d at bounds xs → AreHeadsOf d at bounds ys → xs ≡ ys
heads_one pair_one d at old bounds xs ys b x y =
    same_bounds xs ys (x.whole ∙ sym y.whole) (λ c within.
    let lt : c < cell_count d.first.grid = omega (arith, within, x.whole) in
    elim (cases_Bool (is_variable d.first at.period c)) [
      | inl v ↦ x.variable c lt v ∙ sym (y.variable c lt v)
      | inr v ↦ (elim (cases_Bool (is_active d.first c)) [
        | inl a ↦ (let k = active_constant d.first at.period c a v in
            same_bound (bound_at xs c) (bound_at ys c) (pair_one d at c (lower_at xs c) (upper_at xs c) (lower_at ys c) (upper_at ys c)
            (record { decks = b.decks; time = b.time; within = lt; constant = k }) (x.constant c lt k) (y.constant c lt k)))
        | inr a ↦ x.no_flow c lt a ∙ sym (y.no_flow c lt a)
      ])
    ])

-- so is the settled pair
pub settled_one : CutBarrierIsOne → SettledPairIsOne → (limits : Limits) (p : List Entries) (b c : Edges) (xs ys : List Bound) → IsProblem p → IsBarrierBy limits p b → IsBarrierBy limits p c →
    AreSettled p (edges_by limits b) xs → AreSettled p (edges_by limits c) ys → xs ≡ ys
settled_one barrier_one pair_one limits p b c xs ys fits x y first second =
    let P : Edges → Type 0 = λ e. AreSettled p (edges_by limits e) ys in
    let other = subst P (sym (barrier_one p b c fits (cut_by limits p b x) (cut_by limits p c y))) second in
    same_bounds xs ys (first.whole ∙ sym other.whole) (λ k within.
    let inside : k < length p = omega (arith, within, first.whole) in
    let (low, high) = pair_one p (edges_by limits b) (lower_at ys) (upper_at ys) (lower_at xs) (upper_at xs) other.pair first.pair k inside in
    same_bound (bound_at xs k) (bound_at ys k) (low, high))

pub steps_one : ProblemFits → ConstantPairIsOne → CutBarrierIsOne → SettledPairIsOne → StepIsOne
steps_one problem_fits pair_one barrier_one settled_pair_one limits d s at old x y b h k =
    let problems : x.problem ≡ y.problem = same_problem h.posed.problem k.posed.problem in
    let B : List Entries → Type 0 = λ p. IsBarrierBy limits p k.barrier in
    let S : List Entries → Type 0 = λ p. AreSettled p (edges_by limits k.barrier) y.bounds in
    let H : List Bound → Type 0 = λ bs. AreHeadsOf d at bs y.heads in
    let fits = problem_fits d s at old x.problem b h.posed.problem in
    let bounds : x.bounds ≡ y.bounds = settled_one barrier_one settled_pair_one limits x.problem h.barrier k.barrier x.bounds y.bounds fits h.posed.barrier
    (subst B (sym problems) k.posed.barrier) h.pair (subst S (sym problems) k.pair) in
    let heads : x.heads ≡ y.heads = heads_one pair_one d at old x.bounds x.heads y.heads b h.heads (subst H (sym bounds) k.heads) in
    λ i. record { problem = problems i; bounds = bounds i; heads = heads i }

pub all_fit : ConstantPairFits → HeadsFit
all_fit pair_fits limits d s at old kind x b h =
    heads_in_range d at x.problem x.bounds x.heads h.heads (pair_words kind x.problem (edges_by limits h.barrier) x.bounds h.pair) (problem_count d s at old x.problem b.decks h.posed.problem)
    (λ c lo hi lt k pair. pair_fits d at c lo hi (record { decks = b.decks; time = b.time; within = lt; constant = k }) pair)

-- a step by plain limits is one by wide limits
pub wide_keeps : WideKeepsSteps
wide_keeps d s at old kind x h =
    let P : Edges → Type 0 = λ e. IsPairOf x.problem kind e x.bounds in
    record {
      barrier = h.barrier;
      posed = record { problem = h.posed.problem; barrier = cut_by Plain x.problem h.barrier h.posed.barrier };
      pair = subst P (sym ((clamped_fits x.problem h.barrier).same h.posed.barrier.fits)) h.pair;
      certificate = h.certificate;
      heads = h.heads;
    }
