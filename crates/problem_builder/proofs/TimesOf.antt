-- The times of a model: a step of one of its periods; and that each valid model meets the premises of a step.
use Rattle.problem_builder.proofs.Common.{◌-◌, inl, inr, List, [], ◌∷◌, length, refl, subst, arith, Contains, flat_map, range_with_len, FlowModel, TimeStep, period_at, no_period, steps_of, IsModel}
use Rattle.problem_builder.proofs.Common.{In, map-In, IsTimeOf, ℕ, zero, suc, ◌+◌, ◌≤◌, ◌≡◌, ◌++◌, map, sym, ints, Dec, IsHeadNumber, EnclosesSigned, widest, number, cell_count, length-replicate}
use Rattle.problem_builder.proofs.Common.{All-replicate, IsHead, start_head, Bound, get_or-replicate, no_bound, dec_at, ModelsAreBuildable, times}
use Rattle.problem_builder.proofs.Members.{In-append, range-In, In-Contains}

pub flat-In : {X Y : Type 0} (f : X → List Y) (xs : List X) (y : Y) → In (flat_map f xs) y → (x : X) × In xs x × In (f x) y
flat-In f [] y i = absurd i
flat-In f (z ∷ zs) y i = elim (In-append (f z) (flat_map f zs) y i) [
  | inl j ↦ (z, inl refl, j)
  | inr j ↦ (let (x, k, l) = flat-In f zs y j in (x, inr k, l))
]

pub time_of : (m : FlowModel) (at : TimeStep) → IsModel m → Contains (times m) at → IsTimeOf m at
unfolding times
time_of m at valid h =
    let (p, i, j) = flat-In (steps_of m) (range_with_len 1 (length m.periods)) at (In-Contains (flat_map (steps_of m) (range_with_len 1 (length m.periods))) at h) in
    let (n, k, e) = map-In (λ n. record { period = p; step = n }) (range_with_len 1 (period_at m p).nstp) at j in
    let a = range-In 1 (length m.periods) p i in
    let b = range-In 1 (period_at m p).nstp n k in
    let P : TimeStep → Type 0 = λ t. IsTimeOf m t in
    subst P e (record {
      period = (a.0, omega (arith, a.1));
      step = (b.0, omega (arith, b.1));
      valid = valid.periods (p - 1) no_period (omega (arith, a.0, a.1));
    })

first_step : {X : Type 0} (f : ℕ → List X) (g : ℕ → X) (n k : ℕ) → 1 ≤ n → 1 ≤ k → f 1 ≡ map g (range_with_len 1 k) → Contains (flat_map f (range_with_len 1 n)) (g 1)
first_step f g zero k p q e = absurd (omega (arith, p))
first_step f g (suc n) zero p q e = absurd (omega (arith, q))
first_step f g (suc n) (suc k) p q e = subst (λ xs. Contains (xs ++ flat_map f (range_with_len 2 n)) (g 1)) (sym e) (0, omega arith, refl)

-- a head in range lies within the widest bounds
within_widest : (d : Dec) → IsHeadNumber d → EnclosesSigned widest.low widest.high 9 (number d)
within_widest d h = record { lower = omega (arith, ints, h.range.lower); upper = omega (arith, ints, h.range.upper) }

pub models_are_buildable : ModelsAreBuildable
unfolding times
models_are_buildable m valid =
    let n = cell_count m.grid in
    let first = valid.periods 0 no_period (omega (arith, valid.some)) in
    record {
      time = first_step (steps_of m) (λ n. record { period = 1; step = n }) (length m.periods) (period_at m 1).nstp valid.some first.times.nstp.0 refl;
      old = record {
        whole = length-replicate n widest;
        range =
            All-replicate (λ b. IsHead b.low × IsHead b.high) n widest (
              record { above = omega (arith, ints); below = omega (arith, ints) },
              record { above = omega (arith, ints); below = omega (arith, ints) },
            );
      };
      heads = λ c active. subst (λ (b : Bound). EnclosesSigned b.low b.high 9 (start_head m c)) (sym (get_or-replicate n c widest no_bound active.within))
          (within_widest (dec_at m.strt c) (valid.cells c active.within active.active).strt);
    }
