-- The list of time steps, period by period.
use Rattle.model_types.proofs.Common.{◌≡◌, ℕ, zero, suc, ◌+◌, ◌-◌, ◌<◌, ◌≤◌, List, [], ◌∷◌, ◌++◌, length, get_or, take, map, refl, sym, ap, ◌∙◌, arith, add-one, range_with_len, flat_map, sum_by}
use Rattle.model_types.proofs.Common.{append-nil, append_assoc, get_or_read, length-append, take_all, length-map-range_with_len, map-range_with_len_more, Period, FlowModel, period_at, no_period}
use Rattle.model_types.proofs.Common.{steps_of, add-sub_cancel_left}
use Rattle.std.proofs.{lemmas.List.Sums.sum_by_more, lemmas.List.Concat.flat_map-append}
use Rattle.model_types.proofs.Ranks.{range_more}
use Rattle.model_types.specs.declared.time_steps.TimeStep.{TimeStep}

period_is : (m : FlowModel) (p : ℕ) (q : Period) → p < length m.periods → q ≡ get_or m.periods p q → q ≡ period_at m (1 + p)
period_is m p q lt is = get_or_read m.periods p q lt is no_period ∙ ap (λ k. get_or m.periods k no_period) (omega arith)

-- one more period
pub steps_more : (m : FlowModel) (p number count : ℕ) (qs : List Period) (q : Period) (xs : List TimeStep) → p < length qs → qs ≡ m.periods → q ≡
    get_or qs p q → number ≡ p + 1 → count ≡ (get_or qs p q).nstp →
    xs ≡ flat_map (steps_of m) (range_with_len 1 p) → xs ++ map (λ n. record { period = number; step = n }) (range_with_len 1 count) ≡ flat_map (steps_of m) (range_with_len 1 (p + 1))
steps_more m p number count qs q xs lt e is is_number is_count before =
    let at : q ≡ get_or m.periods p q = is ∙ ap (λ ys. get_or ys p q) e in
    let found : q ≡ period_at m (1 + p) = period_is m p q (omega (arith, lt, ap length e)) at in
    let nstp : count ≡ (period_at m (1 + p)).nstp = is_count ∙ ap (λ (r : Period). r.nstp) (sym is ∙ found) in
    let turned : number ≡ 1 + p = omega (arith, is_number) in
    let list : range_with_len 1 p ++ (1 + p) ∷ [] ≡ range_with_len 1 (p + 1) = sym (range_more 1 p) ∙ ap (range_with_len 1) (sym (add-one p)) in
    (λ i. before i ++ map (λ n. record { period = turned i; step = n }) (range_with_len 1 (nstp i)))
    ∙ ap (λ ys. flat_map (steps_of m) (range_with_len 1 p) ++ ys) (sym (append-nil (steps_of m (1 + p))))
    ∙ sym (flat_map-append (steps_of m) (range_with_len 1 p) ((1 + p) ∷ []))
    ∙ ap (flat_map (steps_of m)) list

-- one more step
pub step_pushed : (p n : ℕ) (before xs : List TimeStep) → xs ≡ before ++ map (λ k. record { period = p; step = k }) (range_with_len 1 n) →
    xs ++ record { period = p; step = n + 1 } ∷ [] ≡ before ++ map (λ k. record { period = p; step = k }) (range_with_len 1 (n + 1))
step_pushed p n before xs e =
    let f : ℕ → TimeStep = λ k. record { period = p; step = k } in
    ap (λ ys. ys ++ f (n + 1) ∷ []) e ∙ append_assoc before (map f (range_with_len 1 n)) (f (n + 1) ∷ []) ∙ ap (λ ys. before ++ ys) (sym (map-range_with_len_more f 1 n (n + 1) (omega arith)))

-- as many time steps as the periods have
counted : (m : FlowModel) (k : ℕ) → k ≤ length m.periods → length (flat_map (steps_of m) (range_with_len 1 k)) ≡ sum_by (λ p. p.nstp) (take k m.periods)
counted m zero le = refl
counted m (suc k) le =
    let at : period_at m (1 + k) ≡ get_or m.periods k no_period = ap (λ j. get_or m.periods j no_period) (add-sub_cancel_left 1 k) in
    let list : range_with_len 1 (suc k) ≡ range_with_len 1 k ++ (1 + k) ∷ [] = range_more 1 k in
    ap (λ ks. length (flat_map (steps_of m) ks)) list
    ∙ ap length (flat_map-append (steps_of m) (range_with_len 1 k) ((1 + k) ∷ []) ∙ ap (λ ys. flat_map (steps_of m) (range_with_len 1 k) ++ ys) (append-nil (steps_of m (1 + k))))
    ∙ length-append (flat_map (steps_of m) (range_with_len 1 k)) (steps_of m (1 + k))
    ∙ (λ i. counted m k (omega arith) i + (length-map-range_with_len {X = TimeStep} (λ n. record { period = 1 + k; step = n }) 1 (period_at m (1 + k)).nstp ∙ ap (λ (q : Period). q.nstp) at) i)
    ∙ sym (sum_by_more (λ p. p.nstp) m.periods k no_period (omega arith))
    ∙ ap (λ j. sum_by (λ p. p.nstp) (take j m.periods)) (add-one k)

pub whole_count : (m : FlowModel) (k : ℕ) (xs : List TimeStep) → xs ≡ flat_map (steps_of m) (range_with_len 1 k) → k ≡ length m.periods → length xs ≡ sum_by (λ p. p.nstp) m.periods
whole_count m k xs e whole = grind (arith, counted, take_all)
