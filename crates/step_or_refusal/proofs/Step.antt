-- A time of a valid model, from heads of all its cells, has a settled step or a refusal.
use Rattle.step_or_refusal.proofs.Common.{inl, inr, ℕ, ℤ, List, pos, arith, ◌≤ℤ◌, ◌<ℤ◌, ◌⊎◌, ProblemFits, StepOrRefusal, IsConstantPair, Bound, Edges, lower_at, upper_at, head_at, FlowModel, TimeStep}
use Rattle.step_or_refusal.proofs.Common.{one_deck, IsBefore, NoBound, Entries, entries_at, IsCertificate, Solved, HasNoHeads, IsSettledStep, edges_fit, BarrierOrRefusal, CutBarrierOrRefusal, by_lt_z}
use Rattle.step_or_refusal.proofs.Common.{ints, Side, Low, High, clamped_edges, range_on, SettledPairExists, lower_balance, upper_balance, Decided, ◌≡◌, refl, problem_of, constant_bound, Result, Ok}
use Rattle.step_or_refusal.proofs.Common.{Err}
use Rattle.step_or_refusal.proofs.{Settled.settled_list, Settled.heads_list, Barrier.refuses_or_not}
use Rattle.step_problem.proofs.BothSettle.{pair_certifies}
use Rattle.model_types.specs.declared.limits.Limits.TheVariants.{Plain, Wide}
use Rattle.certificate_check.specs.{HoldsAt, IsRangeRefusal}

-- one of two comparisons holds, or none does
neither : (a b c d : ℤ) → b <ℤ a → d <ℤ c → (a ≤ℤ b) ⊎ (c ≤ℤ d) → ⊥
neither a b c d past too (inl h) = omega (arith, ints, past, h)
neither a b c d past too (inr h) = omega (arith, ints, too, h)

one_or_none : (a b c d : ℤ) → ((a ≤ℤ b) ⊎ (c ≤ℤ d)) ⊎ ((a ≤ℤ b) ⊎ (c ≤ℤ d) → ⊥)
one_or_none a b c d = by_lt_z b a (λ past. by_lt_z d c (λ too. inr (neither a b c d past too)) (λ h. inl (inr h))) (λ h. inl (inl h))

-- so whether a certificate holds at a side of a cell is decided
holds_decided : (p : List Entries) (b : Edges) (bounds : List Bound) (side : Side) (c : ℕ) → Decided (HoldsAt p b bounds c side)
holds_decided p b bounds Low c = one_or_none (lower_at bounds c) (head_at b.floor c) (pos 0) (lower_balance (entries_at p c) (lower_at bounds c) (lower_at bounds))
holds_decided p b bounds High c = one_or_none (head_at b.ceiling c) (upper_at bounds c) (upper_balance (entries_at p c) (upper_at bounds c) (upper_at bounds)) (pos 0)

not_decided : {P : Type 0} → Decided P → Decided (P → ⊥)
not_decided (inl holds) = inr (λ fails. fails holds)
not_decided (inr fails) = inl fails

stable : {P : Type 0} → Decided P → ((P → ⊥) → ⊥) → P
stable (inl holds) twice = holds
stable (inr fails) twice = absurd (twice fails)

-- it is one, or there is a refusal for the range of heads
certificate_or_refusal : (p : List Entries) (b : Edges) (bounds : List Bound) → IsCertificate p b (lower_at bounds) (upper_at bounds) ⊎ ((n : NoBound) × IsRangeRefusal p b bounds n)
certificate_or_refusal p b bounds =
    elim (refuses_or_not range_on (λ side c. HoldsAt p b bounds c side → ⊥) p (λ side c lt. not_decided (holds_decided p b bounds side c))) [
      | inr refused ↦ inr refused
      | inl (low, high) ↦ inl (record { low = λ c lt. stable (holds_decided p b bounds Low c) (low c lt); high = λ c lt. stable (holds_decided p b bounds High c) (high c lt) })
    ]

pub ok_or_err : {X : Type 0} (r : Result X NoBound) → ((x : X) × (r ≡ Ok x)) ⊎ ((n : NoBound) × (r ≡ Err n))
ok_or_err (Ok x) = inl (x, refl)
ok_or_err (Err n) = inr (n, refl)

-- the pair of a cell's head, if that is constant
a_pair : (m : FlowModel) (at : TimeStep) (c : ℕ) → (lo : ℤ) × (hi : ℤ) × IsConstantPair m at c lo hi
a_pair m at c = ((constant_bound m at c).low, (constant_bound m at c).high, (refl, refl))

wide_step : ProblemFits → CutBarrierOrRefusal → SettledPairExists → (m : FlowModel) (s : ℕ) (at : TimeStep) (old : List Bound) → IsBefore (one_deck m) at old →
    ((x : Solved) × IsSettledStep Wide (one_deck m) s at old x) ⊎ ((n : NoBound) × HasNoHeads Wide (one_deck m) s at old n)
wide_step fits barrier settled m s at old before =
    elim (ok_or_err (problem_of m s at old)) [
      | inr (n, none) ↦ inr (n, inl (inl none))
      | inl (p, is) ↦
          let ok = fits m s at old p before.decks.first before.time before.heads is in
          elim (barrier p ok) [
            | inr (n, refused) ↦ inr (n, inl (inr (p, is, refused)))
            | inl (b, b_is) ↦
                let (l, u, pair) = settled p (clamped_edges b) ok (edges_fit Wide p b b_is) in
                let (bounds, are) = settled_list p (clamped_edges b) l u ok pair in
                elim (certificate_or_refusal p b bounds) [
                  | inr (n, refused) ↦ inr (n, inr (record { problem = p; barrier = b; posed = record { problem = is; barrier = b_is }; bounds = bounds; pair = are; refused = refused }))
                  | inl certificate ↦
                      let (heads, heads_are) = heads_list m at (a_pair m at) bounds in
                      inl (
                        record { problem = p; bounds = bounds; heads = heads },
                        record { barrier = b; posed = record { problem = is; barrier = b_is }; pair = are; certificate = certificate; heads = heads_are },
                      )
                ]
          ]
    ]

pub a_step : ProblemFits → BarrierOrRefusal → CutBarrierOrRefusal → SettledPairExists → StepOrRefusal
a_step fits barrier cut settled Wide m s at old before = wide_step fits cut settled m s at old before
a_step fits barrier cut settled Plain m s at old before =
    elim (ok_or_err (problem_of m s at old)) [
      | inr (n, none) ↦ inr (n, inl none)
      | inl (p, is) ↦
          let ok = fits m s at old p before.decks.first before.time before.heads is in
          elim (barrier p ok) [
            | inr (n, refused) ↦ inr (n, inr (p, is, refused))
            | inl (b, b_is) ↦
                let (l, u, pair) = settled p b ok b_is.fits in
                let (bounds, are) = settled_list p b l u ok pair in
                let (heads, heads_are) = heads_list m at (a_pair m at) bounds in
                inl (
                  record { problem = p; bounds = bounds; heads = heads },
                  record {
                    barrier = b;
                    posed = record { problem = is; barrier = b_is };
                    pair = are;
                    certificate = pair_certifies p b (lower_at bounds) (upper_at bounds) ok b_is.fits are.pair;
                    heads = heads_are;
                  },
                )
          ]
    ]
