-- On one side: what a turn gains, and what own turns gain.
use Rattle.relax_worker.proofs.Common.{◌≡◌, ℕ, ◌+◌, ◌<◌, ℤ, sym, subst, ⊎_elim, arith, AsTight, IsRelaxed, IsPast}
use Rattle.std.proofs.lemmas.Bool.{cases_eq}
use Rattle.step_problem.proofs.Sides.{IsSide, as_tight_refl, passes_more, turn_passes}

module _ {Le : ℤ → ℤ → Type 0} {Moves : ℕ → ℤ → (ℕ → ℤ) → Type 0} {n : ℕ} (s : IsSide Le Moves n) where
  -- a head as tight as the relaxed head from later heads is past that from the earlier ones
  pub turn_gains : (old l : ℕ → ℤ) (c : ℕ) (to x : ℤ) → c < n → AsTight Le Moves n old l → IsRelaxed Le Moves n l c to → Le to x → IsPast Le Moves n old c x
  turn_gains old l c to x h up t le = passes_more s old l c to x h up le (turn_passes s l c to t)

  -- one more cell was looked at: it had its turn, or is not one of the worker's own
  pub own_step : (old l next : ℕ → ℤ) (own : ℕ → Type 0) (i : ℕ) → i < n → AsTight Le Moves n old l → AsTight Le Moves n l next →
      (own i → IsPast Le Moves n l i (next i)) → ((c : ℕ) → c < i → own c → IsPast Le Moves n old c (l c)) → (c : ℕ) → c < i + 1 → own c →
      IsPast Le Moves n old c (next c)
  own_step old l next own i inside first up here before c h o = ⊎_elim
      (λ (e : c ≡ i). subst (λ (k : ℕ). IsPast Le Moves n old k (next k)) (sym e) (passes_more s old l i (next i) (next i) inside first (s.refl (next i)) (here (subst own e o))))
      (λ (ne : c ≡ i → ⊥). passes_more s old old c (l c) (next c) (omega arith) (as_tight_refl s old) (up c (omega arith)) (before c (omega arith) o)) (cases_eq c i)
