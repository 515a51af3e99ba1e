-- The worked example meets the premises of the laws.
use Rattle.plan_difference.proofs.Common.{◌≡◌, ℕ, zero, suc, ◌<◌, refl, arith, pos, ◌-ℤ◌, All, [], ◌∷◌, ints, All-cons, All-nil, Encloses, whole, Constant, General, Storage, entries_at, HasEqualEnds}
use Rattle.plan_difference.proofs.Common.{HasLinkBack, SolvesStep, balance, cell_at, share, one, AreFlowsApart, AreInOneWeather, AreStepsInOneWeather, BoundsDifferences, BoundsDifferencesOf}
use Rattle.plan_difference.proofs.Common.{IsDifferenceCell, IsDifferenceStep, IsMetByExample, added, base_heads, base_step, planned_heads, planned_step, problem_of_differences, step_of_differences}
use Rattle.plan_difference.proofs.Common.{half}

-- what holds of each of two cells
of_two : (P : ℕ → Type 0) → P 0 → P 1 → (c : ℕ) → c < 2 → P c
of_two P a b zero h = a
of_two P a b (suc zero) h = b
of_two P a b (suc (suc c)) h = absurd (omega arith)

weather : AreStepsInOneWeather base_step planned_step
weather = record {
  as_many = refl;
  cells = of_two (λ c. AreInOneWeather (cell_at base_step c) (cell_at planned_step c)) (record { links = refl; known = (refl, tt); rivers = refl; drains = refl; evaps = refl })
      (record { links = refl; known = (refl, tt); rivers = refl; drains = refl; evaps = refl });
}

apart : (c : ℕ) → c < 2 → AreFlowsApart (added c) (cell_at base_step c) (cell_at planned_step c)
apart = of_two (λ c. AreFlowsApart (added c) (cell_at base_step c) (cell_at planned_step c)) (record { same = record { same = refl } }) (record { same = record { same = refl } })

step : IsDifferenceStep 1 base_heads planned_heads added base_step planned_step step_of_differences
step = record {
  as_many = refl;
  cells = of_two (λ c. IsDifferenceCell (share 1 (base_heads c)) (share 1 (planned_heads c)) (share 1 (base_heads c -ℤ planned_heads c)) (added c)
      (cell_at base_step c) (cell_at planned_step c) (cell_at step_of_differences c))
      (record { id = refl; flows = refl; links = refl; of_rivers = []; of_drains = []; of_evaps = []; fixed = refl; rivers = tt; drains = tt; evaps = tt; no_ramps = (refl, refl, refl) })
      (record {
        id = refl;
        flows = refl;
        links = refl;
        of_rivers = record { kind = General; source = 2; conductance = half; head = whole (pos 0) } ∷ [];
        of_drains = [];
        of_evaps = [];
        fixed = refl;
        rivers = (record { kind = refl; source = refl; head = refl; at_most = record { cross = omega arith }; same = record { same = refl } }, tt);
        drains = tt;
        evaps = tt;
        no_ramps = (refl, refl, refl);
      });
}

base : SolvesStep base_step 1 base_heads
base = of_two (λ c. (balance (cell_at base_step c) (share 1 (base_heads c)) (λ k. share 1 (base_heads k))).num ≡ pos 0) refl refl

planned : SolvesStep planned_step 1 planned_heads
planned = of_two (λ c. (balance (cell_at planned_step c) (share 1 (planned_heads c)) (λ k. share 1 (planned_heads k))).num ≡ pos 0) refl refl

conducts : Encloses 10 10 1 one
conducts = record { lower = omega arith; upper = omega arith }

open_branch : Encloses 0 10 1 one
open_branch = record { lower = omega arith; upper = omega arith }

bounds : BoundsDifferencesOf 1 problem_of_differences added base_step planned_step
bounds = record {
  as_many = (refl, refl);
  cells = of_two (λ c. BoundsDifferences 1 (entries_at problem_of_differences c) (added c) (cell_at base_step c) (cell_at planned_step c))
      (record {
        id = refl;
        flows = tt;
        links = (record { cell = refl; conductance = conducts }, tt);
        known = record { kind = Constant; source = 0; lo = 10; hi = 10; head_lo = pos 0; head_hi = pos 0 } ∷ [];
        of_rivers = [];
        of_drains = [];
        of_evaps = [];
        fixed = refl;
        known_heads = (record { kind = refl; source = refl; conductance = conducts; head = record { lower = omega (arith, ints); upper = omega (arith, ints) } }, tt);
        rivers = tt;
        drains = tt;
        evaps = tt;
        no_ramps = (refl, refl, refl);
      })
      (record {
        id = refl;
        flows = (record { kind = refl; flow = record { lower = omega (arith, ints); upper = omega (arith, ints) } }, tt);
        links = (record { cell = refl; conductance = conducts }, tt);
        known = record { kind = Storage; source = 2; lo = 10; hi = 10; head_lo = pos 2000000000; head_hi = pos 2000000000 } ∷ [];
        of_rivers = record { kind = General; source = 2; lo = 0; hi = 10; head_lo = pos 0; head_hi = pos 0 } ∷ [];
        of_drains = [];
        of_evaps = [];
        fixed = refl;
        known_heads = (record { kind = refl; source = refl; conductance = conducts; head = record { lower = omega (arith, ints); upper = omega (arith, ints) } }, tt);
        rivers = (record { kind = refl; source = refl; conductance = open_branch; lo = refl; head = (refl, refl) }, tt);
        drains = tt;
        evaps = tt;
        no_ramps = (refl, refl, refl);
      });
  apart = apart;
  ends = ends;
}
  where
    back_of : (c d : ℕ) → HasLinkBack base_step c (record { cell = d; conductance = one }) → All (HasLinkBack base_step c) (record { cell = d; conductance = one } ∷ [])
    back_of c d h = All-cons (HasLinkBack base_step c) (record { cell = d; conductance = one }) [] h (All-nil (HasLinkBack base_step c))

    ends : HasEqualEnds base_step
    ends = of_two (λ c. All (HasLinkBack base_step c) (cell_at base_step c).links)
        (back_of 0 1 (record { back = record { cell = 0; conductance = one }; is_there = (0, omega arith, refl); leads_back = refl; same = record { cross = refl } }))
        (back_of 1 0 (record { back = record { cell = 1; conductance = one }; is_there = (0, omega arith, refl); leads_back = refl; same = record { cross = refl } }))

pub example_is_met : IsMetByExample
example_is_met = record { weather = weather; apart = apart; step = step; base = base; planned = planned; bounds = bounds }
