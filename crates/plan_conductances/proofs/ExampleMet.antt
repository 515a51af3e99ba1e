-- The worked example meets the premises of the laws.
use Rattle.plan_conductances.proofs.Common.{◌≡◌, ℕ, zero, suc, ◌<◌, refl, arith, List, [], ◌∷◌, length, All, ℤ, pos, ints, All-cons, All-nil, AllZip, slice_index_or, AreLinked, ExactCell, ExactFixed}
use Rattle.plan_conductances.proofs.Common.{ExactFlow, ExactLink, ExactRiver, HasLinkBack, balance, cell_at, minus, no_link, share, Ratio, fraction_total, whole, AtMost, Same, ArePlansOfAWell}
use Rattle.plan_conductances.proofs.Common.{BoundsFromAbove, BoundsFromBelow, IsCellOfFlow, IsMetByExample, LinkConductsAtMost, at_well, base_step, first_cell, known_conductance, less_step, more_step}
use Rattle.plan_conductances.proofs.Common.{planned_step, second_cell, whole_conductance, AreInOneWeather, head_at}

-- what holds of each of two cells
of_two : (P : ℕ → Type 0) → P 0 × P 1 → (c : ℕ) → c < 2 → P c
of_two P both zero h = both.0
of_two P both (suc zero) h = both.1
of_two P both (suc (suc c)) h = absurd (omega arith)

module _ (flows : List ExactFlow) (r : Ratio) (fixed : List ExactFixed) (rivers : List ExactRiver) (head : ℤ) where
  abbrev step : List ExactCell
  step = first_cell flows r fixed rivers ∷ second_cell r head ∷ []

  one_link : (P : ExactLink → Type 0) (x : ExactLink) → P x → All P (x ∷ [])
  one_link P x h = All-cons P x [] h (All-nil P)

  linked : AreLinked step
  linked = record {
    range = of_two (λ c. All (λ x. x.cell < 2) (cell_at step c).links) (one_link (λ x. x.cell < 2) _ (omega arith), one_link (λ x. x.cell < 2) _ (omega arith));
    apart = λ c i j h. of_two (λ c. i < j → j < length (cell_at step c).links →
        (slice_index_or (cell_at step c).links i no_link).cell ≡ (slice_index_or (cell_at step c).links j no_link).cell → ⊥) (λ l k e. omega arith, λ l k e. omega arith) c h;
    ends = of_two (λ c. All (HasLinkBack step c) (cell_at step c).links) (
      one_link (HasLinkBack step 0) _ (record { back = record { cell = 0; conductance = r }; is_there = (0, omega arith, refl); leads_back = refl; same = record { cross = refl } }),
      one_link (HasLinkBack step 1) _ (record { back = record { cell = 1; conductance = r }; is_there = (0, omega arith, refl); leads_back = refl; same = record { cross = refl } }),
    );
  }

plans : ArePlansOfAWell 0 (whole (pos 3)) base_step planned_step 1 (head_at (pos 10 ∷ pos 10 ∷ [])) (head_at (pos 6 ∷ pos 8 ∷ []))
plans = record {
  takes = omega (arith, ints);
  apart = record {
    inside = omega arith;
    linked = linked _ _ _ _ _;
    weather = record {
      as_many = refl;
      cells = of_two (λ c. AreInOneWeather (cell_at base_step c) (cell_at planned_step c)) (
        record { links = refl; known = tt; rivers = refl; drains = refl; evaps = refl },
        record { links = refl; known = (refl, tt); rivers = refl; drains = refl; evaps = refl },
      );
    };
    steady = of_two (λ c. (cell_at planned_step c).fixed ≡ (cell_at base_step c).fixed) (refl, refl);
    apart = of_two (λ c. Same (minus (fraction_total (λ x. x.flow) (cell_at base_step c).flows) (fraction_total (λ x. x.flow) (cell_at planned_step c).flows)) (at_well 0 (whole (pos 3)) c))
        (record { same = refl }, record { same = refl });
  };
  some = omega arith;
  base = of_two (λ c. (balance (cell_at base_step c) (share 1 (head_at (pos 10 ∷ pos 10 ∷ []) c)) (λ k. share 1 (head_at (pos 10 ∷ pos 10 ∷ []) k))).num ≡ pos 0) (refl, refl);
  planned = of_two (λ c. (balance (cell_at planned_step c) (share 1 (head_at (pos 6 ∷ pos 8 ∷ []) c)) (λ k. share 1 (head_at (pos 6 ∷ pos 8 ∷ []) k))).num ≡ pos 0) (refl, refl);
}

above : BoundsFromAbove 0 (whole (pos 3)) base_step less_step 1 (head_at (pos 9 ∷ pos 3 ∷ []))
above = record {
  well = record {
    inside = omega arith;
    linked = linked _ _ _ _ _;
    cells = of_two (λ c. IsCellOfFlow (at_well 0 (whole (pos 3)) c) (cell_at less_step c)) (
      record { flow = record { same = refl }; known = All-nil (λ f. f.head.num ≡ pos 0); no_ramps = (refl, refl, refl) },
      record { flow = record { same = refl }; known = All-cons (λ f. f.head.num ≡ pos 0) _ [] refl (All-nil (λ f. f.head.num ≡ pos 0)); no_ramps = (refl, refl, refl) },
    );
  };
  conducts = record {
    as_many = refl;
    links = of_two (λ c. AllZip LinkConductsAtMost (cell_at less_step c).links (cell_at base_step c).links) (
      ((refl, record { at_most = omega (arith, ints) }), tt),
      ((refl, record { at_most = omega (arith, ints) }), tt),
    );
    known = of_two (λ c. AtMost (whole_conductance (cell_at less_step c)) (known_conductance (cell_at base_step c))) (
      record { at_most = omega (arith, ints) },
      record { at_most = omega (arith, ints) },
    );
  };
  some = omega arith;
  solves = of_two (λ c. (balance (cell_at less_step c) (share 1 (head_at (pos 9 ∷ pos 3 ∷ []) c)) (λ k. share 1 (head_at (pos 9 ∷ pos 3 ∷ []) k))).num ≡ pos 0) (refl, refl);
}

below : BoundsFromBelow 0 (whole (pos 3)) base_step more_step 5 (head_at (pos 9 ∷ pos 6 ∷ []))
below = record {
  well = record {
    inside = omega arith;
    linked = linked _ _ _ _ _;
    cells = of_two (λ c. IsCellOfFlow (at_well 0 (whole (pos 3)) c) (cell_at more_step c)) (
      record { flow = record { same = refl }; known = All-cons (λ f. f.head.num ≡ pos 0) _ [] refl (All-nil (λ f. f.head.num ≡ pos 0)); no_ramps = (refl, refl, refl) },
      record { flow = record { same = refl }; known = All-cons (λ f. f.head.num ≡ pos 0) _ [] refl (All-nil (λ f. f.head.num ≡ pos 0)); no_ramps = (refl, refl, refl) },
    );
  };
  conducts = record {
    as_many = refl;
    links = of_two (λ c. AllZip LinkConductsAtMost (cell_at base_step c).links (cell_at more_step c).links) (
      ((refl, record { at_most = omega (arith, ints) }), tt),
      ((refl, record { at_most = omega (arith, ints) }), tt),
    );
    known = of_two (λ c. AtMost (whole_conductance (cell_at base_step c)) (known_conductance (cell_at more_step c))) (
      record { at_most = omega (arith, ints) },
      record { at_most = omega (arith, ints) },
    );
  };
  some = omega arith;
  solves = of_two (λ c. (balance (cell_at more_step c) (share 5 (head_at (pos 9 ∷ pos 6 ∷ []) c)) (λ k. share 5 (head_at (pos 9 ∷ pos 6 ∷ []) k))).num ≡ pos 0) (refl, refl);
}

pub example_is_met : IsMetByExample
example_is_met = record { plans = plans; above = above; below = below }
