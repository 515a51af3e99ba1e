-- The example's entries keep a problem's conditions, and enclose its exact step.
use Rattle.cell_balance.proofs.Common.{◌≡◌, ℕ, zero, suc, ◌<◌, ◌≤◌, refl, arith, pos, neg_ℤ, [], ◌∷◌, All, Contains, ints, All-nil, All-cons, Encloses, Link, Fixed, Constant, Storage, entries_at}
use Rattle.cell_balance.proofs.Common.{head_limit, IsHead, LinkFits, FixedFits, RiverFits, DrainFits, EvapFits, CellFits, LinksFit, IsProblem, HasLinkBack, HasEqualEnds, CellEncloses, EnclosesStep}
use Rattle.cell_balance.proofs.Common.{example_problem, example_step, first_entries, second_entries, third_entries, first_cell, second_cell, third_cell, one, cell_at}

single : {X : Type 0} (P : X → Type 0) (x : X) → P x → All P (x ∷ [])
single P x h = All-cons P x [] h (All-nil P)

double : {X : Type 0} (P : X → Type 0) (x y : X) → P x → P y → All P (x ∷ y ∷ [])
double P x y h k = All-cons P x (y ∷ []) h (single P y k)

-- what holds of each of three cells
pub of_three : (P : ℕ → Type 0) → P 0 → P 1 → P 2 → (c : ℕ) → c < 3 → P c
of_three P a b d zero h = a
of_three P a b d (suc zero) h = b
of_three P a b d (suc (suc zero)) h = d
of_three P a b d (suc (suc (suc c))) h = absurd (omega arith)

abbrev zero_side : Fixed
zero_side = record { kind = Constant; source = 0; lo = 9; hi = 11; head_lo = neg_ℤ (pos 1); head_hi = pos 1 }

abbrev old_head : Fixed
old_head = record { kind = Storage; source = 1; lo = 9; hi = 11; head_lo = pos 3300000000; head_hi = pos 3400000000 }

is_head : (n : ℕ) → n ≤ head_limit → IsHead (pos n)
is_head n h = record { above = omega (arith, ints); below = omega (arith, ints) }

is_low : (n : ℕ) → n ≤ head_limit → IsHead (neg_ℤ (pos n))
is_low n h = record { above = omega (arith, ints); below = omega (arith, ints) }

cell_fits : (c : ℕ) → c < 3 → CellFits (entries_at example_problem c)
cell_fits = of_three (λ c. CellFits (entries_at example_problem c))
    (record {
      links = single LinkFits _ (record { conducts = omega arith; ordered = omega arith });
      fixed = double FixedFits zero_side old_head (record { ordered = omega arith; head_lo = is_low 1 (omega arith); head_hi = is_head 1 (omega arith) })
          (record { ordered = omega arith; head_lo = is_head 3300000000 (omega arith); head_hi = is_head 3400000000 (omega arith) });
      rivers = single RiverFits _ (record {
        ordered = omega arith;
        stage_lo = is_head _ (omega arith);
        stage_hi = is_head _ (omega arith);
        bottom_lo =
            is_head _ (omega arith);
        bottom_hi = is_head _ (omega arith);
      });
      drains = All-nil DrainFits;
      evaps = All-nil EvapFits;
      conductances = omega arith;
      flows = omega arith;
    })
    (record {
      links = single LinkFits _ (record { conducts = omega arith; ordered = omega arith });
      fixed = single FixedFits _ (record { ordered = omega arith; head_lo = is_head _ (omega arith); head_hi = is_head _ (omega arith) });
      rivers = All-nil RiverFits;
      drains = All-nil DrainFits;
      evaps = single EvapFits _ (record {
        ordered = omega arith;
        ext_lo = is_head _ (omega arith);
        ext_hi = is_head _ (omega arith);
        surf_lo =
            is_head _ (omega arith);
        surf_hi = is_head _ (omega arith);
        deep = omega (arith, ints);
      });
      conductances = omega arith;
      flows = omega arith;
    })
    (record {
      links = All-nil LinkFits;
      fixed = All-nil FixedFits;
      rivers = All-nil RiverFits;
      drains = single DrainFits _ (record { ordered = omega arith; elev_lo = is_low 1 (omega arith); elev_hi = is_head _ (omega arith) });
      evaps = All-nil EvapFits;
      conductances = omega arith;
      flows = omega arith;
    })

-- a link of cell c has its equal at the other end
abbrev HasBack : ℕ → Link → Type 0
HasBack c x = Contains (entries_at example_problem x.cell).links (record { cell = c; lo = x.lo; hi = x.hi })

-- a cell with one link, to another cell that has one back
one_link : (c d : ℕ) → d < 3 → (d ≡ c → ⊥) → HasBack c (record { cell = d; lo = 9; hi = 11 }) → LinksFit example_problem c (record { cell = d; lo = 9; hi = 11 } ∷ [])
one_link c d within other back = grind (arith, single)

links_fit : (c : ℕ) → c < 3 → LinksFit example_problem c (entries_at example_problem c).links
links_fit = grind (arith, of_three, one_link)

ascending : (c d : ℕ) → c < d → d < 3 → (entries_at example_problem c).id < (entries_at example_problem d).id
ascending zero zero h k = absurd (omega arith)
ascending zero (suc zero) h k = omega arith
ascending zero (suc (suc zero)) h k = omega arith
ascending (suc zero) (suc (suc zero)) h k = omega arith
ascending (suc c) zero h k = absurd (omega arith)
ascending (suc c) (suc zero) h k = absurd (omega arith)
ascending (suc (suc c)) (suc (suc zero)) h k = absurd (omega arith)
ascending c (suc (suc (suc d))) h k = absurd (omega arith)

pub example_fits : IsProblem example_problem
example_fits = record { few = omega arith; ascending = ascending; cells = cell_fits; links = links_fit }

conducts : Encloses 9 11 1 one
conducts = record { lower = omega arith; upper = omega arith }

equal_ends : HasEqualEnds example_step
equal_ends = of_three (λ c. All (HasLinkBack example_step c) (cell_at example_step c).links)
    (single (HasLinkBack example_step 0) _ (record { back = record { cell = 0; conductance = one }; is_there = (0, omega arith, refl); leads_back = refl; same = record { cross = refl } }))
    (single (HasLinkBack example_step 1) _ (record { back = record { cell = 1; conductance = one }; is_there = (0, omega arith, refl); leads_back = refl; same = record { cross = refl } }))
    (All-nil (HasLinkBack example_step 2))

first_encloses : CellEncloses 1 first_entries first_cell
first_encloses = grind (arith, conducts)

second_encloses : CellEncloses 1 second_entries second_cell
second_encloses = grind (arith, conducts)

third_encloses : CellEncloses 1 third_entries third_cell
third_encloses = grind (arith, conducts)

pub example_encloses : EnclosesStep 1 example_problem example_step
example_encloses = record { cells = (first_encloses, (second_encloses, (third_encloses, tt))); ends = equal_ends }
