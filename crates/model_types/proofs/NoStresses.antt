-- No stresses are in limits where the model has neither RCH nor EVT.
use Rattle.model_types.proofs.Common.{◌≡◌, ℕ, ℤ, pos, true, false, [], arith, All-nil, Grid, no_stresses, is_int, AreStresses, IsEntryList, IsEntryValid, IsGivenList, IsGivenValid}

no_entries : (cells : ℕ) → IsEntryList cells []
no_entries cells = record { few = omega arith; entries = All-nil (IsEntryValid cells) }

no_given : (cells : ℕ) → IsGivenList cells []
no_given cells = record { few = omega arith; entries = All-nil (IsGivenValid cells); once = grind arith }

not_other : (z : ℤ) → z ≡ pos 0 → is_int z 0 ≡ false → ⊥
not_other z e f = grind (arith)

not_two : (z : ℤ) → z ≡ pos 0 → is_int z 2 ≡ true → ⊥
not_two z e f = grind (arith)

pub no_stresses_fit : (grid : Grid) (nrchop nevtop : ℤ) → nrchop ≡ pos 0 → nevtop ≡ pos 0 → AreStresses grid nrchop nevtop no_stresses
no_stresses_fit grid nrchop nevtop r e = grind (arith, no_entries, no_given, not_other, not_two)
