-- What a file of a package of arrays gives.
use Rattle.period_arrays.proofs.Common.{ok_gives_only, goes_on, then_, GivesOnly, HasSize, Grid, FileSet, words, ArrayKind, arrays_in, is_option, nothing_yet, option_line, tested_area, unit_if}
use Rattle.period_arrays.proofs.Common.{with_area, period_at, periods_of, IsArea, IsInForce, InForce, Left, left_from, without_comments, All, List, Ok, map, refl, true, ℕ, ℤ, ◌≡◌, Area}
use Rattle.list_package.specs.{item_line}
use Rattle.model_types.specs.declared.period.Period.{Period}
use Rattle.list_package.proofs.ListForms.{steps, each_are}
use Rattle.period_arrays.specs.declared.read.ArrayFile.{ArrayFile}
use Rattle.period_arrays.proofs.AreaForms.{first_area, area_is, option_is}

-- an option from 1 to 3, and periods with arrays by it
pub record AreRead (Q : ℤ → Period → Type 0) (ps : List Period) (a : ArrayFile) : Type 0 where
  pub active : is_option a.option ≡ true
  pub each : All (Q a.option) a.periods
  pub same : map steps a.periods ≡ map steps ps

-- arrays of a period that passed their test
pub record IsTested (kind : ArrayKind) (file : List ℕ) (g : Grid) (ibound : List ℤ) (option : ℤ) (a : Area) : Type 0 where
  pub has : IsArea kind.evaporates g option a
  pub passed : kind.test file g ibound option a ≡ Ok tt

module _ (kind : ArrayKind) (files : FileSet) (file : List ℕ) (g : Grid) (size : HasSize g) (ibound : List ℤ) (P : Period → Type 0) (Q : ℤ → Period → Type 0)
    (put : (option : ℤ) → is_option option ≡ true → (p : Period) (a : Area) → P p → IsTested kind file g ibound option a → Q option (with_area kind p a)) where
  module _ (option : ℤ) (active : is_option option ≡ true) where
    abbrev State : InForce × Left → Type 0
    State s = IsInForce kind.evaporates g option s.0

    tested_is : (s : InForce × Left) → State s → GivesOnly (λ x. IsTested kind file g ibound option x.0 × State x.1) (tested_area kind files file g ibound option s)
    unfolding tested_area
    tested_is s so =
        then_ _ (area_is files file g kind.evaporates size option s so) (λ area is.
        goes_on (kind.test file g ibound option area.0) _ (λ test e. ok_gives_only (record { has = is.0; passed = e }, is.1)))

    period_is : (p : Period) (s : InForce × Left) → State s → P p → GivesOnly (λ x. Q option x.0 × State x.1 × (steps x.0 ≡ steps p)) (period_at kind files file g ibound option p s)
    unfolding period_at
    period_is p s so known = then_ _ (tested_is s so) (λ area is. ok_gives_only (put option active p area.0 known is.0, is.1, refl))

    periods_are : (ps : List Period) (left : Left) → All P ps → GivesOnly (λ qs. All (Q option) qs × (map steps qs ≡ map steps ps)) (periods_of kind files file g ibound option ps left)
    unfolding periods_of
    periods_are ps left all =
        then_ _ (each_are (period_at kind files file g ibound option) State P (Q option) period_is ps (nothing_yet, left) (first_area kind.evaporates g option) all) (λ x are. ok_gives_only are)

  line_is : (left : Left) → GivesOnly (λ x. is_option x.0 ≡ true) (option_line kind file left)
  unfolding option_line
  line_is left =
      goes_on (item_line file left) _ (λ line a.
      then_ _ (option_is file line.0.number (words line.0.bytes)) (λ option active.
      goes_on (unit_if kind.evaporates file line.0.number option.1) _ (λ unit b. ok_gives_only active)))

  pub arrays_are_read : (bytes : List ℕ) (ps : List Period) → All P ps → GivesOnly (AreRead Q ps) (arrays_in kind files file bytes g ibound ps)
  unfolding arrays_in
  arrays_are_read bytes ps all =
      then_ _ (line_is (without_comments (left_from 1 bytes))) (λ option active.
      then_ _ (periods_are option.0 active ps option.1 all) (λ qs are. ok_gives_only (record { active = active; each = are.0; same = are.1 })))
