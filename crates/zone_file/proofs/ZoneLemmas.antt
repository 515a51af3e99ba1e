-- Zones that pass the test are within their limits.
use Rattle.zone_file.proofs.Common.{◌≡◌, false, not, List, None, All, length, slice_index_or, arith, ℕ, ◌≤◌, [], ◌∷◌, Some, Option, Ok, map, unsigned_abs, refl, file_at, FileSet, IsZone, is_zone}
use Rattle.zone_file.proofs.Common.{wrong_at, zones_of, zones_tested, array_files_have_form, ok_gives_only, goes_on, err_gives_only, then_}
use Rattle.std.specs.Prelude.{codes, ℤ, pos, negsuc}
use Rattle.std.specs.List.{position, position_or_len, AllByRecursion}
use Rattle.std.proofs.{lemmas.Int.ints, lemmas.List.Sums.fails_before_first, lemmas.List.Elements.All-from_recursion, lemmas.List.Elements.recursion_from_All}
use Rattle.record_lines.proofs.CutLemmas.{place_of_none}
use Rattle.record_lines.specs.{GivesOnly, name_at, left_from}
use Rattle.model_types.specs.{cell_count, declared.grid.Grid.Grid}

zone_is : (z : ℤ) → not (is_zone z) ≡ false → IsZone z
zone_is (pos n) h = grind (arith, ints)
zone_is (negsuc n) h = absurd cc

pub zones_are : (zones : List ℤ) → position (λ z. not (is_zone z)) zones ≡ None → All IsZone zones
zones_are zones h = λ k d lt.
    let end : length zones ≡ position_or_len (λ z. not (is_zone z)) zones = place_of_none _ zones h in
    zone_is (slice_index_or zones k d) (fails_before_first (λ z. not (is_zone z)) zones k d (omega (arith, end, lt)))

-- The zones that a file gives: one for each cell of the grid, each at most 999.
tested_is : (file : List ℕ) (grid : Grid) (zones : List ℤ) → GivesOnly (λ u. All IsZone zones) (zones_tested file grid zones)
unfolding zones_tested
tested_is file grid zones = by_place (position (λ z. not (is_zone z)) zones) refl
  where
    by_place : (o : Option ℕ) → position (λ z. not (is_zone z)) zones ≡ o → GivesOnly (λ u. All IsZone zones) (wrong_at file grid o)
    by_place None e = ok_gives_only (zones_are zones e)
    by_place (Some cell) e = err_gives_only

pub zones_give : (files : FileSet) (grid : Grid) (name : List ℕ) → GivesOnly (λ zs. (length zs ≡ cell_count grid) × All IsZone zs) (zones_of files grid name)
unfolding zones_of
zones_give files grid name =
    goes_on (name_at (codes "-") 0 name) _ (λ file a.
    goes_on (file_at files file) _ (λ bytes b. then_ _ (array_files_have_form.integer_grids files file grid.layers grid.rows grid.cols (left_from 1 bytes))
    (λ zones many. then_ _ (tested_is file grid zones.0) (λ tested are. ok_gives_only (many, are)))))

small : (z : ℤ) → IsZone z → unsigned_abs z ≤ 999
small (pos n) h = let a = h.1 in omega (arith, ints, a)
small (negsuc n) h = let a = h.0 in absurd (omega (arith, ints, a))

all_small : (zs : List ℤ) → AllByRecursion IsZone zs → AllByRecursion (λ n. n ≤ 999) (map unsigned_abs zs)
all_small [] h = tt
all_small (z ∷ zs) h = (small z h.0, all_small zs h.1)

pub numbers_small : (files : FileSet) (grid : Grid) (name : List ℕ) (zs : List ℤ) → zones_of files grid name ≡ Ok zs → All (λ n. n ≤ 999) (map unsigned_abs zs)
numbers_small files grid name zs h = All-from_recursion (λ n. n ≤ 999) (map unsigned_abs zs) (all_small zs (recursion_from_All IsZone zs ((zones_give files grid name).gives zs h).1))
