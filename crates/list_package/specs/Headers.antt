-- The lines before entries: the first line of a file, and ITMP and NP of a stress period (TM 6-A16, WEL, RIV, DRN, GHB, CHD).
use Rattle.std.specs.Prelude.{ℕ, ℤ, pos, negsuc, Bool, true, false, not, ◌&&◌, List, [], ◌∷◌, nat_le, nat_lt, Option, Some, None, Result, Ok, Err}
use Rattle.std.specs.Prelude.{if◌then◌else◌, codes}
use Rattle.decimal_input.specs.{integer_of}
use Rattle.outside.specs.{refusal, words, declared.codes.Code.TheVariants.OutOfProfile, declared.codes.Code.TheVariants.TooManyEntries}
use Rattle.outside.specs.{declared.codes.Code.TheVariants.NothingToReuse, declared.inputs.Refusal.Refusal}
use Rattle.record_lines.specs.{begins_with, line_at, Numbered, Left, ◌>>=◌}
use Rattle.array_reader.specs.{number_at, integer}
use Rattle.model_types.specs.{declared.limits.Limits.Limits, most_entries}
use Rattle.list_package.specs.{declared.header.Count.Count, declared.header.Count.TheVariants.Entries, declared.header.Count.TheVariants.Again}

-- the first line of a file of stresses after its comments, which must not define parameters
unfoldable pub item_line : List ℕ → Left → Result (Numbered × Left) Refusal
item_line file left = do
  line ← line_at file left
  if begins_with (codes "PARAMETER") (words line.0.bytes) then Err (refusal OutOfProfile file line.0.number) else Ok line

-- ITMP: the number of entries that follow, at most what the limits say; where it is below 0 the last list is used again
abbrev pub count_of : Limits → ℤ → Refusal → Result Count Refusal
count_of limits (pos n) r = if nat_le n (most_entries limits) then Ok (Entries n) else Err r
count_of limits (negsuc n) r = Ok Again

-- NP counts if it is an integer above 0
abbrev pub is_positive : Option ℤ → Bool
is_positive None = false
is_positive (Some (pos n)) = nat_lt 0 n
is_positive (Some (negsuc n)) = false

abbrev pub has_parameters : List (List ℕ) → Bool
has_parameters [] = false
has_parameters (w ∷ ws) = is_positive (integer_of w)

abbrev pub is_reused : Count → Bool
is_reused (Entries n) = false
is_reused Again = true

-- the words of a period's line, after a first list or before it
unfoldable pub header_of : Limits → List ℕ → ℕ → Bool → List (List ℕ) → Result Count Refusal
header_of limits file line listed words = do
  itmp ← number_at integer file line words
  count ← count_of limits itmp.0 (refusal TooManyEntries file line)
  if is_reused count && not listed then Err (refusal NothingToReuse file line)
      else (if has_parameters itmp.1 then Err (refusal OutOfProfile file line) else Ok count)
