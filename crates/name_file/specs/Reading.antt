-- A name file, line by line: `Ftype Nunit Fname`. (TM 6-A16, name file)
use Rattle.std.specs.Prelude.{ℕ, Bool, List, [], ◌∷◌, ◌++◌, Option, Some, None, Result, Ok, Err, if◌then◌else◌, is_some, ◌||◌, codes}
use Rattle.decimal_input.specs.{integer_of}
use Rattle.outside.specs.declared.codes.Code.TheVariants.{BadNameLine, DuplicatePackage, UnsupportedPackage, MissingPackage}
use Rattle.outside.specs.declared.inputs.Refusal.{Refusal}
use Rattle.outside.specs.{refusal, words}
use Rattle.record_lines.specs.{◌>>=◌, Numbered, is_comment, left_from, word_at, name_at, is_word}
use Rattle.name_file.specs.Pairs.{Pairs, has_package}
use Rattle.name_file.specs.declared.package.Package.{Package}
use Rattle.name_file.specs.declared.package.Package.TheVariants.{Dis, Bas, Lpf, Wel, Riv, Drn, Ghb, Rch, Chd, Evt}

-- What the first word of a line of a name file, its Ftype, says. (MODFLOW-2005 manual, TM 6-A16, name file)
-- the package that a word names, in any letter case
unfoldable pub package_of : List ℕ → Option Package
package_of word =
    if is_word (codes "DIS") word then Some Dis
    else if is_word (codes "BAS6") word then Some Bas
    else if is_word (codes "LPF") word then Some Lpf
    else if is_word (codes "WEL") word then Some Wel
    else if is_word (codes "RIV") word then Some Riv
    else if is_word (codes "DRN") word then Some Drn
    else if is_word (codes "GHB") word then Some Ghb
    else if is_word (codes "RCH") word then Some Rch
    else if is_word (codes "CHD") word then Some Chd
    else if is_word (codes "EVT") word then Some Evt
    else None

-- the listing, output control, solvers, links to transport, parameters and data files: the heads
-- don't depend on them; in any letter case
unfoldable pub is_passed_over : List ℕ → Bool
is_passed_over word =
    is_word (codes "LIST") word || (is_word (codes "OC") word || (is_word (codes "PCG") word || (is_word (codes "PCGN") word
    || (is_word (codes "SIP") word || (is_word (codes "DE4") word || (is_word (codes "GMG") word || (is_word (codes "LMT6") word
    || (is_word (codes "MULT") word || (is_word (codes "ZONE") word || (is_word (codes "PVAL") word || (is_word (codes "DATA") word
    || is_word (codes "DATA(BINARY)") word)))))))))))

-- an optional sign and 1 to 18 digits
unfoldable pub is_integer : List ℕ → Bool
is_integer word = is_some (integer_of word)

-- the file's name after the words Nunit and Fname, where both are present and Nunit is an integer;
-- the name is tested last
unfoldable pub file_in : List ℕ → ℕ → List (List ℕ) → Result (List ℕ) Refusal
file_in file line words = do
  unit ← word_at (refusal BadNameLine file line) words
  name ← word_at (refusal BadNameLine file line) unit.1
  if is_integer unit.0 then name_at file line name.0 else Err (refusal BadNameLine file line)

-- a new package is added at the end
abbrev pub with_pair : Refusal → Package → List ℕ → Pairs → Result Pairs Refusal
with_pair duplicate found name names = if has_package found names then Err duplicate else Ok (names ++ (found, name) ∷ [])

-- the pairs after the line of a package
unfoldable pub after_package : List ℕ → ℕ → Package → List (List ℕ) → Pairs → Result Pairs Refusal
after_package file line found words names = do
  name ← file_in file line words
  with_pair (refusal DuplicatePackage file line) found name names

-- a type that is no package is refused before its other words are read
abbrev pub after_type : Option Package → List ℕ → ℕ → List (List ℕ) → Pairs → Result Pairs Refusal
after_type None file line words names = Err (refusal UnsupportedPackage file line)
after_type (Some found) file line words names = after_package file line found words names

abbrev pub after_words : List ℕ → ℕ → List (List ℕ) → Pairs → Result Pairs Refusal
after_words file line [] names = Ok names
after_words file line (kind ∷ words) names = if is_passed_over kind then Ok names else after_type (package_of kind) file line words names

-- the pairs after a line; a line that begins with '#' adds nothing
unfoldable pub after_line : List ℕ → Numbered → Pairs → Result Pairs Refusal
after_line file line names = if is_comment line.bytes then Ok names else after_words file line.number (words line.bytes) names

unfoldable pub after_lines : List ℕ → List Numbered → Pairs → Result Pairs Refusal
after_lines file [] names = Ok names
after_lines file (line ∷ others) names = do
  next ← after_line file line names
  after_lines file others next

abbrev pub missing_refusal : List ℕ → Result Pairs Refusal
missing_refusal file = Err (refusal MissingPackage file 0)

-- the packages that every model has are present
unfoldable pub whole : List ℕ → Pairs → Result Pairs Refusal
whole file names =
    if has_package Dis names then (if has_package Bas names
    then (if has_package Lpf names then Ok names else missing_refusal file) else missing_refusal file) else missing_refusal file

-- the pairs of a name file, or its first refusal
unfoldable pub names_of : List ℕ → List ℕ → Result Pairs Refusal
names_of file bytes = do
  names ← after_lines file (left_from 1 bytes).lines []
  whole file names
