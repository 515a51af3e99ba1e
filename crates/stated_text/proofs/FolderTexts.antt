-- The files of a text, the last one first.
use Rattle.stated_text.proofs.Common.{◌≡◌, ◌<◌, ◌+◌, ◌-◌, ℕ, List, [], ◌∷◌, ap, drop, length, map, arith, file_of, TextFile, get_or, drop_all, next_of}

pub none_yet : (files : List TextFile) → map file_of (drop (length files - 0) files) ≡ []
none_yet files = ap (map file_of) (drop_all (length files - 0) files (omega arith))

pub one_more : (files : List TextFile) (i : ℕ) (d : TextFile) → i < length files →
    map file_of (drop (length files - (i + 1)) files) ≡ file_of (get_or files (length files - 1 - i) d) ∷ map file_of (drop (length files - i) files)
one_more files i d low = grind (arith, next_of)

pub all_there : (files : List TextFile) (i : ℕ) → i ≡ length files → map file_of (drop (length files - i) files) ≡ map file_of files
all_there files i e = let none : length files - i ≡ 0 = omega arith in ap (λ k. map file_of (drop k files)) none

pub ruleset folder_steps = (none_yet, one_more, all_there)
