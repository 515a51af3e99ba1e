-- The name file is read as written.
use Rattle.model_text.proofs.Common.{◌≡◌, ℕ, ◌≤◌, Bool, true, false, nat_le, ◌&&◌, List, [], ◌∷◌, ◌++◌, append_assoc, length, map, filter, All, Some, None, Ok, refl, arith, list_any, append-nil}
use Rattle.model_text.proofs.Common.{All-nil, All-cons, All-head, All-tail, All-from_recursion, nat_tests, is_good_name, next_number, word_at, name_at, Pairs, is_same_package, file_of, has_package}
use Rattle.model_text.proofs.Common.{file_in, after_package, after_line, after_lines, names_of, Package, Dis, Bas, Lpf, IsWord, IsWordByte, Line, IsLine, line_text, text, numbered_lines}
use Rattle.model_text.proofs.Common.{left_of_lines, packages, file_type, file_unit, name_item, IsFileName, AreNames, is_same, is_itself, line_words, text_left, All-weaker, list_all-from_AllPass}
use Rattle.name_file.specs.{whole}
use Rattle.model_text.proofs.DisTexts.{line_is_item}
use Rattle.model_text.proofs.PackageTexts.{type_is_word, unit_is_word, type_is_item, type_reads, type_is_kept, unit_is_integer, AreApart, packages_apart, item_found}

good_byte : (b : ℕ) → IsWordByte b → (nat_le 33 b && nat_le b 126) ≡ true
good_byte b k =
    let low : nat_le 33 b ≡ true = grind (arith, nat_tests, k.printable.0) in
    let high : nat_le b 126 ≡ true = grind (arith, nat_tests, k.printable.1) in
    rw (low, high) refl

good_name : (w : List ℕ) → IsFileName w → is_good_name w ≡ true
unfolding is_good_name
good_name w h =
    let some : 1 ≤ length w = h.word.some in
    let few : length w ≤ 255 = h.few in
    let low : nat_le 1 (length w) ≡ true = grind (arith, nat_tests) in
    let high : nat_le (length w) 255 ≡ true = grind (arith, nat_tests) in
    rw (low, high) (list_all-from_AllPass (λ b. nat_le 33 b && nat_le b 126) w (All-weaker (λ b. IsWordByte b) (λ b. (nat_le 33 b && nat_le b 126) ≡ true) good_byte w h.word.bytes))

-- A pair at the end of pairs.
module _ (names : Package → List ℕ) where
  abbrev pub pair : Package → Package × List ℕ
  pair k = (k, names k)

  still_new : (a k : Package) (before : Pairs) → is_same_package a k ≡ false → has_package a before ≡ false → has_package a (before ++ pair k ∷ []) ≡ false
  still_new a k [] other h = rw other refl
  still_new a k (p ∷ before) other h = by_case (λ rest. still_new a k before other rest) (is_same_package a p.0) refl
    where
      by_case : (has_package a before ≡ false → has_package a (before ++ pair k ∷ []) ≡ false) → (b : Bool) → is_same_package a p.0 ≡ b → has_package a ((p ∷ before) ++ pair k ∷ []) ≡ false
      by_case more true e = let found : has_package a (p ∷ before) ≡ true = rw e refl in absurd (cc)
      by_case more false e = let rest : has_package a before ≡ false = rw e at h in rw e (more rest)

-- Where a package is in a list, a list of pairs without some packages has its pair or not.
module _ (names : Package → List ℕ) (p : Package → Bool) where
  abbrev pub pairs_of : List Package → Pairs
  pairs_of ks = map (pair names) (filter p ks)

  pub absent_package_has_no_file : (asked : Package) → p asked ≡ false → (ks : List Package) → file_of asked (pairs_of ks) ≡ None
  absent_package_has_no_file asked out [] = refl
  absent_package_has_no_file asked out (k ∷ ks) = by_case (absent_package_has_no_file asked out ks) (p k) refl
    where
      differs : (b : Bool) → p k ≡ true → is_same_package asked k ≡ b → b ≡ false
      differs true e s = let same : asked ≡ k = is_same asked k s in absurd (let found : p asked ≡ true = rw same e in cc)
      differs false e s = refl

      by_case : file_of asked (pairs_of ks) ≡ None → (b : Bool) → p k ≡ b → file_of asked (pairs_of (k ∷ ks)) ≡ None
      by_case rest true e = rw (e, differs (is_same_package asked k) e refl) rest
      by_case rest false e = rw e rest

  pub present : (asked : Package) → p asked ≡ true → (ks : List Package) → list_any (λ k. is_same_package asked k) ks ≡ true → file_of asked (pairs_of ks) ≡ Some (names asked)
  present asked = item_found p (pair names) (file_of asked) asked (names asked) (λ ps. rw (is_itself asked) refl) (λ k e ps. rw e refl)

module _ (names : Package → List ℕ) (name : List ℕ) (h : AreNames names name) where
  abbrev item : Package → Line
  item k = file_type k ∷ file_unit k ∷ names k ∷ []

  item_is_line : (k : Package) → IsLine (item k)
  item_is_line k =
      record { some = omega arith; words = All-from_recursion (λ w. IsWord w) (item k) (type_is_word k, (unit_is_word k, ((h.each k).word, tt))) }

  file_reads : (line : ℕ) (k : Package) → file_in name line (file_unit k ∷ names k ∷ []) ≡ Ok (names k)
  unfolding file_in word_at name_at
  file_reads line k = rw (unit_is_integer k, good_name (names k) (h.each k)) refl

  line_reads : (n : ℕ) (k : Package) (before : Pairs) → has_package k before ≡ false
      → after_line name (record { number = n; bytes = line_text (name_item names k) }) before ≡ Ok (before ++ pair names k ∷ [])
  unfolding after_line after_package name_item
  line_reads n k before new =
      let no_comment = line_is_item (file_type k) (file_unit k ∷ names k ∷ []) (type_is_word k).some (type_is_item k) in
      rw (no_comment, line_words (item k) (item_is_line k).words, type_is_kept k, type_reads k, file_reads n k, new) refl

  lines_read : (p : Package → Bool) (ks : List Package) → AreApart ks → (n : ℕ) (before : Pairs) → All (λ k. has_package k before ≡ false) ks
      → after_lines name (numbered_lines n (map (name_item names) (filter p ks))) before ≡ Ok (before ++ pairs_of names p ks)
  unfolding after_lines numbered_lines
  lines_read p [] apart n before new = rw (append-nil before) refl
  lines_read p (k ∷ ks) apart n before new = by_case (λ j b h. lines_read p ks apart.1 j b h) (p k) refl
    where
      first : has_package k before ≡ false
      first = All-head (λ a. has_package a before ≡ false) k ks new

      rest : All (λ a. has_package a before ≡ false) ks
      rest = All-tail (λ a. has_package a before ≡ false) k ks new

      after : All (λ a. has_package a (before ++ pair names k ∷ []) ≡ false) ks
      after = λ i d lt. still_new names _ k before (apart.0 i d lt) (rest i d lt)

      by_case : ((j : ℕ) (b : Pairs) → All (λ a. has_package a b ≡ false) ks → after_lines name (numbered_lines j (map (name_item names) (filter p ks))) b ≡ Ok (b ++ pairs_of names p ks))
          → (b : Bool) → p k ≡ b → after_lines name (numbered_lines n (map (name_item names) (filter p (k ∷ ks)))) before ≡ Ok (before ++ pairs_of names p (k ∷ ks))
      by_case more true e =
          rw (e, line_reads n k before first, more (next_number n) (before ++ pair names k ∷ []) after, append_assoc before (pair names k ∷ []) (pairs_of names p ks)) refl
      by_case more false e = rw e (more n before rest)

  all_are_lines : (ks : List Package) → All (λ line. IsLine line) (map (name_item names) ks)
  unfolding name_item
  all_are_lines [] = All-nil (λ line. IsLine line)
  all_are_lines (k ∷ ks) = All-cons (λ line. IsLine line) (item k) (map (name_item names) ks) (item_is_line k) (all_are_lines ks)

  pub names_read : (p : Package → Bool) → p Dis ≡ true → p Bas ≡ true → p Lpf ≡ true
      → names_of name (text (map (name_item names) (filter p packages))) ≡ Ok (pairs_of names p packages)
  unfolding names_of whole left_of_lines
  names_read p dis bas lpf =
      let left = text_left 1 (map (name_item names) (filter p packages)) (all_are_lines (filter p packages)) in
      let none : All (λ k. has_package k [] ≡ false) packages = λ i d lt. refl in
      rw (
        left,
        lines_read p packages packages_apart 1 [] none,
        present names p Dis dis packages refl,
        present names p Bas bas packages refl,
        present names p Lpf lpf packages refl,
      ) refl
