-- The files of a deck are found by their names.
use Rattle.model_text.proofs.Common.{◌≡◌, ℕ, ◌≤◌, ◌==◌, Bool, true, false, nat_le, List, [], ◌∷◌, ◌++◌, length, map, filter, All, Option, Some, Ok, refl, sym, ap, ◌∙◌, arith, list_any, list_all}
use Rattle.model_text.proofs.Common.{All-head, All-tail, nat_tests, File, bytes_under, file_at, folder_name, with_limit, is_same_package, Package, FlowModel, text, packages, name_item, IsFileName}
use Rattle.model_text.proofs.Common.{AreNames, has, lines_of, package_file, written, deck_name, deck_names, is_itself, not, cond, None, not-true, Dis, word_by_test, all_pass, zone_name, bytes_eq}
use Rattle.model_text.proofs.PackageTexts.{item_found}
use Rattle.std.proofs.lemmas.Slice.Eq.{bytes_eq-Decides}

-- a folder is asked for a name without a backslash by the name itself
plain_name : (w : List ℕ) → All (λ b. b ≡ 92 → ⊥) w → folder_name w ≡ w
plain_name [] h = refl
plain_name (b ∷ bs) h =
    let other : b ≡ 92 → ⊥ = All-head (λ x. x ≡ 92 → ⊥) b bs h in
    let test : (b == 92) ≡ false = grind (arith, nat_tests) in
    rw test (ap (λ (x : List ℕ). b ∷ x) (plain_name bs (All-tail (λ x. x ≡ 92 → ⊥) b bs h)))

same_bytes : (w : List ℕ) → bytes_eq w w ≡ true
same_bytes w = (bytes_eq-Decides w w).1 refl

other_bytes : (v w : List ℕ) → (v ≡ w → ⊥) → bytes_eq v w ≡ false
other_bytes v w apart = grind (arith, bytes_eq-Decides)

-- bytes that are found are those of a file
found_bytes : (w bytes : List ℕ) (limit : ℕ) (files : List File) → All (λ f. length f.bytes ≤ limit) files → bytes_under w files ≡ Some bytes → length bytes ≤ limit
found_bytes w bytes limit [] small e = absurd (cc)
found_bytes w bytes limit (f ∷ files) small e = by_case (λ later. found_bytes w bytes limit files rest later) (bytes_eq w f.name) refl
  where
    first : length f.bytes ≤ limit
    first = All-head (λ x. length x.bytes ≤ limit) f files small

    rest : All (λ x. length x.bytes ≤ limit) files
    rest = All-tail (λ x. length x.bytes ≤ limit) f files small

    by_case : (bytes_under w files ≡ Some bytes → length bytes ≤ limit) → (b : Bool) → bytes_eq w f.name ≡ b → length bytes ≤ limit
    by_case further true d = let same : Path (Option (List ℕ)) (Some f.bytes) (Some bytes) = rw d at e in let is : f.bytes ≡ bytes = cc in rw is at first
    by_case further false d = let later : bytes_under w files ≡ Some bytes = rw d at e in further later

pub small_file : (most : ℕ) (w bytes : List ℕ) (files : List File) → IsFileName w → All (λ f. length f.bytes ≤ most) files → bytes_under w files ≡ Some bytes →
    file_at (with_limit most files) w ≡ Ok bytes
small_file most w bytes files name small e =
    let short : length bytes ≤ most = found_bytes w bytes most files small e in
    let test : nat_le (length bytes) most ≡ true = grind (arith, nat_tests) in
    rw (plain_name w name.plain, e, test) refl

module _ (m : FlowModel) (names : Package → List ℕ) (name : List ℕ) (h : AreNames names name) where
  package_bytes : (asked : Package) → has m asked ≡ true → (ks : List Package) → list_any (λ k. is_same_package asked k) ks ≡ true
      → bytes_under (names asked) (map (package_file m names) (filter (has m) ks)) ≡ Some (text (lines_of m asked))
  package_bytes asked = item_found (has m) (package_file m names) (bytes_under (names asked)) asked (text (lines_of m asked)) (λ fs. rw (same_bytes (names asked)) refl)
      (λ k e fs. rw (other_bytes (names asked) (names k) (differ k e)) refl)
    where
      differ : (k : Package) → is_same_package asked k ≡ false → names asked ≡ names k → ⊥
      differ k e same =
          let is : asked ≡ k = h.distinct asked k same in
          let itself : is_same_package asked k ≡ true = rw is (is_itself k) in
          let clash : true ≡ false = sym itself ∙ e in
          cc

  pub name_file_is : bytes_under name (written m names name) ≡ Some (text (map (name_item names) (filter (has m) packages)))
  unfolding written
  name_file_is = let first = same_bytes name in rw first refl

  pub package_file_is : (k : Package) → has m k ≡ true → list_any (λ j. is_same_package k j) packages ≡ true → bytes_under (names k) (written m names name) ≡ Some (text (lines_of m k))
  unfolding written
  package_file_is k is_in there = let other = other_bytes (names k) name (h.apart k) in rw other (package_bytes k is_in packages there)

-- The names of the files of a deck are good names.
-- a name without a backslash
all_plain : (w : List ℕ) → list_all (λ b. not (b == 92)) w ≡ true → All (λ b. b ≡ 92 → ⊥) w
all_plain w h = all_pass (λ b. not (b == 92)) (λ b. b ≡ 92 → ⊥) (λ b e. apart b (not-true (b == 92) e)) w h
  where
    apart : (x : ℕ) → (x == 92) ≡ false → x ≡ 92 → ⊥
    apart x e same = grind (arith, nat_tests)

-- bytes that are found are found with more files after them
pub still_found : (w bytes : List ℕ) (files more : List File) → bytes_under w files ≡ Some bytes → bytes_under w (files ++ more) ≡ Some bytes
still_found w bytes [] more e = absurd (let none : Path (Option (List ℕ)) None (Some bytes) = e in cc)
still_found w bytes (f ∷ files) more e = by_test (λ later. still_found w bytes files more later) (bytes_eq w f.name) refl
  where
    by_test : (bytes_under w files ≡ Some bytes → bytes_under w (files ++ more) ≡ Some bytes) → (b : Bool) → bytes_eq w f.name ≡ b → bytes_under w ((f ∷ files) ++ more) ≡ Some bytes
    by_test further true d = rw d (let here : Path (Option (List ℕ)) (Some f.bytes) (Some bytes) = rw d at e in here)
    by_test further false d = rw d (further (rw d at e))

pub zone_name_is_good : IsFileName zone_name
zone_name_is_good = record { word = word_by_test zone_name refl; few = omega arith; plain = all_plain zone_name refl }

good_name : (k : Package) → IsFileName (deck_names k)
good_name Dis = record { word = word_by_test (deck_names Dis) refl; few = omega arith; plain = all_plain (deck_names Dis) refl }
good_name x = record { word = word_by_test (deck_names x) refl; few = omega arith; plain = all_plain (deck_names x) refl }

-- the first of some packages whose file has a name
first_named : List ℕ → List Package → Option Package
first_named w [] = None
first_named w (k ∷ ks) = cond (bytes_eq w (deck_names k)) (Some k) (first_named w ks)

abbrev named_by : List ℕ → Option Package
named_by w = first_named w packages

named_back : (k : Package) → named_by (deck_names k) ≡ Some k
unfolding first_named
named_back Dis = refl
named_back x = refl

none_named : named_by deck_name ≡ None
unfolding first_named
none_named = refl

pub good_names : AreNames deck_names deck_name
good_names = grind (arith, good_name, word_by_test, all_plain, named_back, none_named)
