-- Packages: their file types and units are words that are read as the package, and two packages are the same or apart.
use Rattle.model_text.proofs.Common.{◌≡◌, Bool, true, false, not, ◌&&◌, List, [], ◌∷◌, All, Some, refl, list_all, list_any, is_comment, is_same_package, is_integer, package_of, is_passed_over}
use Rattle.model_text.proofs.Common.{Package, Dis, IsWord, word_by_test, all_pass, packages, file_type, file_unit, and_parts, not-true, ◌∙◌, Option, map, filter, is_same}

pub type_is_word : (k : Package) → IsWord (file_type k)
type_is_word Dis = word_by_test (file_type Dis) refl
type_is_word x = word_by_test (file_type x) refl

pub unit_is_word : (k : Package) → IsWord (file_unit k)
unit_is_word Dis = word_by_test (file_unit Dis) refl
unit_is_word x = word_by_test (file_unit x) refl

pub type_is_item : (k : Package) → is_comment (file_type k) ≡ false
type_is_item Dis = refl
type_is_item x = refl

pub type_reads : (k : Package) → package_of (file_type k) ≡ Some k
unfolding package_of
type_reads Dis = refl
type_reads x = refl

pub type_is_kept : (k : Package) → is_passed_over (file_type k) ≡ false
unfolding is_passed_over
type_is_kept Dis = refl
type_is_kept x = refl

pub unit_is_integer : (k : Package) → is_integer (file_unit k) ≡ true
unfolding is_integer
unit_is_integer Dis = refl
unit_is_integer x = refl

-- no package of a list is one of those after it
abbrev pub AreApart : List Package → Type 0
AreApart [] = Unit {0}
AreApart (k ∷ ks) = All (λ a. is_same_package a k ≡ false) ks × AreApart ks

others_apart : (k : Package) (ks : List Package) → list_all (λ a. not (is_same_package a k)) ks ≡ true → All (λ a. is_same_package a k ≡ false) ks
others_apart k ks h = all_pass (λ a. not (is_same_package a k)) (λ a. is_same_package a k ≡ false) (λ a. not-true (is_same_package a k)) ks h

abbrev are_apart : List Package → Bool
are_apart [] = true
are_apart (k ∷ ks) = list_all (λ a. not (is_same_package a k)) ks && are_apart ks

tested_apart : (ks : List Package) → are_apart ks ≡ true → AreApart ks
tested_apart [] h = tt
tested_apart (k ∷ ks) h = let t = and_parts (list_all (λ a. not (is_same_package a k)) ks) (are_apart ks) h in (others_apart k ks t.0, tested_apart ks t.1)

pub packages_apart : AreApart packages
packages_apart = tested_apart packages refl

-- Among the items of the packages that a test keeps, a search that passes over the items of other packages finds that of the asked one.
module _ {A V : Type 0} (keeps : Package → Bool) (item : Package → A) (look : List A → Option V) (asked : Package) (v : V)
    (hit : (items : List A) → look (item asked ∷ items) ≡ Some v) (miss : (k : Package) → is_same_package asked k ≡ false → (items : List A) → look (item k ∷ items) ≡ look items) where
  pub item_found : keeps asked ≡ true → (ks : List Package) → list_any (λ k. is_same_package asked k) ks ≡ true → look (map item (filter keeps ks)) ≡ Some v
  item_found is_in [] there = absurd (cc)
  item_found is_in (k ∷ ks) there = by_case (λ later. item_found is_in ks later) (is_same_package asked k) refl
    where
      first : (j : Package) → asked ≡ j → look (map item (filter keeps (j ∷ ks))) ≡ Some v
      first j e = rw (← e, is_in) (hit (map item (filter keeps ks)))

      by_case : (list_any (λ j. is_same_package asked j) ks ≡ true → look (map item (filter keeps ks)) ≡ Some v) → (b : Bool) → is_same_package asked k ≡ b →
          look (map item (filter keeps (k ∷ ks))) ≡ Some v
      by_case rest true e = first k (is_same asked k e)
      by_case rest false e = further (keeps k) refl
        where
          later : list_any (λ j. is_same_package asked j) ks ≡ true
          later = rw e at there

          further : (b : Bool) → keeps k ≡ b → look (map item (filter keeps (k ∷ ks))) ≡ Some v
          further true f = rw f (miss k e (map item (filter keeps ks)) ∙ rest later)
          further false f = rw f (rest later)
