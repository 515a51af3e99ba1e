-- A package that is new goes last; and a name file goes on, stops or ends line by line.
use Rattle.name_file.proofs.Common.{◌≡◌, ℕ, false, List, [], ◌∷◌, ◌++◌, Option, Some, None, Ok, refl, ◌∙◌, is_some, Package, Pairs, has_package, after_line, after_lines, Left, Numbered, Dis, Bas, Lpf}
use Rattle.name_file.proofs.Common.{Wel, is_same_package, file_of, true, sym, Contains, rules, arith, All-contains, All-push, IsGoodName, AreFiles, HasNeededPackages, is_needed, packages_of, ghosts}
use Rattle.name_file.proofs.Common.{the_type, StopsText}
use Rattle.record_lines.proofs.Loops.{ends_all}
use Rattle.std.specs.Prelude.{IsTrue}
use Rattle.std.specs.{Map.lookup, Map.keys_of, HashMap.HashMap, Cmp.IsEquivalence, List.IsDistinct}
use Rattle.indexmap.specs.IndexMap.{insert_entry}
use Rattle.indexmap.proofs.CallerLemmas.{insert_entry-new}
use Rattle.outside.specs.declared.inputs.TextFault.{TextFault}
use Rattle.std.proofs.{lemmas.Map.Keys.IsDistinct-push, lemmas.Map.Made.is_some-lookup, lemmas.Map.Views.Contains-from_lookup, lemmas.Map.Views.IsSome-lookup_from_Contains}
use denote.Enum.Bare.{same_true}

-- The derived equality of packages is `is_same_package`, so a map's look-up finds the file of a package.
pub derived_is : (a b : Package) → ghosts.eq a b ≡ is_same_package a b
derived_is Dis Dis = refl
derived_is a Dis = refl
derived_is a b = refl

pub looked_up : (asked : Package) (names : Pairs) → lookup (ghosts.eq asked) names ≡ file_of asked names
looked_up asked [] = refl
looked_up asked (pair ∷ names) = rw (derived_is asked pair.0, looked_up asked names) refl

is_none : {A : Type 0} (o : Option A) → is_some o ≡ false → o ≡ None
is_none None e = refl
is_none (Some x) e = cc

pub goes_last : {S : Type 0} (found : Package) (m : HashMap Package (List ℕ) S) (name : List ℕ) (old new : Pairs) → old ≡ m.entries
    → has_package found old ≡ false → new ≡ insert_entry ghosts.eq m.entries found name → new ≡ old ++ (found, name) ∷ []
goes_last found m name old new shown absent e = grind (arith, insert_entry-new, is_none, looked_up)

pub goes_on : (file : List ℕ) (left after : Left) (line : Numbered) (names next : Pairs) → left ≡ record { lines = line ∷ after.lines; end = after.end } → after_line file line names ≡ Ok next
    → after_lines file left.lines names ≡ after_lines file after.lines next
unfolding after_lines
goes_on file left after line names next e read = rw (e, read) refl

pub stops : (file : List ℕ) (left after : Left) (line : Numbered) (names : Pairs) (fault : TextFault) → left ≡
    record { lines = line ∷ after.lines; end = after.end } → StopsText fault (after_line file line names)
    → StopsText fault (after_lines file left.lines names)
unfolding after_lines
stops file left after line names fault e read = rw e (ends_all fault _ _ read)

pub is_over : (file : List ℕ) (left : Left) (end : ℕ) (names : Pairs) → left ≡ record { lines = []; end = end } → after_lines file left.lines names ≡ Ok names
unfolding after_lines
is_over file left end names e = rw e refl

-- What a look-up by a package finds.
pub is_same : (x y : Package) → is_same_package x y ≡ true → x ≡ y
is_same x y e = same_true the_type (search rules) x y (derived_is x y ∙ e)

pub is_itself : (x : Package) → is_same_package x x ≡ true
is_itself Dis = refl
is_itself x = refl

same_sides : (x y : Package) → is_same_package x y ≡ is_same_package y x
same_sides Dis Dis = refl
same_sides x Dis = refl
same_sides x y = refl

is_equivalence : IsEquivalence is_same_package
is_equivalence = grind (arith, is_itself, same_sides, is_same)

held : (asked : Package) (names : Pairs) (name : List ℕ) → file_of asked names ≡ Some name → Contains names (asked, name)
held asked names name e = Contains-from_lookup is_same asked name names e

-- what a map's look-up finds
pub is_held : (asked : Package) (names : Pairs) (name : List ℕ) → lookup (ghosts.eq asked) names ≡ Some name → Contains names (asked, name)
is_held asked names name e = held asked names name (sym (looked_up asked names) ∙ e)

pub is_not_named : (asked : Package) (names : Pairs) → lookup (ghosts.eq asked) names ≡ None → Contains (keys_of names) asked → ⊥
is_not_named asked names e contained =
    let found : is_some (file_of asked names) ≡ true = IsSome-lookup_from_Contains is_equivalence asked names contained in
    let none : is_some (file_of asked names) ≡ false = rw (sym (looked_up asked names) ∙ e) refl in
    let clash : true ≡ false = sym found ∙ none in
    cc

pub is_good_file : (asked : Package) (names : Pairs) (name : List ℕ) → AreFiles names → lookup (ghosts.eq asked) names ≡ Some name → IsGoodName name
is_good_file asked names name h e = All-contains (λ pair. IsGoodName pair.1) names (asked, name) h.good (is_held asked names name e)

pub no_files : (names : Pairs) → names ≡ [] → AreFiles names
unfolding IsDistinct
no_files names e = rw e (record { distinct = tt; good = λ k d lt. absurd (omega arith) })

one_more_package : (found : Package) (name : List ℕ) (old : Pairs) → packages_of (old ++ (found, name) ∷ []) ≡ packages_of old ++ found ∷ []
one_more_package found name [] = refl
one_more_package found name (pair ∷ old) = rw (one_more_package found name old) refl

-- one more package, which is new, with a good name
pub one_more : (found : Package) (name : List ℕ) (old new : Pairs) → AreFiles old → has_package found old ≡ false → IsGoodName name → new ≡ old ++ (found, name) ∷ [] → AreFiles new
one_more found name old new h absent good e =
    let apart = sym (is_some-lookup (is_same_package found) old) ∙ absent in
    rw e (record {
      distinct = rw (one_more_package found name old) (IsDistinct-push is_equivalence (packages_of old) found h.distinct apart);
      good = All-push (λ pair. IsGoodName pair.1) old (found, name) h.good good;
    })

pub is_there : (asked : Package) (names : Pairs) → HasNeededPackages names → IsTrue (is_needed asked) → has_package asked names ≡ true
is_there Dis names h needed = h.discretization
is_there Bas names h needed = h.basic
is_there Lpf names h needed = h.flow
is_there Wel names h needed = cc
is_there x names h needed = cc
