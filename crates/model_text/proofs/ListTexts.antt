-- The file of a list package is read as written.
use Rattle.model_text.proofs.Common.{◌≡◌, ℕ, suc, ◌^◌, ◌<◌, ◌≤◌, max, Bool, true, false, nat_le, fold, List, [], ◌∷◌, length, map, drop, All, Option, Some, None, is_some, Ok, refl, arith, codes}
use Rattle.model_text.proofs.Common.{decimal, AllZip, flat_map, All-cons, nat_tests, Dec, is_word, ◌>>=◌, Grid, cell_count, HasSize, most_entries, dec_at, cell_of, Kind, header_of, item_line, list_at}
use Rattle.model_text.proofs.Common.{lists_of, given_heads, with_list, Line, IsLine, text, Takes, digits_spell, count_is_word, word_by_test, list_item_2, list_item_5, period_list, list_lines}
use Rattle.model_text.proofs.Common.{IsListOf, with_lists, numbers_of, heads_of, ListPackagesReadAsWritten, Limits, Period, entries_few, CellId, wells, rivers, drains, generals, number_at, integer}
use Rattle.model_text.proofs.Common.{words, last_takes, line_takes}
use Rattle.list_package.specs.{period_at, periods_of, declared.header.Count.TheVariants.Entries}
use Rattle.model_text.proofs.{FrameTexts.decimal_item, FrameTexts.no_keyword, DisTexts.item_takes, DisTexts.whole_file, DisTexts.each_takes, DisTexts.line_is_item, DisTexts.decimal_is_item}
use Rattle.model_text.proofs.{EntryTexts.all_free, EntryTexts.WritesNumbers, EntryTexts.list_takes}

-- a count and a 0 on a line
pub counts_are_line : (n : ℕ) → n < 10 ^ 18 → IsLine (decimal n ∷ codes "0" ∷ [])
counts_are_line n small = grind (arith, count_is_word, word_by_test)

-- item 5
header_reads : (limits : Limits) (file : List ℕ) (line : ℕ) (listed : Bool) (n : ℕ) → n ≤ most_entries limits → header_of limits file line listed (decimal n ∷ codes "0" ∷ []) ≡ Ok (Entries n)
unfolding header_of
header_reads limits file line listed n few =
    let low : nat_le n (most_entries limits) ≡ true = grind (arith, nat_tests) in
    rw (decimal_item file line n (omega (arith, entries_few limits)), low) refl

greatest : (a : ℕ) (ns : List ℕ) (limit : ℕ) → a ≤ limit → All (λ n. n ≤ limit) ns → fold max a ns ≤ limit
greatest a [] limit h all = h
greatest a (n ∷ ns) limit h all =
    let first : n ≤ limit = all 0 0 (omega arith) in
    greatest (max a n) ns limit (omega arith) (λ k d lt. all (suc k) d (omega arith))

module _ {E : Type 0} (limits : Limits) (kind : Kind E) (cell : E → ℕ) (numbers : E → List Dec) (w : WritesNumbers kind cell numbers) (file : List ℕ) (g : Grid) (h : HasSize g) where
  abbrev IsGood : Period → List E → Type 0
  IsGood p xs = IsListOf limits kind (cell_count g) p xs

  abbrev lines_of : List E → List Line
  lines_of xs = period_list g cell numbers xs

  period_list_takes : (p : Period) (xs : List E) → IsGood p xs → (last : Option (List E)) → Takes (λ left. list_at limits kind file g p (last, left)) (lines_of xs) (λ left. (xs, (Some xs, left)))
  unfolding list_at period_list list_item_5
  period_list_takes p xs good last =
      line_takes _ file (counts_are_line (length xs) (omega (arith, good.few, entries_few limits))) (λ n e. rw (e, header_reads limits file n (is_some last) (length xs) good.few)
      (last_takes _ (list_takes kind cell numbers w g h file xs good.entries (all_free kind g xs good.once)) (λ left. rw good.suits refl)))

  period_takes : (p : Period) (xs : List E) (last : Option (List E)) → IsGood p xs →
      Takes (λ left. period_at limits kind file g p (last, left)) (lines_of xs) (λ left. (with_list kind p xs, (Some xs, left)))
  unfolding period_at
  period_takes p xs last good = last_takes _ (period_list_takes p xs good last) (λ left. refl)

  periods_take : (ps : List Period) (lists : List (List E)) → AllZip IsGood ps lists → Takes (periods_of limits kind file g ps) (flat_map lines_of lists) (λ left. with_lists kind ps lists)
  unfolding periods_of
  periods_take ps lists good =
      last_takes _ (each_takes (period_at limits kind file g) lines_of (with_list kind) (λ s xs. Some xs) IsGood (λ s. Unit {0}) (λ p xs s h t. period_takes p xs s h) (λ p xs s h. tt)
      (with_lists kind) refl (λ p xs ps lists. refl) ps lists good None tt)
      (λ left. refl)

  all_few : (ps : List Period) (lists : List (List E)) → AllZip IsGood ps lists → All (λ n. n ≤ most_entries limits) (map (λ xs. length xs) lists)
  all_few [] [] good = λ k d lt. absurd (omega arith)
  all_few [] (xs ∷ lists) good = absurd good
  all_few (p ∷ ps) [] good = absurd good
  all_few (p ∷ ps) (xs ∷ lists) good = All-cons (λ n. n ≤ most_entries limits) (length xs) (map (λ ys. length ys) lists) good.0.few (all_few ps lists good.1)

  pub file_reads : (ps : List Period) (lists : List (List E)) → AllZip IsGood ps lists → lists_of limits kind file (text (list_lines g cell numbers lists)) g ps ≡ Ok (with_lists kind ps lists)
  unfolding lists_of list_lines list_item_2
  file_reads ps lists good =
      let most = fold max 0 (map (λ xs. length xs) lists) in
      let few : most ≤ most_entries limits = greatest 0 (map (λ xs. length xs) lists) (most_entries limits) (omega arith) (all_few ps lists good) in
      let small : most < 10 ^ 18 = omega (arith, entries_few limits) in
      let item = line_is_item (decimal most) (codes "0" ∷ []) (digits_spell most small).some (decimal_is_item most small) in
      let plain : is_word (codes "PARAMETER") (decimal most) ≡ false = no_keyword 80 (drop 1 (codes "PARAMETER")) most small (omega arith) in
      let whole : Takes (λ left. item_line file left >>= λ line. number_at integer file line.0.number (words line.0.bytes) >>= λ count. periods_of limits kind file g ps line.1)
      ((decimal most ∷ codes "0" ∷ []) ∷ flat_map lines_of lists) (λ left. with_lists kind ps lists) =
      item_takes _ file (counts_are_line most small) plain (λ n e. rw (e, decimal_item file n most small) (periods_take ps lists good)) in
      whole_file item whole

-- The numbers of WEL, RIV, DRN, GHB and CHD are written as they were read, and so their files are read as written.
wells_write : WritesNumbers wells cell_of numbers_of
wells_write = record { numbers_are = are; cell_is = λ at c. refl; place_is = λ at c. refl }
  where
    are : (at : CellId) (c : List Dec) → length c ≡ 1 → numbers_of (wells.entry at c) ≡ c
    are at [] n = absurd (omega (arith, n))
    are at (q ∷ []) n = refl
    are at (q ∷ x ∷ c) n = absurd (omega (arith, n))

rivers_write : WritesNumbers rivers cell_of numbers_of
rivers_write = record { numbers_are = are; cell_is = λ at c. refl; place_is = λ at c. refl }
  where
    are : (at : CellId) (c : List Dec) → length c ≡ 3 → numbers_of (rivers.entry at c) ≡ c
    are at [] n = absurd (omega (arith, n))
    are at (stage ∷ []) n = absurd (omega (arith, n))
    are at (stage ∷ k ∷ []) n = absurd (omega (arith, n))
    are at (stage ∷ k ∷ bottom ∷ []) n = refl
    are at (stage ∷ k ∷ bottom ∷ x ∷ c) n = absurd (omega (arith, n))

-- the numbers of a list of two
two : (c : List Dec) → length c ≡ 2 → dec_at c 0 ∷ dec_at c 1 ∷ [] ≡ c
two [] n = absurd (omega (arith, n))
two (x ∷ []) n = absurd (omega (arith, n))
two (x ∷ y ∷ []) n = refl
two (x ∷ y ∷ z ∷ c) n = absurd (omega (arith, n))

drains_write : WritesNumbers drains cell_of numbers_of
drains_write = record { numbers_are = λ at c n. two c n; cell_is = λ at c. refl; place_is = λ at c. refl }

generals_write : WritesNumbers generals cell_of numbers_of
generals_write = record { numbers_are = λ at c n. two c n; cell_is = λ at c. refl; place_is = λ at c. refl }

heads_write : WritesNumbers given_heads (λ x. x.cell.0) heads_of
heads_write = record { numbers_are = λ at c n. two c n; cell_is = λ at c. refl; place_is = λ at c. refl }

pub list_packages : ListPackagesReadAsWritten
list_packages = record {
  wel = λ limits file g ps lists size good. file_reads limits wells cell_of numbers_of wells_write file g size ps lists good;
  riv = λ limits file g ps lists size good. file_reads limits rivers cell_of numbers_of rivers_write file g size ps lists good;
  drn = λ limits file g ps lists size good. file_reads limits drains cell_of numbers_of drains_write file g size ps lists good;
  ghb = λ limits file g ps lists size good. file_reads limits generals cell_of numbers_of generals_write file g size ps lists good;
  chd = λ limits file g ps lists size good. file_reads limits given_heads (λ x. x.cell.0) heads_of heads_write file g size ps lists good;
}
