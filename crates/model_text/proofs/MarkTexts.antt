-- No line of a deck's files is one at which its text is cut: it has no letter F or N, or it is one of a few fixed lines.
use Rattle.model_text.proofs.Common.{◌≡◌, ◌==◌, ◌&&◌, ◌+◌, ◌<◌, ◌/◌, ◌%◌, ℕ, zero, suc, Bool, true, false, not, List, [], ◌∷◌, ◌++◌, map, filter, refl, ap, ◌∙◌, sym, append_assoc, arith, nat_tests, ℤ}
use Rattle.model_text.proofs.Common.{pos, negsuc, flat_map, decimal, codes, if◌then◌else◌, nat_lt, Dec, Line, Grid, FlowModel, Period, Package, Dis, Bas, Lpf, Wel, Riv, Drn, Ghb, Rch, Chd, Evt}
use Rattle.model_text.proofs.Common.{line_text, text, number_word, integer_word, row_line, row_lines, real_array, integer_array, lines, range_with_len, replicate, length, place, packages, has}
use Rattle.model_text.proofs.Common.{lines_of, deck_names, layer_values, each_layer, steady_word, storage_option, name_item, is_mark, is_transient, is_nonzero, int_at, is_int, numbers_of, bas_item_1}
use Rattle.model_text.proofs.Common.{bas_item_2, bas_item_3, bas_item_4, bas_lines, dis_item_1, dis_item_2, dis_item_3, dis_item_4, dis_item_5, dis_item_6, dis_item_7, dis_lines, evt_item_2}
use Rattle.model_text.proofs.Common.{evt_items, evt_lines, list_item_2, list_item_5, list_item_6, list_lines, lpf_arrays, lpf_item_1, lpf_item_4, lpf_item_5, lpf_lines, lpf_zeros, period_list}
use Rattle.model_text.proofs.Common.{rch_item_2, rch_items, rch_lines, heads_of, cell_of, join_with_byte, AllByRecursion, All, All-from_recursion, File, is_good_name, zone_name, HasNoMark}
use Rattle.model_text.proofs.Common.{NoLineIsAMark, name_file, package_file, deck_name, written, zone_file, zoned_files, Option, Some, None, subst, append-nil, list_all, array_lines, in_rows, sign}
use Rattle.model_text.proofs.Common.{digits_onto, digit_glyph, signed_decimal}
use Rattle.model_text.specs.{integer_layer, real_layer}
unfoldable use Rattle.std.specs.Fmt.{digits}

-- a byte that is no line feed, no F and no N
abbrev is_quiet : ℕ → Bool
is_quiet b = not (b == 10) && (not (b == 70) && not (b == 78))

abbrev IsQuiet : ℕ → Type 0
IsQuiet b = is_quiet b ≡ true

abbrev Quiet : List ℕ → Type 0
Quiet w = AllByRecursion IsQuiet w

quiet_digit : (d : ℕ) → d < 10 → IsQuiet (digit_glyph false d)
quiet_digit d h =
    let low : nat_lt d 10 ≡ true = grind (arith, nat_tests) in
    let feed : (48 + d == 10) ≡ false = grind (arith, nat_tests) in
    let f : (48 + d == 70) ≡ false = grind (arith, nat_tests) in
    let n : (48 + d == 78) ≡ false = grind (arith, nat_tests) in
    rw (low, feed, f, n) refl

quiet_append : (v w : List ℕ) → Quiet v → Quiet w → Quiet (v ++ w)
quiet_append [] w h k = k
quiet_append (b ∷ v) w h k = (h.0, quiet_append v w h.1 k)

digits_quiet : (k n : ℕ) (more : List ℕ) → Quiet more → Quiet (digits_onto k 10 false n more)
digits_quiet zero n more h = h
digits_quiet (suc k) n more h = by_test (digits_quiet k (n / 10) (digit_glyph false (n % 10) ∷ more) (last, h)) (n / 10 == 0)
  where
    last : IsQuiet (digit_glyph false (n % 10))
    last = quiet_digit (n % 10) (omega arith)

    by_test : Quiet (digits_onto k 10 false (n / 10) (digit_glyph false (n % 10) ∷ more)) → (b : Bool) →
        Quiet (if b then digit_glyph false (n % 10) ∷ more else digits_onto k 10 false (n / 10) (digit_glyph false (n % 10) ∷ more))
    by_test further true = (last, h)
    by_test further false = further

count_quiet : (n : ℕ) → Quiet (decimal n)
unfolding digits
count_quiet n = digits_quiet 64 n [] tt

signed_quiet : (z : ℤ) → Quiet (signed_decimal z)
signed_quiet (pos n) = count_quiet n
signed_quiet (negsuc n) = (refl, count_quiet (suc n))

integer_quiet : (z : ℤ) → Quiet (integer_word z)
unfolding integer_word
integer_quiet z = signed_quiet z

sign_quiet : (neg : Bool) → Quiet (sign neg)
sign_quiet true = (refl, tt)
sign_quiet false = tt

number_quiet : (d : Dec) → Quiet (number_word d)
unfolding number_word
number_quiet d = quiet_append (sign d.neg) _ (sign_quiet d.neg) (quiet_append (decimal d.digits) _ (count_quiet d.digits) (refl, signed_quiet d.exp))

-- Lines.
-- no byte is a line feed
abbrev pub has_no_feed : List ℕ → Bool
has_no_feed t = list_all (λ b. not (b == 10)) t

-- a line without a line feed, at which no text is cut
pub record IsUnmarked (t : List ℕ) : Type 0 where
  pub feed : has_no_feed t ≡ true
  pub mark : is_mark t ≡ false

abbrev Quiets : Line → Type 0
Quiets line = AllByRecursion Quiet line

abbrev pub AreUnmarked : List Line → Type 0
AreUnmarked ls = AllByRecursion (λ line. IsUnmarked (line_text line)) ls

quiet_text : (line : Line) → Quiets line → Quiet (line_text line)
unfolding line_text
quiet_text [] h = tt
quiet_text (w ∷ []) h = h.0
quiet_text (w ∷ v ∷ others) h = quiet_append w (32 ∷ join_with_byte 32 (v ∷ others)) h.0 (refl, quiet_text (v ∷ others) h.1)

quiet_is : (b : ℕ) → IsQuiet b → ((b == 10) ≡ false) × ((b == 70) ≡ false) × ((b == 78) ≡ false)
quiet_is b h = by_test (b == 10) (b == 70) (b == 78) h
  where
    by_test : (x y z : Bool) → (not x && (not y && not z)) ≡ true → (x ≡ false) × (y ≡ false) × (z ≡ false)
    by_test false false false e = (refl, refl, refl)
    by_test false false true e = absurd (let bad : false ≡ true = e in cc)
    by_test false true z e = absurd (let bad : false ≡ true = e in cc)
    by_test true y z e = absurd (let bad : false ≡ true = e in cc)

quiet_feeds : (t : List ℕ) → Quiet t → has_no_feed t ≡ true
quiet_feeds [] h = refl
quiet_feeds (b ∷ t) h = rw ((quiet_is b h.0).0, quiet_feeds t h.1) refl

quiet_unmarked : (t : List ℕ) → Quiet t → is_mark t ≡ false
quiet_unmarked [] h = refl
quiet_unmarked (b ∷ []) h = rw (quiet_is b h.0).1 (both (b == 69))
  where
    both : (x : Bool) → (x && false) ≡ false
    both true = refl
    both false = refl
quiet_unmarked (b ∷ c ∷ t) h = rw ((quiet_is b h.0).1, (quiet_is c h.1.0).2) (both (b == 69))
  where
    both : (x : Bool) → (x && false) ≡ false
    both true = refl
    both false = refl

quiet_line : (line : Line) → Quiets line → IsUnmarked (line_text line)
quiet_line line h = let q = quiet_text line h in record { feed = quiet_feeds (line_text line) q; mark = quiet_unmarked (line_text line) q }

words_quiet : {X : Type 0} (word : X → List ℕ) → ((x : X) → Quiet (word x)) → (xs : List X) → Quiets (map word xs)
words_quiet word one [] = tt
words_quiet word one (x ∷ xs) = (one x, words_quiet word one xs)

line_append : (v w : Line) → Quiets v → Quiets w → Quiets (v ++ w)
line_append [] w h k = k
line_append (b ∷ v) w h k = (h.0, line_append v w h.1 k)

lines_append : (a b : List Line) → AreUnmarked a → AreUnmarked b → AreUnmarked (a ++ b)
lines_append [] b h k = k
lines_append (line ∷ a) b h k = (h.0, lines_append a b h.1 k)

mapped : {X : Type 0} (f : X → Line) → ((x : X) → IsUnmarked (line_text (f x))) → (xs : List X) → AreUnmarked (map f xs)
mapped f one [] = tt
mapped f one (x ∷ xs) = (one x, mapped f one xs)

joined : {X : Type 0} (f : X → List Line) → ((x : X) → AreUnmarked (f x)) → (xs : List X) → AreUnmarked (flat_map f xs)
joined f one [] = tt
joined f one (x ∷ xs) = lines_append (f x) (flat_map f xs) (one x) (joined f one xs)

where_so : (b : Bool) (ls : List Line) → AreUnmarked ls → AreUnmarked (if b then ls else [])
where_so true ls h = h
where_so false ls h = tt

array_unmarked : {X : Type 0} (word : X → List ℕ) → ((x : X) → Quiet (word x)) → (rows cols : ℕ) (xs : List X) → AreUnmarked (array_lines word rows cols xs)
unfolding row_lines row_line line_text
array_unmarked word one rows cols xs =
    (record { feed = refl; mark = refl }, mapped (row_line word) (λ row. quiet_line (map word row) (words_quiet word one row)) (in_rows rows cols xs))

reals_unmarked : (rows cols : ℕ) (xs : List Dec) → AreUnmarked (real_array rows cols xs)
unfolding real_array
reals_unmarked rows cols xs = array_unmarked number_word number_quiet rows cols xs

integers_unmarked : (rows cols : ℕ) (xs : List ℤ) → AreUnmarked (integer_array rows cols xs)
unfolding integer_array
integers_unmarked rows cols xs = array_unmarked integer_word integer_quiet rows cols xs

-- The files.
module _ (g : Grid) where
  reals_of : (xs : List Dec) (k : ℕ) → AreUnmarked (real_layer g xs k)
  reals_of xs k = reals_unmarked g.rows g.cols (layer_values g k xs)

  integers_of : (xs : List ℤ) (k : ℕ) → AreUnmarked (integer_layer g xs k)
  integers_of xs k = integers_unmarked g.rows g.cols (layer_values g k xs)

  pub layers_unmarked : (f : ℕ → List Line) → ((k : ℕ) → AreUnmarked (f k)) → AreUnmarked (each_layer g f)
  layers_unmarked f one = joined f one (range_with_len 0 g.layers)

  bottoms_unmarked : (k : ℕ) → AreUnmarked (dis_item_6 g k)
  unfolding dis_item_6
  bottoms_unmarked k =
      lines_append (real_layer g g.bottom k) _ (reals_of g.bottom k)
      (where_so (is_nonzero (int_at g.laycbd k)) (real_layer g g.bed_bottom k) (reals_of g.bed_bottom k))

pub zone_lines_unmarked : (g : Grid) (zones : List ℕ) → AreUnmarked (each_layer g (integer_layer g (map pos zones)))
zone_lines_unmarked g zones = layers_unmarked g (integer_layer g (map pos zones)) (integers_of g (map pos zones))

period_quiet : (p : Period) → IsUnmarked (line_text (dis_item_7 p))
unfolding dis_item_7
period_quiet p = quiet_line (dis_item_7 p) (number_quiet p.perlen, (count_quiet p.nstp, (number_quiet p.tsmult, (steady p.steady, tt))))
  where
    steady : (b : Bool) → Quiet (steady_word b)
    steady true = (refl, (refl, tt))
    steady false = (refl, (refl, tt))

zeros_quiet : (n : ℕ) (w : List ℕ) → Quiet w → Quiets (replicate n w)
zeros_quiet zero w h = tt
zeros_quiet (suc n) w h = (h, zeros_quiet n w h)

module _ (m : FlowModel) where
  dis_unmarked : AreUnmarked (dis_lines m)
  unfolding dis_lines dis_item_1 dis_item_2 dis_item_3 dis_item_4 dis_item_5 row_line
  dis_unmarked =
      let g = m.grid in (
        quiet_line (dis_item_1 m) (count_quiet g.layers, (count_quiet g.rows, (count_quiet g.cols, (count_quiet (length m.periods), ((refl, tt), (integer_quiet m.lenuni, tt)))))),
        (
          quiet_line (dis_item_2 g) (words_quiet integer_word integer_quiet g.laycbd),
          lines_append (dis_item_3 g) _ (reals_unmarked 1 g.cols g.delr)
              (lines_append (dis_item_4 g) _ (reals_unmarked 1 g.rows g.delc)
              (lines_append (dis_item_5 g) _ (reals_unmarked g.rows g.cols g.top)
              (lines_append (each_layer g (dis_item_6 g)) _ (layers_unmarked g (dis_item_6 g) (bottoms_unmarked g)) (mapped dis_item_7 period_quiet m.periods)))),
        ),
      )

  bas_unmarked : AreUnmarked (bas_lines m)
  unfolding bas_lines bas_item_1 bas_item_2 bas_item_3 bas_item_4 line_text
  bas_unmarked = (
    record { feed = refl; mark = refl },
    lines_append (bas_item_2 m) _ (layers_unmarked m.grid (integer_layer m.grid m.ibound) (integers_of m.grid m.ibound))
        (record { feed = refl; mark = refl }, layers_unmarked m.grid (real_layer m.grid m.strt) (reals_of m.grid m.strt)),
  )

  first_line_unmarked : (b : Bool) → IsUnmarked (line_text (codes "0" ∷ codes "0" ∷ codes "0" ∷ storage_option b))
  unfolding line_text
  first_line_unmarked true = record { feed = refl; mark = refl }
  first_line_unmarked false = record { feed = refl; mark = refl }

  arrays_unmarked : (k : ℕ) → AreUnmarked (lpf_arrays m k)
  unfolding lpf_arrays
  arrays_unmarked k =
      let g = m.grid in
      lines_append (real_layer g m.hk k) _ (reals_of g m.hk k) (lines_append (real_layer g m.hani k) _ (reals_of g m.hani k) (lines_append (real_layer g m.vka k) _ (reals_of g m.vka k)
      (lines_append (if is_transient m.periods then real_layer g m.ss k else []) _ (where_so (is_transient m.periods) (real_layer g m.ss k) (reals_of g m.ss k))
      (where_so (is_nonzero (int_at g.laycbd k)) (real_layer g m.vkcb k) (reals_of g m.vkcb k)))))

  lpf_unmarked : AreUnmarked (lpf_lines m)
  unfolding lpf_lines lpf_item_1 lpf_zeros lpf_item_4 lpf_item_5 row_line
  lpf_unmarked =
      let zeros = quiet_line (lpf_zeros m) (zeros_quiet m.grid.layers (codes "0") (refl, tt)) in (
        first_line_unmarked m.coefficient,
        (
          zeros,
          (
            zeros,
            (
              quiet_line (lpf_item_4 m) (zeros_quiet m.grid.layers (codes "-1") (refl, (refl, tt))),
              (quiet_line (lpf_item_5 m) (words_quiet integer_word integer_quiet m.layvka), (zeros, layers_unmarked m.grid (lpf_arrays m) arrays_unmarked)),
            ),
          ),
        ),
      )

  list_unmarked : {E : Type 0} (cell : E → ℕ) (numbers : E → List Dec) (lists : List (List E)) → AreUnmarked (list_lines m.grid cell numbers lists)
  unfolding list_lines list_item_2 list_item_5 list_item_6 period_list
  list_unmarked {E} cell numbers lists =
      (quiet_line (list_item_2 lists) (count_quiet _, ((refl, tt), tt)), joined (period_list m.grid cell numbers) one_period lists)
    where
      entry : (x : E) → IsUnmarked (line_text (list_item_6 m.grid (cell x) (numbers x)))
      entry x = quiet_line (list_item_6 m.grid (cell x) (numbers x)) (line_append (map decimal (place m.grid (cell x))) (map number_word (numbers x))
          (words_quiet decimal count_quiet (place m.grid (cell x))) (words_quiet number_word number_quiet (numbers x)))

      one_period : (list : List E) → AreUnmarked (period_list m.grid cell numbers list)
      one_period list = (quiet_line (list_item_5 list) (count_quiet (length list), ((refl, tt), tt)), mapped (λ x. list_item_6 m.grid (cell x) (numbers x)) entry list)

  rch_unmarked : AreUnmarked (rch_lines m)
  unfolding rch_lines rch_item_2 rch_items
  rch_unmarked = (quiet_line (rch_item_2 m) (integer_quiet m.nrchop, ((refl, tt), tt)), joined (rch_items m) one m.periods)
    where
      one : (p : Period) → AreUnmarked (rch_items m p)
      one p = (
        quiet_line (codes "1" ∷ codes "1" ∷ []) ((refl, tt), ((refl, tt), tt)),
        lines_append (real_array m.grid.rows m.grid.cols p.stresses.recharge) _
            (reals_unmarked m.grid.rows m.grid.cols p.stresses.recharge)
            (where_so (is_int m.nrchop 2) (integer_array m.grid.rows m.grid.cols p.stresses.irch) (integers_unmarked m.grid.rows m.grid.cols p.stresses.irch)),
      )

  evt_unmarked : AreUnmarked (evt_lines m)
  unfolding evt_lines evt_item_2 evt_items
  evt_unmarked = (quiet_line (evt_item_2 m) (integer_quiet m.nevtop, ((refl, tt), tt)), joined (evt_items m) one m.periods)
    where
      reals : (xs : List Dec) → AreUnmarked (real_array m.grid.rows m.grid.cols xs)
      reals xs = reals_unmarked m.grid.rows m.grid.cols xs

      one : (p : Period) → AreUnmarked (evt_items m p)
      one p =
          let s = p.stresses in (
            quiet_line (codes "1" ∷ codes "1" ∷ codes "1" ∷ codes "1" ∷ []) ((refl, tt), ((refl, tt), ((refl, tt), ((refl, tt), tt)))),
            lines_append (real_array m.grid.rows m.grid.cols s.surf) _ (reals s.surf) (lines_append (real_array m.grid.rows m.grid.cols s.evtr) _ (reals s.evtr)
                (lines_append (real_array m.grid.rows m.grid.cols s.exdp) _ (reals s.exdp)
                (where_so (is_int m.nevtop 2) (integer_array m.grid.rows m.grid.cols s.ievt) (integers_unmarked m.grid.rows m.grid.cols s.ievt)))),
          )

  pub package_unmarked : (k : Package) → AreUnmarked (lines_of m k)
  package_unmarked Dis = dis_unmarked
  package_unmarked Bas = bas_unmarked
  package_unmarked Lpf = lpf_unmarked
  package_unmarked Wel = list_unmarked cell_of numbers_of (map (λ p. p.stresses.wells) m.periods)
  package_unmarked Riv = list_unmarked cell_of numbers_of (map (λ p. p.stresses.rivers) m.periods)
  package_unmarked Drn = list_unmarked cell_of numbers_of (map (λ p. p.stresses.drains) m.periods)
  package_unmarked Ghb = list_unmarked cell_of numbers_of (map (λ p. p.stresses.generals) m.periods)
  package_unmarked Rch = rch_unmarked
  package_unmarked Chd = list_unmarked (λ x. x.cell.0) heads_of (map (λ p. p.stresses.given) m.periods)
  package_unmarked Evt = evt_unmarked

name_unmarked : (k : Package) → IsUnmarked (line_text (name_item deck_names k))
unfolding name_item line_text
name_unmarked Dis = record { feed = refl; mark = refl }
name_unmarked k = record { feed = refl; mark = refl }

pub names_unmarked : (ks : List Package) → AreUnmarked (map (name_item deck_names) ks)
names_unmarked ks = mapped (name_item deck_names) name_unmarked ks

-- The lines of their text.
pub line_cut : (t rest : List ℕ) → has_no_feed t ≡ true → lines (t ++ (10 ∷ rest)) ≡ t ∷ lines rest
unfolding lines
line_cut [] rest h = refl
line_cut (b ∷ t) rest h = by_test (line_cut t rest) (b == 10) refl h
  where
    by_test : (has_no_feed t ≡ true → lines (t ++ (10 ∷ rest)) ≡ t ∷ lines rest) → (x : Bool) → (b == 10) ≡ x → (not x && has_no_feed t) ≡ true →
        lines (b ∷ (t ++ (10 ∷ rest))) ≡ (b ∷ t) ∷ lines rest
    by_test further true e k = absurd (let bad : false ≡ true = k in cc)
    by_test further false e k = rw (e, further k) refl

pub lines_cut : (ls : List Line) (rest : List ℕ) → AreUnmarked ls → lines (text ls ++ rest) ≡ map line_text ls ++ lines rest
unfolding text
lines_cut [] rest h = refl
lines_cut (line ∷ ls) rest h =
    ap lines (append_assoc (line_text line) (10 ∷ text ls) rest) ∙ line_cut (line_text line) (text ls ++ rest) h.0.feed
    ∙ ap (λ (x : List (List ℕ)). line_text line ∷ x) (lines_cut ls rest h.1)

-- A file of lines: they are the lines of its bytes, whatever follows, and a text is cut at none of them. Its name is a good one.
pub record IsOfLines (f : File) : Type 0 where
  pub rows : List (List ℕ)
  pub cut : (rest : List ℕ) → lines (f.bytes ++ rest) ≡ rows ++ lines rest
  pub whole : f.bytes ≡ flat_map (λ t. t ++ (10 ∷ [])) rows
  pub unmarked : AllByRecursion (λ t. is_mark t ≡ false) rows
  pub feed : has_no_feed f.name ≡ true
  pub good : is_good_name f.name ≡ true

whole_lines : (ls : List Line) → text ls ≡ flat_map (λ t. t ++ (10 ∷ [])) (map line_text ls)
unfolding text
whole_lines [] = refl
whole_lines (line ∷ ls) = ap (λ (x : List ℕ). line_text line ++ (10 ∷ x)) (whole_lines ls) ∙ sym (append_assoc (line_text line) (10 ∷ []) _)

none_marked : (ls : List Line) → AreUnmarked ls → AllByRecursion (λ t. is_mark t ≡ false) (map line_text ls)
none_marked [] h = tt
none_marked (line ∷ ls) h = (h.0.mark, none_marked ls h.1)

text_of_lines : (name : List ℕ) (ls : List Line) → has_no_feed name ≡ true → is_good_name name ≡ true → AreUnmarked ls → IsOfLines (record { name = name; bytes = text ls })
text_of_lines name ls feed good h = record {
  rows = map line_text ls;
  cut = λ rest. lines_cut ls rest h;
  whole = whole_lines ls;
  unmarked = none_marked ls h;
  feed = feed;
  good = good;
}

package_of_lines : (m : FlowModel) (k : Package) → IsOfLines (package_file m deck_names k)
unfolding is_good_name
package_of_lines m Dis = text_of_lines (deck_names Dis) (lines_of m Dis) refl refl (package_unmarked m Dis)
package_of_lines m k = text_of_lines (deck_names k) (lines_of m k) refl refl (package_unmarked m k)

module _ (m : FlowModel) where
  more_of_lines : (ks : List Package) (others : List File) → AllByRecursion IsOfLines others → AllByRecursion IsOfLines (map (package_file m deck_names) ks ++ others)
  more_of_lines [] others h = h
  more_of_lines (k ∷ ks) others h = (package_of_lines m k, more_of_lines ks others h)

  first_of_lines : IsOfLines (name_file m deck_names deck_name)
  unfolding is_good_name
  first_of_lines = text_of_lines deck_name (map (name_item deck_names) (filter (has m) packages)) refl refl (names_unmarked (filter (has m) packages))

  last_of_lines : (zones : List ℕ) → IsOfLines (zone_file m.grid zones)
  unfolding is_good_name
  last_of_lines zones = text_of_lines zone_name (each_layer m.grid (integer_layer m.grid (map pos zones))) refl refl (zone_lines_unmarked m.grid zones)

  pub are_of_lines : (zones : Option (List ℕ)) → AllByRecursion IsOfLines (zoned_files m zones)
  unfolding written
  are_of_lines None =
      let S : List File → Type 0 = λ fs. AllByRecursion IsOfLines fs in
      (first_of_lines, subst S (append-nil (map (package_file m deck_names) (filter (has m) packages))) (more_of_lines (filter (has m) packages) [] tt))
  are_of_lines (Some zones) = (first_of_lines, more_of_lines (filter (has m) packages) (zone_file m.grid zones ∷ []) (last_of_lines zones, tt))

unmarked_file : (f : File) → IsOfLines f → HasNoMark f.bytes
unfolding lines
unmarked_file f h =
    let is : lines f.bytes ≡ h.rows = ap lines (sym (append-nil f.bytes)) ∙ h.cut [] ∙ append-nil h.rows in
    let none = All-from_recursion (λ t. is_mark t ≡ false) h.rows h.unmarked in
    let S : List (List ℕ) → Type 0 = λ rows. All (λ t. is_mark t ≡ false) rows in
    record { whole = h.whole ∙ ap (flat_map (λ t. t ++ (10 ∷ []))) (sym is); none = subst S (sym is) none }

unmarked_files : (files : List File) → AllByRecursion IsOfLines files → AllByRecursion (λ f. HasNoMark f.bytes) files
unmarked_files [] h = tt
unmarked_files (f ∷ files) h = (unmarked_file f h.0, unmarked_files files h.1)

pub none_is_marked : NoLineIsAMark
none_is_marked m zones = All-from_recursion (λ f. HasNoMark f.bytes) (zoned_files m zones) (unmarked_files (zoned_files m zones) (are_of_lines m zones))
