-- No line of a listing has a line feed, so the lines of its text are the listing's.
use Rattle.listing_io.proofs.Common.{◌≡◌, ℕ, zero, suc, ◌+◌, ◌/◌, ◌%◌, ◌<◌, ◌≤◌, ◌^◌, Bool, true, false, cond, List, [], ◌∷◌, ◌++◌, codes, map, nat_abs, All, refl, sym, ap, ◌∙◌, subst, arith}
use Rattle.listing_io.proofs.Common.{AllByRecursion, AllZip, recursion_from_All, flat_map-cons, lines, Bound, Dir, In, Out, Term, Storage, ZoneFlow, term_name, TermPair, fixed_text, FlowModel}
use Rattle.listing_io.proofs.Common.{TimeStep, place, is_active, times, ZonePair, zones_of_flow, ListedStep, Form, pair_line, Line, ended_line, text_of, numbers_text, step_line, head_form, CellWord}
use Rattle.listing_io.proofs.Common.{Head, cell_front, cell_line, cell_word, head_lines, head_pair, dir_front, term_form, term_lines, has_evt, flow_form, zone_front, zone_line, zone_pair, step_lines}
use Rattle.listing_io.proofs.Common.{all_step_lines, end_line, listing, range_with_len, cell_count, IsForm, IsCellBound, AreFlows, AreTerms, IsListedStep, AreListed, AreZonePairs, IsTime, IsWritable}
use Rattle.listing_io.proofs.Common.{ListingsAreReadAgain, inl, IsListedAt, IsPairIf, digits_line, titled_line, all_terms, is_printed, each_lines, most_cells}
use Rattle.model_types.specs.{declared.grid.Grid.Grid, declared.limits.Limits.TheVariants.Wide}
use Rattle.listing_io.proofs.Exactly.{IsApart, Without, Without-append, by_test, title_without, fixed_without, fits_wide, numbers_without}
use Rattle.listing_io.proofs.Terms.{left_of, term_rows, IsTermPair, lines_in, lines_out, cell_lines}
use Rattle.listing_io.proofs.Readers.{IsFlowOf, IsInLimit, flow_is_form, flow_rows, head_is_form, head_small, in_limit, term_is_form}
use Rattle.listing_io.proofs.Steps.{IsSmall, bounds_of, flow_lines, flows_of, rows_again}

abbrev pub NoFeed : List ℕ → Type 0
NoFeed = Without 10

first_row_is : (line rest : List ℕ) → NoFeed line → lines (ended_line line ++ rest) ≡ line ∷ lines rest
unfolding lines
first_row_is [] rest h = refl
first_row_is (c ∷ cs) rest h = rw (h.0, first_row_is cs rest h.1) refl

-- rows without line feeds are the lines of their text
pub lines_of : (rows : List Line) → AllByRecursion NoFeed rows → lines (text_of rows) ≡ rows
unfolding lines
lines_of [] h = refl
lines_of (row ∷ rows) h = ap lines (flat_map-cons ended_line row rows) ∙ first_row_is row (text_of rows) h.0 ∙ ap (λ (t : List Line). row ∷ t) (lines_of rows h.1)

pub low : IsApart 10
low = inl (omega arith)

pub pair_without : (front : List ℕ) (f : Form) (p : TermPair) → IsForm f → IsInLimit f p → NoFeed front → NoFeed f.back → NoFeed (pair_line front f p)
pair_without front f p form h start back =
    Without-append 10 front _ start
    (Without-append 10 (fixed_text f.places p.lo) _ (fixed_without 10 low f.places p.lo (fits_wide (nat_abs p.lo) f.limit form.small h.0))
    (Without-append 10 (codes " ") _ (by_test 10 (codes " ") refl)
    (Without-append 10 (fixed_text f.places p.hi) f.back (fixed_without 10 low f.places p.hi (fits_wide (nat_abs p.hi) f.limit form.small h.1)) back)))

-- a cell's place is small
below : (n p top : ℕ) → n < top → n / p < top
below n zero top h = omega (arith, h)
below n (suc p) top h = omega (arith, h)

part_below : (n p top : ℕ) → n < top → n % p < top
part_below n zero top h = omega (arith, h)
part_below n (suc p) top h = omega (arith, h)

place_small : (g : Grid) (c : ℕ) → c < most_cells Wide → AllByRecursion (λ n. n < 10 ^ 64) (place g c)
place_small g c h = grind (arith, below, part_below)

word_without : (w : CellWord) → NoFeed (cell_word w)
word_without Head = by_test 10 (cell_word Head) refl
word_without other = by_test 10 (cell_word other) refl

front_without : (w : CellWord) (g : Grid) (c : ℕ) → c < most_cells Wide → NoFeed (cell_front w g c)
front_without w g c h =
    Without-append 10 (cell_word w ++ numbers_text (place g c)) (codes " ")
    (Without-append 10 (cell_word w) (numbers_text (place g c)) (word_without w) (numbers_without 10 low refl (place g c) (place_small g c h)))
    (by_test 10 (codes " ") refl)

pub all_appended : {X : Type 0} (P : X → Type 0) (xs ys : List X) → AllByRecursion P xs → AllByRecursion P ys → AllByRecursion P (xs ++ ys)
all_appended P [] ys h k = k
all_appended P (x ∷ xs) ys h k = (h.0, all_appended P xs ys h.1 k)

-- the lines of several things
pub each_without : {T X : Type 0} (P : T → Type 0) (R : T → X → Type 0) (row : T → X → List Line) → ((t : T) (x : X) → P t → R t x → AllByRecursion NoFeed (row t x)) →
    (ts : List T) (xs : List X) → AllByRecursion P ts → AllZip R ts xs → AllByRecursion NoFeed (each_lines row ts xs)
each_without P R row one [] [] p h = tt
each_without P R row one [] (x ∷ xs) p h = absurd h
each_without P R row one (t ∷ ts) [] p h = absurd h
each_without P R row one (t ∷ ts) (x ∷ xs) p h = all_appended NoFeed (row t x) (each_lines row ts xs) (one t x p.0 h.0) (each_without P R row one ts xs p.1 h.1)

pub cell_without : (w : CellWord) (m : FlowModel) (c : ℕ) (b : Bound) → c < most_cells Wide → IsCellBound m c b →
    AllByRecursion NoFeed (cond (is_active m c) (cell_line w m.grid c b ∷ []) [])
cell_without w m c b lt h = of_flag (is_active m c)
  where
    of_flag : (flag : Bool) → AllByRecursion NoFeed (cond flag (cell_line w m.grid c b ∷ []) [])
    of_flag true = (pair_without (cell_front w m.grid c) head_form (head_pair b) head_is_form (head_small b.low h.low, head_small b.high h.high) (front_without w m.grid c lt) tt, tt)
    of_flag false = tt

pub cells_below : (a n : ℕ) → a + n ≤ most_cells Wide → AllByRecursion (λ c. c < most_cells Wide) (range_with_len a n)
cells_below a zero few = tt
cells_below a (suc n) few = (omega (arith, few), cells_below (a + 1) n (omega (arith, few)))

heads_without : (m : FlowModel) (bs : List Bound) → cell_count m.grid ≤ most_cells Wide → AllZip (IsCellBound m) (range_with_len 0 (cell_count m.grid)) bs → AllByRecursion NoFeed (head_lines m bs)
unfolding head_lines
heads_without m bs few h = each_without (λ c. c < most_cells Wide) (IsCellBound m) (cell_lines m) (cell_without Head m) (range_with_len 0 (cell_count m.grid)) bs
    (cells_below 0 (cell_count m.grid) (omega (arith, few))) h

dir_without : (dir : Dir) → NoFeed (dir_front dir)
dir_without In = by_test 10 (dir_front In) refl
dir_without Out = by_test 10 (dir_front Out) refl

name_without : (t : Term) → NoFeed (codes " " ++ term_name t)
name_without Storage = by_test 10 (codes " " ++ term_name Storage) refl
name_without other = by_test 10 (codes " " ++ term_name other) refl

pub term_without : (front : List ℕ) → NoFeed front → (flag : Bool) (s : ℕ) (t : Term) (p : TermPair) → s ≤ 18 → IsPairIf flag p →
    AllByRecursion NoFeed (cond flag (pair_line front (term_form s t) p ∷ []) [])
term_without front start true s t p few h = (pair_without front (term_form s t) p (term_is_form s t few) (in_limit s (codes " " ++ term_name t) p h.small) start (name_without t), tt)
term_without front start false s t p few h = tt

terms_without : (m : FlowModel) (s : ℕ) (dir : Dir) (rows : List Line) (pairs : List TermPair) → s ≤ 18 → AreTerms m pairs →
    each_lines (term_rows (has_evt m) s dir) all_terms pairs ≡ rows → AllByRecursion NoFeed rows
terms_without m s dir rows pairs few h are =
    let evt = has_evt m in
    rw (← are) (each_without (λ t. Unit {0}) (IsTermPair evt) (term_rows evt s dir) (λ t p any good.
    term_without (dir_front dir) (dir_without dir) (is_printed evt t) s t p few good) all_terms pairs (tt, (tt, (tt, (tt, (tt, (tt, (tt, (tt, tt)))))))) h)

pub step_title_without : (at : TimeStep) → IsTime at → NoFeed (step_line at)
step_title_without at h =
    let p = h.period in
    let n = h.step in
    Without-append 10 (codes "STEP") (numbers_text (at.period ∷ at.step ∷ [])) (by_test 10 (codes "STEP") refl)
    (numbers_without 10 low refl (at.period ∷ at.step ∷ []) (omega (arith, p), (omega (arith, n), tt)))

-- the flows between zones
abbrev IsPair : ZonePair → Type 0
IsPair z = (z.from ≤ 999) × (z.to ≤ 999)

zone_without : (s : ℕ) (v : ZoneFlow) → s ≤ 18 → IsPair (zones_of_flow v) → IsSmall v → NoFeed (zone_line s v)
zone_without s v few pair h =
    let a = pair.0 in
    let b = pair.1 in
    pair_without (zone_front v.from v.to) (flow_form s []) (zone_pair v) (flow_is_form s few) (in_limit s [] (zone_pair v) h)
    (Without-append 10 (codes "ZONE" ++ numbers_text (v.from ∷ v.to ∷ [])) (codes " ")
    (Without-append 10 (codes "ZONE") (numbers_text (v.from ∷ v.to ∷ [])) (by_test 10 (codes "ZONE") refl)
    (numbers_without 10 low refl (v.from ∷ v.to ∷ []) (omega (arith, a), (omega (arith, b), tt))))
    (by_test 10 (codes " ") refl))
    tt

pub flows_without : (s : ℕ) (zs : List ZonePair) (vs : List ZoneFlow) → s ≤ 18 → All IsPair zs → AreFlows zs vs → AllByRecursion NoFeed (map (zone_line s) vs)
flows_without s zs vs few pairs h =
    let are = flows_of zs vs h in
    rw (← flow_lines s zs vs are) (each_without IsPair IsFlowOf (flow_rows s) (λ z v pair of.
    (zone_without s v few (subst IsPair (sym of.pair) pair) of.small, tt)) zs vs (recursion_from_All IsPair zs pairs) are)

step_without : (m : FlowModel) (s : ℕ) (zs : List ZonePair) (at : TimeStep) (x : ListedStep) → IsWritable m s → All IsPair zs → IsTime at → IsListedStep m x →
    AreFlows zs x.zones → AllByRecursion NoFeed (step_lines m s at x.heads x.budget x.zones)
unfolding step_lines
step_without m s zs at x good pairs time h g = (
  step_title_without at time,
  all_appended NoFeed (head_lines m x.heads) (term_lines m s In x.budget ++ (term_lines m s Out x.budget ++ map (zone_line s) x.zones)) (heads_without m x.heads good.size.cells (bounds_of m x h))
      (all_appended NoFeed (term_lines m s In x.budget) (term_lines m s Out x.budget ++ map (zone_line s) x.zones)
      (terms_without m s In (term_lines m s In x.budget) x.budget.into good.digits h.into (lines_in m s x.budget h.into))
      (all_appended NoFeed (term_lines m s Out x.budget) (map (zone_line s) x.zones)
      (terms_without m s Out (term_lines m s Out x.budget) x.budget.out good.digits h.out (lines_out m s x.budget h.out))
      (flows_without s zs x.zones good.digits pairs g))),
)

pub steps_without : (m : FlowModel) (s : ℕ) (pairs : ℕ → List ZonePair) (xs : List ListedStep) → IsWritable m s → AreZonePairs pairs →
    AllZip (IsListedAt m pairs) (times m) xs → AllByRecursion NoFeed (all_step_lines m s (times m) xs)
unfolding all_step_lines
steps_without m s pairs xs good are h =
    each_without IsTime (IsListedAt m pairs) (λ at x. step_lines m s at x.heads x.budget x.zones) (λ at x time step.
    step_without m s (pairs at.period) at x good (are at.period) time step.0 step.1) (times m) xs (recursion_from_All IsTime (times m) good.times) h

digits_fed : (title : List ℕ) → NoFeed title → (m : FlowModel) (s : ℕ) → IsWritable m s → NoFeed (digits_line title m s)
digits_fed title fed m s good = title_without 10 low refl title fed m s good (by_test 10 (codes " DIGITS") refl) (by_test 10 (codes " UNIT ") refl)

pub first_without : (title : List ℕ) → NoFeed title → (between : Bool) (m : FlowModel) (s : ℕ) → IsWritable m s → NoFeed (titled_line title between m s)
first_without title fed false m s good = digits_fed title fed m s good
first_without title fed true m s good = Without-append 10 (digits_line title m s) (codes " TO") (digits_fed title fed m s good) (by_test 10 (codes " TO") refl)

listing_without : (between : Bool) (m : FlowModel) (s : ℕ) (pairs : ℕ → List ZonePair) (steps : List ListedStep) → IsWritable m s → AreZonePairs pairs →
    AreListed m pairs steps → AllByRecursion NoFeed (listing between m s steps)
unfolding listing
listing_without between m s pairs steps good are h = (
  first_without (codes "HEADS 2") (by_test 10 (codes "HEADS 2") refl) between m s good,
  all_appended NoFeed (all_step_lines m s (times m) steps) (end_line ∷ []) (steps_without m s pairs steps good are h.steps) (by_test 10 end_line refl, tt),
)

pub listings_are_read_again : ListingsAreReadAgain
listings_are_read_again between m s pairs steps good are h = grind (arith, left_of, lines_of, listing_without, rows_again)
