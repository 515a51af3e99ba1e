-- The parts of a step are read as they are written: the line of two numbers, the heads of the cells, the terms, and the flows between zones.
use Rattle.listing_io.proofs.Common.{◌≡◌, ℕ, ◌≤◌, Bool, true, false, cond, List, [], ◌∷◌, ◌++◌, codes, nat_abs, refl, sym, ap, ◌∙◌, subst, arith, ℤ, pos, negsuc, Option, Some, None, Ok, Err, AllZip}
use Rattle.listing_io.proofs.Common.{bytes_eq, bytes_eq-Decides, next_number, for_each, Bound, Dir, Term, Storage, ZoneFlow, no_bound, term_name, TermPair, no_pair, FlowModel, cell_count, is_active}
use Rattle.listing_io.proofs.Common.{ZonePair, zones_of_flow, digits_behind, Form, IsForm, pair_if, pair_in, pair_line, Line, cell_front, cell_line, head_form, head_front, head_lines, head_pair}
use Rattle.listing_io.proofs.Common.{dir_front, term_form, flow_form, zone_front, zone_line, zone_pair, Left, line_at, first_of, or_refused, pair_at, text_at, bound_of, head_if, heads_at, term_if}
use Rattle.listing_io.proofs.Common.{terms_at, flow_of, flow_at, IsCellBound, IsFlowPair, all_terms, is_printed, each_lines, range_with_len, IsHead, head_limit, HasDigits, form_of, IsPairIf, CellWord}
use Rattle.listing_io.proofs.Common.{Head}
use Rattle.std.proofs.lemmas.Int.{ints}
use Rattle.listing_io.specs.declared.pair_lines.Row.{Row}
use Rattle.listing_io.proofs.Exactly.{line_sound, line_whole}
use Rattle.listing_io.proofs.Terms.{IsReader, all_read, ok_is_not_err, bind_goes_through, same_ok, left_of, term_rows, IsTermPair, cell_lines}
use Rattle.listing_io.specs.declared.pair_lines.Row.TheVariants as row

-- The next line.

first_row : (n : ℕ) (rows : List Line) (got : Line × Left) → first_of n rows ≡ Ok got → rows ≡ got.0 ∷ got.1.lines
first_row n [] got h = absurd (ok_is_not_err n got (first_of n []) refl h)
first_row n (row ∷ rows) got h = grind (arith, same_ok)

pub line_row : (left : Left) (got : Line × Left) → line_at left ≡ Ok got → left.lines ≡ got.0 ∷ got.1.lines
line_row left got h = first_row left.number left.lines got h

some_row : {X : Type 0} (n : ℕ) (o : Option X) (x : X) → or_refused n o ≡ Ok x → o ≡ Some x
some_row n None x h = absurd (ok_is_not_err n x (or_refused n None) refl h)
some_row n (Some y) x h = ap (λ z. Some z) (same_ok y x (or_refused n (Some y)) refl h)

pub choice_is_ok : {X : Type 0} (b : Bool) (n : ℕ) (x y : X) → cond b (Ok x) (Err n) ≡ Ok y → (b ≡ true) × (x ≡ y)
choice_is_ok true n x y h = (refl, same_ok x y (Ok x) refl h)
choice_is_ok false n x y h = absurd (ok_is_not_err n y (Err n) refl h)

pub text_again : (text : Line) (rest : List Line) (n : ℕ) → text_at text (left_of (text ∷ rest) n) ≡ Ok (left_of rest (next_number n))
unfolding text_at
text_again text rest n = rw ((bytes_eq-Decides text text).1 refl) refl

pub text_row : (text : Line) (left after : Left) → text_at text left ≡ Ok after → left.lines ≡ text ∷ after.lines
unfolding text_at
text_row text left after h =
    let line = bind_goes_through (line_at left) _ after h in
    let (test, same) = choice_is_ok (bytes_eq text line.item.0) left.number line.item.1 after line.then_ in
    let e : text ≡ line.item.0 = (bytes_eq-Decides text line.item.0).0 test in
    line_row left line.item line.first ∙ ap (λ (t : List ℕ). t ∷ line.item.1.lines) (sym e) ∙ ap (λ (x : Left). text ∷ x.lines) same

-- two numbers within the limit of their line
abbrev pub IsInLimit : Form → TermPair → Type 0
IsInLimit f p = (nat_abs p.lo ≤ f.limit) × (nat_abs p.hi ≤ f.limit)

pub pair_again : (front : List ℕ) (f : Form) (p : TermPair) (rest : List Line) (n : ℕ) → IsForm f → IsInLimit f p →
    pair_at front f (left_of (pair_line front f p ∷ rest) n) ≡ Ok (p, left_of rest (next_number n))
unfolding pair_at
pair_again front f p rest n form h = rw (line_whole front f p form h.0 h.1) refl

pub pair_was : (front : List ℕ) (f : Form) (left : Left) (got : TermPair × Left) → pair_at front f left ≡ Ok got → IsInLimit f got.0 × (left.lines ≡ pair_line front f got.0 ∷ got.1.lines)
unfolding pair_at
pair_was front f left got h =
    let line = bind_goes_through (line_at left) _ got h in
    let number = bind_goes_through (or_refused left.number (pair_in front f line.item.0)) _ got line.then_ in
    let is = line_sound front f line.item.0 number.item (some_row left.number (pair_in front f line.item.0) number.item number.first) in
    let P : TermPair × Left → Type 0 = λ x. IsInLimit f x.0 × (left.lines ≡ pair_line front f x.0 ∷ x.1.lines) in
    subst P (same_ok (number.item, line.item.1) got _ refl number.then_) ((is.lo, is.hi), line_row left line.item line.first ∙ ap (λ (t : List ℕ). t ∷ line.item.1.lines) is.text)

-- The heads of a cell.

none_behind : (n : ℕ) → digits_behind n [] ≡ n
unfolding digits_behind
none_behind n = refl

pub head_is_form : IsForm head_form
head_is_form = record { some = omega arith; few = omega arith; small = omega arith; behind = none_behind }

pub head_small : (z : ℤ) → IsHead z → nat_abs z ≤ head_limit
head_small (pos n) h = let a = h.below in omega (arith, ints, a)
head_small (negsuc n) h = let a = h.above in omega (arith, ints, a)

is_head : (z : ℤ) → nat_abs z ≤ head_limit → IsHead z
is_head (pos n) h = record { above = omega (arith, ints, h); below = omega (arith, ints, h) }
is_head (negsuc n) h = record { above = omega (arith, ints, h); below = omega (arith, ints, h) }

module _ (m : FlowModel) (s : ℕ) where
  -- a line of a cell, whatever its word
  pub cell_read : (w : CellWord) (c : ℕ) (flag : Bool) → is_active m c ≡ flag → IsReader s (head_if flag (cell_front w m.grid c)) (λ b. cond flag (cell_line w m.grid c b ∷ []) []) (IsCellBound m c)
  cell_read w c true is = record {
    again = λ few b rest n h. (next_number n, rw (pair_again (cell_front w m.grid c) head_form (head_pair b) rest n head_is_form (head_small b.low h.low, head_small b.high h.high)) refl);
    was = λ left got h.
        let p = bind_goes_through (pair_at (cell_front w m.grid c) head_form left) _ got h in
        let (small, row) = pair_was (cell_front w m.grid c) head_form left p.item p.first in
        let P : Bound × Left → Type 0 = λ x. IsCellBound m c x.0 × (left.lines ≡ cell_line w m.grid c x.0 ∷ x.1.lines) in
        subst P (same_ok (bound_of p.item.0, p.item.1) got _ refl p.then_) (
          record {
            low = is_head p.item.0.lo small.0;
            high = is_head p.item.0.hi small.1;
            none = λ off. absurd (differ (is_active m c) is off);
          },
          row,
        );
  }
    where
      differ : (b : Bool) → b ≡ true → b ≡ false → ⊥
      differ b h k = cc
  cell_read w c false is = record {
    again = λ few b rest n h. (n, rw (h.none is) refl);
    was = λ left got h.
        let zero_head : IsHead (pos 0) = is_head (pos 0) (omega arith) in
        let P : Bound × Left → Type 0 = λ x. IsCellBound m c x.0 × (left.lines ≡ x.1.lines) in
        subst P (same_ok (no_bound, left) got (head_if false (cell_front w m.grid c) left) refl h) (record { low = zero_head; high = zero_head; none = λ off. refl }, refl);
  }

  pub heads_read : IsReader s (heads_at m) (head_lines m) (AllZip (IsCellBound m) (range_with_len 0 (cell_count m.grid)))
  unfolding heads_at head_lines
  heads_read = all_read s (λ c. head_if (is_active m c) (head_front m.grid c)) (cell_lines m) (IsCellBound m) (λ c. cell_read Head c (is_active m c) refl) (range_with_len 0 (cell_count m.grid))

-- The terms.

name_behind : (t : Term) (n : ℕ) → digits_behind n (codes " " ++ term_name t) ≡ n
unfolding digits_behind
name_behind Storage n = refl
name_behind other n = refl

pub term_is_form : (s : ℕ) (t : Term) → s ≤ 18 → IsForm (term_form s t)
term_is_form s t h = record { some = omega arith; few = omega arith; small = omega arith; behind = name_behind t }

-- a flow between two zones has no name after it
pub flow_is_form : (s : ℕ) → s ≤ 18 → IsForm (flow_form s [])
flow_is_form s h = record { some = omega arith; few = omega arith; small = omega arith; behind = none_behind }

pub row_is_form : (r : Row) → HasDigits r → IsForm (form_of r)
row_is_form (row.Cell w c) h = head_is_form
row_is_form (row.Term s dir t) h = term_is_form s t h
row_is_form (row.Source s t) h = term_is_form s t h
row_is_form (row.Zone s a b) h = flow_is_form s h

pub in_limit : (s : ℕ) (back : List ℕ) (p : TermPair) → IsFlowPair p → IsInLimit (flow_form s back) p
in_limit s back p h = let lo = h.lo in let hi = h.hi in (omega (arith, lo), omega (arith, hi))

is_flow_pair : (s : ℕ) (back : List ℕ) (p : TermPair) → IsInLimit (flow_form s back) p → IsFlowPair p
is_flow_pair s back p h = let lo = h.0 in let hi = h.1 in record { lo = omega (arith, lo); hi = omega (arith, hi) }

module _ (s : ℕ) where
  -- a line of a term, however it begins
  pub term_read : (front : List ℕ) (flag : Bool) (t : Term) → IsReader s (pair_if flag front (term_form s t)) (λ p. cond flag (pair_line front (term_form s t) p ∷ []) []) (IsPairIf flag)
  term_read front true t = record {
    again = λ few p rest n h. (next_number n, pair_again front (term_form s t) p rest n (term_is_form s t few) (in_limit s (codes " " ++ term_name t) p h.small));
    was = λ left got h. let (small, row) = pair_was front (term_form s t) left got h in (record { small = is_flow_pair s (codes " " ++ term_name t) got.0 small; none = λ e. cc }, row);
  }
  term_read front false t = record {
    again = λ few p rest n h. (n, rw (h.none refl) refl);
    was = λ left got h.
        let P : TermPair × Left → Type 0 = λ x. IsPairIf false x.0 × (left.lines ≡ x.1.lines) in
        subst P (same_ok (no_pair, left) got (pair_if false front (term_form s t) left) refl h) (record { small = record { lo = omega arith; hi = omega arith }; none = λ e. refl }, refl);
  }

  pub terms_read : (dir : Dir) (evt : Bool) → IsReader s (terms_at evt s dir) (each_lines (term_rows evt s dir) all_terms) (AllZip (IsTermPair evt) all_terms)
  unfolding terms_at
  terms_read dir evt = all_read s (λ t. term_if (is_printed evt t) s dir t) (term_rows evt s dir) (IsTermPair evt) (λ t. term_read (dir_front dir) (is_printed evt t) t) all_terms

-- The flows between zones.

pub record IsFlowOf (z : ZonePair) (v : ZoneFlow) : Type 0 where
  pub pair : zones_of_flow v ≡ z
  pub small : IsFlowPair (zone_pair v)

abbrev pub flow_rows : ℕ → ZonePair → ZoneFlow → List Line
flow_rows s z v = zone_line s v ∷ []

flow_read : (s : ℕ) (z : ZonePair) → IsReader s (flow_at s z) (flow_rows s z) (IsFlowOf z)
unfolding flow_at
flow_read s z = record {
  again = λ few v rest n h.
      let P : ZonePair → Type 0 = λ y. flow_at s y (left_of (zone_line s v ∷ rest) n) ≡ Ok (v, left_of rest (next_number n)) in
      (next_number n, subst P h.pair (rw (pair_again (zone_front v.from v.to) (flow_form s []) (zone_pair v) rest n (flow_is_form s few) (in_limit s [] (zone_pair v) h.small)) refl));
  was = λ left got h.
      let p = bind_goes_through (pair_at (zone_front z.from z.to) (flow_form s []) left) _ got h in
      let (small, row) = pair_was (zone_front z.from z.to) (flow_form s []) left p.item p.first in
      let P : ZoneFlow × Left → Type 0 = λ x. IsFlowOf z x.0 × (left.lines ≡ zone_line s x.0 ∷ x.1.lines) in
      subst P (same_ok (flow_of z p.item.0, p.item.1) got _ refl p.then_) (record { pair = refl; small = is_flow_pair s [] p.item.0 small }, row);
}

pub flows_read : (s : ℕ) (zs : List ZonePair) → IsReader s (for_each (flow_at s) zs) (each_lines (flow_rows s) zs) (AllZip IsFlowOf zs)
flows_read s zs = all_read s (flow_at s) (flow_rows s) IsFlowOf (flow_read s) zs
