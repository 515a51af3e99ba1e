-- The terms of a budget in one direction: the pairs of all eight, and the lines of those that are printed.
use Rattle.listing_io.proofs.Common.{◌≡◌, ℕ, ◌≤◌, Bool, true, false, cond, List, [], ◌∷◌, length, map, refl, arith, slice_index_or, AllZip, Dir, In, Out, Term, TermPair, no_pair, FlowModel, Line}
use Rattle.listing_io.proofs.Common.{term_line, term_lines, printed_terms, has_evt, each_lines, is_printed, AreTerms, IsPairIf, place_of, all_terms, Budget, ◌++◌, sym, ap, ◌∙◌, subst, Result, Ok, Err}
use Rattle.listing_io.proofs.Common.{append_assoc, ◌>>=◌, for_each, Left, AllZip-length, Bound, head_line, is_active}

-- What is read for each of a list, and the lines of what is read.
-- a reading that goes on was not refused
pub record Goes {A B E : Type 0} (r : Result A E) (f : A → Result B E) (y : B) : Type 0 where
  pub item : A
  pub first : r ≡ Ok item
  pub then_ : f item ≡ Ok y

pub ok_is_not_err : {B E : Type 0} (e : E) (y : B) (r : Result B E) → r ≡ Err e → r ≡ Ok y → ⊥
ok_is_not_err e y r h k = cc

pub same_ok : {B E : Type 0} (x y : B) (r : Result B E) → r ≡ Ok x → r ≡ Ok y → x ≡ y
same_ok x y r h k = cc

pub bind_goes_through : {A B E : Type 0} (r : Result A E) (f : A → Result B E) (y : B) → (r >>= f) ≡ Ok y → Goes r f y
bind_goes_through (Ok x) f y h = record { item = x; first = refl; then_ = h }
bind_goes_through {A = A} {B = B} {E = E} (Err e) f y h = absurd (ok_is_not_err e y (Err e) refl h)

abbrev pub left_of : List Line → ℕ → Left
left_of rows n = record { lines = rows; number = n }

-- What is read was written so, and is sound; and what is sound and written is read again, with at most 18 digits.
pub record IsReader {X : Type 0} (s : ℕ) (read : Left → Result (X × Left) ℕ) (rows : X → List Line) (Sound : X → Type 0) : Type 0 where
  pub again : s ≤ 18 → (x : X) (rest : List Line) (n : ℕ) → Sound x → (k : ℕ) × (read (left_of (rows x ++ rest) n) ≡ Ok (x, left_of rest k))
  pub was : (left : Left) (got : X × Left) → read left ≡ Ok got → Sound got.0 × (left.lines ≡ rows got.0 ++ got.1.lines)

-- one thing is read for each of a list
module _ {T X : Type 0} (s : ℕ) (read : T → Left → Result (X × Left) ℕ) (rows : T → X → List Line) (Sound : T → X → Type 0) (each : (t : T) → IsReader s (read t) (rows t) (Sound t)) where
  all_again : s ≤ 18 → (ts : List T) (xs : List X) (rest : List Line) (n : ℕ) → AllZip Sound ts xs → (k : ℕ) × (for_each read ts (left_of (each_lines rows ts xs ++ rest) n) ≡ Ok (xs, left_of rest k))
  unfolding for_each
  all_again few [] [] rest n h = (n, refl)
  all_again few [] (x ∷ xs) rest n h = absurd h
  all_again few (t ∷ ts) [] rest n h = absurd h
  all_again few (t ∷ ts) (x ∷ xs) rest n h =
      let (j, first) = (each t).again few x (each_lines rows ts xs ++ rest) n h.0 in
      let (k, more) = all_again few ts xs rest j h.1 in
      (k, rw (append_assoc (rows t x) (each_lines rows ts xs) rest, first, more) refl)

  all_was : (ts : List T) (left : Left) (got : List X × Left) → for_each read ts left ≡ Ok got → AllZip Sound ts got.0 × (left.lines ≡ each_lines rows ts got.0 ++ got.1.lines)
  unfolding for_each
  all_was [] left got h =
      let P : List X × Left → Type 0 = λ x. AllZip Sound [] x.0 × (left.lines ≡ each_lines rows [] x.0 ++ x.1.lines) in
      subst P (same_ok ([], left) got (for_each read [] left) refl h) (tt, refl)
  all_was (t ∷ ts) left got h =
      let first = bind_goes_through (read t left) _ got h in
      let more = bind_goes_through (for_each read ts first.item.1) _ got first.then_ in
      let here = (each t).was left first.item first.first in
      let others = all_was ts first.item.1 more.item more.first in
      let P : List X × Left → Type 0 = λ x. AllZip Sound (t ∷ ts) x.0 × (left.lines ≡ each_lines rows (t ∷ ts) x.0 ++ x.1.lines) in
      subst P (same_ok (first.item.0 ∷ more.item.0, more.item.1) got _ refl more.then_) (
        (here.0, others.0),
        here.1 ∙ ap (λ (r : List Line). rows t first.item.0 ++ r) others.1 ∙ sym (append_assoc (rows t first.item.0) (each_lines rows ts more.item.0) more.item.1.lines),
      )

  pub all_read : (ts : List T) → IsReader s (for_each read ts) (each_lines rows ts) (AllZip Sound ts)
  all_read ts = record { again = λ few xs rest n h. all_again few ts xs rest n h; was = all_was ts }

-- the line of a cell, if it has one
abbrev pub cell_lines : FlowModel → ℕ → Bound → List Line
cell_lines m c b = cond (is_active m c) (head_line m.grid c b ∷ []) []

-- the line of a term, if it has one
abbrev pub line_if : Bool → ℕ → Dir → Term → TermPair → List Line
line_if flag s dir t p = cond flag (term_line s dir t p ∷ []) []

abbrev pub term_rows : Bool → ℕ → Dir → Term → TermPair → List Line
term_rows evt s dir t p = line_if (is_printed evt t) s dir t p

abbrev pub IsTermPair : Bool → Term → TermPair → Type 0
IsTermPair evt t p = IsPairIf (is_printed evt t) p

lines_of_pairs : (evt : Bool) (s : ℕ) (dir : Dir) (ps : List TermPair) → length ps ≡ 8 → each_lines (term_rows evt s dir) all_terms ps ≡
    map (λ t. term_line s dir t (slice_index_or ps (place_of t) no_pair)) (printed_terms evt)
lines_of_pairs true s dir (a ∷ b ∷ c ∷ d ∷ e ∷ f ∷ g ∷ x ∷ []) h = refl
lines_of_pairs false s dir (a ∷ b ∷ c ∷ d ∷ e ∷ f ∷ g ∷ x ∷ []) h = refl
lines_of_pairs evt s dir other h = absurd (omega (arith, h))

eight : (m : FlowModel) (ps : List TermPair) → AreTerms m ps → length ps ≡ 8
eight m ps h = sym (AllZip-length (IsTermPair (has_evt m)) all_terms ps h)

-- the lines of a budget's terms, in and out
pub lines_in : (m : FlowModel) (s : ℕ) (b : Budget) → AreTerms m b.into → each_lines (term_rows (has_evt m) s In) all_terms b.into ≡ term_lines m s In b
unfolding term_lines
lines_in m s b h = lines_of_pairs (has_evt m) s In b.into (eight m b.into h)

pub lines_out : (m : FlowModel) (s : ℕ) (b : Budget) → AreTerms m b.out → each_lines (term_rows (has_evt m) s Out) all_terms b.out ≡ term_lines m s Out b
unfolding term_lines
lines_out m s b h = lines_of_pairs (has_evt m) s Out b.out (eight m b.out h)
