-- Loops that read or write one thing after another.
use Rattle.listing_io.proofs.Common.{Bool, cond, true, false, ◌≡◌, ℕ, suc, ◌+◌, ◌-◌, ◌<◌, ◌≤◌, List, [], ◌∷◌, ◌++◌, length, drop, get_or, drop-cons, add-one, map, refl, sym, ap, ◌∙◌, arith, Result}
use Rattle.listing_io.proofs.Common.{Err, codes, inl, inr, append-nil, flat_map-cons, flat_map-append, for_each, with_front, Fault, BadLine, Memory, Line, ended_line, text_of, Stops}
use Rattle.listing_io.proofs.Common.{first_line_before, listing, digits_line, titled_line, IsListing, IsWritable, ListingsAreApart, range_with_len, FlowModel, ListedStep}
use Rattle.std.proofs.Common.{append_assoc}
use Rattle.listing_io.proofs.{Exactly.Without, Exactly.by_test, Exactly.title_without, Steps.listings_were_written}

-- the cells that are left, of n
pub cells_next : (n i : ℕ) → i < n → range_with_len i (n - i) ≡ i ∷ range_with_len (i + 1) (n - (i + 1))
cells_next n i lt = let k : n - i ≡ suc (n - (i + 1)) = omega arith in rw k refl

pub no_cells : (n i : ℕ) → n ≤ i → range_with_len i (n - i) ≡ []
no_cells n i le = let k : n - i ≡ 0 = omega arith in rw k refl

-- a reading for each of a list that meets a fault
pub each_stops : {A X S : Type 0} (read : A → S → Result (X × S) ℕ) (fault : Fault) (front : List X) (all others : List A) (a : A) (s : S)
    (total : Result (List X × S) ℕ) → all ≡ a ∷ others → Stops fault (read a s)
    → with_front front (for_each read all s) ≡ total → Stops fault total
unfolding for_each
each_stops read (BadLine n) front all others a s total e h so_far =
    let one : with_front front (for_each read all s) ≡ Err n = rw (e, h) refl in
    sym so_far ∙ one
each_stops read Memory front all others a s total e h so_far = tt

pub next_of : {X : Type 0} (xs : List X) (i : ℕ) (d : X) → i < length xs → drop i xs ≡ get_or xs i d ∷ drop (i + 1) xs
next_of xs i d lt = rw (add-one, drop-cons xs i d) refl

-- Lines that were written one after another are the text of their list.
-- one line more in front
pub with_line : (t : List ℕ) (row : Line) (rows : List Line) → (t ++ ended_line row) ++ text_of rows ≡ t ++ text_of (row ∷ rows)
with_line t row rows = append_assoc t (ended_line row) (text_of rows) ∙ ap (λ (x : List ℕ). t ++ x) (sym (flat_map-cons ended_line row rows))

-- lines more in front
pub with_lines : (t : List ℕ) (front rows : List Line) → (t ++ text_of front) ++ text_of rows ≡ t ++ text_of (front ++ rows)
with_lines t front rows = append_assoc t (text_of front) (text_of rows) ∙ ap (λ (x : List ℕ). t ++ x) (sym (flat_map-append ended_line front rows))

-- the next of the lines that are left, several of them, and none
module _ (t whole : List ℕ) (left : List Line) (h : t ++ text_of left ≡ whole) where
  pub line_written : (row : Line) (rest : List Line) → left ≡ row ∷ rest → (t ++ ended_line row) ++ text_of rest ≡ whole
  line_written row rest e = with_line t row rest ∙ ap (λ (rows : List Line). t ++ text_of rows) (sym e) ∙ h

  pub lines_written : (front rest : List Line) → left ≡ front ++ rest → (t ++ text_of front) ++ text_of rest ≡ whole
  lines_written front rest e = with_lines t front rest ∙ ap (λ (rows : List Line). t ++ text_of rows) (sym e) ∙ h

  pub all_written : left ≡ [] → t ≡ whole
  all_written e = sym (append-nil t) ∙ ap (λ (rows : List Line). t ++ text_of rows) (sym e) ∙ h

-- a line and four lists of lines
pub step_joined : (title : Line) (a b c d : List Line) → [] ++ ended_line title ++ text_of a ++ text_of b ++ text_of c ++ text_of d ≡ text_of (title ∷ (a ++ (b ++ (c ++ d))))
step_joined title a b c d = simp (append_assoc, flat_map-cons, flat_map-append)

-- seven lines, and others after them
pub seven_joined : (t : List ℕ) (a b c d e f g : Line) (more : List Line) →
    t ++ ended_line a ++ ended_line b ++ ended_line c ++ ended_line d ++ ended_line e ++ ended_line f ++ ended_line g ++ text_of more ≡
    t ++ text_of (a ∷ b ∷ c ∷ d ∷ e ∷ f ∷ g ∷ more)
seven_joined t a b c d e f g more = simp (append_assoc, flat_map-cons)

-- the line of what is there on a condition
pub line_if : {T : Type 0} (line : T → Line) (there : Bool) (t : T) → cond there (line t ∷ []) [] ≡ map line (cond there (t ∷ []) [])
line_if line true t = refl
line_if line false t = refl

-- A listing for all models between two decks is no model's listing: its first line has the letter O, of TO.
pub one_deck_apart : (title : List ℕ) → Without 79 title → (n : FlowModel) (t : ℕ) → IsWritable n t → Without 79 (digits_line title n t)
one_deck_apart title apart n t good = title_without 79 (inr (omega arith)) refl title apart n t good (by_test 79 (codes " DIGITS") refl) (by_test 79 (codes " UNIT ") refl)

pub rest_without : (b : ℕ) (xs ys : List ℕ) → Without b (xs ++ ys) → Without b ys
rest_without b [] ys h = h
rest_without b (x ∷ xs) ys h = rest_without b xs ys h.1

-- the word TO has the letter
pub not_without : (title : List ℕ) (m : FlowModel) (s : ℕ) (row : Line) → titled_line title true m s ≡ row → Without 79 row → ⊥
not_without title m s row e h = grind (arith, rest_without, codes)

pub same_first : (a b : Line) (more others rows : List Line) → rows ≡ a ∷ more → rows ≡ b ∷ others → a ≡ b
same_first a b more others rows e f = cc

apart : (m n : FlowModel) (s t : ℕ) (steps more : List ListedStep) (rows : List Line) → IsWritable n t → IsListing true m s steps rows → IsListing false n t more rows → ⊥
unfolding listing
apart m n s t steps more rows good (inl e) (inl f) = not_without (codes "HEADS 2") m s _ (same_first _ _ _ _ rows e f) (one_deck_apart (codes "HEADS 2") (by_test 79 (codes "HEADS 2") refl) n t good)
apart m n s t steps more rows good (inl e) (inr (is, f)) = not_without (codes "HEADS 2") m s _ (same_first _ _ _ _ rows e f) (by_test 79 first_line_before refl)
apart m n s t steps more rows good (inr (bad, e)) other = absurd (cc)

pub listings_are_apart : ListingsAreApart
listings_are_apart m n s t pairs others text steps more good h k =
    apart m n s t steps more _ good (listings_were_written true m s pairs text steps h) (listings_were_written false n t others text more k)
