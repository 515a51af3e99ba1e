-- A listing that is read is the one of its steps, where its first line is of version 2.
use Rattle.stated_text.proofs.Common.{◌≡◌, ◌-◌, ◌++◌, ℕ, Bool, true, false, List, [], ◌∷◌, Result, Ok, Err, refl, sym, ap, drop, take, arith, FlowModel, Refusal, bytes_eq, is_current, lines, inl, inr}
use Rattle.stated_text.proofs.Common.{bytes_eq-Decides, IsListing, Line, first_line, first_line_before, listing, listing_in, or_bad_listing, end_line, all_step_lines, first_text, times}
use Rattle.stated_text.proofs.Common.{append_cancel_right, append-nil, ListedStep, listings_were_written, ZonePair}

same_rows : (a b : Line) → bytes_eq (a ++ (10 ∷ [])) (b ++ (10 ∷ [])) ≡ bytes_eq a b
same_rows a b = grind (arith, bytes_eq-Decides, append_cancel_right)

-- a row with its line feed is compared with the first line
pub current_row : (between : Bool) (m : FlowModel) (s : ℕ) (rest : List ℕ) (row : Line) (rows : List Line) (same : Bool) (due last : List ℕ) → lines rest ≡ row ∷ rows → due ≡ first_text between m s
    → last ≡ row ++ (10 ∷ []) → same ≡ bytes_eq due last → same ≡ is_current between m s (lines rest)
unfolding first_text
current_row between m s rest row rows same due last cut is begun tested = rw (tested, is, begun, append-nil (first_line between m s ++ (10 ∷ [])), cut) (same_rows (first_line between m s) row)

ok_of : (file : List ℕ) (r : Result (List ListedStep) ℕ) (steps : List ListedStep) → or_bad_listing file r ≡ Ok steps → r ≡ Ok steps
ok_of file (Ok x) steps h = let same : Path (Result (List ListedStep) Refusal) (Ok x) (Ok steps) = h in let is : x ≡ steps = cc in ap Ok is
ok_of file (Err n) steps h = absurd (let clash : Path (Result (List ListedStep) Refusal) (Err _) (Ok steps) = h in cc)

-- the first line of version 2 is not that of version 1
other_version : (m : FlowModel) (s : ℕ) → first_line_before ≡ first_line false m s → ⊥
other_version m s e = let seventh : take 1 (drop 6 first_line_before) ≡ take 1 (drop 6 (first_line false m s)) = ap (λ line. take 1 (drop 6 line)) e in cc

first_is : (between : Bool) (m : FlowModel) (s : ℕ) (row : Line) (rows : List Line) → is_current between m s (row ∷ rows) ≡ true → first_line between m s ≡ row
first_is between m s row rows h = (bytes_eq-Decides (first_line between m s) row).0 h

pub listing_was : (between : Bool) (m : FlowModel) (s : ℕ) (pairs : ℕ → List ZonePair) (file rest : List ℕ) (steps : List ListedStep) → is_current between m s (lines rest) ≡ true
    → listing_in between m s pairs file rest ≡ Ok steps → lines rest ≡ listing between m s steps
listing_was between m s pairs file rest steps current h = by_form (listings_were_written between m s pairs rest steps (ok_of file _ steps h))
  where
    by_form : IsListing between m s steps (lines rest) → lines rest ≡ listing between m s steps
    by_form (inl is) = is
    by_form (inr (model, is)) = absurd (other_version m s (sym (first_is false m s first_line_before (all_step_lines m s (times m) steps ++ (end_line ∷ [])) (rw (model, is) at current))))
