-- What a text says whose listing is certified.
use Rattle.engine.proofs.Common.{[], ◌≡◌, ◌++◌, ◌∷◌, ◌∙◌, ◌⊎◌, ℕ, All, All-cons, All-nil, AllZip, Bool, List, None, Ok, Option, Some, ap, append-nil, append_assoc, inl, inr, is_some, map, refl, subst}
use Rattle.engine.proofs.Common.{sym, true, false, if◌then◌else◌, codes, AreDecks, AreListed, Decks, FlowModel, ListedStep, ListsPairs, ListingEncloses, Step, Task, TimeStep, checked_task, concat}
use Rattle.engine.proofs.Common.{decks_text, end_line, listing, pairs_in, times, two, one_deck, zoned_text, HaveOneHistory, steps_of, IsListedAt, ended_line, first_line, step_lines, onto_first, ◌==◌}
use Rattle.engine.proofs.Common.{◌-◌, Err, Refusal, Result, ZonePair, listing_in, refusal, BadListing, is_current, later_by, steps_after, AreText, SpanStated, Stated, text_of}
use Rattle.listing_io.specs.{end_line as last_row, text_of as text}
use Rattle.std.proofs.{lemmas.Bool.eqb-true, lemmas.List.Concat.flat_map-append}
use Rattle.stated_text.proofs.ListedTexts.{listing_was}
unfoldable use Rattle.listing_io.specs.{all_step_lines, first_text, step_text, listing as rows_of}
unfoldable use Rattle.outside.specs.{lines}

-- the text of a text's lines

feed_first : (c : ℕ) (t u : List ℕ) → AreText t u → AreText (c ∷ t) (c ∷ u)
feed_first c t u (inl e) = inl (ap (λ (x : List ℕ). c ∷ x) e)
feed_first c t u (inr e) = inr (ap (λ (x : List ℕ). c ∷ x) e)

onto_text : (c : ℕ) (t : List ℕ) (rows : List (List ℕ)) → lines t ≡ rows → AreText t (text rows) → AreText (c ∷ t) (text (onto_first c rows))
unfolding lines
onto_text c [] [] is e = inr refl
onto_text c (b ∷ t) [] is (inl e) = absurd (let bad : Path (List ℕ) [] (b ∷ t) = e in cc)
onto_text c (b ∷ t) [] is (inr e) = absurd (let bad : Path (List ℕ) [] (b ∷ (t ++ codes "\n")) = e in cc)
onto_text c t (row ∷ rows) is e = feed_first c t (text (row ∷ rows)) e

more_text : (c : ℕ) (t : List ℕ) → AreText t (text (lines t)) → (b : Bool) → (c == 10) ≡ b → AreText (c ∷ t) (text (if b then [] ∷ lines t else onto_first c (lines t)))
more_text c t rest true e = let is : c ≡ 10 = eqb-true c 10 e in subst (λ (x : ℕ). AreText (x ∷ t) (10 ∷ text (lines t))) (sym is) (feed_first 10 t (text (lines t)) rest)
more_text c t rest false e = onto_text c t (lines t) refl rest

pub lines_are_text : (t : List ℕ) → AreText t (text (lines t))
unfolding lines
lines_are_text [] = inl refl
lines_are_text (c ∷ t) = more_text c t (lines_are_text t) (c == 10) refl

-- text after other bytes
pub ended_after : (front t u : List ℕ) → AreText t u → AreText (front ++ t) (front ++ u)
ended_after front t u (inl e) = inl (ap (λ (x : List ℕ). front ++ x) e)
ended_after front t u (inr e) = inr (ap (λ (x : List ℕ). front ++ x) e ∙ sym (append_assoc front t (codes "\n")))

module _ (d : Decks) (s : ℕ) (zones : Option (List ℕ)) where
  abbrev k : Task
  k = checked_task d s zones

  abbrev Listed : List TimeStep → List ListedStep → Type 0
  Listed ats steps = AllZip (IsListedAt d.first (pairs_in d.first zones)) ats steps

  rows_text : (ats : List TimeStep) (steps : List ListedStep) → Listed ats steps → concat (map (text_of k) (steps_of ats steps) ++ (end_line ∷ [])) ≡
      text (all_step_lines d.first s ats steps ++ (last_row ∷ []))
  unfolding all_step_lines step_text
  rows_text [] [] h = refl
  rows_text [] (w ∷ steps) h = absurd h
  rows_text (at ∷ ats) [] h = absurd h
  rows_text (at ∷ ats) (w ∷ steps) (is, h) =
      let here = step_lines d.first s at w.heads w.budget w.zones in
      let more = all_step_lines d.first s ats steps in
      ap (λ (t : List ℕ). text here ++ t) (rows_text ats steps h)
      ∙ sym (flat_map-append ended_line here (more ++ (last_row ∷ [])))
      ∙ ap text (sym (append_assoc here more (last_row ∷ [])))

  -- the listing of steps that were read, as the one of their values
  pub listing_text : (steps : List ListedStep) → Listed (times d.first) steps → concat (listing k (steps_of (times d.first) steps) end_line) ≡ text (rows_of (is_some d.second) d.first s steps)
  unfolding first_text rows_of
  listing_text steps h =
      let others = concat (map (text_of k) (steps_of (times d.first) steps) ++ (end_line ∷ [])) in
      ap (λ (t : List ℕ). t ++ others) (append-nil (ended_line (first_line (is_some d.second) d.first s)))
      ∙ ap (λ (t : List ℕ). ended_line (first_line (is_some d.second) d.first s) ++ t) (rows_text (times d.first) steps h)

  steps_at : (ats : List TimeStep) (steps : List ListedStep) → Listed ats steps → map (λ v. v.at) (steps_of ats steps) ≡ ats
  steps_at [] [] h = refl
  steps_at [] (w ∷ steps) h = absurd h
  steps_at (at ∷ ats) [] h = absurd h
  steps_at (at ∷ ats) (w ∷ steps) (is, h) = ap (λ (rest : List TimeStep). at ∷ rest) (steps_at ats steps h)

  abbrev Lists : Step → Type 0
  Lists = ListsPairs d.first zones

  steps_pairs : (ats : List TimeStep) (steps : List ListedStep) → Listed ats steps → All Lists (steps_of ats steps)
  steps_pairs [] [] h = All-nil Lists
  steps_pairs [] (w ∷ steps) h = absurd h
  steps_pairs (at ∷ ats) [] h = absurd h
  steps_pairs (at ∷ ats) (w ∷ steps) (is, h) = All-cons Lists (record { at = at; heads = w.heads; budget = w.budget; zones = w.zones }) (steps_of ats steps) is.1.pairs (steps_pairs ats steps h)

-- A text of decks and a listing of steps that are certified.
module _ (s : ℕ) (zones : Option (List ℕ)) (a : FlowModel) (steps : List ListedStep) where
  abbrev SaidOf : Option FlowModel → List ℕ → Type 0
  SaidOf second t = t ≡ decks_text (record { first = a; second = second }) zones ++ text (rows_of (is_some second) a s steps)

  one_said : (t : List ℕ) → SaidOf None t → AreDecks (one_deck a) → AreListed a (pairs_in a zones) steps → ListingEncloses (one_deck a) s zones steps →
      HaveOneHistory (one_deck a) → Stated (Some []) (Some t)
  one_said t is decks listed encloses history = record {
    model = a;
    valid = decks.first;
    zones = zones;
    digits = s;
    values = steps_of (times a) steps;
    written = is ∙ ap (λ (deck : List ℕ). deck ++ text (rows_of false a s steps)) (append-nil (zoned_text a zones)) ∙ ap (λ (l : List ℕ).
        zoned_text a zones ++ l) (sym (listing_text (one_deck a) s zones steps listed.steps));
    at = steps_at (one_deck a) s zones (times a) steps listed.steps;
    pairs = steps_pairs (one_deck a) s zones (times a) steps listed.steps;
    encloses = encloses;
    solvable = history.solvable;
    one = history.one;
  }

  two_said : (b : FlowModel) (t : List ℕ) → SaidOf (Some b) t → AreDecks (two a b) → AreListed a (pairs_in a zones) steps →
      ListingEncloses (two a b) s zones steps → HaveOneHistory (two a b) → SpanStated (Some []) (Some t)
  two_said b t is decks listed encloses history =
      let l = concat (listing (checked_task (two a b) s zones) (steps_of (times a) steps) end_line) in
      record {
        first = a;
        valid = decks.first;
        second = b;
        valid_to = decks.second.model;
        zones = zones;
        digits = s;
        values = steps_of (times a) steps;
        written = is ∙ ap (λ (x : List ℕ). (zoned_text a zones ++ zoned_text b zones) ++ x)
            (sym (listing_text (two a b) s zones steps listed.steps)) ∙ append_assoc (zoned_text a zones) (zoned_text b zones) l;
        at = steps_at (two a b) s zones (times a) steps listed.steps;
        pairs = steps_pairs (two a b) s zones (times a) steps listed.steps;
        encloses = encloses;
        choices = history;
      }

  pub said : (second : Option FlowModel) (t : List ℕ) → SaidOf second t → AreDecks (record { first = a; second = second }) →
      AreListed a (pairs_in a zones) steps → ListingEncloses (record { first = a; second = second }) s zones steps →
      HaveOneHistory (record { first = a; second = second }) → Stated (Some []) (Some t) ⊎ SpanStated (Some []) (Some t)
  said None t is decks listed encloses history = inl (one_said t is decks listed encloses history)
  said (Some b) t is decks listed encloses history = inr (two_said b t is decks listed encloses history)

-- The listing after the decks of a text, from the line on where it begins.
pub steps_stated : (between : Bool) (m : FlowModel) (s : ℕ) (pairs : ℕ → List ZonePair) (text : List ℕ) (n : ℕ) (rest : List ℕ) (steps : List ListedStep) →
    steps_after between m s pairs text n rest ≡ Ok steps → lines rest ≡ rows_of between m s steps
steps_stated between m s pairs text n rest steps = by_test (is_current between m s (lines rest)) refl
  where
    by_read : is_current between m s (lines rest) ≡ true → (r : Result (List ListedStep) Refusal) → listing_in between m s pairs text rest ≡ r →
        later_by (n - 1) r ≡ Ok steps → lines rest ≡ rows_of between m s steps
    by_read current (Ok x) read h =
        let both : Path (Result (List ListedStep) Refusal) (Ok x) (Ok steps) = h in
        let same : x ≡ steps = cc in
        listing_was between m s pairs text rest steps current (read ∙ ap (λ (y : List ListedStep). Ok y) same)
    by_read current (Err refusal) read h = absurd (let bad : Path (Result (List ListedStep) Refusal) (Err _) (Ok steps) = h in cc)

    by_test : (b : Bool) → is_current between m s (lines rest) ≡ b →
        (if b then later_by (n - 1) (listing_in between m s pairs text rest) else Err (refusal BadListing text n)) ≡ Ok steps → lines rest ≡
        rows_of between m s steps
    by_test true current h = by_read current (listing_in between m s pairs text rest) refl h
    by_test false current h = absurd (let bad : Path (Result (List ListedStep) Refusal) (Err (refusal BadListing text n)) (Ok steps) = h in cc)
