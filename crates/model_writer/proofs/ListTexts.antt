-- The lines of lists.
use Rattle.model_writer.proofs.Common.{part_bytes, ◌≡◌, ℕ, ◌≤◌, List, [], ◌∷◌, ◌++◌, length, map, max, fold, codes, decimal, arith, ◌+◌, ◌<◌, ap, ◌∙◌, take, get_or, Bool, true, false, refl, sym}
use Rattle.model_writer.proofs.Common.{filter, append_assoc, flat_map, length-map, take_more, map-append, append-nil, number_word, text, row_line, Line, list_item_2, list_item_5, list_item_6}
use Rattle.model_writer.proofs.Common.{list_lines, period_list, deck_name, deck_names, deck_files, deck_text, file_line, file_text, file_texts, packages, name_item, has, package_file, written}
use Rattle.model_writer.proofs.Common.{line_bytes, spaced_words, None, Option, Some, zone_bytes, zone_file, zoned_text, entry_line, chosen_bytes, flat_map-append, FlowModel}
use Rattle.decimal_input.specs.declared.dec.Dec.{Dec}
use Rattle.model_types.specs.{declared.grid.Grid.Grid, place}
use Rattle.model_writer.proofs.Texts.{then_line, text-cons, text-nil, text-append, next_part}
use Rattle.std.proofs.lemmas.List.Folds.{flat_map-map}

some_words : (xs : List Dec) → 1 ≤ length xs → 1 ≤ length (map number_word xs)
some_words [] some = some
some_words (x ∷ xs) some = grind (arith, length-map)

pub entry_bytes : {E : Type 0} (g : Grid) (number : E → ℕ) (numbers : E → List Dec) (x : E) → 1 ≤ length (numbers x) →
    line_bytes (entry_line g number numbers x) ≡ spaced_words decimal (place g (number x)) ++ line_bytes (row_line number_word (numbers x))
unfolding entry_line list_item_6 row_line
entry_bytes g number numbers x some = then_line decimal (place g (number x)) (map number_word (numbers x)) (some_words (numbers x) some)

pub period_bytes : {E : Type 0} (g : Grid) (number : E → ℕ) (numbers : E → List Dec) (list : List E) →
    text (period_list g number numbers list) ≡ line_bytes (decimal (length list) ∷ codes "0" ∷ []) ++ text (map (entry_line g number numbers) list)
unfolding period_list entry_line list_item_5
period_bytes g number numbers list = text-cons (decimal (length list) ∷ codes "0" ∷ []) (map (λ x. list_item_6 g (number x) (numbers x)) list)

pub lists_bytes : {E : Type 0} (g : Grid) (number : E → ℕ) (numbers : E → List Dec) (lists : List (List E)) →
    text (list_lines g number numbers lists) ≡ line_bytes (decimal (fold max 0 (map length lists)) ∷ codes "0" ∷ []) ++ text (flat_map (period_list g number numbers) lists)
unfolding list_lines list_item_2
lists_bytes g number numbers lists = text-cons (decimal (fold max 0 (map length lists)) ∷ codes "0" ∷ []) (flat_map (period_list g number numbers) lists)

-- The lines of several items, one item after another.
-- a line of each item
pub no_lines : {X : Type 0} (line : X → Line) → text (map line []) ≡ []
no_lines line = text-nil

pub one_more_line : {X : Type 0} (line : X → Line) (xs : List X) (i : ℕ) (d : X) → i < length xs →
    text (map line (take (i + 1) xs)) ≡ text (map line (take i xs)) ++ line_bytes (line (get_or xs i d))
one_more_line line xs i d lt =
    ap (λ t. text (map line t)) (take_more xs i d lt) ∙ ap text (map-append line (take i xs) (get_or xs i d ∷ []))
    ∙ text-append (map line (take i xs)) (line (get_or xs i d) ∷ [])
    ∙ ap (λ t. text (map line (take i xs)) ++ t) (text-cons (line (get_or xs i d)) [] ∙ ap (λ t. line_bytes (line (get_or xs i d)) ++ t) text-nil ∙ append-nil (line_bytes (line (get_or xs i d))))

-- lines of each item
pub no_part : {X : Type 0} (lines : X → List Line) → text (flat_map lines []) ≡ []
no_part lines = text-nil

pub one_more_part : {X : Type 0} (lines : X → List Line) (xs : List X) (i : ℕ) (d : X) → i < length xs →
    text (flat_map lines (take (i + 1) xs)) ≡ text (flat_map lines (take i xs)) ++ text (lines (get_or xs i d))
one_more_part lines xs i d lt = ap (λ t. text (flat_map lines t)) (take_more xs i d lt) ∙ next_part lines (take i xs) (get_or xs i d)

-- lines of each item's list
pub one_more_list : {X Y : Type 0} (lines : Y → List Line) (list : X → Y) (xs : List X) (i : ℕ) (d : X) → i < length xs →
    text (flat_map lines (map list (take (i + 1) xs))) ≡ text (flat_map lines (map list (take i xs))) ++ text (lines (list (get_or xs i d)))
one_more_list lines list xs i d lt =
    ap (λ t. text (flat_map lines (map list t))) (take_more xs i d lt)
    ∙ ap (λ t. text (flat_map lines t)) (map-append list (take i xs) (get_or xs i d ∷ []))
    ∙ next_part lines (map list (take i xs)) (list (get_or xs i d))

pub ruleset items = (no_lines, one_more_line, no_part, one_more_part, one_more_list)

-- The text of a deck: its files, one after another.
-- an item that is chosen, and one that isn't
pub chosen_is : {X : Type 0} (is : X → Bool) (bytes : X → List ℕ) (x : X) → is x ≡ true → chosen_bytes is bytes x ≡ bytes x
unfolding chosen_bytes
chosen_is is bytes x h = rw h refl

pub chosen_not : {X : Type 0} (is : X → Bool) (bytes : X → List ℕ) (x : X) → is x ≡ false → chosen_bytes is bytes x ≡ []
unfolding chosen_bytes
chosen_not is bytes x h = rw h refl

pub ruleset one_item = (chosen_is, chosen_not)

pub one_more : {X : Type 0} (is : X → Bool) (bytes : X → List ℕ) (xs : List X) (i : ℕ) (d : X) (start before after : List ℕ) → i < length xs →
    before ≡ start ++ flat_map (chosen_bytes is bytes) (take i xs) → after ≡ before ++ chosen_bytes is bytes (get_or xs i d) → after ≡ start ++ flat_map (chosen_bytes is bytes) (take (i + 1) xs)
one_more is bytes xs i d start before after lt h one =
    one ∙ ap (λ t. t ++ chosen_bytes is bytes (get_or xs i d)) h ∙ append_assoc start (flat_map (chosen_bytes is bytes) (take i xs)) (chosen_bytes is bytes (get_or xs i d))
    ∙ ap (λ t. start ++ (flat_map (chosen_bytes is bytes) (take i xs) ++ t)) (sym (append-nil (chosen_bytes is bytes (get_or xs i d))))
    ∙ ap (λ t. start ++ t) (sym (ap (flat_map (chosen_bytes is bytes)) (take_more xs i d lt) ∙ flat_map-append (chosen_bytes is bytes) (take i xs) (get_or xs i d ∷ [])))

chosen_of : {X : Type 0} (is : X → Bool) (bytes : X → List ℕ) (xs : List X) → flat_map (chosen_bytes is bytes) xs ≡ flat_map bytes (filter is xs)
chosen_of is bytes [] = refl
chosen_of is bytes (x ∷ xs) = by_case (chosen_of is bytes xs) (is x) refl
  where
    by_case : flat_map (chosen_bytes is bytes) xs ≡ flat_map bytes (filter is xs) → (b : Bool) → is x ≡ b → flat_map (chosen_bytes is bytes) (x ∷ xs) ≡ flat_map bytes (filter is (x ∷ xs))
    by_case rest true h = ap (λ t. t ++ flat_map (chosen_bytes is bytes) xs) (chosen_is is bytes x h) ∙ rw h (ap (λ t. bytes x ++ t) rest)
    by_case rest false h = ap (λ t. t ++ flat_map (chosen_bytes is bytes) xs) (chosen_not is bytes x h) ∙ rw h rest

lines_of : {X : Type 0} (line : X → Line) (xs : List X) → text (map line xs) ≡ flat_map (λ x. line_bytes (line x)) xs
lines_of line [] = text-nil
lines_of line (x ∷ xs) = text-cons (line x) (map line xs) ∙ ap (λ t. line_bytes (line x) ++ t) (lines_of line xs)

pub files_are : (m : FlowModel) (start first names files : List ℕ) → first ≡ start ++ file_line deck_name → names ≡ first ++ flat_map (chosen_bytes (has m) (part_bytes m true)) packages
    → files ≡ names ++ flat_map (chosen_bytes (has m) (part_bytes m false)) packages → files ≡ start ++ file_texts (deck_files m)
unfolding written file_texts file_text part_bytes
files_are m start first names files a b d =
    let kinds = filter (has m) packages in
    let named : flat_map (chosen_bytes (has m) (part_bytes m true)) packages ≡ text (map (name_item deck_names) kinds) =
    chosen_of (has m) (part_bytes m true) packages ∙ sym (lines_of (name_item deck_names) kinds) in
    let others : flat_map (chosen_bytes (has m) (part_bytes m false)) packages ≡ file_texts (map (package_file m deck_names) kinds) =
    chosen_of (has m) (part_bytes m false) packages ∙ sym (flat_map-map file_text (package_file m deck_names) kinds) in
    rw (d, b, a, named, others) (grind (arith, append_assoc))

pub deck_is : (m : FlowModel) (zones : Option (List ℕ)) (start files last out : List ℕ) → files ≡ start ++ file_texts (deck_files m) → last ≡ files ++ zone_bytes m.grid zones
    → out ≡ last ++ codes "END\n" → out ≡ start ++ zoned_text m zones
unfolding zoned_text file_texts
deck_is m None start files last out a b d = rw (d, b, a) (grind (arith, append_assoc, append-nil))
deck_is m (Some zones) start files last out a b d =
    rw (d, b, a, flat_map-append file_text (deck_files m) (zone_file m.grid zones ∷ [])) (grind (arith, append_assoc, append-nil))

-- without zones it is the text of the model's deck
pub deck_is_zoned : (m : FlowModel) → zoned_text m None ≡ deck_text m
unfolding zoned_text deck_text
deck_is_zoned m = refl
