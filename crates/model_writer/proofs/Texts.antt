-- The bytes of lines, one after another.
use Rattle.model_writer.proofs.Common.{◌≡◌, ℕ, suc, ◌+◌, ◌≤◌, ◌<◌, List, [], ◌∷◌, ◌++◌, refl, sym, ap, ◌∙◌, length, take, drop, get_or, map, ◌-◌, arith, append_assoc, flat_map, range_with_len}
use Rattle.model_writer.proofs.Common.{flat_map-append, take_more, append-nil, map-append, map-id, Line, line_text, text, row_line, row_lines, in_rows, line_bytes, spaced_words, replicate}
use Rattle.model_writer.proofs.Common.{replicate_next, Bool, true, false, codes, decimal, lit≤, FlowModel, integer_word, dis_item_1, storage_option}
use Rattle.std.proofs.lemmas.List.FromFn.{map-range_with_len_more}

pub text-nil : text [] ≡ []
unfolding text
text-nil = refl

pub text-cons : (line : Line) (ls : List Line) → text (line ∷ ls) ≡ line_bytes line ++ text ls
unfolding text line_bytes
text-cons line ls = sym (append_assoc (line_text line) (10 ∷ []) (text ls))

pub text-append : (ls more : List Line) → text (ls ++ more) ≡ text ls ++ text more
text-append [] more = ap (λ x. x ++ text more) (sym text-nil)
text-append (line ∷ ls) more =
    text-cons line (ls ++ more) ∙ ap (λ x. line_bytes line ++ x) (text-append ls more) ∙ sym (append_assoc (line_bytes line) (text ls) (text more))
    ∙ ap (λ x. x ++ text more) (sym (text-cons line ls))

pub ruleset texts = (text-nil, text-cons, text-append, append_assoc, append-nil)

-- words with a blank after each, and then one more or the words of a line
pub spaced-nil : {X : Type 0} (word : X → List ℕ) → spaced_words word [] ≡ []
unfolding spaced_words
spaced-nil word = refl

pub spaced_more : {X : Type 0} (word : X → List ℕ) (xs : List X) (i : ℕ) (d : X) → i < length xs →
    spaced_words word (take (i + 1) xs) ≡ spaced_words word (take i xs) ++ (word (get_or xs i d) ++ (32 ∷ []))
unfolding spaced_words
spaced_more word xs i d lt =
    ap (flat_map (λ y. word y ++ (32 ∷ []))) (take_more xs i d lt)
    ∙ flat_map-append (λ y. word y ++ (32 ∷ [])) (take i xs) (get_or xs i d ∷ [])
    ∙ ap (λ t. flat_map (λ y. word y ++ (32 ∷ [])) (take i xs) ++ t) (append-nil (word (get_or xs i d) ++ (32 ∷ [])))

pub spaced_line : {X : Type 0} (word : X → List ℕ) (xs : List X) (w : List ℕ) (ws : Line) → line_bytes (map word xs ++ (w ∷ ws)) ≡ spaced_words word xs ++ line_bytes (w ∷ ws)
unfolding line_bytes line_text spaced_words
spaced_line word [] w ws = refl
spaced_line word (x ∷ []) w ws = grind (arith, append_assoc)
spaced_line word (x ∷ y ∷ xs) w ws = grind (arith, append_assoc, spaced_line word (y ∷ xs) w ws)

pub line_of_none : {X : Type 0} (word : X → List ℕ) → line_bytes (row_line word []) ≡ 10 ∷ []
unfolding line_bytes line_text row_line
line_of_none word = refl

pub line_of_last : {X : Type 0} (word : X → List ℕ) (front : List X) (x : X) → line_bytes (row_line word (front ++ (x ∷ []))) ≡ spaced_words word front ++ (word x ++ (10 ∷ []))
unfolding line_bytes line_text row_line
line_of_last word front x = ap line_bytes (map-append word front (x ∷ [])) ∙ spaced_line word front (word x) []

-- rows, one after another
pub no_rows : {X : Type 0} (word : X → List ℕ) (cols : ℕ) (xs : List X) → text (row_lines word 0 cols xs) ≡ []
unfolding row_lines
no_rows word cols xs = text-nil

pub next_row : {X : Type 0} (word : X → List ℕ) (n cols : ℕ) (xs : List X) →
    text (row_lines word (suc n) cols xs) ≡ line_bytes (row_line word (take cols xs)) ++ text (row_lines word n cols (drop cols xs))
unfolding row_lines
next_row word n cols xs = text-cons (row_line word (take cols xs)) (map (row_line word) (in_rows n cols (drop cols xs)))

-- the numbers below k + 1
range-more : (k : ℕ) → range_with_len 0 (k + 1) ≡ range_with_len 0 k ++ (k ∷ [])
range-more k = sym (map-id (range_with_len 0 (k + 1))) ∙ map-range_with_len_more (λ x. x) 0 k k (omega arith) ∙ ap (λ xs. xs ++ (k ∷ [])) (map-id (range_with_len 0 k))

pub next_part : {X : Type 0} (f : X → List Line) (xs : List X) (x : X) → text (flat_map f (xs ++ (x ∷ []))) ≡ text (flat_map f xs) ++ text (f x)
next_part f xs x = ap text (flat_map-append f xs (x ∷ []) ∙ ap (λ t. flat_map f xs ++ t) (append-nil (f x))) ∙ text-append (flat_map f xs) (f x)

pub line_of_empty : {X : Type 0} (word : X → List ℕ) (xs : List X) → length xs ≡ 0 → line_bytes (row_line word xs) ≡ 10 ∷ []
line_of_empty word [] h = line_of_none word
line_of_empty word (x ∷ xs) h = absurd (let more : suc (length xs) ≡ 0 = h in omega arith)

pub ruleset line_ends = (line_of_empty, line_of_last)

pub ruleset spaces = (spaced-nil, spaced_more)

pub rows_left : {X : Type 0} (word : X → List ℕ) (rows i cols : ℕ) (xs : List X) → i < rows →
    text (row_lines word (rows - i) cols xs) ≡ line_bytes (row_line word (take cols xs)) ++ text (row_lines word (rows - (i + 1)) cols (drop cols xs))
rows_left word rows i cols xs lt =
    let more : rows - i ≡ suc (rows - (i + 1)) = omega arith in
    ap (λ n. text (row_lines word n cols xs)) more ∙ next_row word (rows - (i + 1)) cols xs

pub no_rows_left : {X : Type 0} (word : X → List ℕ) (rows i cols : ℕ) (xs : List X) → rows ≤ i → text (row_lines word (rows - i) cols xs) ≡ []
no_rows_left word rows i cols xs le =
    let none : rows - i ≡ 0 = omega arith in
    ap (λ n. text (row_lines word n cols xs)) none ∙ no_rows word cols xs

pub ruleset rows = (rows_left, no_rows_left)

pub no_layers : (f : ℕ → List Line) → text (flat_map f (range_with_len 0 0)) ≡ []
no_layers f = text-nil

pub next_layer : (f : ℕ → List Line) (k : ℕ) → text (flat_map f (range_with_len 0 (k + 1))) ≡ text (flat_map f (range_with_len 0 k)) ++ text (f k)
next_layer f k = ap (λ xs. text (flat_map f xs)) (range-more k) ∙ next_part f (range_with_len 0 k) k

pub ruleset layers = (no_layers, next_layer)

pub spaced_push : {X : Type 0} (word : X → List ℕ) (xs : List X) (x : X) → spaced_words word (xs ++ (x ∷ [])) ≡ spaced_words word xs ++ (word x ++ (32 ∷ []))
unfolding spaced_words
spaced_push word xs x =
    flat_map-append (λ y. word y ++ (32 ∷ [])) xs (x ∷ []) ∙ ap (λ t. flat_map (λ y. word y ++ (32 ∷ [])) xs ++ t) (append-nil (word x ++ (32 ∷ [])))

-- A line of one word several times.
-- words that are in bytes already
unfoldable pub repeated_words : ℕ → List ℕ → List ℕ
repeated_words count word = spaced_words (λ w. w) (replicate count word)

pub no_words : (word : List ℕ) → repeated_words 0 word ≡ []
unfolding repeated_words
no_words word = spaced-nil (λ w. w)

pub one_more_word : (count : ℕ) (word : List ℕ) → repeated_words (count + 1) word ≡ repeated_words count word ++ (word ++ (32 ∷ []))
unfolding repeated_words
one_more_word count word = ap (spaced_words (λ w. w)) (replicate_next count word) ∙ spaced_push (λ w. w) (replicate count word) word

-- the same line, as a row of words
words_line : (ws : List (List ℕ)) → line_bytes ws ≡ line_bytes (row_line (λ w. w) ws)
unfolding row_line
words_line ws = ap line_bytes (sym (map-id ws))

pub last_word : (count : ℕ) (word : List ℕ) → 1 ≤ count → line_bytes (replicate count word) ≡ repeated_words (count - 1) word ++ (word ++ (10 ∷ []))
unfolding repeated_words
last_word count word some =
    let one : count ≡ (count - 1) + 1 = omega arith in
    ap (λ n. line_bytes (replicate n word)) one ∙ ap line_bytes (replicate_next (count - 1) word)
    ∙ words_line (replicate (count - 1) word ++ (word ∷ [])) ∙ line_of_last (λ w. w) (replicate (count - 1) word) word

pub ruleset repeats = (no_words, one_more_word, last_word)

-- Words with a blank after each, and then a line.
pub then_line : {X : Type 0} (word : X → List ℕ) (xs : List X) (line : Line) → 1 ≤ length line → line_bytes (map word xs ++ line) ≡ spaced_words word xs ++ line_bytes line
then_line word xs [] some = absurd (let none : 1 ≤ 0 = some in omega arith)
then_line word xs (w ∷ ws) some = spaced_line word xs w ws

-- Lines of words that are known.
pub size_line : (m : FlowModel) → line_bytes (dis_item_1 m)
    ≡ spaced_words decimal (m.grid.layers ∷ m.grid.rows ∷ m.grid.cols ∷ length m.periods ∷ []) ++ (codes "0 " ++ line_bytes (row_line integer_word (m.lenuni ∷ [])))
unfolding dis_item_1 line_bytes line_text row_line
size_line m = then_line decimal (m.grid.layers ∷ m.grid.rows ∷ m.grid.cols ∷ length m.periods ∷ []) (codes "0" ∷ integer_word m.lenuni ∷ []) (lit≤ tt)

pub with_option : (coefficient : Bool) → coefficient ≡ true →
    line_bytes (codes "0" ∷ codes "0" ∷ codes "0" ∷ storage_option coefficient) ≡ codes "0 0 0 STORAGECOEFFICIENT\n"
unfolding line_bytes line_text
with_option coefficient h = ap (λ b. line_bytes (codes "0" ∷ codes "0" ∷ codes "0" ∷ storage_option b)) h

pub without_option : (coefficient : Bool) → coefficient ≡ false →
    line_bytes (codes "0" ∷ codes "0" ∷ codes "0" ∷ storage_option coefficient) ≡ codes "0 0 0\n"
unfolding line_bytes line_text
without_option coefficient h = ap (λ b. line_bytes (codes "0" ∷ codes "0" ∷ codes "0" ∷ storage_option b)) h

pub ruleset options = (with_option, without_option)

pub two_flags : line_bytes (codes "1" ∷ codes "1" ∷ []) ≡ codes "1 1\n"
unfolding line_bytes line_text
two_flags = refl

pub four_flags : line_bytes (codes "1" ∷ codes "1" ∷ codes "1" ∷ codes "1" ∷ []) ≡ codes "1 1 1 1\n"
unfolding line_bytes line_text
four_flags = refl
