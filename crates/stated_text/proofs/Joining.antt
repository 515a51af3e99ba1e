-- What is cut, joined again, is what was there.
use Rattle.stated_text.proofs.Common.{◌≡◌, ◌∷◌, ◌++◌, ◌∙◌, ℕ, Bool, true, false, List, [], Ok, Err, Result, refl, sym, ap, append_assoc, codes, map, drop, take, flat_map, Line, ended_line, bytes_eq}
use Rattle.stated_text.proofs.Common.{bytes_eq-Decides, is_file_line, is_good_name, next_number, joined, pieces, opened, subst, TextFile, file_of, file_line, file_text, file_texts, AreJoined}
use Rattle.stated_text.proofs.Common.{CutsAreJoined, ◌>>=◌, if◌then◌else◌, take-append-drop}
use Rattle.std.proofs.lemmas.Bool.{and_parts}

-- a line FILE is the word FILE and the name that is taken of it
file_line_is : (row : Line) → is_file_line row ≡ true → ended_line row ≡ file_line (drop 5 row)
unfolding file_line
file_line_is row h =
    let first : take 5 row ≡ codes "FILE " = (bytes_eq-Decides (take 5 row) (codes "FILE ")).0 (and_parts (bytes_eq (take 5 row) (codes "FILE ")) (is_good_name (drop 5 row)) h).0 in
    let whole : row ≡ codes "FILE " ++ drop 5 row = sym (take-append-drop 5 row) ∙ ap (λ (t : List ℕ). t ++ drop 5 row) first in
    ap ended_line whole

-- bytes and then files, joined, and what is left after the line END
abbrev Joined : List Line → List ℕ → List TextFile → List Line → Type 0
Joined rows bytes files left = flat_map ended_line rows ≡ bytes ++ (file_texts (map file_of files) ++ (codes "END\n" ++ flat_map ended_line left))

abbrev ArePieces : List Line → List ℕ × List TextFile → Type 0
ArePieces rows p = (left : List Line) × Joined rows p.0 p.1 left

end_is : (row : Line) → bytes_eq row (codes "END") ≡ true → ended_line row ≡ codes "END\n"
end_is row h = ap ended_line ((bytes_eq-Decides row (codes "END")).0 h)

file_joined : (n : ℕ) (row : Line) (rows : List Line) (q : List ℕ × List TextFile) → is_file_line row ≡ true → ArePieces rows q →
    (left : List Line) × (flat_map ended_line (row ∷ rows) ≡ file_texts (map file_of (opened n row q)) ++ (codes "END\n" ++ flat_map ended_line left))
unfolding file_texts file_text
file_joined n row rows q is h =
    let last : List ℕ = codes "END\n" ++ flat_map ended_line h.0 in
    let more : List ℕ = file_texts (map file_of q.1) in (
      h.0,
      ap (λ (t : List ℕ). t ++ flat_map ended_line rows) (file_line_is row is) ∙ ap (λ (t : List ℕ). file_line (drop 5 row) ++ t) h.1
          ∙ sym (append_assoc (file_line (drop 5 row)) q.0 (more ++ last)) ∙ sym (append_assoc (file_line (drop 5 row) ++ q.0) more last),
    )

line_joined : (row : Line) (rows : List Line) (q : List ℕ × List TextFile) → ArePieces rows q → ArePieces (row ∷ rows) (ended_line row ++ q.0, q.1)
line_joined row rows q h = (h.0, ap (λ (t : List ℕ). ended_line row ++ t) h.1 ∙ sym (append_assoc (ended_line row) q.0 _))

abbrev Gives : List Line → Result (List ℕ × List TextFile) ℕ → Type 0
Gives rows r = (p : List ℕ × List TextFile) → r ≡ Ok p → ArePieces rows p

one_row : (n : ℕ) (row : Line) (rows : List Line) (r : Result (List ℕ × List TextFile) ℕ) → Gives rows r → Gives (row ∷ rows) (r >>= λ q. Ok (joined n row q))
one_row n row rows (Err k) h p e = absurd (let bad : Path (Result (List ℕ × List TextFile) ℕ) (Err k) (Ok p) = e in cc)
one_row n row rows (Ok q) h p e = by_test (is_file_line row) refl
  where
    is : joined n row q ≡ p
    is = let both : Path (Result (List ℕ × List TextFile) ℕ) (Ok (joined n row q)) (Ok p) = e in cc

    by_test : (b : Bool) → is_file_line row ≡ b → ArePieces (row ∷ rows) p
    by_test true t =
        let here : ([], opened n row q) ≡ p = rw t at is in
        let x = file_joined n row rows q t (h q refl) in
        subst (ArePieces (row ∷ rows)) here (x.0, x.1)
    by_test false t =
        let here : (ended_line row ++ q.0, q.1) ≡ p = rw t at is in
        subst (ArePieces (row ∷ rows)) here (line_joined row rows q (h q refl))

pieces_joined : (n : ℕ) (rows : List Line) → Gives rows (pieces n rows)
unfolding pieces file_texts
pieces_joined n [] p e = absurd (let bad : Path (Result (List ℕ × List TextFile) ℕ) (Err n) (Ok p) = e in cc)
pieces_joined n (row ∷ rows) p e = by_test (pieces_joined (next_number n) rows) (bytes_eq row (codes "END")) refl e
  where
    by_test : Gives rows (pieces (next_number n) rows) → (b : Bool) → bytes_eq row (codes "END") ≡ b →
        (if b then Ok ([], []) else (pieces (next_number n) rows >>= λ q. Ok (joined n row q))) ≡ Ok p → ArePieces (row ∷ rows) p
    by_test further true t d =
        let both : Path (Result (List ℕ × List TextFile) ℕ) (Ok ([], [])) (Ok p) = d in
        let here : ([], []) ≡ p = cc in
        subst (ArePieces (row ∷ rows)) here (rows, ap (λ (x : List ℕ). x ++ flat_map ended_line rows) (end_is row t))
    by_test further false t d = one_row n row rows (pieces (next_number n) rows) further p d

pub cuts_are_joined : CutsAreJoined
cuts_are_joined n [] files e = absurd (let bad : Path (Result (List TextFile) ℕ) (Err n) (Ok files) = e in cc)
cuts_are_joined n (row ∷ rows) files e = by_test (is_file_line row) refl e
  where
    by_pieces : is_file_line row ≡ true → (r : Result (List ℕ × List TextFile) ℕ) → Gives rows r → (r >>= λ p. Ok (opened n row p)) ≡ Ok files → AreJoined (row ∷ rows) files
    by_pieces t (Err k) h d = absurd (let bad : Path (Result (List TextFile) ℕ) (Err k) (Ok files) = d in cc)
    by_pieces t (Ok q) h d =
        let both : Path (Result (List TextFile) ℕ) (Ok (opened n row q)) (Ok files) = d in
        let here : opened n row q ≡ files = cc in
        let x = file_joined n row rows q t (h q refl) in
        subst (AreJoined (row ∷ rows)) here (record { left = x.0; are = x.1 })

    by_test : (b : Bool) → is_file_line row ≡ b → (if b then (pieces (next_number n) rows >>= λ p. Ok (opened n row p)) else Err n) ≡ Ok files → AreJoined (row ∷ rows) files
    by_test true t d = by_pieces t (pieces (next_number n) rows) (pieces_joined (next_number n) rows) d
    by_test false t d = absurd (let bad : Path (Result (List TextFile) ℕ) (Err n) (Ok files) = d in cc)
