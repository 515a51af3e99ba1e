-- The files of a made model, by the number n of its rows and of its columns: two layers of n by n cells, and one
-- transient stress period of four steps. `x` is the generator's state where a text's draws begin.
use Rattle.std.specs.Prelude.{ℕ, zero, suc, ◌+◌, ◌-◌, ◌*◌, List, [], ◌∷◌, ◌++◌, codes, decimal, ◌/◌, ◌%◌}
use Rattle.outside.specs.{File}

-- The generator of the numbers of a made model: linear congruential.
-- the state after x
unfoldable pub next_state : ℕ → ℕ
next_state x = (x * 1103515245 + 12345) % 2147483648

-- the state k draws after x
unfoldable pub after : ℕ → ℕ → ℕ
after zero x = x
after (suc k) x = next_state (after k x)

-- the number drawn at the state x: a number below n
abbrev pub drawn_number : ℕ → ℕ → ℕ
drawn_number n x = next_state x / 65536 % n

abbrev pub Text : Type 0
Text = List ℕ

-- f 0, f 1, .., f (n - 1), one after another
unfoldable pub texts_below : ℕ → (ℕ → Text) → Text
texts_below zero f = []
texts_below (suc n) f = texts_below n f ++ f n

-- the separator before the word at this place of a line: a blank, but nothing before the first word
abbrev pub gap : ℕ → Text
gap zero = []
gap (suc j) = codes " "

-- the name file
abbrev pub nam_text : Text
nam_text = codes "DIS 11 m.dis\nBAS6 12 m.bas\nLPF 13 m.lpf\nWEL 14 m.wel\nRIV 15 m.riv\nRCH 16 m.rch\n"

-- NLAY NROW NCOL NPER ITMUNI LENUNI; LAYCBD; DELR, DELC, the top, and the bottoms of both layers; PERLEN NSTP TSMULT
abbrev pub dis_text : ℕ → Text
dis_text n =
    codes "2 " ++ decimal n ++ codes " " ++ decimal n
    ++ codes " 1 4 2\n0 0\nCONSTANT 100\nCONSTANT 100\nCONSTANT 20\nCONSTANT 10\nCONSTANT 0\n4 4 1 TR\n"

-- a row of IBOUND in layer 1, whose first column has given heads
abbrev pub ibound_row : ℕ → Text
ibound_row n = codes "-1" ++ texts_below (n - 1) (λ j. codes " 1") ++ codes "\n"

-- the options; IBOUND of both layers; HNOFLO; STRT of both layers
abbrev pub bas_text : ℕ → Text
bas_text n = codes "FREE\nINTERNAL 1 (FREE) -1\n" ++ texts_below n (λ i. ibound_row n) ++ codes "CONSTANT 1\n-999.99\nCONSTANT 10\nCONSTANT 10\n"

-- HK of a cell, from 1 to 9: one draw
abbrev pub hk_text : ℕ → Text
hk_text x = decimal (1 + drawn_number 9 x)

-- HK of a row, a draw for each cell in turn
abbrev pub hk_row : ℕ → ℕ → Text
hk_row n x = texts_below n (λ j. gap j ++ hk_text (after j x)) ++ codes "\n"

-- a layer: HK row by row, VKA and SS
abbrev pub layer_text : ℕ → ℕ → Text
layer_text n x = codes "INTERNAL 1 (FREE) -1\n" ++ texts_below n (λ i. hk_row n (after (i * n) x)) ++ codes "CONSTANT 1\nCONSTANT 0.01\n"

-- ILPFCB HDRY NPLPF; LAYTYP, LAYAVG, CHANI, LAYVKA and LAYWET; both layers
abbrev pub lpf_text : ℕ → ℕ → Text
lpf_text n x = codes "0 -1E+30 0\n0 0\n0 0\n1 1\n0 0\n0 0\n" ++ layer_text n x ++ layer_text n (after (n * n) x)

-- a well in layer 2: its row and its column, from 1 to n, and its pumping rate, from 1 to 500
abbrev pub wel_text : ℕ → ℕ → Text
wel_text n x =
    codes "1 0\n1 0\n2 " ++ decimal (1 + drawn_number n x) ++ codes " " ++ decimal (1 + drawn_number n (after 1 x)) ++ codes " -"
    ++ decimal (1 + drawn_number 500 (after 2 x)) ++ codes "\n"

-- the river's reach in a row of layer 1, in the last column: its stage, its conductance and its bottom
abbrev pub reach_text : ℕ → ℕ → Text
reach_text n i = codes "1 " ++ decimal (i + 1) ++ codes " " ++ decimal n ++ codes " 9 50 8\n"

abbrev pub riv_text : ℕ → Text
riv_text n = decimal n ++ codes " 0\n" ++ decimal n ++ codes " 0\n" ++ texts_below n (reach_text n)

-- NRCHOP, INRECH and RECH
abbrev pub rch_text : Text
rch_text = codes "3 0\n0\nCONSTANT 0.001\n"

abbrev pub file : Text → Text → File
file name bytes = record { name = name; bytes = bytes }

-- All files. The well is drawn after the 2 n n cells of the layers.
unfoldable pub made_files : ℕ → ℕ → List File
made_files seed n =
    file (codes "m.nam") nam_text ∷ file (codes "m.dis") (dis_text n) ∷ file (codes "m.bas") (bas_text n)
    ∷ file (codes "m.lpf") (lpf_text n seed) ∷ file (codes "m.wel") (wel_text n (after (2 * (n * n)) seed))
    ∷ file (codes "m.riv") (riv_text n) ∷ file (codes "m.rch") rch_text ∷ []

-- the name of the name file
abbrev pub made_name : Text
made_name = codes "m.nam"
