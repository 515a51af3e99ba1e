-- A good name stays ASCII text when its backslashes are turned.
use Rattle.outside.proofs.Common.{ℕ, ◌<◌, ◌==◌, List, All, true, false, if◌then◌else◌, arith, IsUtf8, All-map, IsNameByte, IsGoodName, folder_name}
use Rattle.std.proofs.{lemmas.Str.IsUtf8-from_ascii, lemmas.Str.Ascii.IsAscii-from_all}

below : (b : ℕ) → IsNameByte b → (if b == 92 then 47 else b) < 128
below b within = elim (b == 92) as (λ t. (if t then 47 else b) < 128) [ true ↦ omega arith | false ↦ omega arith ]

all_below : (name : List ℕ) → All IsNameByte name → All (λ b. b < 128) (folder_name name)
all_below name all = All-map (λ b. b < 128) _ name (λ k d within. below _ (all k d within))

pub folder_name-IsUtf8 : (name : List ℕ) → IsGoodName name → IsUtf8 (folder_name name)
folder_name-IsUtf8 name good = IsUtf8-from_ascii _ (IsAscii-from_all _ (all_below name good.2))

pub IsGoodName-IsUtf8 : (name : List ℕ) → IsGoodName name → IsUtf8 name
IsGoodName-IsUtf8 name good = IsUtf8-from_ascii _ (IsAscii-from_all _ (λ k d within. omega (arith, good.2 k d within)))
