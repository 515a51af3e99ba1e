-- Layers that are read: as many values as they have cells, layer after layer.
use Rattle.array_text.proofs.Common.{◌≡◌, ℕ, ◌+◌, ◌*◌, Bool, true, false, List, length, replicate, All, refl, arith, ◌⊎◌, inl, inr, ◌-◌, ◌<◌, ◌≤◌, [], ◌++◌, take, drop, length-replicate}
use Rattle.array_text.proofs.Common.{length-append, length-drop, take-append-le, drop-append-le, take_all, drop_at, All-append, All-replicate, Dec, IsDec, FileSet, Left, real_layer, layer_or}
use Rattle.array_text.proofs.Common.{GivesOnly, cases_lt, ok_gives_only, gives_only_less}
use Rattle.array_text.proofs.ArrayForms.{array_files_have_form}
use Rattle.std.proofs.Math.Nat.{mul-le-mul_right}

-- this many values of this form, layer after layer
pub one_more : {X : Type 0} (P : X → Type 0) (n i : ℕ) (xs ys : List X) → (length xs ≡ i * n) × All P xs → (length ys ≡ n) × All P ys → (length (xs ++ ys) ≡ (i + 1) * n) × All P (xs ++ ys)
one_more P n i xs ys a b =
    let p : length xs ≡ i * n = a.0 in
    let q : length ys ≡ n = b.0 in
    let count : length (xs ++ ys) ≡ (i + 1) * n = omega (arith, length-append xs ys) in
    (count, All-append P xs ys a.1 b.1)

-- a list of n layers of this size, of which each is as P says of its number
pub record AreLayers {X : Type 0} (size : ℕ) (P : ℕ → List X → Type 0) (n : ℕ) (xs : List X) : Type 0 where
  pub count : length xs ≡ n * size
  pub each : (k : ℕ) → k < n → P k (take size (drop (k * size) xs))

pub no_layers : {X : Type 0} (size : ℕ) (P : ℕ → List X → Type 0) → AreLayers size P 0 []
no_layers size P = record { count = omega arith; each = λ k lt. absurd (omega (arith, lt)) }

pub one_more_layer : {X : Type 0} (size : ℕ) (P : ℕ → List X → Type 0) (n : ℕ) (xs ys : List X) → AreLayers size P n xs → length ys ≡ size → P n ys → AreLayers size P (n + 1) (xs ++ ys)
one_more_layer {X = X} size P n xs ys h many here = record {
  count = let c : length xs ≡ n * size = h.count in omega (arith, length-append xs ys);
  each = λ k lt. by_case k lt (cases_lt k n);
}
  where
    above : (k : ℕ) → k < n → P k (take size (drop (k * size) (xs ++ ys)))
    above k lt =
        let c : length xs ≡ n * size = h.count in
        let more : (k + 1) * size ≤ n * size = mul-le-mul_right size (omega (arith, lt)) in
        let first : k * size ≤ length xs = omega arith in
        let left : length (drop (k * size) xs) ≡ length xs - k * size = length-drop (k * size) xs in
        let whole : size ≤ length (drop (k * size) xs) = omega arith in
        rw (drop-append-le (k * size) xs ys first, take-append-le size (drop (k * size) xs) ys whole) (h.each k lt)

    by_case : (k : ℕ) → k < n + 1 → (k < n) ⊎ (n ≤ k) → P k (take size (drop (k * size) (xs ++ ys)))
    by_case k lt (inl low) = above k low
    by_case k lt (inr high) =
        let same : k ≡ n = omega (arith, lt, high) in
        let c : length xs ≡ n * size = h.count in
        let le : length ys ≤ size = omega (arith, many) in
        rw (same, drop_at xs ys (n * size) c, take_all size ys le) here

module _ (files : FileSet) (file : List ℕ) where
  pub layer_is : (rows cols : ℕ) (left : Left) → GivesOnly (λ x. (length x.0 ≡ rows * cols) × All IsDec x.0) (real_layer files file rows cols left)
  layer_is = array_files_have_form.real_layers files file

  -- a layer that the file has, or one number everywhere
  pub layer_or_is : (rows cols : ℕ) (b : Bool) (other : Dec) (left : Left) → IsDec other
      → GivesOnly (λ x. (length x.0 ≡ rows * cols) × All IsDec x.0 × (b ≡ false → x.0 ≡ replicate (rows * cols) other)) (layer_or files file rows cols b other left)
  unfolding layer_or
  layer_or_is rows cols true other left dec = gives_only_less (layer_is rows cols left) (λ x is. (is.0, is.1, λ e. absurd (let clash : true ≡ false = e in cc)))
  layer_or_is rows cols false other left dec = ok_gives_only (length-replicate (rows * cols) other, All-replicate IsDec (rows * cols) other dec, λ e. refl)
