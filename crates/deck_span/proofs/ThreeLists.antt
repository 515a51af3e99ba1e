-- Three lists that are related place by place.
use Rattle.deck_span.proofs.Common.{◌≡◌, ℕ, zero, suc, Bool, true, false, cond, Option, Some, None, List, [], ◌∷◌, ◌++◌, map, take, reverse, refl, is_some, filter, filter_map, cons_option, flat_map}
use Rattle.deck_span.proofs.Common.{find, reverse-append, ap, length, get_or, AllThree, none, next}
use Rattle.std.specs.Option.{option_to_list}

pub three_lengths : {X Y Z : Type 0} (R : X → Y → Z → Type 0) (xs : List X) (ys : List Y) (zs : List Z) → AllThree R xs ys zs → (length ys ≡ length xs) × (length zs ≡ length xs)
three_lengths R xs ys zs none = (refl, refl)
three_lengths R xs ys zs (next h hs) = let (e, d) = three_lengths R _ _ _ hs in (ap suc e, ap suc d)

-- what holds at each place holds at a place past the end, if it holds of the items that stand there
pub three_at : {X Y Z : Type 0} (R : X → Y → Z → Type 0) (xs : List X) (ys : List Y) (zs : List Z) (i : ℕ) (d : X) (e : Y) (f : Z) → AllThree R xs ys zs →
    R d e f → R (get_or xs i d) (get_or ys i e) (get_or zs i f)
three_at R xs ys zs i d e f none k = k
three_at R xs ys zs zero d e f (next h hs) k = h
three_at R xs ys zs (suc i) d e f (next h hs) k = three_at R _ _ _ i d e f hs k

pub three_append : {X Y Z : Type 0} (R : X → Y → Z → Type 0) (xs : List X) (ys : List Y) (zs : List Z) (us : List X) (vs : List Y) (ws : List Z) →
    AllThree R xs ys zs → AllThree R us vs ws → AllThree R (xs ++ us) (ys ++ vs) (zs ++ ws)
three_append R xs ys zs us vs ws none k = k
three_append R xs ys zs us vs ws (next h hs) k = next h (three_append R _ _ _ us vs ws hs k)

-- optional items: all three, or none
pub data OptionThree {X Y Z : Type 0} (R : X → Y → Z → Type 0) : Option X → Option Y → Option Z → Type 0 where
  nothing : OptionThree R None None None
  something : {x : X} {y : Y} {z : Z} → R x y z → OptionThree R (Some x) (Some y) (Some z)

pub option_list : {X Y Z : Type 0} (R : X → Y → Z → Type 0) (o : Option X) (q : Option Y) (r : Option Z) → OptionThree R o q r → AllThree R (option_to_list o) (option_to_list q) (option_to_list r)
option_list R o q r nothing = none
option_list R o q r (something h) = next h none

pub option_all_or_none : {X Y Z : Type 0} (R : X → Y → Z → Type 0) (o : Option X) (q : Option Y) (r : Option Z) → OptionThree R o q r → (is_some q ≡ is_some o) × (is_some r ≡ is_some o)
option_all_or_none R o q r nothing = (refl, refl)
option_all_or_none R o q r (something h) = (refl, refl)

pub three_map : {X Y Z U V W : Type 0} (R : X → Y → Z → Type 0) (S : U → V → W → Type 0) (f : X → U) (g : Y → V) (h : Z → W) → ((x : X) (y : Y) (z : Z) → R x y z → S (f x) (g y) (h z)) →
    (xs : List X) (ys : List Y) (zs : List Z) → AllThree R xs ys zs → AllThree S (map f xs) (map g ys) (map h zs)
three_map R S f g h each xs ys zs none = none
three_map R S f g h each xs ys zs (next r rs) = next (each _ _ _ r) (three_map R S f g h each _ _ _ rs)

-- three images of one list
pub three_images : {X U V W : Type 0} (S : U → V → W → Type 0) (f : X → U) (g : X → V) (h : X → W) → ((x : X) → S (f x) (g x) (h x)) → (xs : List X) → AllThree S (map f xs) (map g xs) (map h xs)
three_images S f g h each [] = none
three_images S f g h each (x ∷ xs) = next (each x) (three_images S f g h each xs)

pub three_take : {X Y Z : Type 0} (R : X → Y → Z → Type 0) (n : ℕ) (xs : List X) (ys : List Y) (zs : List Z) → AllThree R xs ys zs → AllThree R (take n xs) (take n ys) (take n zs)
three_take R zero xs ys zs k = none
three_take R (suc n) xs ys zs none = none
three_take R (suc n) xs ys zs (next h hs) = next h (three_take R n _ _ _ hs)

pub three_flat_map : {X Y Z U V W : Type 0} (R : X → Y → Z → Type 0) (S : U → V → W → Type 0) (f : X → List U) (g : Y → List V) (h : Z → List W) →
    ((x : X) (y : Y) (z : Z) → R x y z → AllThree S (f x) (g y) (h z)) →
    (xs : List X) (ys : List Y) (zs : List Z) → AllThree R xs ys zs → AllThree S (flat_map f xs) (flat_map g ys) (flat_map h zs)
three_flat_map R S f g h each xs ys zs none = none
three_flat_map R S f g h each xs ys zs (next r rs) = three_append S _ _ _ _ _ _ (each _ _ _ r) (three_flat_map R S f g h each _ _ _ rs)

turned : {X : Type 0} (x : X) (xs : List X) → reverse (x ∷ xs) ≡ reverse xs ++ (x ∷ [])
turned x xs = reverse-append (x ∷ []) xs

pub three_reverse : {X Y Z : Type 0} (R : X → Y → Z → Type 0) (xs : List X) (ys : List Y) (zs : List Z) → AllThree R xs ys zs → AllThree R (reverse xs) (reverse ys) (reverse zs)
three_reverse R xs ys zs none = none
three_reverse R xs ys zs (next {x = x} {y = y} {z = z} {xs = us} {ys = vs} {zs = ws} h hs) =
    rw (turned x us, turned y vs, turned z ws) (three_append R (reverse us) (reverse vs) (reverse ws) (x ∷ []) (y ∷ []) (z ∷ []) (three_reverse R us vs ws hs) (next h none))

module _ {X Y Z : Type 0} (R : X → Y → Z → Type 0) (f : X → Bool) (g : Y → Bool) (h : Z → Bool) (agree : (x : X) (y : Y) (z : Z) → R x y z → (g y ≡ f x) × (h z ≡ f x)) where
  kept : (x : X) (y : Y) (z : Z) (xs : List X) (ys : List Y) (zs : List Z) (b : Bool) → f x ≡ b → g y ≡ b → h z ≡ b → R x y z → AllThree R xs ys zs →
      AllThree R (cond (f x) (x ∷ xs) xs) (cond (g y) (y ∷ ys) ys) (cond (h z) (z ∷ zs) zs)
  kept x y z xs ys zs true e₁ e₂ e₃ r rs = rw (e₁, e₂, e₃) (next r rs)
  kept x y z xs ys zs false e₁ e₂ e₃ r rs = rw (e₁, e₂, e₃) rs

  pub three_filter : (xs : List X) (ys : List Y) (zs : List Z) → AllThree R xs ys zs → AllThree R (filter f xs) (filter g ys) (filter h zs)
  three_filter xs ys zs none = none
  three_filter xs ys zs (next {x = x} {y = y} {z = z} r rs) =
      kept x y z _ _ _ (f x) refl (agree x y z r).0 (agree x y z r).1 r (three_filter _ _ _ rs)

  found : (x : X) (y : Y) (z : Z) (o : Option X) (q : Option Y) (s : Option Z) (b : Bool) → f x ≡ b → g y ≡ b → h z ≡ b → R x y z → OptionThree R o q s →
      OptionThree R (cond (f x) (Some x) o) (cond (g y) (Some y) q) (cond (h z) (Some z) s)
  found x y z o q s true e₁ e₂ e₃ r rs = rw (e₁, e₂, e₃) (something r)
  found x y z o q s false e₁ e₂ e₃ r rs = rw (e₁, e₂, e₃) rs

  pub three_find : (xs : List X) (ys : List Y) (zs : List Z) → AllThree R xs ys zs → OptionThree R (find f xs) (find g ys) (find h zs)
  three_find xs ys zs none = nothing
  three_find xs ys zs (next {x = x} {y = y} {z = z} r rs) =
      found x y z _ _ _ (f x) refl (agree x y z r).0 (agree x y z r).1 r (three_find _ _ _ rs)

cons_three : {U V W : Type 0} (S : U → V → W → Type 0) (o : Option U) (q : Option V) (r : Option W) (us : List U) (vs : List V) (ws : List W) →
    OptionThree S o q r → AllThree S us vs ws → AllThree S (cons_option o us) (cons_option q vs) (cons_option r ws)
cons_three S o q r us vs ws nothing k = k
cons_three S o q r us vs ws (something h) k = next h k

pub three_filter_map : {X Y Z U V W : Type 0} (R : X → Y → Z → Type 0) (S : U → V → W → Type 0) (f : X → Option U) (g : Y → Option V) (h : Z → Option W) →
    ((x : X) (y : Y) (z : Z) → R x y z → OptionThree S (f x) (g y) (h z)) →
    (xs : List X) (ys : List Y) (zs : List Z) → AllThree R xs ys zs → AllThree S (filter_map f xs) (filter_map g ys) (filter_map h zs)
three_filter_map R S f g h each xs ys zs none = none
three_filter_map R S f g h each xs ys zs (next r rs) = cons_three S _ _ _ _ _ _ (each _ _ _ r) (three_filter_map R S f g h each _ _ _ rs)
