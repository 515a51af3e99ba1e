-- Lists that are related place by place, and mapped lists.
use Rattle.problem_builder.proofs.Common.{◌≡◌, inl, inr, List, [], ◌∷◌, map, refl, subst, All, AllZip, In, All-In, map-In}

-- what an item of one list is related to
pub left_of : {X Y : Type 0} (R : X → Y → Type 0) (xs : List X) (ys : List Y) (x : X) → AllZip R xs ys → In xs x → (y : Y) × In ys y × R x y
left_of R [] ys x h i = absurd i
left_of R (z ∷ xs) [] x h i = absurd h
left_of R (z ∷ xs) (y ∷ ys) x h (inl e) = (y, inl refl, subst (λ q. R q y) e h.0)
left_of R (z ∷ xs) (y ∷ ys) x h (inr i) = let (w, j, r) = left_of R xs ys x h.1 i in (w, inr j, r)

pub right_of : {X Y : Type 0} (R : X → Y → Type 0) (xs : List X) (ys : List Y) (y : Y) → AllZip R xs ys → In ys y → (x : X) × In xs x × R x y
right_of R xs [] y h i = absurd i
right_of R [] (w ∷ ys) y h i = absurd h
right_of R (x ∷ xs) (w ∷ ys) y h (inl e) = (x, inl refl, subst (λ q. R x q) e h.0)
right_of R (x ∷ xs) (w ∷ ys) y h (inr i) = let (z, j, r) = right_of R xs ys y h.1 i in (z, inr j, r)

-- what holds of each item, mapped, holds of the mapped list
pub all_mapped : {X Y : Type 0} (P : Y → Type 0) (f : X → Y) (xs : List X) → ((x : X) → In xs x → P (f x)) → All P (map f xs)
all_mapped P f xs h = All-In P (map f xs) (λ y i. let (x, j, e) = map-In f xs y i in subst P e (h x j))

-- two functions that are the same at each item
pub map_within : {X Y : Type 0} (f g : X → Y) (xs : List X) → ((x : X) → In xs x → f x ≡ g x) → map f xs ≡ map g xs
map_within f g [] e = refl
map_within f g (x ∷ xs) e = λ t. e x (inl refl) t ∷ map_within f g xs (λ y i. e y (inr i)) t

-- a mapped list beside the list, and beside another one of the same list
pub zip_image : {X Y : Type 0} (R : Y → X → Type 0) (f : X → Y) (xs : List X) → ((x : X) → In xs x → R (f x) x) → AllZip R (map f xs) xs
zip_image R f [] h = tt
zip_image R f (x ∷ xs) h = (h x (inl refl), zip_image R f xs (λ y i. h y (inr i)))

pub zip_images : {X Y Z : Type 0} (R : Y → Z → Type 0) (f : X → Y) (g : X → Z) (xs : List X) → ((x : X) → In xs x → R (f x) (g x)) → AllZip R (map f xs) (map g xs)
zip_images R f g [] h = tt
zip_images R f g (x ∷ xs) h = (h x (inl refl), zip_images R f g xs (λ y i. h y (inr i)))
