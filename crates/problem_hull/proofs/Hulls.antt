-- Hulls of two lists of one shape, item by item; and lists that have none.
use Rattle.problem_hull.proofs.Common.{◌≡◌, ◌+◌, ◌<◌, [], ◌∷◌, ◌++◌, ◌∙◌, ℕ, zero, suc, arith, List, get_or, length, take, map, All, refl, ap, sym, take_more, get_or-map, get_or_default, length-map}
use Rattle.problem_hull.proofs.Common.{map-id, map-append, zip_with, IsHull, IsHullOf, AreAlike, IsUnlike, cell_hull, cell_shape, link_shape, link_hull, flow_shape, flow_hull, fixed_shape, fixed_hull}
use Rattle.problem_hull.proofs.Common.{river_shape, river_hull, drain_shape, drain_hull, evap_shape, evap_hull, Entries, entries_at, no_entries}
use Rattle.std.proofs.lemmas.List.Elements.{All-nil, All-cons, All-head, All-tail}
use Rattle.problem_hull.specs.declared.problem.HullFault.{HullFault}
use Rattle.problem_hull.specs.declared.problem.HullFault.TheVariants.{NotAlike, NoBound, Memory}

-- What a function of the items of two lists gives.

pub same_lengths : {X W : Type 0} (g : X → W) (xs ys : List X) → map g ys ≡ map g xs → length ys ≡ length xs
same_lengths g xs ys e = sym (length-map ys g) ∙ ap length e ∙ length-map xs g

-- an image that the first item alone determines
pub zip_left : {X Y W : Type 0} (g : X → W) (f : X → Y → X) → ((x : X) (y : Y) → g (f x y) ≡ g x) → (xs : List X) (ys : List Y) → length ys ≡ length xs → map g (zip_with f xs ys) ≡ map g xs
zip_left g f each [] ys e = refl
zip_left g f each (x ∷ xs) [] e = absurd (omega (arith, e))
zip_left g f each (x ∷ xs) (y ∷ ys) e = λ i. each x y i ∷ zip_left g f each xs ys (omega (arith, e)) i

pub zip_at : {X Y Z : Type 0} (f : X → Y → Z) (xs : List X) (ys : List Y) (i : ℕ) (d : X) (e : Y) → length ys ≡ length xs → get_or (zip_with f xs ys) i (f d e) ≡ f (get_or xs i d) (get_or ys i e)
zip_at f [] [] i d e same = refl
zip_at f [] (y ∷ ys) i d e same = absurd (omega (arith, same))
zip_at f (x ∷ xs) [] i d e same = absurd (omega (arith, same))
zip_at f (x ∷ xs) (y ∷ ys) zero d e same = refl
zip_at f (x ∷ xs) (y ∷ ys) (suc i) d e same = zip_at f xs ys i d e (omega (arith, same))

pub zip_all : {X Y Z : Type 0} (f : X → Y → Z) (P : X → Type 0) (Q : Y → Type 0) (S : Z → Type 0) → ((x : X) (y : Y) → P x → Q y → S (f x y)) →
    (xs : List X) (ys : List Y) → All P xs → All Q ys → All S (zip_with f xs ys)
zip_all f P Q S each [] ys a b = All-nil S
zip_all f P Q S each (x ∷ xs) [] a b = All-nil S
zip_all f P Q S each (x ∷ xs) (y ∷ ys) a b =
    All-cons S (f x y) (zip_with f xs ys) (each x y (All-head P x xs a) (All-head Q y ys b)) (zip_all f P Q S each xs ys (All-tail P x xs a) (All-tail Q y ys b))

pub zip_itself : {X : Type 0} (f : X → X → X) → ((x : X) → x ≡ f x x) → (xs : List X) → xs ≡ zip_with f xs xs
zip_itself f each [] = refl
zip_itself f each (x ∷ xs) = λ i. each x i ∷ zip_itself f each xs i

zip_push : {X Y Z : Type 0} (f : X → Y → Z) (xs : List X) (ys : List Y) (x : X) (y : Y) → length ys ≡ length xs → zip_with f (xs ++ x ∷ []) (ys ++ y ∷ []) ≡ zip_with f xs ys ++ f x y ∷ []
zip_push f [] [] x y e = refl
zip_push f [] (v ∷ ys) x y e = absurd (omega (arith, e))
zip_push f (u ∷ xs) [] x y e = absurd (omega (arith, e))
zip_push f (u ∷ xs) (v ∷ ys) x y e = ap (λ zs. f u v ∷ zs) (zip_push f xs ys x y (omega (arith, e)))

-- Lists of one shape, made item by item.
module _ {X : Type 0} (shape : X → X) (hull : X → X → X) where
  pushed : (xs ys zs : List X) (x y z : X) → IsHullOf (map shape) (zip_with hull) xs ys zs → IsHullOf shape hull x y z →
      IsHullOf (map shape) (zip_with hull) (xs ++ x ∷ []) (ys ++ y ∷ []) (zs ++ z ∷ [])
  pushed xs ys zs x y z h k = record {
    alike = rw (map-append shape ys (y ∷ []), map-append shape xs (x ∷ [])) (λ i. h.alike i ++ k.alike i ∷ []);
    is = (λ i. h.is i ++ k.is i ∷ []) ∙ sym (zip_push hull xs ys x y (same_lengths shape xs ys h.alike));
  }

  -- one place more of two lists, and the hull of the items there
  pub hull_more : (xs ys zs : List X) (i : ℕ) (x y z : X) → i < length xs → i < length ys → x ≡ get_or xs i x → y ≡ get_or ys i y →
      IsHullOf (map shape) (zip_with hull) (take i xs) (take i ys) zs → IsHullOf shape hull x y z → IsHullOf (map shape) (zip_with hull) (take (i + 1) xs) (take (i + 1) ys) (zs ++ z ∷ [])
  hull_more xs ys zs i x y z lt below e d h k =
      let first : take (i + 1) xs ≡ take i xs ++ x ∷ [] = take_more xs i x lt ∙ ap (λ u. take i xs ++ u ∷ []) (sym e) in
      let second : take (i + 1) ys ≡ take i ys ++ y ∷ [] = take_more ys i y below ∙ ap (λ u. take i ys ++ u ∷ []) (sym d) in
      rw (first, second) (pushed (take i xs) (take i ys) zs x y z h k)

-- The hull of two cells, from those of their lists.
pub cell_hulled : (a b r : Entries) → b.id ≡ a.id → r.id ≡ a.id → IsHullOf (map flow_shape) (zip_with flow_hull) a.flows b.flows r.flows →
    IsHullOf (map link_shape) (zip_with link_hull) a.links b.links r.links →
    IsHullOf (map fixed_shape) (zip_with fixed_hull) a.fixed b.fixed r.fixed → IsHullOf (map river_shape) (zip_with river_hull) a.rivers b.rivers r.rivers →
    IsHullOf (map drain_shape) (zip_with drain_hull) a.drains b.drains r.drains → IsHullOf (map evap_shape) (zip_with evap_hull) a.evaps b.evaps r.evaps → IsHullOf cell_shape cell_hull a b r
cell_hulled a b r same id flows links fixed rivers drains evaps = grind (arith, map-id, zip_left)

-- The cells of a hull.
module _ (p q r : List Entries) (h : IsHull p q r) where
  same_count : length q ≡ length p
  same_count = same_lengths cell_shape p q h.alike

  -- what the first problem's cells have alone
  pub hull_keeps : {W : Type 0} (g : Entries → W) → ((a b : Entries) → g (cell_hull a b) ≡ g a) → map g r ≡ map g p
  hull_keeps g each = ap (map g) h.is ∙ zip_left g cell_hull each p q same_count

  pub hull_count : length r ≡ length p
  hull_count = same_lengths (λ (c : Entries). c.id) p r (hull_keeps (λ c. c.id) (λ a b. refl))

  pub hull_at : (c : ℕ) → entries_at r c ≡ cell_hull (entries_at p c) (entries_at q c)
  hull_at c = ap (λ (l : List Entries). entries_at l c) h.is ∙ zip_at cell_hull p q c no_entries no_entries same_count

-- items that differ at a place
pub unlike_at : {X Y : Type 0} (f : X → Y) (xs ys : List X) (i : ℕ) (x y : X) → i < length xs → i < length ys → x ≡ get_or xs i x → y ≡ get_or ys i y → (f y ≡ f x → ⊥) → map f ys ≡ map f xs → ⊥
unlike_at f xs ys i x y lt in_ys e d unlike same =
    unlike (ap f d ∙ sym (get_or-map f ys i y (f x) in_ys) ∙ ap (λ l. get_or l i (f x)) same ∙ get_or-map f xs i x (f x) lt ∙ sym (ap f e))

-- What two items lack in common, the lists that they stand in lack too.
unlike_more : (A B : Type 0) → ((A → ⊥) → B → ⊥) → (e : HullFault) → IsUnlike A e → IsUnlike B e
unlike_more A B more NotAlike h = more h
unlike_more A B more (NoBound refusal) h = h
unlike_more A B more Memory h = h

pub unlike_cells : (p q : List Entries) (c : ℕ) (e : HullFault) → c < length p → c < length q → IsUnlike (cell_shape (entries_at q c) ≡ cell_shape (entries_at p c)) e → IsUnlike (AreAlike p q) e
unlike_cells p q c e lt below h =
    unlike_more _ _ (unlike_at cell_shape p q c (entries_at p c) (entries_at q c) lt below (get_or_default p c _ _ lt) (get_or_default q c _ _ below)) e h
