-- Parts of flows, and their sums, in order.
use Rattle.gentle_terms.proofs.Common.{◌≡◌, ℕ, zero, suc, ◌<◌, List, [], ◌∷◌, All, map, refl, sym, arith, pos, Fraction, fraction_total, opposite, whole, exact_part, InOrder, Dir, total_below}
use Rattle.std.proofs.{lemmas.List.Elements.All-head, lemmas.List.Elements.All-tail, lemmas.Int.ints}
use Rattle.decimal_input.specs.Fractions.{AtMost, den, plus}
use Rattle.step_problem.specs.declared.place.Dir.TheVariants.{In, Out}
use Rattle.decimal_input.proofs.FloorLaws.{neg_times}
use Rattle.water_table.proofs.Orders.{AtMost-of, greater_rises, plus_rises}

opposite_falls : (f g : Fraction) → AtMost f g → AtMost (opposite g) (opposite f)
opposite_falls f g p = record { at_most = omega (arith, ints, neg_times f.num (pos (den g)), neg_times g.num (pos (den f)), p.at_most) }

pub same_order : (dir : Dir) (f g : Fraction) → f ≡ g → InOrder dir f g
same_order In f g e = AtMost-of f g e
same_order Out f g e = AtMost-of g f (sym e)

pub part_order : (dir : Dir) (f g : Fraction) → AtMost f g → InOrder dir (exact_part dir f) (exact_part dir g)
part_order In f g p = greater_rises f g (whole (pos 0)) p
part_order Out f g p = greater_rises (opposite g) (opposite f) (whole (pos 0)) (opposite_falls f g p)

pub plus_order : (dir : Dir) (f f' g g' : Fraction) → InOrder dir f f' → InOrder dir g g' → InOrder dir (plus f g) (plus f' g')
plus_order In f f' g g' p q = plus_rises f f' g g' p q
plus_order Out f f' g g' p q = plus_rises f' f g' g p q

none_order : (dir : Dir) → InOrder dir (whole (pos 0)) (whole (pos 0))
none_order dir = same_order dir _ _ refl

-- sums of flows over the same items
pub list_order : {X : Type 0} (dir : Dir) (F G : X → Fraction) (xs : List X) → All (λ x. AtMost (F x) (G x)) xs →
    InOrder dir (fraction_total (exact_part dir) (map F xs)) (fraction_total (exact_part dir) (map G xs))
list_order dir F G [] h = none_order dir
list_order dir F G (x ∷ xs) h =
    plus_order dir _ _ _ _ (part_order dir (F x) (G x) (All-head (λ x. AtMost (F x) (G x)) x xs h)) (list_order dir F G xs (All-tail (λ x. AtMost (F x) (G x)) x xs h))

-- of entries that come from the same sources
pub source_order : {S X : Type 0} (dir : Dir) (F G : X → Fraction) (a b : S → X) (xs : List S) → All (λ x. AtMost (F (a x)) (G (b x))) xs →
    InOrder dir (fraction_total (exact_part dir) (map F (map a xs))) (fraction_total (exact_part dir) (map G (map b xs)))
source_order dir F G a b [] h = none_order dir
source_order dir F G a b (x ∷ xs) h =
    plus_order dir _ _ _ _ (part_order dir (F (a x)) (G (b x)) (All-head (λ x. AtMost (F (a x)) (G (b x))) x xs h))
    (source_order dir F G a b xs (All-tail (λ x. AtMost (F (a x)) (G (b x))) x xs h))

-- of the parts of flows by item
pub total_order : {X : Type 0} (dir : Dir) (F G : X → Fraction) (xs : List X) → All (λ x. AtMost (F x) (G x)) xs →
    InOrder dir (fraction_total (λ x. exact_part dir (F x)) xs) (fraction_total (λ x. exact_part dir (G x)) xs)
total_order dir F G [] h = none_order dir
total_order dir F G (x ∷ xs) h =
    plus_order dir _ _ _ _ (part_order dir (F x) (G x) (All-head (λ x. AtMost (F x) (G x)) x xs h)) (total_order dir F G xs (All-tail (λ x. AtMost (F x) (G x)) x xs h))

-- over the numbers below n
pub below_order : (dir : Dir) (n : ℕ) (f g : ℕ → Fraction) → ((i : ℕ) → i < n → InOrder dir (f i) (g i)) → InOrder dir (total_below n f) (total_below n g)
below_order dir zero f g h = none_order dir
below_order dir (suc n) f g h = plus_order dir _ _ _ _ (below_order dir n f g (λ i lt. h i (omega (arith, lt)))) (h n (omega arith))
