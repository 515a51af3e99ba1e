-- The pairs of row_branch and col_branch contain the manual's conductance.
use Rattle.conductance_bounds.proofs.Common.{ℕ, Dec, size, Ratio, IsPositive, IsBetween, Number, Within, PairEncloses, row_exact, column_k, column_exact, IsHalf, IsColHalf}
use Rattle.conductance_bounds.specs.{declared.horizontal.Half.Half, declared.horizontal.ColHalf.ColHalf, row_of, column_of}
use Rattle.conductance_bounds.proofs.{Sides.input_is_factor, Sides.product_is_factor, Sides.size_positive, Sides.within_is_factor, Manual.term_pair_encloses, Manual.row_gives}

pub row_encloses : (a b : Half) (width : Dec) (s : ℕ) → IsHalf a → IsHalf b → IsPositive width → (f g : Ratio) → IsBetween a.thick_lo a.thick_hi f → IsBetween b.thick_lo b.thick_hi g →
    PairEncloses (row_of a b width f g) s (row_exact a b width f g)
row_encloses a b width s p q w f g x y =
    term_pair_encloses s (row_gives (size width) (size a.along) (Number (size a.hk)) (Within a.thick_lo a.thick_hi f) (size b.along) (Number (size b.hk)) (Within b.thick_lo b.thick_hi g)
    (size_positive width w) (size_positive a.along p.along) (size_positive b.along q.along)
    (input_is_factor a.hk p.hk) (within_is_factor a.thick_lo a.thick_hi f p.thick.low_size.positive x) (input_is_factor b.hk q.hk)
    (within_is_factor b.thick_lo b.thick_hi g q.thick.low_size.positive y))

pub column_encloses : (a b : ColHalf) (width : Dec) (s : ℕ) → IsColHalf a → IsColHalf b → IsPositive width → (f g : Ratio) → IsBetween a.thick_lo a.thick_hi f → IsBetween b.thick_lo b.thick_hi g →
    PairEncloses (column_of a b width f g) s (column_exact a b width f g)
column_encloses a b width s p q w f g x y =
    term_pair_encloses s (row_gives (size width) (size a.along) (column_k a) (Within a.thick_lo a.thick_hi f) (size b.along) (column_k b) (Within b.thick_lo b.thick_hi g)
    (size_positive width w) (size_positive a.along p.along) (size_positive b.along q.along)
    (product_is_factor (input_is_factor a.hk p.hk) (input_is_factor a.hani p.hani)) (within_is_factor a.thick_lo a.thick_hi f p.thick.low_size.positive x)
    (product_is_factor (input_is_factor b.hk q.hk) (input_is_factor b.hani q.hani)) (within_is_factor b.thick_lo b.thick_hi g q.thick.low_size.positive y))
