-- What is read of the first line and of LAYCBD.
use Rattle.dis_package.proofs.Common.{◌≡◌, ℕ, ◌-◌, ◌*◌, ◌<◌, ◌≤◌, ◌==◌, nat_lt, nat_le, suc, Bool, true, false, ◌&&◌, List, [], ◌∷◌, ◌++◌, length, All, Some, None, refl, arith, ℤ, pos, negsuc}
use Rattle.dis_package.proofs.Common.{if◌then◌else◌, and_parts, leb-true, ltb-true, eqb-true, not-false, All-push, refusal, words, BadGrid, line_at, Left, Taking, beginning, number_at, value_at}
use Rattle.dis_package.proofs.Common.{value_alone, integer, zero_at, int_at, is_nonzero, most_layers, most_in_row, most_cells, within, head_of, IsSize, IsFrame, count_at, size_at, frame_of, beds_of}
use Rattle.dis_package.proofs.Common.{inside, Size, IsShort, GivesOnly, item_is, value_is, integer_is, ok_gives_only, err_gives_only, goes_on, then_, if_passed, if_clear, repeated_are, Limits}
use Rattle.std.proofs.lemmas.List.{length-append}
use Rattle.outside.specs.declared.inputs.Refusal.{Refusal}
use Rattle.model_types.proofs.WideLimits.{layers_few, in_row_few, cells_few}

-- The last layer has no bed.

at_end : (above : List ℤ) (z : ℤ) → int_at (above ++ z ∷ []) (length above) ≡ z
at_end [] z = refl
at_end (x ∷ above) z = at_end above z

pub last_of : (above all : List ℤ) (z : ℤ) (layers : ℕ) → 1 ≤ layers → length above ≡ layers - 1 → all ≡ above ++ z ∷ [] → z ≡ pos 0 → int_at all (layers - 1) ≡ pos 0
last_of above all z layers some count is zero = grind (arith, at_end)

-- a count from 1 to a limit
abbrev pub IsCount : ℕ → ℕ → Type 0
IsCount limit n = (1 ≤ n) × (n ≤ limit)

pub within_is : (z : ℤ) (limit : ℕ) (r : Refusal) → GivesOnly (IsCount limit) (inside (within z limit) r)
within_is (pos k) limit r = by_case (nat_lt 0 k && nat_le k limit) refl
  where
    by_case : (b : Bool) → (nat_lt 0 k && nat_le k limit) ≡ b → GivesOnly (IsCount limit) (inside (if b then Some k else None) r)
    by_case true e =
        let p = and_parts (nat_lt 0 k) (nat_le k limit) e in
        let low : 0 < k = ltb-true 0 k p.0 in
        let high : k ≤ limit = leb-true k limit p.1 in
        ok_gives_only (omega arith, omega arith)
    by_case false e = err_gives_only
within_is (negsuc k) limit r = err_gives_only

below_wide : {a b c : ℕ} → a ≤ b → b ≤ c → a ≤ c
below_wide h k = omega (arith, h, k)

-- the size of a grid of at most these limits
pub record IsSizeWithin (limits : Limits) (s : Size) : Type 0 where
  pub layers : s.layers ≤ most_layers limits
  pub rows : s.rows ≤ most_in_row limits
  pub cols : s.cols ≤ most_in_row limits
  pub cells : s.layers * (s.rows * s.cols) ≤ most_cells limits

zero_short : IsShort (pos 0)
zero_short = record { few = omega arith }

zero_item : (z : ℤ) → is_nonzero z ≡ false → (z ≡ pos 0) × IsShort z
zero_item (pos n) e = let none : n ≡ 0 = eqb-true n 0 (not-false (n == 0) e) in rw none (refl, zero_short)
zero_item (negsuc n) e = let none : suc n ≡ 0 = eqb-true (suc n) 0 (not-false (suc n == 0) e) in absurd (omega arith)

-- LAYCBD: an integer for each layer, none below the last
pub record AreBeds (layers : ℕ) (laycbd : List ℤ) : Type 0 where
  pub count : length laycbd ≡ layers
  pub short : All IsShort laycbd
  pub last : int_at laycbd (layers - 1) ≡ pos 0

module _ (file : List ℕ) where
  module _ (line : ℕ) where
    pub count_is : (limit : ℕ) (ws : List (List ℕ)) → GivesOnly (λ x. IsCount limit x.0) (count_at file line limit ws)
    unfolding count_at
    count_is limit ws = goes_on (number_at integer file line ws) _ (λ z e. then_ _ (within_is z.0 limit (refusal BadGrid file line)) (λ n h. ok_gives_only h))

    size_is : (limits : Limits) (ws : List (List ℕ)) → GivesOnly (λ x. IsSize x.0 × IsSizeWithin limits x.0) (size_at limits file line ws)
    unfolding size_at
    size_is limits ws =
        then_ _ (count_is (most_layers limits) ws) (λ k layers. then_ _ (count_is (most_in_row limits) k.1) (λ i rows. then_ _ (count_is (most_in_row limits) i.1)
        (λ j cols. if_passed (nat_le (k.0 * (i.0 * j.0)) (most_cells limits)) _ _ (λ few.
        let cells : k.0 * (i.0 * j.0) ≤ most_cells limits = leb-true (k.0 * (i.0 * j.0)) (most_cells limits) few in
        ok_gives_only (
          record {
            layers = (layers.0, below_wide layers.1 (layers_few limits));
            rows = (rows.0, below_wide rows.1 (in_row_few limits));
            cols = (cols.0, below_wide cols.1 (in_row_few limits));
            cells = below_wide cells (cells_few limits);
          },
          record { layers = layers.1; rows = rows.1; cols = cols.1; cells = cells },
        )))))

    pub frame_is : (limits : Limits) (ws : List (List ℕ)) → GivesOnly (λ f. IsFrame f × IsShort f.lenuni × IsSizeWithin limits f.size) (frame_of limits file line ws)
    unfolding frame_of
    frame_is limits ws =
        then_ _ (size_is limits ws) (λ s size. then_ _ (count_is 1000 s.1) (λ n periods. goes_on (number_at integer file line n.1) _ (λ t e. then_ _ (item_is integer IsShort integer_is file line t.1)
        (λ u lenuni. ok_gives_only (record { size = size.0; periods = periods }, lenuni, size.1)))))

  zero_is : (s : Taking × Left) → GivesOnly (λ x. (x.0 ≡ pos 0) × IsShort x.0) (zero_at file s)
  unfolding zero_at
  zero_is s = goes_on (value_at integer file s) _ (λ z e. if_clear (is_nonzero z.0.0) _ _ (λ none. ok_gives_only (zero_item z.0.0 none)))

  beds_are : (layers : ℕ) (left : Left) → 1 ≤ layers → GivesOnly (λ x. AreBeds layers x.0) (beds_of file layers left)
  unfolding beds_of
  beds_are layers left some =
      then_ _ (repeated_are (value_alone integer file) IsShort (value_is integer IsShort integer_is file) (layers - 1) (beginning, left)) (λ above are. then_ _ (zero_is above.1) (λ last zero.
      let many : length above.0 ≡ layers - 1 = are.0 in
      ok_gives_only (record {
        count = omega (arith, length-append above.0 (last.0 ∷ []), some);
        short = All-push IsShort above.0 last.0 are.1 zero.1;
        last = last_of above.0 (above.0 ++ last.0 ∷ []) last.0 layers some many refl zero.0;
      })))

  -- the first line, and LAYCBD
  pub head_is : (limits : Limits) (left : Left) → GivesOnly (λ x. IsFrame x.0.0 × IsShort x.0.0.lenuni × AreBeds x.0.0.size.layers x.0.1 × IsSizeWithin limits x.0.0.size) (head_of limits file left)
  unfolding head_of
  head_is limits left =
      goes_on (line_at file left) _ (λ line e. then_ _ (frame_is line.0.number limits (words line.0.bytes)) (λ frame f. then_ _ (beds_are frame.size.layers line.1 f.0.size.layers.0)
      (λ beds b. ok_gives_only (f.0, f.1, b, f.2))))
