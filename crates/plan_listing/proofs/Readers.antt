-- The parts of a plan's step are read as they are written: the cells, and the lines SOURCE of the terms.
use Rattle.plan_listing.proofs.Common.{◌≡◌, ℕ, Bool, true, false, cond, List, [], ◌∷◌, ◌++◌, length, map, refl, sym, ap, ◌∙◌, subst, arith, slice_index_or, append_assoc, AllZip, range_with_len, Term}
use Rattle.plan_listing.proofs.Common.{all_terms, no_pair, place_of, AllZip-length, FlowModel, cell_count, is_active, Base, Plan, Drawdown, IsPairIf, Left, Line, cell_front, each_lines, has_evt}
use Rattle.plan_listing.proofs.Common.{head_if, pair_if, source_front, source_line, term_form, IsReader, all_read, bind_goes_through, left_of, same_ok, cell_read, term_read, Sources, PlanCell}
use Rattle.plan_listing.proofs.Common.{AreSources, is_source, line_of, plan_cell_lines, source_terms}
use Rattle.budget_bounds.specs.declared.pair.TermPair.{TermPair}
use Rattle.plan_listing.proofs.Cells.{IsPlanCell}
unfoldable use Rattle.plan_listing.specs.{cells_lines, plan_cell_at, plan_cells_at, source_lines, sources_at}

module _ (m : FlowModel) (s : ℕ) where
  plan_cell_read : (c : ℕ) → IsReader s (plan_cell_at m c) (plan_cell_lines m c) (IsPlanCell m c)
  unfolding plan_cell_at
  plan_cell_read c = record {
    again = λ few x rest n h.
        let a = line_of Base m c x.base in
        let b = line_of Plan m c x.planned in
        let d = line_of Drawdown m c x.difference in
        let (i, base) = (cell_read m s Base c (is_active m c) refl).again few x.base (b ++ (d ++ rest)) n h.base in
        let (j, planned) = (cell_read m s Plan c (is_active m c) refl).again few x.planned (d ++ rest) i h.planned in
        let (k, difference) = (cell_read m s Drawdown c (is_active m c) refl).again few x.difference rest j h.difference in
        (k, ap (λ (t : List Line). plan_cell_at m c (left_of t n)) (regroup a b d rest) ∙ rw (base, planned, difference) refl);
    was = λ left got h.
        let base = bind_goes_through (head_if (is_active m c) (cell_front Base m.grid c) left) _ got h in
        let planned = bind_goes_through (head_if (is_active m c) (cell_front Plan m.grid c) base.item.1) _ got base.then_ in
        let difference = bind_goes_through (head_if (is_active m c) (cell_front Drawdown m.grid c) planned.item.1) _ got planned.then_ in
        let (base_is, base_rows) = (cell_read m s Base c (is_active m c) refl).was left base.item base.first in
        let (planned_is, planned_rows) = (cell_read m s Plan c (is_active m c) refl).was base.item.1 planned.item planned.first in
        let (difference_is, difference_rows) = (cell_read m s Drawdown c (is_active m c) refl).was planned.item.1 difference.item difference.first in
        let a = line_of Base m c base.item.0 in
        let b = line_of Plan m c planned.item.0 in
        let d = line_of Drawdown m c difference.item.0 in
        let P : PlanCell × Left → Type 0 = λ x. IsPlanCell m c x.0 × (left.lines ≡ plan_cell_lines m c x.0 ++ x.1.lines) in
        subst P (same_ok (record { base = base.item.0; planned = planned.item.0; difference = difference.item.0 }, difference.item.1) got _ refl difference.then_) (
          record { base = base_is; planned = planned_is; difference = difference_is },
          base_rows ∙ ap (λ (t : List Line). a ++ t) (planned_rows ∙ ap (λ (t : List Line). b ++ t) difference_rows) ∙ sym (regroup a b d difference.item.1.lines),
        );
  }
    where
      regroup : (a b d rest : List Line) → (a ++ (b ++ d)) ++ rest ≡ a ++ (b ++ (d ++ rest))
      regroup a b d rest = simp append_assoc

  pub plan_cells_read : IsReader s (plan_cells_at m) (cells_lines m) (AllZip (IsPlanCell m) (range_with_len 0 (cell_count m.grid)))
  unfolding plan_cells_at cells_lines
  plan_cells_read = all_read s (plan_cell_at m) (plan_cell_lines m) (IsPlanCell m) plan_cell_read (range_with_len 0 (cell_count m.grid))

-- the line of a term, if it has one
abbrev pub source_rows : Bool → ℕ → Term → TermPair → List Line
source_rows evt s t p = cond (is_source evt t) (source_line s t p ∷ []) []

abbrev pub IsSourcePair : Bool → Term → TermPair → Type 0
IsSourcePair evt t p = IsPairIf (is_source evt t) p

pub sources_read : (evt : Bool) (s : ℕ) → IsReader s (sources_at evt s) (each_lines (source_rows evt s) all_terms) (AllZip (IsSourcePair evt) all_terms)
unfolding sources_at
sources_read evt s =
    all_read s (λ t. pair_if (is_source evt t) source_front (term_form s t)) (source_rows evt s) (IsSourcePair evt) (λ t. term_read s source_front (is_source evt t) t) all_terms

lines_of_pairs : (evt : Bool) (s : ℕ) (ps : List TermPair) → length ps ≡ 8 → each_lines (source_rows evt s) all_terms ps ≡
    map (λ t. source_line s t (slice_index_or ps (place_of t) no_pair)) (source_terms evt)
lines_of_pairs true s (a ∷ b ∷ c ∷ d ∷ e ∷ f ∷ g ∷ x ∷ []) h = refl
lines_of_pairs false s (a ∷ b ∷ c ∷ d ∷ e ∷ f ∷ g ∷ x ∷ []) h = refl
lines_of_pairs evt s other h = absurd (omega (arith, h))

-- the lines of a step's sources
pub lines_of_sources : (m : FlowModel) (s : ℕ) (x : Sources) → AreSources m x.terms → each_lines (source_rows (has_evt m) s) all_terms x.terms ≡ source_lines m s x
unfolding source_lines
lines_of_sources m s x h = lines_of_pairs (has_evt m) s x.terms (sym (AllZip-length (IsSourcePair (has_evt m)) all_terms x.terms h))
