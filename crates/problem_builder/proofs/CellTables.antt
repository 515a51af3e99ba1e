-- Tables that are given as lists over all cells.
use Rattle.problem_builder.proofs.Common.{fill_by_all, start_bound, ◌≡◌, ℕ, ◌<◌, None, List, length, get_or, take, ap, ◌∙◌, arith, NoFlow, FlowModel, cell_count, kind_of, kinds, last_given}
use Rattle.problem_builder.proofs.Common.{given_heads, given_in, Filled, IsKind, IsKept, AreStartHeads, Bound, no_bound, subst, Option, Given, IsGivenIn, table, table_at, length_is}
use Rattle.problem_builder.proofs.Common.{length-map-range_with_len, get_or-map-range_with_len}
use Rattle.model_types.specs.{declared.given_heads.Kind.Kind, declared.given_heads.GivenHeads.GivenHeads}

-- the kinds of a period
pub kinds_filled : (m : FlowModel) (p : ℕ) (xs : List Kind) → xs ≡ kinds m p → Filled (IsKind m p) NoFlow (cell_count m.grid) xs
unfolding kinds
kinds_filled m p xs e = record {
  count = ap length e ∙ length-map-range_with_len (kind_of m p) 0 (cell_count m.grid);
  each = (λ c lt. ap (λ ys. get_or ys c NoFlow) e ∙ get_or-map-range_with_len (kind_of m p) 0 (cell_count m.grid) c c NoFlow lt (omega arith));
}

pub last_at : (m : FlowModel) (g : GivenHeads) (c : ℕ) → g ≡ given_heads m g.period → c < cell_count m.grid → get_or g.last c None ≡ last_given (take g.period m.periods) c
unfolding given_heads
last_at m g c e lt = ap (λ (h : GivenHeads). get_or h.last c None) e ∙ get_or-map-range_with_len (last_given (take g.period m.periods)) 0 (cell_count m.grid) c c None lt (omega arith)

-- what a list gives each cell
pub named_filled : (n : ℕ) (list : List Given) (xs : List (Option Given)) → xs ≡ table n list → Filled (IsGivenIn list) None n xs
named_filled n list xs e = record { count = length_is n list xs e; each = (λ c lt. ap (λ ys. get_or ys c None) e ∙ table_at n c list None lt) }

-- the heads that cells keep before the first period are those of STRT
pub kept_start : (m : FlowModel) (p : ℕ) (xs : List Bound) → p ≡ 0 → Filled (IsKept m p) no_bound (cell_count m.grid) xs → AreStartHeads m xs
unfolding given_in
kept_start m p xs e h = let k = subst (λ (q : ℕ). Filled (IsKept m q) no_bound (cell_count m.grid) xs) e h in fill_by_all (start_bound m) xs (cell_count m.grid) no_bound k.count k.each
