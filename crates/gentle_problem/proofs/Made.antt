-- The problem over the pairs of the tables is the one over the pairs at the heads.
use Rattle.gentle_problem.proofs.Common.{◌≡◌, ℕ, ◌<◌, ◌≤◌, ◌∙◌, List, sym, subst, refl, arith, Bound, FlowModel, TimeStep, Axis, IsModel, cell_count, Pair, AreBranches, HasPairs, IsFaultOver}
use Rattle.gentle_problem.proofs.Common.{IsProblemOver, branches_over, pair_at, problem_over, cells_over, time_of, ConvertibleLayers, AreOrdered, ArePairsAt, HasPairAt, ProblemsFit, branches_at}
use Rattle.std.proofs.lemmas.Option.{none-some}
use Rattle.step_problem.specs.{declared.refusal.BoundFault.BoundFault, declared.refusal.BoundFault.TheVariants.NoBound as Refused, declared.refusal.BoundFault.TheVariants.Memory, Entries.Entries}
use Rattle.model_types.specs.declared.face.Axis.TheVariants.{Row, Column, Vertical}
use Rattle.model_types.proofs.Leads.{first_within}
use Rattle.problem_builder.specs.declared.tables.FacePairs.{FacePairs}
use Rattle.problem_builder.proofs.{CellFaces.face_active, CellFaces.first_after, Problems.is_problem_over, SameBranches.HasSamePairs, SameBranches.same_problem_over}
use Rattle.gentle_problem.proofs.Ordered.{pair_in_order}

module _ (m : FlowModel) (w : ConvertibleLayers) (heads : List Bound) (s : ℕ) (at : TimeStep) (valid : IsModel m) (ordered : AreOrdered m heads) where
  pub heads_have_branches : AreBranches m at (branches_at m w heads s)
  heads_have_branches = record {
    ordered = (λ axis a after k. pair_in_order m heads ordered w s valid axis a k);
    stored = (λ x e. absurd (none-some x e));
  }

  module _ (t : FacePairs) (pairs : ArePairsAt m w heads s t) where
    in_table : (axis : Axis) (a : ℕ) → a < cell_count m.grid → HasPairAt m w heads s axis a (pair_at t axis a)
    in_table Row a lt = pairs.row.each a lt
    in_table Column a lt = pairs.column.each a lt
    in_table Vertical a lt = pairs.vertical.each a lt

    pub have_pairs : HasPairs m.grid t
    have_pairs = record { row = pairs.row.count; column = pairs.column.count; vertical = pairs.vertical.count }

    pub tables_have_branches : AreBranches m at (branches_over t)
    tables_have_branches = record {
      ordered = (λ axis a after k.
          subst (λ (x : Pair). x.lo ≤ x.hi) (sym (in_table axis a (omega (arith, k.within)) after k.first k.second)) (pair_in_order m heads ordered w s valid axis a k));
      stored = (λ x e. absurd (none-some x e));
    }

    same_pairs : HasSamePairs m (branches_over t) (branches_at m w heads s)
    same_pairs c f lt g here there =
        let (x, y) = face_active m c f g here there in
        in_table f.axis f.first (first_within m.grid c f lt g) (first_after m.grid c f valid.grid.size g) x y

    same_problem : problem_over m s at heads (branches_over t) ≡ problem_over m s at heads (branches_at m w heads s)
    same_problem = same_problem_over m s at heads (branches_over t) (branches_at m w heads s) tables_have_branches same_pairs refl

    pub problem_is : (p : List Entries) → IsProblemOver m s at heads (branches_over t) p → IsProblemOver m s at heads (branches_at m w heads s) p
    problem_is p e = sym same_problem ∙ e

    pub fault_is : (fault : BoundFault) → IsFaultOver m s at heads (branches_over t) fault → IsFaultOver m s at heads (branches_at m w heads s) fault
    fault_is (Refused fault) e = sym same_problem ∙ e
    fault_is Memory e = tt

pub problems_fit : ProblemsFit
problems_fit m w s at heads p valid time grid ordered e =
    is_problem_over m s at heads (branches_at m w heads s) (heads_have_branches m w heads s at valid ordered) valid (time_of m at valid time) grid p
    (cells_over m s at heads (branches_at m w heads s) p e)
