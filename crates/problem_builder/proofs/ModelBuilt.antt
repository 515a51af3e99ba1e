-- The problem of a confined model, from that over the pairs of a run's tables.
use Rattle.problem_builder.proofs.Common.{◌≡◌, ◌≤◌, arith, ℕ, List, sym, ◌∙◌, subst, refl, Bound, Entries, Pair, FlowModel, TimeStep, IsModel, IsTimeOf, AreGridHeads, AreTables, IsBuildFault}
use Rattle.problem_builder.proofs.Common.{IsFaultOver, IsProblemOver, AreBranches, Branches, model_branches, pair_at, problem_of, problem_over, storage_at, IsBuilt, Tables, BoundFault, Memory}
use Rattle.step_problem.specs.declared.refusal.BoundFault.TheVariants.{NoBound as Refused}
use Rattle.problem_builder.proofs.{CellEnclosed.ids_are, CellEnclosed.step_encloses, CellFits.model_has_branches, CellFaces.face_in, CellFaces.pairs_are, Members.named_active, Members.old_heads}
use Rattle.problem_builder.proofs.{SameBranches.HasSamePairs, SameBranches.same_problem_over, Steps.cells_of}

-- the branches over the pairs of the tables
abbrev pub table_branches : FlowModel → TimeStep → Tables → Branches
table_branches m at t = record { pair = pair_at t.pairs; stored = storage_at m at.period }

module _ (m : FlowModel) (s : ℕ) (at : TimeStep) (t : Tables) (valid : IsModel m) (tables : AreTables m s t) where
  pub tables_have_branches : AreBranches m at (table_branches m at t)
  tables_have_branches = record {
    ordered = (λ axis a after k.
        subst (λ (x : Pair). x.lo ≤ x.hi) (sym (face_in m s t tables axis a (omega (arith, k.within)) after k.first k.second)) ((model_has_branches m s at valid).ordered axis a after k));
    stored = (λ x e. e);
  }

  same_pairs : HasSamePairs m (table_branches m at t) (model_branches m s at)
  same_pairs c f lt g here there = pairs_are m s t valid.grid.size tables c f lt g here there

  module _ (old : List Bound) where
    table_problem : problem_over m s at old (table_branches m at t) ≡ problem_of m s at old
    unfolding problem_of
    table_problem = same_problem_over m s at old (table_branches m at t) (model_branches m s at) tables_have_branches same_pairs refl

    pub built : IsTimeOf m at → AreGridHeads m old → (p : List Entries) → IsProblemOver m s at old (table_branches m at t) p → IsBuilt m s at old p
    built time grid p e =
        let is = sym table_problem ∙ e in
        let are = cells_of m s at old p is in
        record {
          problem = is;
          cells = ids_are m s at old p are;
          named = named_active m s at old (model_branches m s at) (model_has_branches m s at valid) valid.grid.size p are.each;
          encloses = λ before olds. step_encloses m s at old p before valid time olds are;
          stored = old_heads m s at old p are.each;
        }

    pub refused : (fault : BoundFault) → IsFaultOver m s at old (table_branches m at t) fault → IsBuildFault m s at old fault
    refused (Refused fault) e = sym table_problem ∙ e
    refused Memory e = tt
