use Rattle.barrier_vector.proofs.Common.{rules, ap, ◌∙◌, Entries, FitsSigned, w128, to_z-of_z, total, flow_bound, river_flow, evap_flow, Low}
use Rattle.barrier_vector.proofs.Outlining.{deep_sums}
use Rattle.barrier_vector.proofs.flows.deep_flow.Goals as goal

pub returns-clause-value : goal.returns-clause-value
returns-clause-value c =
    let fits_f : FitsSigned w128 c.sum_branches-flows.result = search rules in
    let fits_r : FitsSigned w128 c.sum_branches-rivers.result = search rules in
    let fits_e : FitsSigned w128 c.sum_branches-evaps.result = search rules in
    let fits_j : FitsSigned w128 c.sum_of.result = search rules in
    simp to_z-of_z ((simp to_z-of_z at c.sum_of.ensures.value) ∙ deep_sums c.args.cell.now c.requires _ _ _
    (c.sum_branches-flows.ensures.value ∙ ap (total (flow_bound Low)) (c.deref.ensures.value ∙ ap (λ (e : Entries). e.flows) c.cell.view_is))
    (c.sum_branches-rivers.ensures.value ∙ ap (total (river_flow Low _)) (c.deref-2.ensures.value ∙ ap (λ (e : Entries). e.rivers) c.cell.view_is))
    (c.sum_branches-evaps.ensures.value ∙ ap (total (evap_flow Low _)) (c.deref-3.ensures.value ∙ ap (λ (e : Entries). e.evaps) c.cell.view_is)))
