use Rattle.step_problem.proofs.Common.{◌≡◌, ◌∙◌, ◌^◌, ◌+ℤ◌, ℤ, refl, ap, arith, ints, rules, FitsSigned, IsMagnitudeAtMost, w128, w64, to_z-of_z, ends_in, total, flow_bound, link_flow, fixed_flow}
use Rattle.step_problem.proofs.Common.{river_flow, drain_flow, evap_flow}
use Rattle.step_problem.proofs.balance.balance_at.Goals as goal

both_fit : (a b : ℤ) → IsMagnitudeAtMost a (2 ^ 125) → IsMagnitudeAtMost b (2 ^ 125) → FitsSigned w128 (a +ℤ b)
both_fit a b p q = omega (arith, ints)

pub overflow_add-result : goal.overflow_add-result
overflow_add-result c =
    let fits_6 : FitsSigned w128 c.sum_of-given.result = search rules in
    let fits_7 : FitsSigned w128 c.sum_of-at_bottoms.result = search rules in
    simp to_z-of_z (both_fit _ _ c.sum_of-given.ensures.within c.sum_of-at_bottoms.ensures.within)

joined : (g t a b c d e f : ℤ) → g ≡ a +ℤ b +ℤ c → t ≡ d +ℤ e +ℤ f → g +ℤ t ≡ a +ℤ b +ℤ c +ℤ d +ℤ e +ℤ f
joined g t a b c d e f p q = omega (arith, ints, p, q)

pub returns : goal.returns
returns c = λ h e.
    let fits_own : FitsSigned w64 c.args.own = c.ranges.own in
    let fits_0 : FitsSigned w128 c.sum_branches-flows.result = search rules in
    let fits_1 : FitsSigned w128 c.sum_links-links.result = search rules in
    let fits_2 : FitsSigned w128 c.sum_branches-fixed.result = search rules in
    let fits_3 : FitsSigned w128 c.sum_branches-rivers.result = search rules in
    let fits_4 : FitsSigned w128 c.sum_branches-drains.result = search rules in
    let fits_5 : FitsSigned w128 c.sum_branches-evaps.result = search rules in
    let fits_6 : FitsSigned w128 c.sum_of-given.result = search rules in
    let fits_7 : FitsSigned w128 c.sum_of-at_bottoms.result = search rules in
    let fits_8 : FitsSigned w128 (c.sum_of-given.result +ℤ c.sum_of-at_bottoms.result) = both_fit _ _ c.sum_of-given.ensures.within c.sum_of-at_bottoms.ensures.within in
    let given = simp to_z-of_z at c.sum_of-given.ensures.value in
    let at_bottoms = simp to_z-of_z at c.sum_of-at_bottoms.ensures.value in
    let at_flows : c.deref.result.now ≡ c.args.cell.now.flows = cc (c.deref.ensures.value, c.cell.view_is) in
    let at_links : c.deref-2.result.now ≡ c.args.cell.now.links = cc (c.deref-2.ensures.value, c.cell.view_is) in
    let at_fixed : c.deref-3.result.now ≡ c.args.cell.now.fixed = cc (c.deref-3.ensures.value, c.cell.view_is) in
    let at_rivers : c.deref-4.result.now ≡ c.args.cell.now.rivers = cc (c.deref-4.ensures.value, c.cell.view_is) in
    let at_drains : c.deref-5.result.now ≡ c.args.cell.now.drains = cc (c.deref-5.ensures.value, c.cell.view_is) in
    let at_evaps : c.deref-6.result.now ≡ c.args.cell.now.evaps = cc (c.deref-6.ensures.value, c.cell.view_is) in
    let flows : c.sum_branches-flows.result ≡ total (flow_bound c.args.side) c.args.cell.now.flows = c.sum_branches-flows.ensures.value ∙ ap (total (flow_bound c.args.side)) at_flows in
    let links : c.sum_links-links.result ≡ total (link_flow c.args.side h c.args.own) c.args.cell.now.links =
    (simp to_z-of_z at c.sum_links-links.ensures.value) h (ap (ends_in h) at_links ∙ e) ∙ ap (total (link_flow c.args.side h c.args.own)) at_links in
    let fixed : c.sum_branches-fixed.result ≡ total (fixed_flow c.args.side c.args.own) c.args.cell.now.fixed =
    (simp to_z-of_z at c.sum_branches-fixed.ensures.value) ∙ ap (total (fixed_flow c.args.side c.args.own)) at_fixed in
    let rivers : c.sum_branches-rivers.result ≡ total (river_flow c.args.side c.args.own) c.args.cell.now.rivers =
    (simp to_z-of_z at c.sum_branches-rivers.ensures.value) ∙ ap (total (river_flow c.args.side c.args.own)) at_rivers in
    let drains : c.sum_branches-drains.result ≡ total (drain_flow c.args.side c.args.own) c.args.cell.now.drains =
    (simp to_z-of_z at c.sum_branches-drains.ensures.value) ∙ ap (total (drain_flow c.args.side c.args.own)) at_drains in
    let evaps : c.sum_branches-evaps.result ≡ total (evap_flow c.args.side c.args.own) c.args.cell.now.evaps =
    (simp to_z-of_z at c.sum_branches-evaps.ensures.value) ∙ ap (total (evap_flow c.args.side c.args.own)) at_evaps in
    simp to_z-of_z (joined c.sum_of-given.result c.sum_of-at_bottoms.result c.sum_branches-flows.result c.sum_links-links.result c.sum_branches-fixed.result
    c.sum_branches-rivers.result c.sum_branches-drains.result c.sum_branches-evaps.result given at_bottoms ∙ rw (
      flows,
      links,
      fixed,
      rivers,
      drains,
      evaps,
    ) refl)
