use Rattle.problem_hull.proofs.Common.{◌∙◌, ap, sym, Entries}
use Rattle.problem_hull.proofs.Hulls.{cell_hulled}
use Rattle.problem_hull.proofs.problem.cell_hull.Goals as goal

pub returns-clause-hull : goal.returns-clause-hull
returns-clause-hull c =
    let first = ap (λ (x : Entries). x.id) c.a.view_is in
    let second = ap (λ (x : Entries). x.id) c.b.view_is in
    let flows = rw (c.deref.ensures.value ∙ ap (λ (x : Entries). x.flows) c.a.view_is, c.deref-2.ensures.value ∙ ap (λ (x : Entries). x.flows) c.b.view_is) at c.in_ok-flows.ensures.hulls in
    let links = rw (c.deref-3.ensures.value ∙ ap (λ (x : Entries). x.links) c.a.view_is, c.deref-4.ensures.value ∙ ap (λ (x : Entries). x.links) c.b.view_is) at c.in_ok-links.ensures.hulls in
    let fixed = rw (c.deref-5.ensures.value ∙ ap (λ (x : Entries). x.fixed) c.a.view_is, c.deref-6.ensures.value ∙ ap (λ (x : Entries). x.fixed) c.b.view_is) at c.in_ok-fixed.ensures.hulls in
    let rivers = rw (c.deref-7.ensures.value ∙ ap (λ (x : Entries). x.rivers) c.a.view_is, c.deref-8.ensures.value ∙ ap (λ (x : Entries). x.rivers) c.b.view_is) at c.in_ok-rivers.ensures.hulls in
    let drains = rw (c.deref-9.ensures.value ∙ ap (λ (x : Entries). x.drains) c.a.view_is, c.deref-10.ensures.value ∙ ap (λ (x : Entries). x.drains) c.b.view_is) at c.in_ok-drains.ensures.hulls in
    let evaps = rw (c.deref-11.ensures.value ∙ ap (λ (x : Entries). x.evaps) c.a.view_is, c.deref-12.ensures.value ∙ ap (λ (x : Entries). x.evaps) c.b.view_is) at c.in_ok-evaps.ensures.hulls in
    cell_hulled c.args.a.now c.args.b.now _ (sym second ∙ sym c.if-a-b.false ∙ first) first flows links fixed rivers drains evaps
