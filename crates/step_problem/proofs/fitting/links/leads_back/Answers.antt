use Rattle.step_problem.proofs.Common.{◌≡◌, ◌∙◌, List, IsTrue, Contains, ap, subst, Link, entries_at, no_entries}
use Rattle.step_problem.proofs.fitting.links.leads_back.Goals as goal

pub returns-in-Some : goal.returns-in-Some
returns-in-Some c =
    let links : c.deref.result.now ≡ (entries_at c.args.cells.now c.args.x.now.cell).links = c.deref.ensures.value ∙ ap (λ k. k.links) (c.end.view_is ∙ c.in-Some.ensures.lookup.3.1 no_entries) in
    let wanted : Link = record { cell = c.args.c; lo = c.args.x.now.lo; hi = c.args.x.now.hi } in
    subst (λ (ls : List Link). (IsTrue c.has_link.result → Contains ls wanted) × (Contains ls wanted → IsTrue c.has_link.result)) links c.has_link.ensures
