use Rattle.problem_builder.proofs.Common.{refl, ◌∙◌, [], sym, subst, AreAppended, AreLocalBounds, LocalBounds}
use Rattle.problem_builder.proofs.Appended.{appended_both, renamed}
use Rattle.problem_builder.proofs.local.EntriesByCell.of_period.Goals as goal

pub with-requires-clause-entries : goal.with-requires-clause-entries
with-requires-clause-entries c =
    let p = c.args.period.now.stresses in
    renamed c.args.count _ p.wells _ (c.in_ok-none.ensures.len) c.as_slice.ensures c.requires.entries.wells

pub with-requires-2-clause-entries : goal.with-requires-2-clause-entries
with-requires-2-clause-entries c =
    let p = c.args.period.now.stresses in
    renamed c.args.count _ p.rivers _ (c.in_ok-wells.ensures.len ∙ c.in_ok-none.ensures.len) c.as_slice-2.ensures c.requires.entries.rivers

pub with-requires-3-clause-entries : goal.with-requires-3-clause-entries
with-requires-3-clause-entries c =
    let p = c.args.period.now.stresses in
    renamed c.args.count _ p.drains _ (c.in_ok-rivers.ensures.len ∙ c.in_ok-wells.ensures.len ∙ c.in_ok-none.ensures.len) c.as_slice-3.ensures c.requires.entries.drains

pub with-requires-4-clause-entries : goal.with-requires-4-clause-entries
with-requires-4-clause-entries c =
    let p = c.args.period.now.stresses in
    renamed c.args.count _ p.generals _ (c.in_ok-drains.ensures.len ∙ c.in_ok-rivers.ensures.len ∙ c.in_ok-wells.ensures.len ∙ c.in_ok-none.ensures.len)
    c.as_slice-4.ensures c.requires.entries.generals

pub returns-clause-are : goal.returns-clause-are
returns-clause-are c = λ d.
    let p = c.args.period.now.stresses in
    let s = c.args.s in
    let none = c.in_ok-none.none in
    let wells = c.in_ok-wells.wells in
    let rivers = c.in_ok-rivers.rivers in
    let drains = c.in_ok-drains.drains in
    let all = c.in_ok-all.all in
    let first = subst (AreAppended s none wells) c.as_slice.ensures c.in_ok-wells.ensures.appended in
    let second = subst (AreAppended s wells rivers) c.as_slice-2.ensures c.in_ok-rivers.ensures.appended in
    let third = subst (AreAppended s rivers drains) c.as_slice-3.ensures c.in_ok-drains.ensures.appended in
    let fourth = subst (AreAppended s drains all) c.as_slice-4.ensures c.in_ok-all.ensures.appended in
    let whole = appended_both s none wells all p.wells _ first (appended_both s wells rivers all p.rivers _ second (appended_both s rivers drains all p.drains p.generals third fourth)) in
    whole d [] (subst (λ (x : LocalBounds). AreLocalBounds s d x []) (sym (c.in_ok-none.ensures.empty d)) refl)
