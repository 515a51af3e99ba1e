use Rattle.deck_problems.proofs.Common.{List, subst, Bound, AreHullBounds}
use Rattle.deck_problems.proofs.Starting.{starts_hulled}
use Rattle.deck_problems.proofs.start.start_heads_for.Goals as goal

pub returns-clause-encloses : goal.returns-clause-encloses
returns-clause-encloses c =
    let rs = c.hull_bounds.result in
    let xs = c.in_ok-start_heads.field-0.items in
    let ys = c.in_ok-second.second.items in
    let hulls = subst (λ (l : List Bound). AreHullBounds l ys rs) c.new-first.ensures (subst (λ (l : List Bound). AreHullBounds c.new-first.result l rs) c.deref.ensures.value c.hull_bounds.ensures) in
    c.start_heads.ensures.enclose c.args.decks.now rs c.requires
    (starts_hulled c.args.decks.now c.in-Some.model c.in-Some.is xs ys rs c.in_ok-start_heads.ensures.bounds c.in_ok-second.ensures.bounds hulls)

pub returns-clause-heads : goal.returns-clause-heads
returns-clause-heads c =
    let rs = c.hull_bounds.result in
    let xs = c.in_ok-start_heads.field-0.items in
    let ys = c.in_ok-second.second.items in
    let hulls = subst (λ (l : List Bound). AreHullBounds l ys rs) c.new-first.ensures (subst (λ (l : List Bound). AreHullBounds c.new-first.result l rs) c.deref.ensures.value c.hull_bounds.ensures) in
    c.start_heads.ensures.fit c.args.decks.now rs c.requires
    (starts_hulled c.args.decks.now c.in-Some.model c.in-Some.is xs ys rs c.in_ok-start_heads.ensures.bounds c.in_ok-second.ensures.bounds hulls)
