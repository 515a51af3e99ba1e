use Rattle.batch_book.proofs.Common.{◌≡◌, rules, ℕ, ◌<◌, List, length, Option, ap, sym, ◌∙◌, subst, arith, HasEnd, AreJobEnds, those_there}
use Rattle.batch_book.proofs.Placed.{none_left, are_ends}
use Rattle.batch_book.proofs.book.Book.into_ends.Goals as goal

pub returns : goal.returns
returns g c =
    let E = g.row.J-End.Denot in
    let J = g.row.J.Denot in
    let is_end = g.J.Jobs.is_end in
    let number = g.J.Jobs.number in
    let ends : List E = c.loop-place.ends.items in
    let places : List (Option E) = c.self.inside.ends.items in
    let jobs : J = c.self.inside.jobs.now in
    let rest = c.loop-place.place-iterator.rest in
    let empty : length rest.items ≡ 0 = omega (arith, rest.ok, c.in-None.ensures.steps.0) in
    let gives : c.into_iter-place-iterator.result.rest.items ≡ places = search rules in
    let all : ends ≡ those_there places = sym (none_left ends rest.items empty) ∙ (c.loop-place.invariant ∙ ap those_there gives) in
    let there : (job : ℕ) → job < number jobs → HasEnd places job = subst (λ (b : J × List (Option E)). (job : ℕ) → job < number b.0 → HasEnd b.1 job) (sym c.self.view_is) c.requires in
    subst (λ (b : J × List (Option E)). AreJobEnds (is_end b.0) (number b.0) ends) c.self.view_is
    (subst (AreJobEnds (is_end jobs) (number jobs)) (sym all) (are_ends (is_end jobs) (number jobs) places c.self.invariant.whole c.self.invariant.own there))
