use Rattle.std.proofs.Common.{ℕ, subst}
use Rattle.settle_driver.specs.{AddsPhases, had_memory}
use Rattle.settle_driver.proofs.Viewing.{phases_add_up}
use Rattle.near_settler.proofs.settling.NearSettler.settle_onward.Goals as goal

pub returns-in-Some-clause-viewed : goal.returns-in-Some-clause-viewed
returns-in-Some-clause-viewed g c =
    let made = had_memory c.settle_from.result in
    let next = subst (λ (n : ℕ). AddsPhases g.V.Viewer.viewed g.V.Viewer.stopped c.args.p.now c.args.b.now n made c.args.viewer.now c.settle_from.new.viewer)
    c.new-settler.ensures.1 c.settle_from.ensures.viewed in
    λ start first. phases_add_up _ _ _ _ _ _ _ _ _ first next

pub returns-in-Err-Unfinished-clause-viewed : goal.returns-in-Err-Unfinished-clause-viewed
returns-in-Err-Unfinished-clause-viewed g c =
    let made = had_memory c.settle-in-None.result in
    let next = subst (λ (n : ℕ). AddsPhases g.V.Viewer.viewed g.V.Viewer.stopped c.args.p.now c.args.b.now n made c.args.viewer.now c.settle-in-None.new.viewer)
    c.new-settler.ensures.1 c.settle-in-None.ensures.viewed in
    λ start first. phases_add_up _ _ _ _ _ _ _ _ _ first next
