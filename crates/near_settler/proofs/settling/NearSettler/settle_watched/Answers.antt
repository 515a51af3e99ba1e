use Rattle.std.proofs.Common.{◌≡◌, ℕ, subst, sym, true}
use Rattle.settle_driver.specs.{AddsPhases}
use Rattle.settle_driver.proofs.Viewing.{no_phases}
use Rattle.near_settler.proofs.settling.NearSettler.settle_watched.Goals as goal

pub returns-then-has_guessed-clause-viewed : goal.returns-then-has_guessed-clause-viewed
returns-then-has_guessed-clause-viewed g c =
    let none : c.args.views ≡ 0 = c.if-views-eq0.true in
    let now = c.args.viewer.now in
    c.settle_onward.ensures.viewed now (subst (λ (n : ℕ). AddsPhases g.V.Viewer.viewed g.V.Viewer.stopped c.args.p.now c.args.b.now n true now now) (sym none) (no_phases _ _ _ _ true now))
