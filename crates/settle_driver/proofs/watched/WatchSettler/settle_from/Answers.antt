use Rattle.settle_driver.proofs.Common.{true, false, ◌≡◌, ℕ, ◌+◌, ◌<◌, arith, sym, ◌∙◌, subst, ap, List, MatchOption, not, Bound, IsFirstOpen, AreWords, AreBothSettled}
use Rattle.settle_driver.proofs.Phasing.{where_none, ArePhased, phased_never, phased_again, phased_settles, settled_on_the_way}
use Rattle.settle_driver.proofs.Viewing.{some_cell, no_turns, one_phase_more, phases_made}
use Rattle.settle_driver.proofs.watched.WatchSettler.settle_from.Goals as goal

pub first_open-open-requires : goal.first_open-open-requires
first_open-open-requires g c =
    let way = c.in-Ok.ensures.way in
    record { words = subst (AreWords c.args.p.now) (sym c.as_slice.ensures.value) (record { whole = way.whole; low = way.low.heads; high = way.high.heads }) }

pub returns-then-is_none-clause-settles : goal.returns-then-is_none-clause-settles
returns-then-is_none-clause-settles g c =
    let p = c.args.p.now in
    let next : List Bound = c.in-Ok.next.items in
    let tested = subst (λ (x : List Bound). MatchOption c.first_open-open.result (AreBothSettled p x) (λ o. IsFirstOpen p x o.0 o.1)) c.as_slice.ensures.value c.first_open-open.ensures in
    settled_on_the_way p c.args.b.now c.recall_conditions.ensures.fits next c.in-Ok.ensures.way (where_none c.first_open-open.result _ _ (c.is_none.ensures ∙ ap not c.if-is_none.true) tested)

pub returns-then-is_none-clause-viewed : goal.returns-then-is_none-clause-viewed
returns-then-is_none-clause-viewed g c =
    let k = c.loop-round._round in
    phases_made _ _ _ _ (k + 1) _ true _ _ (omega arith) (some_cell _ _ c.is_empty.ensures c.if-is_empty.false)
    (one_phase_more _ _ _ _ k _ true _ _ _ c.loop-round.invariant.views c.in-Ok.ensures.viewed)

pub loop-round-init : goal.loop-round-init
loop-round-init g c = record {
  phased = phased_never c.args.p.now c.args.b.now c.recall_conditions.ensures.fits c.args.words.items c.requires.way;
  tested = λ none. absurd (omega (arith, none));
  views = no_turns _ _ _ _ c.args.self.now.views c.args.viewer.now;
}

pub loop-round-preserved : goal.loop-round-preserved
loop-round-preserved g c =
    let p = c.args.p.now in
    let next : List Bound = c.in-Ok.next.items in record {
      phased = phased_again p c.args.b.now c.recall_conditions.ensures.fits c.loop-round.words.items next c.loop-round._round c.loop-round.invariant.phased c.in-Ok.ensures.way c.in-Ok.ensures.past;
      tested = λ some. subst (λ (x : List Bound). MatchOption c.first_open-open.result (AreBothSettled p x) (λ o. IsFirstOpen p x o.0 o.1)) c.as_slice.ensures.value c.first_open-open.ensures;
      views = one_phase_more _ _ _ _ c.loop-round._round _ true _ _ _ c.loop-round.invariant.views c.in-Ok.ensures.viewed;
    }

pub returns-in-Err-clause-viewed : goal.returns-in-Err-clause-viewed
returns-in-Err-clause-viewed g c =
    let k = c.loop-round._round in
    phases_made _ _ _ _ (k + 1) _ false _ _ (omega arith) (some_cell _ _ c.is_empty.ensures c.if-is_empty.false)
    (one_phase_more _ _ _ _ k _ false _ _ _ c.loop-round.invariant.views c.in-Err.ensures.viewed)

pub words_or_open-requires : goal.words_or_open-requires
words_or_open-requires g c = c.loop-round.invariant.tested (omega (arith, c.loop-round-test.false, c.loop-round.auto._round-end, c.args.self.now.plan_fits.some_round))

pub returns-clause-settles : goal.returns-clause-settles
returns-clause-settles g c =
    let p = c.args.p.now in
    let words : List Bound = c.loop-round.words.items in
    let rounds = c.args.self.now.plan.rounds in
    let all : c.loop-round._round ≡ rounds = omega (arith, c.loop-round-test.false, c.loop-round.auto._round-end) in
    let phased = subst (λ (k : ℕ). ArePhased p c.args.b.now k words) all c.loop-round.invariant.phased in
    c.words_or_open.ensures.settles c.args.b.now rounds phased.way (phased_settles p c.args.b.now c.recall_conditions.ensures.fits words rounds c.requires.barrier phased)

pub returns-clause-viewed : goal.returns-clause-viewed
returns-clause-viewed g c =
    let some : 0 < c.loop-round._round = omega (arith, c.loop-round-test.false, c.loop-round.auto._round-end, c.args.self.now.plan_fits.some_round) in
    rw c.words_or_open.ensures.memory (phases_made _ _ _ _ c.loop-round._round _ true _ _ some (some_cell _ _ c.is_empty.ensures c.if-is_empty.false) c.loop-round.invariant.views)
