use Rattle.std.proofs.Common.{◌≡◌, arith}
use Rattle.settle_driver.proofs.Phasing.{phased_never, phased_again, phased_settles}
use Rattle.settle_driver.proofs.sweep.sweep_up_to.Goals as goal

pub loop-round-init : goal.loop-round-init
loop-round-init c = record { words = c.requires.words; phased = λ b way. phased_never c.args.p.now b c.recall_conditions.ensures.fits c.args.words.now way }

pub loop-round-preserved : goal.loop-round-preserved
loop-round-preserved c = let s = c.sweep.ensures in let before = c.loop-round.invariant.phased in record {
  words = s.words;
  phased = λ b way. phased_again c.args.p.now b c.recall_conditions.ensures.fits c.loop-round.words c.sweep.new.words c.loop-round._round (before b way) (s.way.on b (before b way).way) s.past;
}

pub returns-then-not-sweep-clause-way : goal.returns-then-not-sweep-clause-way
returns-then-not-sweep-clause-way c = record { on = λ b way. c.sweep.ensures.way.on b (c.loop-round.invariant.phased b way).way }

pub returns-clause-way : goal.returns-clause-way
returns-clause-way c = record { on = λ b way. (c.loop-round.invariant.phased b way).way }

pub returns-clause-reached : goal.returns-clause-reached
returns-clause-reached c =
    let all : c.loop-round._round ≡ c.args.rounds = omega (arith, c.loop-round-test.false, c.loop-round.auto._round-end) in
    record {
      on = λ b barrier way rounds. phased_settles c.args.p.now b c.recall_conditions.ensures.fits c.loop-round.words c.loop-round._round barrier
          (c.loop-round.invariant.phased b way) (rw all rounds);
    }
