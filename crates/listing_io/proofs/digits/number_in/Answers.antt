use Rattle.std.proofs.Common.{sym, refl, ◌∙◌}
use Rattle.listing_io.proofs.NumberLemmas.{one_more, past, at_end}
use Rattle.listing_io.proofs.digits.number_in.Goals as goal

pub returns-in-None : goal.returns-in-None
returns-in-None c = past c.args.word.now c.loop-byte.byte-index c.loop-byte.number _ _ _ c.loop-byte-test.true refl c.in-None.ensures c.loop-byte.invariant.value

pub loop-byte-preserved : goal.loop-byte-preserved
loop-byte-preserved c = record {
  value = sym (one_more c.args.word.now c.loop-byte.byte-index c.loop-byte.number _ _ c.loop-byte-test.true refl c.in-Some.ensures.0) ∙ c.loop-byte.invariant.value;
  below = c.in-Some.ensures.1;
}

pub returns : goal.returns
returns c = (at_end c.args.word.now c.loop-byte.byte-index c.loop-byte.number _ c.loop-byte-test.false c.loop-byte.invariant.value, c.loop-byte.invariant.below)
