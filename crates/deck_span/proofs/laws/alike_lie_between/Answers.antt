use Rattle.deck_span.proofs.{AlikeBetween.alike_between, SameFrames.between_alike}
use Rattle.deck_span.proofs.laws.alike_lie_between.Goals as goal

pub returns : goal.returns
returns c = record { lie = alike_between; alike = between_alike }
