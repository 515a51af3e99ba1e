use Rattle.engine.proofs.Written.{one_listing_is_certified, one_span_is_certified}
use Rattle.engine.proofs.laws.one_listing_is_certified.Goals as goal

pub returns-clause-one : goal.returns-clause-one
returns-clause-one c = λ asked files bytes h checks others. one_listing_is_certified c.written_is_certified.ensures asked files bytes checks others h

pub returns-clause-two : goal.returns-clause-two
returns-clause-two c = λ asked to files bytes h checks others. one_span_is_certified c.written_is_certified.ensures asked files bytes checks others to h
