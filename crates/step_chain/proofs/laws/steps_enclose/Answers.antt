use Rattle.step_chain.proofs.OneStep.{steps_enclose}
use Rattle.step_chain.proofs.laws.steps_enclose.Goals as goal

pub returns : goal.returns
returns c = steps_enclose c.problems_fit.ensures.fit c.problems_fit.ensures.enclose c.constant_pairs.ensures.encloses c.certificate_encloses.ensures
