use Rattle.water_storage.proofs.Common.{subst, Option, Factors, time_of, AreStepTables}
use Rattle.water_storage.proofs.pairs.storage_fits.Goals as goal

pub pairs_of-requires-clause-time : goal.pairs_of-requires-clause-time
pairs_of-requires-clause-time c = time_of c.args.model.now c.args.at c.requires.model c.requires.time

pub pairs_of-requires-clause-transient : goal.pairs_of-requires-clause-transient
pairs_of-requires-clause-transient c =
    let P : Option Factors → Type 0 = λ o. AreStepTables c.args.model.now c.args.at (record c.args.step.now { factors = o }) in
    (subst P c.in-Some.is c.requires.step).factors.transient

pub pairs_of-requires-clause-grown : goal.pairs_of-requires-clause-grown
pairs_of-requires-clause-grown c =
    let P : Option Factors → Type 0 = λ o. AreStepTables c.args.model.now c.args.at (record c.args.step.now { factors = o }) in
    (subst P c.in-Some.is c.requires.step).factors.grown

pub pairs_of-requires-clause-usable : goal.pairs_of-requires-clause-usable
pairs_of-requires-clause-usable c =
    let P : Option Factors → Type 0 = λ o. AreStepTables c.args.model.now c.args.at (record c.args.step.now { factors = o }) in
    (subst P c.in-Some.is c.requires.step).factors.usable
