use Rattle.water_storage.proofs.Common.{subst, sym, IsSmallPair, time_of, Option, Factors, AreStepTables}
use Rattle.water_storage.proofs.Flows.{small_pairs}
use Rattle.water_storage.proofs.stored.stored_flow.Goals as goal

pub pairs_of-pairs-requires-clause-time : goal.pairs_of-pairs-requires-clause-time
pairs_of-pairs-requires-clause-time c = time_of c.args.model.now c.args.at c.requires.model c.requires.time

pub pairs_of-pairs-requires-clause-transient : goal.pairs_of-pairs-requires-clause-transient
pairs_of-pairs-requires-clause-transient c =
    let P : Option Factors → Type 0 = λ o. AreStepTables c.args.model.now c.args.at (record c.args.step.now { factors = o }) in
    (subst P c.in-Some.is c.requires.step).factors.transient

pub pairs_of-pairs-requires-clause-grown : goal.pairs_of-pairs-requires-clause-grown
pairs_of-pairs-requires-clause-grown c =
    let P : Option Factors → Type 0 = λ o. AreStepTables c.args.model.now c.args.at (record c.args.step.now { factors = o }) in
    (subst P c.in-Some.is c.requires.step).factors.grown

pub pairs_of-pairs-requires-clause-usable : goal.pairs_of-pairs-requires-clause-usable
pairs_of-pairs-requires-clause-usable c =
    let P : Option Factors → Type 0 = λ o. AreStepTables c.args.model.now c.args.at (record c.args.step.now { factors = o }) in
    (subst P c.in-Some.is c.requires.step).factors.usable

pub moving_flow-requires-clause-drained : goal.moving_flow-requires-clause-drained
moving_flow-requires-clause-drained c =
    let m = c.args.model.now in
    let P : Option Factors → Type 0 = λ o. AreStepTables m c.args.at (record c.args.step.now { factors = o }) in
    let factors = (subst P c.in-Some.is c.requires.step).factors in
    subst IsSmallPair (sym c.pairs_of-pairs.ensures.drained)
    (small_pairs m c.args.layers.now c.args.tables.now.digits c.args.at c.args.cell c.requires.model c.requires.yields (time_of m c.args.at c.requires.model c.requires.time)
    (record { within = c.requires.cell; active = c.requires.active }) c.requires.pairs factors.transient).0

pub moving_flow-requires-clause-compressed : goal.moving_flow-requires-clause-compressed
moving_flow-requires-clause-compressed c =
    let m = c.args.model.now in
    let P : Option Factors → Type 0 = λ o. AreStepTables m c.args.at (record c.args.step.now { factors = o }) in
    let factors = (subst P c.in-Some.is c.requires.step).factors in
    subst IsSmallPair (sym c.pairs_of-pairs.ensures.compressed)
    (small_pairs m c.args.layers.now c.args.tables.now.digits c.args.at c.args.cell c.requires.model c.requires.yields (time_of m c.args.at c.requires.model c.requires.time)
    (record { within = c.requires.cell; active = c.requires.active }) c.requires.pairs factors.transient).1
