use Rattle.water_storage.proofs.pairs.pairs_of.Goals as goal

pub returns-clause-drained : goal.returns-clause-drained
returns-clause-drained c = c.yield_at.ensures c.args.at.step c.requires.grown

pub returns-clause-compressed : goal.returns-clause-compressed
returns-clause-compressed c = c.storage_at.ensures c.args.at.step c.requires.grown
