use Rattle.settle_driver.proofs.thread_settler.ClosureSettlerSettler.settle.Goals as goal

pub returns-clause-settles : goal.returns-clause-settles
returns-clause-settles g c = (c.requires.ready c.args.alloc c.args.p c.args.b c.requires.barrier).1 c.call.result c.call.ensures
