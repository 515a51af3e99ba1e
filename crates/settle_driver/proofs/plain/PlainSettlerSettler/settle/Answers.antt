use Rattle.settle_driver.proofs.plain.PlainSettlerSettler.settle.Goals as goal

pub settle_from-requires-clause-way : goal.settle_from-requires-clause-way
settle_from-requires-clause-way c = c.words_after_list.ensures.way.on c.args.b.now c.in-Ok.ensures.way
