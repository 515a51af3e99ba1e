use Rattle.settle_driver.proofs.plain.PlainSettler.settle_from.Goals as goal

pub returns : goal.returns
returns c =
    let b = c.args.b.now in
    let after = c.words_after_sweeps-words.ensures in
    c.words_or_open.ensures.settles b c.args.self.now.rounds (after.way.on b c.requires.way) (after.reached.on b c.requires.barrier c.requires.way)
