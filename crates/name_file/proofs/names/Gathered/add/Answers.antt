use Rattle.name_file.proofs.Common.{sym, AreFiles}
use Rattle.name_file.proofs.NameLemmas.{one_more, goes_last}
use Rattle.name_file.proofs.names.Gathered.add.Goals as goal

pub returns : goal.returns
returns c = goes_last c.args.added c.self.inside.files c.args.name c.args.self.now _ (sym c.self.view_is) c.requires.new c.in_ok-insert.ensures.entries

pub invariant_of-self-2 : goal.invariant_of-self-2
invariant_of-self-2 c =
    let files : AreFiles c.args.self.now = rw (sym c.self.view_is) c.self.invariant in
    one_more c.args.added c.args.name c.args.self.now c.insert.new.self.entries files c.requires.new c.requires.good
    (goes_last c.args.added c.self.inside.files c.args.name c.args.self.now _ (sym c.self.view_is) c.requires.new c.in_ok-insert.ensures.entries)
