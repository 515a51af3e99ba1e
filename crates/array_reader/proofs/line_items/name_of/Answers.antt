use Rattle.array_reader.proofs.NumberLemmas.{name_taken, name_refused}
use Rattle.array_reader.proofs.line_items.name_of.Goals as goal

pub returns-in-Some-clause-name : goal.returns-in-Some-clause-name
returns-in-Some-clause-name c = name_taken c.args.file.now c.args.line c.args.word.now c.in-Some.name.now c.in-Some.ensures

pub returns-in-None-clause-name : goal.returns-in-None-clause-name
returns-in-None-clause-name c = name_refused c.args.file.now c.args.line c.args.word.now c.text_fault.result c.in-None.ensures c.text_fault.ensures
