use Rattle.problem_builder.proofs.TimesOf.{time_of}
use Rattle.problem_builder.proofs.builder.build_over.Goals as goal

pub problem_of-requires : goal.problem_of-requires
problem_of-requires c =
    let m = c.args.model.now in
    record {
      model = c.requires.model;
      time = time_of m c.args.at c.requires.model c.requires.time;
      size = c.requires.model.grid.size;
      digits = c.requires.digits;
      tables = c.requires.tables;
      pairs = c.requires.pairs;
      branches = c.requires.branches;
      period = c.requires.period;
      storage = c.requires.storage;
      step = c.requires.step;
      old = c.requires.heads;
    }
