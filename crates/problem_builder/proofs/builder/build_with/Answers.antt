use Rattle.problem_builder.proofs.Common.{IfErr-weaker, IfOk-weaker, IsBuildFault, IsFaultOver, IsProblemOver, IsBuilt}
use Rattle.problem_builder.proofs.{CellFaces.tables_have_pairs, ModelBuilt.built, ModelBuilt.refused, ModelBuilt.table_branches, ModelBuilt.tables_have_branches, TimesOf.time_of}
use Rattle.problem_builder.proofs.builder.build_with.Goals as goal

pub problem_of-requires : goal.problem_of-requires
problem_of-requires c =
    let m = c.args.model.now in
    let t = c.args.tables.now in
    let time = time_of m c.args.at c.requires.model c.requires.time in
    record {
      model = c.requires.model;
      time = time;
      size = c.requires.model.grid.size;
      digits = c.requires.digits;
      tables = c.requires.tables;
      pairs = tables_have_pairs m t.digits t c.requires.tables;
      branches = tables_have_branches m t.digits c.args.at t c.requires.model c.requires.tables;
      period = c.requires.period;
      storage = c.requires.storage;
      step = c.requires.step;
      old = c.requires.old;
    }

pub returns-clause-built : goal.returns-clause-built
returns-clause-built c =
    let m = c.args.model.now in
    let t = c.args.tables.now in
    let s = t.digits in
    IfOk-weaker c.problem_of.result (IsProblemOver m s c.args.at c.args.old.now (table_branches m c.args.at t)) (IsBuilt m s c.args.at c.args.old.now)
    (built m s c.args.at t c.requires.model c.requires.tables c.args.old.now (time_of m c.args.at c.requires.model c.requires.time) c.requires.old)
    c.problem_of.ensures.problem

pub returns-clause-refusal : goal.returns-clause-refusal
returns-clause-refusal c =
    let m = c.args.model.now in
    let t = c.args.tables.now in
    let s = t.digits in
    IfErr-weaker c.problem_of.result (IsFaultOver m s c.args.at c.args.old.now (table_branches m c.args.at t)) (IsBuildFault m s c.args.at c.args.old.now)
    (refused m s c.args.at t c.requires.model c.requires.tables c.args.old.now) c.problem_of.ensures.refusal
