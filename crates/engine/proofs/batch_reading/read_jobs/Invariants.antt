-- The jobs so far are those of the names so far, whatever files agree with the folder.
use Rattle.engine.proofs.Common.{◌≡◌, ℕ, List, length, take, FileSet, batch_of, AreTasks, job_of, map}
use Rattle.engine.proofs.batch_reading.read_jobs.Given as goal

abbrev pub invariant-loop-name : goal.invariant-loop-name
invariant-loop-name g l = record {
  since : (files : FileSet) → g.F.Folder.agrees l.folder files → g.F.Folder.agrees l.fn.folder files;
  counts : g.F.Folder.faults l.folder ≡ g.F.Folder.faults l.fn.folder;
  reads : (files : FileSet) → g.F.Folder.agrees l.folder files → l.jobs.items ≡ map (job_of (batch_of l.asked) files) (take l.name-index l.names);
  still : (name : List ℕ) → g.F.Folder.may l.fn.folder name → g.F.Folder.may l.folder name;
  tasks : AreTasks l.jobs.items;
  whole : length l.jobs.items ≡ l.name-index;
}
