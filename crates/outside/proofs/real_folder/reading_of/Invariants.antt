use Rattle.outside.proofs.Common.{◌≡◌, drop, reading_of}
use Rattle.outside.proofs.real_folder.reading_of.Given as goal

abbrev pub invariant-loop-reading : goal.invariant-loop-reading
invariant-loop-reading l = reading_of l.name (drop l.reading-index l.readings) ≡ reading_of l.name l.readings
