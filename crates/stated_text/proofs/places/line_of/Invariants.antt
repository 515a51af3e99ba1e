use Rattle.stated_text.proofs.Common.{◌≡◌, drop, line_of}
use Rattle.stated_text.proofs.places.line_of.Given as goal

abbrev pub invariant-loop-file : goal.invariant-loop-file
invariant-loop-file l = line_of l.name (drop l.file-index l.files) ≡ line_of l.name l.files
