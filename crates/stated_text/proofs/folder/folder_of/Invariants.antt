use Rattle.stated_text.proofs.Common.{◌≡◌, ◌-◌, [], drop, length, map, file_of, most_bytes}
use Rattle.stated_text.proofs.folder.folder_of.Given as goal

abbrev pub invariant-loop-i : goal.invariant-loop-i
invariant-loop-i l = l.folder ≡ record { files = map file_of (drop (length l.files - l.i) l.files); limit = most_bytes l.fn.limits; script = []; calls = 0; faults = 0 }
