use Rattle.std.proofs.Common.{◌≡◌, ◌≤◌, All, map, take, unsigned_abs}
use Rattle.zone_file.proofs.zones.zone_numbers.Given as goal

abbrev pub invariant-loop-zone : goal.invariant-loop-zone
invariant-loop-zone l = record {
  numbers : l.numbers.items ≡ map unsigned_abs (take l.zone-index l.zones);
  limits : All (λ z. z ≤ 999) l.numbers.items;
}
