use Rattle.listing_io.proofs.Common.{◌≡◌, ◌<◌, ◌^◌, drop, digits_behind}
use Rattle.listing_io.proofs.digits.number_in.Given as goal

abbrev pub invariant-loop-byte : goal.invariant-loop-byte
invariant-loop-byte l = record {
  value : digits_behind l.number (drop l.byte-index l.word) ≡ digits_behind 0 l.word;
  below : l.number < 2 ^ 126;
}
