-- What the puts of a run make of the sink.
use Rattle.run_puts.proofs.Common.{◌≡◌, ℕ, List, [], ◌∷◌, ◌++◌, map, Ok, Err, Result, subst, sym, refl, ◌∙◌, append-nil, Put, Seen, PutMakes, PutsMake, whole_put, Rose, SinkError, Text, IsTail}
use Rattle.run_puts.proofs.Common.{failed, wanting, sink_wanting, status_after, Status, concat}
use Rattle.std.proofs.KnownBytes.{Appends-nil, Appends-trans}
use Rattle.std.specs.Io.KnownBytes.{Appends}
use Rattle.outside.specs.declared.traits.SinkError.TheVariants as error
use Rattle.run_puts.specs.declared.puts.Status.TheVariants as status

-- pieces that were taken, and then others
record TakenFirst (old new : Seen) (pieces : List Text) (tail : List Put) : Type 0 where
  pub mid : Seen
  pub written : Appends old.written mid.written (concat pieces)
  pub faults : mid.faults ≡ old.faults
  pub then : PutsMake mid tail new

taken_first : (pieces : List Text) (old new : Seen) (tail : List Put) → PutsMake old (map whole_put pieces ++ tail) new → TakenFirst old new pieces tail
taken_first [] old new tail h = record { mid = old; written = Appends-nil old.written; faults = refl; then = h }
taken_first (p ∷ pieces) old new tail (s, first, more) =
    let rest = taken_first pieces s new tail more in
    record { mid = rest.mid; written = Appends-trans old.written s.written rest.mid.written p (concat pieces) first.writes rest.written; faults = rest.faults ∙ first.counts; then = rest.then }

-- a run that failed to write: the count of its sink rose
failed_last : (answer : Result (Unit {0}) SinkError) (piece : Text) (old new : Seen) → status_after answer ≡ status.WriteFault →
    PutMakes old (record { piece = piece; answer = answer }) new → Rose old.faults new.faults
failed_last (Ok done) piece old new e h = absurd (let bad : status.Memory ≡ status.WriteFault = e in cc)
failed_last (Err error.Write) piece old new e h = h.counts
failed_last (Err error.Memory) piece old new e h = absurd (let bad : status.Memory ≡ status.WriteFault = e in cc)

along : (old mid new : Seen) → mid ≡ new → Rose old.faults mid.faults → Rose old.faults new.faults
along old mid new e h = let P : Seen → Type 0 = λ s. Rose old.faults s.faults in subst P e h

from_same : (n m new : ℕ) → m ≡ n → Rose m new → Rose n new
from_same n m new e h = let P : ℕ → Type 0 = λ k. Rose k new in subst P e h

tail_rose : (after : List Text) (end : Status) (tail : List Put) (old new : Seen) → IsTail after end tail → end ≡ status.WriteFault → PutsMake old tail new → Rose old.faults new.faults
tail_rose after end tail old new (failed piece more) e (mid, put, same) = along old mid new same put.counts
tail_rose after end tail old new (wanting more answer) e (mid, put, same) = along old mid new same (failed_last answer _ old mid e put)
tail_rose after end tail old new (sink_wanting piece more answer) e (first, one, (mid, put, same)) =
    from_same old.faults first.faults new.faults one.counts (along first mid new same (failed_last answer _ first mid e put))

-- where some pieces were taken, and then a write failed, the count of the sink rose
pub early_rose : (before after : List Text) (end : Status) (tail : List Put) (old new : Seen) → IsTail after end tail → end ≡ status.WriteFault →
    PutsMake old (map whole_put before ++ tail) new → Rose old.faults new.faults
early_rose before after end tail old new t e h =
    let first = taken_first before old new tail h in
    from_same old.faults first.mid.faults new.faults first.faults (tail_rose after end tail first.mid new t e first.then)

pub all_written : (pieces : List Text) (old new : Seen) (puts : List Put) → puts ≡ map whole_put pieces → PutsMake old puts new → Appends old.written new.written (concat pieces)
all_written pieces old new puts e h =
    let P : List Put → Type 0 = λ ps. PutsMake old ps new in
    let first = taken_first pieces old new [] (subst P (e ∙ sym (append-nil (map whole_put pieces))) h) in
    let Q : Seen → Type 0 = λ s. Appends old.written s.written (concat pieces) in
    subst Q first.then first.written
