-- What the number of a status says of it.
use Rattle.engine.proofs.Common.{◌≡◌, ap, inl, inr, refl, code_of, Status, IsStopped, IsStopNumber}
use Rattle.run_puts.specs.declared.puts.Status.TheVariants as status

-- 0 is that of Ok alone
pub ok_from_zero : (end : Status) → code_of end ≡ 0 → end ≡ status.Ok
ok_from_zero status.Ok e = refl
ok_from_zero other e = cc

-- a run that stopped has the number of a stop
pub stop_number : (end : Status) → IsStopped end → IsStopNumber (code_of end)
stop_number end (inl read) = inl (ap code_of read)
stop_number end (inr (inl write)) = inr (inl (ap code_of write))
stop_number end (inr (inr memory)) = inr (inr (ap code_of memory))
