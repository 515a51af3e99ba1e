-- How a run ended, by the pieces that are due: those that are defined of its end, the line of a read fault, or the first ones of a listing.
use Rattle.engine.proofs.Common.{◌≡◌, List, map, refl, inl, inr, ◌⊎◌, Put, Seen, PutsMake, whole_put, Rose, Text, whole, early, IsRun, Status, IsLate, tail_late, early_rose, late_not_read}
use Rattle.engine.proofs.Common.{IsUnfinished, Agree, IsStopped, IsDue, broken_off, defined, unread}
use Rattle.run_puts.specs.declared.puts.Status.TheVariants as status

pub late_stops : (end : Status) → IsLate end → IsStopped end
late_stops end (inl e) = inr (inl e)
late_stops end (inr e) = inr (inr e)

-- all pieces that are defined were taken
pub record Delivers (D : Status → List Text → Type 0) (end : Status) (puts : List Put) : Type 0 where
  pub pieces : List Text
  pub defines : D end pieces
  pub written : puts ≡ map whole_put pieces

-- after a fault outside, because memory ran out, or as defined
abbrev pub Ended : Type 0 → (Status → List Text → Type 0) → Status → Type 0
Ended fault D end = fault ⊎ ((end ≡ status.Memory) ⊎ ((q : List Text) × D end q))

module _ (failed beside : Type 0) (D : Status → List Text → Type 0) (C : List Text → Type 0) where
  abbrev Runs : Status → List Put → Type 0
  Runs = IsRun (IsDue failed beside D C) C

  due_delivers : (end : Status) (pieces : List Text) → IsDue failed beside D C end pieces → (IsStopped end → ⊥) → Delivers D end (map whole_put pieces)
  due_delivers end pieces (defined meant all d) on = record { pieces = pieces; defines = d; written = refl }
  due_delivers end pieces (unread f) on = absurd (on (inl refl))
  due_delivers end pieces (broken_off all f c) on = absurd (on (inr (inl refl)))

  pub delivers : (end : Status) (puts : List Put) → Runs end puts → (IsStopped end → ⊥) → Delivers D end puts
  delivers end puts (whole meant pieces due) on = due_delivers end pieces due on
  delivers end puts (early meant before after tail b t) on = absurd (on (late_stops end (tail_late after end tail t)))

  module _ (goes : (end : Status) (pieces : List Text) → D end pieces → IsStopped end → ⊥) where
    due_read : (end : Status) (pieces : List Text) → IsDue failed beside D C end pieces → end ≡ status.ReadFault → failed
    due_read end pieces (defined meant all d) e = absurd (goes end pieces d (inl e))
    due_read end pieces (unread f) e = f
    due_read end pieces (broken_off all f c) e = let bad : status.WriteFault ≡ status.ReadFault = e in cc

    pub read_failed : (end : Status) (puts : List Put) → Runs end puts → end ≡ status.ReadFault → failed
    read_failed end puts (whole meant pieces due) e = due_read end pieces due e
    read_failed end puts (early meant before after tail b t) e = absurd (late_not_read end (tail_late after end tail t) e)

    due_write : (end : Status) (pieces : List Text) → IsDue failed beside D C end pieces → end ≡ status.WriteFault → beside
    due_write end pieces (defined meant all d) e = absurd (goes end pieces d (inr (inl e)))
    due_write end pieces (unread f) e = let bad : status.ReadFault ≡ status.WriteFault = e in cc
    due_write end pieces (broken_off all f c) e = f

    pub write_failed : (end : Status) (puts : List Put) (old new : Seen) → Runs end puts → end ≡ status.WriteFault → PutsMake old puts new → Rose old.faults new.faults ⊎ beside
    write_failed end puts old new (whole meant pieces due) e makes = inr (due_write end pieces due e)
    write_failed end puts old new (early meant before after tail b t) e makes = inl (early_rose before after end tail old new t e makes)

    module _ (fault : Type 0) (reads : failed → fault) (old new : Seen) (writes : Rose old.faults new.faults ⊎ beside → fault) where
      due_ended : (end : Status) (pieces : List Text) → IsDue failed beside D C end pieces → Ended fault D end
      due_ended end pieces (defined meant all d) = inr (inr (pieces, d))
      due_ended end pieces (unread f) = inl (reads f)
      due_ended end pieces (broken_off all f c) = inl (writes (inr f))

      late_ended : (end : Status) → IsLate end → (end ≡ status.WriteFault → fault) → Ended fault D end
      late_ended end (inl e) puts = inl (puts e)
      late_ended end (inr e) puts = inr (inl e)

      pub run_ended : (end : Status) (puts : List Put) → Runs end puts → PutsMake old puts new → Ended fault D end
      run_ended end puts (whole meant pieces due) makes = due_ended end pieces due
      run_ended end puts (early meant before after tail b t) makes =
          late_ended end (tail_late after end tail t) (λ e. writes (write_failed end puts old new (early meant before after tail b t) e makes))

module _ (fault : Type 0) (D : Status → List Text → Type 0) (end : Status) where
  weighed : (meant : Status) → Agree meant end → (fault ⊎ IsUnfinished meant) ⊎ ((end ≡ meant) ⊎ ((end ≡ status.Memory) ⊎ IsUnfinished end))
  weighed meant (inl open_meant) = inl (inr open_meant)
  weighed meant (inr (inl e)) = inr (inl e)
  weighed meant (inr (inr open_end)) = inr (inr (inr open_end))

  -- where each defined end agrees with this one
  pub end_decided : (meant : Status) → ((q : List Text) → D end q → Agree meant end) → Ended fault D end → (fault ⊎ IsUnfinished meant) ⊎ ((end ≡ meant) ⊎ ((end ≡ status.Memory) ⊎ IsUnfinished end))
  end_decided meant agrees (inl f) = inl (inl f)
  end_decided meant agrees (inr (inl e)) = inr (inr (inl e))
  end_decided meant agrees (inr (inr (q, y))) = weighed meant (agrees q y)

  -- where each defined end is Ok
  pub end_comes : ((q : List Text) → D end q → end ≡ status.Ok) → Ended fault D end → fault ⊎ ((end ≡ status.Ok) ⊎ (end ≡ status.Memory))
  end_comes through (inl f) = inl f
  end_comes through (inr (inl e)) = inr (inr e)
  end_comes through (inr (inr (q, y))) = inr (inl (through q y))
