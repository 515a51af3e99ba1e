-- A run from one piece to the next, and its ends.
use Rattle.run_puts.proofs.Common.{◌≡◌, List, [], ◌∷◌, ◌++◌, map, Ok, Err, Result, Option, subst, sym, ap, refl, ◌∙◌, inl, inr, ◌⊎◌, append_assoc, append-nil, map-append, Put, whole_put, SinkError}
use Rattle.run_puts.proofs.Common.{Text, IsTail, failed, wanting, sink_wanting, memory_put, status_after, IsRun, whole, early, Begins, nothing, all_due, cut, IsPut, IsLast, EndsOutOfMemory, IsEnd}
use Rattle.run_puts.proofs.Common.{Status}
use Rattle.outside.specs.declared.traits.SinkError.TheVariants as error
use Rattle.run_puts.specs.declared.puts.Status.TheVariants as status

-- a run that failed to write or lacked memory
abbrev pub IsLate : Status → Type 0
IsLate end = (end ≡ status.WriteFault) ⊎ (end ≡ status.Memory)

after_late : (answer : Result (Unit {0}) SinkError) → IsLate (status_after answer)
after_late (Ok done) = inr refl
after_late (Err error.Write) = inl refl
after_late (Err error.Memory) = inr refl

pub tail_late : (after : List Text) (end : Status) (tail : List Put) → IsTail after end tail → IsLate end
tail_late after end tail (failed piece more) = inl refl
tail_late after end tail (wanting more answer) = after_late answer
tail_late after end tail (sink_wanting piece more answer) = after_late answer

pub late_not_ok : (end : Status) → IsLate end → end ≡ status.Ok → ⊥
late_not_ok end (inl e) h = let bad : status.WriteFault ≡ status.Ok = sym e ∙ h in cc
late_not_ok end (inr e) h = let bad : status.Memory ≡ status.Ok = sym e ∙ h in cc

pub late_not_read : (end : Status) → IsLate end → end ≡ status.ReadFault → ⊥
late_not_read end (inl e) h = let bad : status.WriteFault ≡ status.ReadFault = sym e ∙ h in cc
late_not_read end (inr e) h = let bad : status.Memory ≡ status.ReadFault = sym e ∙ h in cc

pub puts_are_joined : (L : List Put → Type 0) (puts a b : List Put) → L (puts ++ a ++ b) → L (puts ++ (a ++ b))
puts_are_joined L puts a b h = subst L (append_assoc puts a b) h

pub joined_thrice : (L : List Put → Type 0) (puts a b c : List Put) → L (puts ++ a ++ b ++ c) → L (puts ++ (a ++ b ++ c))
joined_thrice L puts a b c h = puts_are_joined L puts (a ++ b) c (let P : List Put → Type 0 = λ s. L (s ++ c) in subst P (append_assoc puts a b) h)

pub put_was : (piece pending : Text) (r o : Option Status) (tail : List Put) → piece ≡ pending → r ≡ o → IsPut piece r tail → IsPut pending o tail
put_was piece pending r o tail same is h = let P : Text → Type 0 = λ t. IsPut t o tail in let Q : Option Status → Type 0 = λ o. IsPut piece o tail in subst P same (subst Q is h)

module _ (Due : Status → List Text → Type 0) (Cut : List Text → Type 0) where
  -- a run so far: all pieces but the one at hand are put
  pub record IsAt (pieces : List Text) (pending : Text) (puts : List Put) : Type 0 where
    pub before : List Text
    pub all : pieces ≡ before ++ (pending ∷ [])
    pub written : puts ≡ map whole_put before

  -- memory was wanting before the first piece
  pub lacks_at_first : (end : Status) (tail : List Put) → EndsOutOfMemory end tail → IsRun Due Cut end tail
  lacks_at_first end tail (answer, s, t) = rw (s, t) (early (status_after answer) [] [] (memory_put answer ∷ []) nothing (wanting [] answer))

  -- the only piece
  pub lone_line_is_run : (line : Text) (meant end : Status) (tail : List Put) → Due meant (line ∷ []) → IsEnd line meant end tail → IsRun Due Cut end tail
  lone_line_is_run line meant end tail due (inl (inl (e, t))) =
      let P : Status → Type 0 = λ s. IsRun Due Cut s tail in
      let Q : List Put → Type 0 = IsRun Due Cut meant in
      subst P (sym e) (subst Q (sym t) (whole meant (line ∷ []) due))
  lone_line_is_run line meant end tail due (inl (inr t)) = early end [] (line ∷ []) tail (all_due meant [] line [] due) t
  lone_line_is_run line meant end tail due (inr w) = lacks_at_first end tail w

  both : (pieces : List Text) (pending : Text) (puts tail : List Put) (i : IsAt pieces pending puts) → tail ≡ whole_put pending ∷ [] → puts ++ tail ≡ map whole_put (i.before ++ (pending ∷ []))
  both pieces pending puts tail i e = rw (e, i.written) (sym (map-append whole_put i.before (pending ∷ [])))

  -- one piece more
  pub at_more : (pieces : List Text) (pending next : Text) (puts tail : List Put) → IsAt pieces pending puts → tail ≡ whole_put pending ∷ [] → IsAt (pieces ++ (next ∷ [])) next (puts ++ tail)
  at_more pieces pending next puts tail i e = record {
    before = i.before ++ (pending ∷ []);
    all = ap (λ ts. ts ++ (next ∷ [])) i.all;
    written = both pieces pending puts tail i e;
  }

  -- the piece was not taken
  pub stops_at : (pieces : List Text) (pending : Text) (puts tail : List Put) (end : Status) → IsAt pieces pending puts → Cut pieces →
      ((after : List Text) → IsTail (pending ∷ after) end tail) → IsRun Due Cut end (puts ++ tail)
  stops_at pieces pending puts tail end i c h =
      rw i.written (early end i.before (pending ∷ []) tail (cut i.before (pending ∷ []) (subst Cut i.all c)) (h []))

  -- the piece was taken, and then memory was wanting
  pub lacks_after : (pieces : List Text) (pending : Text) (puts tail last : List Put) (end : Status) → IsAt pieces pending puts → Cut pieces → tail ≡
      whole_put pending ∷ [] → EndsOutOfMemory end last → IsRun Due Cut end (puts ++ tail ++ last)
  lacks_after pieces pending puts tail last end i c e (answer, s, t) =
      rw (s, t, both pieces pending puts tail i e)
      (early (status_after answer) (i.before ++ (pending ∷ [])) [] (memory_put answer ∷ [])
      (cut (i.before ++ (pending ∷ [])) [] (subst Cut (i.all ∙ sym (append-nil (i.before ++ (pending ∷ [])))) c)) (wanting [] answer))

  -- the piece was taken, and then the last line put
  pub ends : (pieces : List Text) (pending line : Text) (meant end : Status) (puts tail last : List Put) → IsAt pieces pending puts → tail ≡
      whole_put pending ∷ [] → Due meant (pieces ++ (line ∷ [])) → IsLast line meant end last → IsRun Due Cut end (puts ++ tail ++ last)
  ends pieces pending line meant end puts tail last i e due (inl (same, t)) =
      let P : Status → Type 0 = λ s. IsRun Due Cut s (puts ++ tail ++ last) in
      let Q : List Put → Type 0 = IsRun Due Cut meant in
      let D : List Text → Type 0 = Due meant in
      let w = whole meant (i.before ++ (pending ∷ []) ++ (line ∷ [])) (subst D (ap (λ ts. ts ++ (line ∷ [])) i.all) due) in
      subst P (sym same) (subst Q (map-append whole_put (i.before ++ (pending ∷ [])) (line ∷ []) ∙ sym (rw (t, both pieces pending puts tail i e) refl)) w)
  ends pieces pending line meant end puts tail last i e due (inr t) =
      let D : List Text → Type 0 = Due meant in
      let same = ap (λ ts. ts ++ (line ∷ [])) i.all in
      rw (both pieces pending puts tail i e)
      (early end (i.before ++ (pending ∷ [])) (line ∷ []) last (all_due meant (i.before ++ (pending ∷ [])) line [] (subst D same due)) t)

  pub ends_or_lacks : (pieces : List Text) (pending line : Text) (meant end : Status) (puts tail last : List Put) → IsAt pieces pending puts → Cut pieces →
      tail ≡ whole_put pending ∷ [] → Due meant (pieces ++ (line ∷ [])) → IsEnd line meant end last → IsRun Due Cut end (puts ++ tail ++ last)
  ends_or_lacks pieces pending line meant end puts tail last i c e due (inl h) = ends pieces pending line meant end puts tail last i e due h
  ends_or_lacks pieces pending line meant end puts tail last i c e due (inr h) = lacks_after pieces pending puts tail last end i c e h

-- a run of pieces that are due by one account is one by another that takes them
begins_weaker : (Due Other : Status → List Text → Type 0) (Cut : List Text → Type 0) →
    ((end : Status) (pieces : List Text) → Due end pieces → Other end pieces) → (before after : List Text) → Begins Due Cut before after →
    Begins Other Cut before after
begins_weaker Due Other Cut takes before after nothing = nothing
begins_weaker Due Other Cut takes before after (all_due end some next more due) = all_due end some next more (takes end (some ++ (next ∷ more)) due)
begins_weaker Due Other Cut takes before after (cut some more c) = cut some more c

pub run_of_less : (Due Other : Status → List Text → Type 0) (Cut : List Text → Type 0) → ((end : Status) (pieces : List Text) → Due end pieces → Other end pieces) →
    (end : Status) (puts : List Put) → IsRun Due Cut end puts → IsRun Other Cut end puts
run_of_less Due Other Cut takes end puts (whole meant pieces due) = whole meant pieces (takes meant pieces due)
run_of_less Due Other Cut takes end puts (early meant before after tail b t) = early meant before after tail (begins_weaker Due Other Cut takes before after b) t
