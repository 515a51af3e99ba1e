-- Laws on batches of jobs, whatever is an end of a job.
use Rattle.run_puts.proofs.Common.{◌≡◌, ℕ, suc, List, [], ◌∷◌, length, Some, IfSome, subst, sym, ap, refl, ◌∙◌, inl, inr, arith, Put, whole_put, IsRun, NeverCut, or_else, first_not_ok, IsEnded, Text}
use Rattle.run_puts.proofs.Common.{end_line, whole, early, all_due, IsLast, IsTail, Agree, IsUnfinished, texts, IsBatch, Status, JobEnd, ◌+◌, ◌<◌, ◌≤◌, ◌++◌, map, take, drop, get_or, drop-cons}
use Rattle.run_puts.proofs.Common.{take-append-drop, take_all, AllZip, map-append, take_more, get_or-map, length-map}
use Rattle.run_puts.proofs.Pieces.{run_of_less}
use Rattle.std.proofs.Common.{append_assoc}
use Rattle.std.specs.Prelude.{slice_get}
use Rattle.run_puts.specs.declared.puts.Status.TheVariants as status

agree_later : (first later also : Status) → Agree later also → Agree (or_else first later) (or_else first also)
agree_later status.Ok later also h = h
agree_later (status.Unfinished period step) later also h = inl tt
agree_later other later also h = inr (inl refl)

stays_unfinished : (first later : Status) → IsUnfinished first → IsUnfinished (or_else first later)
stays_unfinished (status.Unfinished period step) later h = tt
stays_unfinished other later h = absurd h

agree_first : (first other later also : Status) → Agree first other → Agree later also → Agree (or_else first later) (or_else other also)
agree_first first other later also (inl h) k = inl (stays_unfinished first later h)
agree_first first other later also (inr (inr h)) k = inr (inr (stays_unfinished other also h))
agree_first first other later also (inr (inl e)) k = let P : Status → Type 0 = λ s. Agree (or_else first later) (or_else s also) in subst P (sym e) (agree_later first later also k)

module _ {Job : Type 0} (IsJobEnd : Job → JobEnd → Type 0) where
  -- where two ends of one job agree, so do two ends of the batch
  pub batches_agree : ((job : Job) (a b : JobEnd) → IsJobEnd job a → IsJobEnd job b → Agree a.status b.status) → (jobs : List Job) (ends others : List JobEnd) →
      AllZip IsJobEnd jobs ends → AllZip IsJobEnd jobs others → Agree (first_not_ok ends) (first_not_ok others)
  batches_agree agree [] [] [] h k = inr (inl refl)
  batches_agree agree [] (a ∷ ends) others h k = absurd h
  batches_agree agree [] [] (b ∷ others) h k = absurd k
  batches_agree agree (job ∷ jobs) [] others h k = absurd h
  batches_agree agree (job ∷ jobs) (a ∷ ends) [] h k = absurd k
  batches_agree agree (job ∷ jobs) (a ∷ ends) (b ∷ others) (x, h) (y, k) =
      agree_first a.status b.status (first_not_ok ends) (first_not_ok others) (agree job a b x y) (batches_agree agree jobs ends others h k)

  -- where each job can only end Ok, so does the batch
  pub batch_settles : ((job : Job) (e : JobEnd) → IsJobEnd job e → e.status ≡ status.Ok) → (jobs : List Job) (ends : List JobEnd) → AllZip IsJobEnd jobs ends → first_not_ok ends ≡ status.Ok
  batch_settles settles [] [] h = refl
  batch_settles settles [] (e ∷ ends) h = absurd h
  batch_settles settles (job ∷ jobs) [] h = absurd h
  batch_settles settles (job ∷ jobs) (e ∷ ends) (x, h) = ap (λ (s : Status). or_else s (first_not_ok ends)) (settles job e x) ∙ batch_settles settles jobs ends h

  -- a run that puts the ends of the jobs is a run of the batch
  pub batch_run : (jobs : List Job) (ends : List JobEnd) (end : Status) (puts : List Put) → AllZip IsJobEnd jobs ends → IsRun (IsEnded ends) NeverCut end puts →
      IsRun (IsBatch IsJobEnd jobs) NeverCut end puts
  batch_run jobs ends end puts each h = run_of_less (IsEnded ends) (IsBatch IsJobEnd jobs) NeverCut (λ meant pieces due. record { ends = ends; each = each; ended = due }) end puts h

-- as many ends as jobs, where entry i is an end of job i, are one end for each job
pub ends_of_jobs : {A B : Type 0} (R : A → B → Type 0) (xs : List A) (ys : List B) → length ys ≡ length xs →
    ((i : ℕ) (y : B) → slice_get ys i ≡ Some y → IfSome (slice_get xs i) (λ x. R x y)) → AllZip R xs ys
ends_of_jobs R [] [] same each = tt
ends_of_jobs R [] (y ∷ ys) same each = absurd (omega arith)
ends_of_jobs R (x ∷ xs) [] same each = absurd (omega arith)
ends_of_jobs R (x ∷ xs) (y ∷ ys) same each = (each 0 y refl, ends_of_jobs R xs ys (omega arith) (λ i z h. each (suc i) z h))

-- The puts of a batch, so far and in the end.
-- the texts of the first jobs were taken
abbrev pub ArePut : List JobEnd → ℕ → List Put → Type 0
ArePut ends i puts = puts ≡ map whole_put (take i (texts ends))

module _ (ends : List JobEnd) where
  abbrev pub IsEndedRun : Status → List Put → Type 0
  IsEndedRun end puts = IsRun (IsEnded ends) NeverCut end puts

  pub one_more : (i : ℕ) (piece : Text) (puts tail : List Put) → i < length (texts ends) → piece ≡ get_or (texts ends) i piece → ArePut ends i puts → tail ≡
      whole_put piece ∷ [] → ArePut ends (i + 1) (puts ++ tail)
  one_more i piece puts tail h read was is =
      rw (was, is) (sym (map-append whole_put (take i (texts ends)) (piece ∷ [])) ∙ ap (map whole_put)
      (ap (λ p. take i (texts ends) ++ (p ∷ [])) read ∙ sym (take_more (texts ends) i piece h)))

  pub stops_at : (i : ℕ) (piece : Text) (puts tail : List Put) (end : Status) → i < length (texts ends) → piece ≡ get_or (texts ends) i piece →
      ArePut ends i puts → ((after : List Text) → IsTail (piece ∷ after) end tail) → IsEndedRun end (puts ++ tail)
  stops_at i piece puts tail end h read was stops =
      let ts : List Text = texts ends in
      let after : List Text = drop (suc i) ts ++ (end_line ∷ []) in
      let split : ts ≡ take i ts ++ (piece ∷ drop (suc i) ts) = sym (take-append-drop i ts) ∙ ap (λ l. take i ts ++ l) (drop-cons ts i piece h ∙ ap (λ p. p ∷ drop (suc i) ts) (sym read)) in
      let all : take i ts ++ (piece ∷ after) ≡ ts ++ (end_line ∷ []) = sym (append_assoc (take i ts) (piece ∷ drop (suc i) ts) (end_line ∷ [])) ∙ ap (λ l. l ++ (end_line ∷ [])) (sym split) in
      rw was (early end (take i ts) (piece ∷ after) tail (all_due (first_not_ok ends) (take i ts) piece after (record { status_is = refl; are = all })) (stops after))

  pub ends_whole : (puts last : List Put) (end : Status) → puts ≡ map whole_put (texts ends) → IsLast end_line (first_not_ok ends) end last → IsEndedRun end (puts ++ last)
  ends_whole puts last end was (inl (same, is)) =
      let due : IsEnded ends end (texts ends ++ (end_line ∷ [])) = record { status_is = same; are = refl } in
      let all : map whole_put (texts ends ++ (end_line ∷ [])) ≡ puts ++ last = map-append whole_put (texts ends) (end_line ∷ []) ∙ sym (rw (was, is) refl) in
      let P : List Put → Type 0 = λ l. IsEndedRun end l in
      subst P all (whole end (texts ends ++ (end_line ∷ [])) due)
  ends_whole puts last end was (inr stops) =
      let due : IsEnded ends (first_not_ok ends) (texts ends ++ (end_line ∷ [])) = record { status_is = refl; are = refl } in
      rw was (early end (texts ends) (end_line ∷ []) last (all_due (first_not_ok ends) (texts ends) end_line [] due) stops)

-- the text of a job, among the texts
pub text_at : (ends : List JobEnd) (i : ℕ) (e : JobEnd) (piece : Text) → i < length ends → e ≡ get_or ends i e → piece ≡ e.text.items →
    (i < length (texts ends)) × (piece ≡ get_or (texts ends) i piece)
text_at ends i e piece h read is =
    let many : length (texts ends) ≡ length ends = length-map ends (λ (x : JobEnd). x.text.items) in
    (omega arith, is ∙ (ap (λ (x : JobEnd). x.text.items) read ∙ sym (get_or-map (λ (x : JobEnd). x.text.items) ends i e piece h)))

pub all_texts : (ends : List JobEnd) (i : ℕ) (puts : List Put) → length ends ≤ i → ArePut ends i puts → puts ≡ map whole_put (texts ends)
all_texts ends i puts h was =
    let many : length (texts ends) ≡ length ends = length-map ends (λ (x : JobEnd). x.text.items) in
    was ∙ ap (map whole_put) (take_all i (texts ends) (omega arith))
