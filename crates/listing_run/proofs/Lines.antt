-- The puts of a last line, by what wrote it.
use Rattle.listing_run.proofs.Common.{◌≡◌, List, Ok, Err, Result, inl, inr, subst, IfOk, MatchResult, Put, Text, IsLast, EndsOutOfMemory, IsEnd, Status}

pub ends_by : {X E : Type 0} (bytes : X → Text) (line : Result X E) (text : Text) (meant end : Status) (tail : List Put) → IfOk line (λ x. bytes x ≡ text) →
    MatchResult line (λ x. IsLast (bytes x) meant end tail) (λ _. EndsOutOfMemory end tail) → IsEnd text meant end tail
ends_by bytes (Ok x) text meant end tail same h = let P : Text → Type 0 = λ t. IsLast t meant end tail in inl (subst P same h)
ends_by bytes (Err e) text meant end tail same h = inr h
