-- Puts, one more put, and puts that were all taken.
use Rattle.outside.proofs.Common.{List, [], ◌∷◌, ◌++◌, refl, sym, subst, Put, Seen, PutMakes, PutsMake}

pub PutsMake-more : (puts : List Put) (old mid new : Seen) (put : Put) → PutsMake old puts mid → PutMakes mid put new → PutsMake old (puts ++ (put ∷ [])) new
PutsMake-more [] old mid new put e h = (new, (let P : Seen → Type 0 = λ s. PutMakes s put new in subst P (sym e) h), refl)
PutsMake-more (p ∷ puts) old mid new put (s, first, more) h = (s, first, PutsMake-more puts s mid new put more h)
