-- What a call returned, by what is defined.
use Rattle.stated_text.proofs.Common.{◌≡◌, ℕ, List, Result, Ok, Err, refl, sym, ap, ◌>>=◌, Refusal, StopsText, or_bad, IsRefusal, TextFault}
use Rattle.outside.specs.declared.codes.Code.TheVariants.{BadListing}
use Rattle.outside.specs.declared.inputs.InputFault.TheVariants as input
use Rattle.outside.specs.declared.inputs.TextFault.TheVariants as texts

pub bad_stops : {T : Type 0} (text : List ℕ) (r : Result T ℕ) (n : ℕ) (out : TextFault) → r ≡ Err n → IsRefusal BadListing text n out → StopsText out (or_bad text r)
bad_stops text r n (texts.Refused p) h is = rw h (ap Err (sym is))
bad_stops text r n texts.Memory h is = tt

-- two readings in a row: the first one stopped, or it gave this
pub stops_first : {T U : Type 0} (r : Result T Refusal) (f : T → Result U Refusal) (out : TextFault) → StopsText out r → StopsText out (r >>= f)
stops_first r f (texts.Refused p) h = rw h refl
stops_first r f texts.Memory h = tt

pub stops_then : {T U : Type 0} (r : Result T Refusal) (f : T → Result U Refusal) (x : T) (out : TextFault) → r ≡ Ok x → StopsText out (f x) → StopsText out (r >>= f)
stops_then r f x (texts.Refused p) e h = rw e h
stops_then r f x texts.Memory e h = tt
