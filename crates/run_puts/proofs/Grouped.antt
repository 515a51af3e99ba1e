-- Lists of puts, grouped otherwise.
use Rattle.run_puts.proofs.Common.{◌≡◌, List, [], ◌∷◌, ◌++◌, subst, append_assoc, Put, failed_put, SinkError, Text}

pub grouped : (L : List Put → Type 0) (puts : List Put) (piece : Text) (e named : SinkError) (last : Put) → e ≡ named →
    L (puts ++ (failed_put piece e ∷ []) ++ (last ∷ [])) → L (puts ++ (failed_put piece named ∷ last ∷ []))
grouped L puts piece e named last same h =
    let P : SinkError → Type 0 = λ e. L (puts ++ (failed_put piece e ∷ last ∷ [])) in
    subst P same (subst L (append_assoc puts (failed_put piece e ∷ []) (last ∷ [])) h)
