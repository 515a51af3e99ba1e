-- What views put to a sink.
use Rattle.std.specs.Prelude.{◌≡◌, ◌⊎◌, ℕ, List, [], ◌∷◌, ◌++◌, map, length, refl, Option, Some, None, Result, Ok, Err}
use Rattle.std.proofs.Common.{subst, sym}
use Rattle.std.proofs.lemmas.List.{append-nil}
use Rattle.std.specs.{declared.vec.Vec.Vec, declared.alloc.Global.Global}
use Rattle.outside.specs.{Put, whole_put, failed_put, declared.traits.SinkError.SinkError}
use Rattle.outside.specs.declared.traits.SinkError.TheVariants as error
use Rattle.step_problem.specs.declared.heads.Bound.{Bound}

-- the puts of a text: it was taken, or viewing stops since it was refused, or since there was no memory for it
abbrev pub IsPutOf : {E : Type 0} → Result (Vec ℕ Global) E → Option SinkError → List Put → Type 0
IsPutOf (Ok text) None puts = puts ≡ whole_put text.items ∷ []
IsPutOf (Ok text) (Some e) puts = puts ≡ failed_put text.items e ∷ []
IsPutOf (Err x) None puts = ⊥
IsPutOf (Err x) (Some e) puts = (e ≡ error.Memory) × (puts ≡ [])

-- These puts lead from one state of a sink to another, after any puts before them.
abbrev pub LeadOn : {W : Type 0} → (W → List Put → W → Type 0) → W → W → List Put → Type 0
LeadOn leads old new puts = (start : _) (before : List Put) → leads start before old → leads start (before ++ puts) new

-- `text` writes heads, of which Shown holds; before and after say whether viewing had stopped, and why.
module _ (text : List Bound → List ℕ) (Shown : List Bound → Type 0) where
  -- what follows the taken pieces: nothing, or where viewing stopped meanwhile the refused one, or none where memory ran out
  abbrev pub IsStopPut : Option SinkError → Option SinkError → List Put → Type 0
  IsStopPut None None puts = puts ≡ []
  IsStopPut None (Some e) puts = ((e ≡ error.Memory) × (puts ≡ [])) ⊎ ((heads : List Bound) × Shown heads × (puts ≡ failed_put (text heads) e ∷ []))
  IsStopPut (Some d) None puts = ⊥
  IsStopPut (Some d) (Some e) puts = (e ≡ d) × (puts ≡ [])

  abbrev pub AreAllShown : List (List Bound) → Type 0
  AreAllShown [] = Unit {0}
  AreAllShown (heads ∷ views) = Shown heads × AreAllShown views

  -- n views put their texts in turn, and where viewing stopped the put at which it did
  pub record ViewPuts (leads : List Put → Type 0) (n : ℕ) (before after : Option SinkError) : Type 0 where
    pub views : List (List Bound)
    pub count : length views ≡ n
    pub shown : AreAllShown views
    pub last : List Put
    pub stop : IsStopPut before after last
    pub led : leads (map (λ heads. whole_put (text heads)) views ++ last)

  -- no view puts nothing
  no_stop : (stop : Option SinkError) → IsStopPut stop stop []
  no_stop None = refl
  no_stop (Some e) = (refl, refl)

  pub no_view : (leads : List Put → Type 0) (stop : Option SinkError) → leads [] → ViewPuts leads 0 stop stop
  no_view leads stop led = record { views = []; count = refl; shown = tt; last = []; stop = no_stop stop; led = led }

-- no put leads a sink nowhere else
pub no_lead : {W : Type 0} (leads : W → List Put → W → Type 0) (s : W) → LeadOn leads s s []
no_lead leads s = λ start before h. subst (λ (ps : List Put). leads start ps s) (sym (append-nil before)) h
