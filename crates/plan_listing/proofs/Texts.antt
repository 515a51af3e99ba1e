-- Lines that were written one after another are the text of their list.
use Rattle.plan_listing.proofs.Common.{◌≡◌, ℕ, List, [], ◌∷◌, ◌++◌, append_assoc, Line, ended_line, text_of}
use Rattle.std.proofs.lemmas.List.Concat.{flat_map-append}

-- three lists of lines
pub three_joined : (t : List ℕ) (a b c : List Line) → t ++ text_of a ++ text_of b ++ text_of c ≡ t ++ text_of (a ++ (b ++ c))
three_joined t a b c = simp (append_assoc, flat_map-append)

-- five lines, and others after them
pub five_joined : (t : List ℕ) (a b c d e : Line) (more : List Line) →
    t ++ ended_line a ++ ended_line b ++ ended_line c ++ ended_line d ++ ended_line e ++ text_of more ≡ t ++ text_of (a ∷ b ∷ c ∷ d ∷ e ∷ more)
five_joined t a b c d e more = simp append_assoc

-- a line and three lists of lines
pub step_joined : (title : Line) (a b c : List Line) → [] ++ ended_line title ++ text_of a ++ text_of b ++ text_of c ≡ text_of (title ∷ (a ++ (b ++ c)))
step_joined title a b c = simp (append_assoc, flat_map-append)
