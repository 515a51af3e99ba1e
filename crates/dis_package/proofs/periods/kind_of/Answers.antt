use Rattle.dis_package.proofs.Common.{◌≡◌, Bool, true, false, Option, Some, None, codes, sym, ap, refl, ◌∙◌, if◌then◌else◌, is_word, kind_of}
use Rattle.dis_package.proofs.periods.kind_of.Goals as goal

-- the kind by whether the word is SS and whether it is TR
abbrev chosen : Bool → Bool → Option Bool
chosen steady transient = if steady then Some true else (if transient then Some false else None)

if_steady : (a b : Bool) → a ≡ true → Some true ≡ chosen a b
if_steady a b h = rw h refl

if_transient : (a b : Bool) → a ≡ false → b ≡ true → Some false ≡ chosen a b
if_transient a b h k = rw (h, k) refl

if_neither : (a b : Bool) → a ≡ false → b ≡ false → None ≡ chosen a b
if_neither a b h k = rw (h, k) refl

pub returns-in-None : goal.returns-in-None
returns-in-None c = ap kind_of (sym (c.in-None.ensures.0))

pub returns-then-is_word : goal.returns-then-is_word
returns-then-is_word c =
    let word = c.in-Some.word.now in
    if_steady (is_word (codes "SS") word) (is_word (codes "TR") word) (sym c.is_word.ensures ∙ c.if-is_word.true)
    ∙ ap kind_of (sym c.in-Some.ensures)

pub returns-then-is_word-2 : goal.returns-then-is_word-2
returns-then-is_word-2 c =
    let word = c.in-Some.word.now in
    if_transient (is_word (codes "SS") word) (is_word (codes "TR") word) (sym c.is_word.ensures ∙ c.if-is_word.false)
    (sym c.is_word-else-is_word.ensures ∙ c.if-is_word-2.true) ∙ ap kind_of (sym c.in-Some.ensures)

pub returns-else-is_word-2 : goal.returns-else-is_word-2
returns-else-is_word-2 c =
    let word = c.in-Some.word.now in
    if_neither (is_word (codes "SS") word) (is_word (codes "TR") word) (sym c.is_word.ensures ∙ c.if-is_word.false)
    (sym c.is_word-else-is_word.ensures ∙ c.if-is_word-2.false) ∙ ap kind_of (sym c.in-Some.ensures)
