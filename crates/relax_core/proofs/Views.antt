-- A state's lists as its fields hold them.
use Rattle.relax_core.proofs.Common.{◌≡◌, ℕ, ◌<◌, List, [], length, map, set, get_or, All, Bool, IsTrue, ◌↔◌, ℤ, sym, subst, ap, ◌∙◌, arith, Vec, Global, map-set, get_or-map, length-map, All-map}
use Rattle.relax_core.proofs.Common.{Bound, Side, Entries, AreWords, Core, seen_by, with_head, Becomes, IsInRange}

-- what one of the vectors holds
pub seen_read : (seen : List (Vec Bound Global)) (lists : List (List Bound)) (a : ℕ) (old : Vec Bound Global) → map (λ v. v.items) seen ≡ lists →
    a < length lists → old ≡ get_or seen a old → get_or lists a [] ≡ old.items
seen_read seen lists a old e here at =
    let short : a < length seen = omega (arith, here, ap length e, length-map seen (λ (v : Vec Bound Global). v.items)) in
    ap (λ (l : List (List Bound)). get_or l a []) (sym e) ∙ (get_or-map (λ (v : Vec Bound Global). v.items) seen a old [] short ∙ ap (λ (v : Vec Bound Global). v.items) (sym at))

-- one of the vectors is replaced, by one with a head put into it
seen_set : (seen : List (Vec Bound Global)) (lists : List (List Bound)) (a c : ℕ) (side : Side) (h g : ℤ) (old new : Vec Bound Global) →
    map (λ v. v.items) seen ≡ lists → a < length lists → old ≡ get_or seen a old → new.items ≡ with_head side old.items c h → h ≡ g
    → map (λ v. v.items) (set seen a new) ≡ set lists a (with_head side (get_or lists a []) c g)
seen_set seen lists a c side h g old new e here at put same =
    map-set (λ (v : Vec Bound Global). v.items) seen a new
    ∙ (ap (λ (l : List (List Bound)). set l a new.items) e
    ∙ (ap (set lists a) put ∙ (ap (λ (x : ℤ). set lists a (with_head side old.items c x)) same ∙ ap (λ (x : List Bound). set lists a (with_head side x c g))
    (sym (seen_read seen lists a old e here at)))))

pub core_becomes : (words : List Bound) (seen : List (Vec Bound Global)) (s : Core) (after ws : List Bound) (a c : ℕ) (side : Side) (h g : ℤ)
    (old new : Vec Bound Global) → record { words = words; seen = map (λ v. v.items) seen } ≡ s → a < length s.seen → after ≡ ws → old ≡ get_or seen a old →
    new.items ≡ with_head side old.items c h → h ≡ g
    → Becomes s (record { words = after; seen = map (λ v. v.items) (set seen a new) }) ws a (with_head side (seen_by s a) c g)
core_becomes words seen s after ws a c side h g old new e here is at put same = record {
  words = is;
  seen = seen_set seen s.seen a c side h g old new (ap (λ (x : Core). x.seen) e) here at put same;
}

-- a fact of each vector's list, and of each list
pub all_lists : (P : List Bound → Type 0) (seen : List (Vec Bound Global)) → All P (map (λ v. v.items) seen) → All (λ v. P v.items) seen
all_lists P seen all k d h = subst P (get_or-map (λ (v : Vec Bound Global). v.items) seen k d d.items h) (all k d.items (omega (arith, h, length-map seen (λ (v : Vec Bound Global). v.items))))

pub all_vectors : (P : List Bound → Type 0) (seen : List (Vec Bound Global)) → All (λ v. P v.items) seen → All P (map (λ v. v.items) seen)
all_vectors P seen all = All-map P (λ (v : Vec Bound Global). v.items) seen all

-- the test of a state's lists, as its fields hold them
pub in_range_iff : (p : List Entries) (words ws : List Bound) (seen vs : List (Vec Bound Global)) (s : Core) (b : Bool) →
    record { words = words; seen = map (λ v. v.items) seen } ≡ s → ws ≡ words → vs ≡ seen → AreWords p ws
    → (IsTrue b ↔ All (λ v. AreWords p v.items) vs) → IsTrue b ↔ IsInRange p s
in_range_iff p words ws seen vs s b e f g held iff = (
  λ t. subst (IsInRange p) e (record { words = subst (AreWords p) f held; seen = all_vectors (AreWords p) seen (subst (All (λ v. AreWords p v.items)) g (iff.0 t)) }),
  λ range. iff.1 (subst (All (λ v. AreWords p v.items)) (sym g) (all_lists (AreWords p) seen (subst (All (AreWords p)) (ap (λ (x : Core). x.seen) (sym e)) range.seen))),
)
