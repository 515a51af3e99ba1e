-- One view more, as a put more.
use Rattle.view_puts.proofs.Common.{◌≡◌, ℕ, ◌+◌, refl, sym, ap, ◌∙◌, subst, arith, false, List, [], ◌∷◌, ◌++◌, length, map, Result, Ok, Err, Option, Some, None, is_some, IfOk, Put, whole_put}
use Rattle.view_puts.proofs.Common.{failed_put}
use Rattle.std.specs.{Result.result_err, declared.vec.Vec.Vec, declared.alloc.Global.Global}
use Rattle.std.proofs.lemmas.List.{append-nil, append_assoc}
use Rattle.outside.specs.declared.traits.SinkError.{SinkError}
use Rattle.step_problem.specs.declared.heads.Bound.{Bound}
use Rattle.view_puts.specs.{IsPutOf, IsStopPut, AreAllShown, LeadOn, ViewPuts}

-- the put of a text, by its result
put_of : (E : Type 0) (text : Vec ℕ Global) (r : Result (Unit {0}) SinkError) (piece : List ℕ) → piece ≡ text.items →
    IsPutOf {E = E} (Ok text) (result_err r) (record { piece = piece; answer = r } ∷ [])
put_of E text (Ok done) piece same = ap (λ (x : List ℕ). whole_put x ∷ []) same
put_of E text (Err e) piece same = ap (λ (x : List ℕ). failed_put x e ∷ []) same

pub is_put_of : (E : Type 0) (t : Result (Vec ℕ Global) E) (text : Vec ℕ Global) (r : Result (Unit {0}) SinkError) (o : Option SinkError) (piece : List ℕ) → t ≡
    Ok text → o ≡ result_err r → piece ≡ text.items → IsPutOf {E = E} t o (record { piece = piece; answer = r } ∷ [])
is_put_of E t text r o piece is same items =
    let T : Result (Vec ℕ Global) E → Type 0 = λ x. IsPutOf {E = E} x o (record { piece = piece; answer = r } ∷ []) in
    let O : Option SinkError → Type 0 = λ x. IsPutOf {E = E} (Ok text) x (record { piece = piece; answer = r } ∷ []) in
    subst T (sym is) (subst O (sym same) (put_of E text r piece items))

-- puts after puts
pub lead_more : {W : Type 0} (leads : W → List Put → W → Type 0) (a b c : W) (puts more : List Put) → LeadOn leads a b puts → LeadOn leads b c more → LeadOn leads a c (puts ++ more)
lead_more leads a b c puts more h k = λ start before x. subst (λ (ps : List Put). leads start ps c) (append_assoc before puts more) (k start (before ++ puts) (h start before x))

module _ (text : List Bound → List ℕ) (Shown : List Bound → Type 0) where
  abbrev pieces : List (List Bound) → List Put
  pieces views = map (λ heads. whole_put (text heads)) views

  all_shown_more : (views : List (List Bound)) (heads : List Bound) → AreAllShown text Shown views → Shown heads → AreAllShown text Shown (views ++ heads ∷ [])
  all_shown_more [] heads h k = (k, tt)
  all_shown_more (v ∷ views) heads h k = (h.0, all_shown_more views heads h.1 k)

  pieces_more : (views : List (List Bound)) (heads : List Bound) → pieces (views ++ heads ∷ []) ≡ pieces views ++ whole_put (text heads) ∷ []
  pieces_more [] heads = refl
  pieces_more (v ∷ views) heads = ap (λ (ps : List Put). whole_put (text v) ∷ ps) (pieces_more views heads)

  count_more : (views : List (List Bound)) (heads : List Bound) → length (views ++ heads ∷ []) ≡ length views + 1
  count_more [] heads = refl
  count_more (v ∷ views) heads = let h = count_more views heads in omega (arith, h)

  -- a viewer that has not stopped has put taken pieces alone
  no_stop_put : (before : Option SinkError) (puts : List Put) → IsStopPut text Shown before None puts → puts ≡ []
  no_stop_put None puts h = h
  no_stop_put (Some d) puts h = absurd h

  module _ {E : Type 0} (leads leads' : List Put → Type 0) (t : Result (Vec ℕ Global) E) (heads : List Bound) (shown : Shown heads) (is_text : IfOk t (λ v. v.items ≡ text heads)) where
    taken_put : (r : Result (Vec ℕ Global) E) (puts : List Put) → IfOk r (λ v. v.items ≡ text heads) → IsPutOf r None puts → puts ≡ whole_put (text heads) ∷ []
    taken_put (Ok v) puts same h = h ∙ ap (λ (x : List ℕ). whole_put x ∷ []) same
    taken_put (Err x) puts same h = absurd h

    one_taken : (n : ℕ) (before : Option SinkError) → ((more : List Put) × IsPutOf t None more × ((puts : List Put) → leads puts → leads' (puts ++ more))) →
        ViewPuts text Shown leads n before None → ViewPuts text Shown leads' (n + 1) before None
    one_taken n before put s =
        let r = put in
        let none : s.last ≡ [] = no_stop_put before s.last s.stop in
        let one : r.0 ≡ whole_put (text heads) ∷ [] = taken_put t r.0 is_text r.1 in
        let front : pieces s.views ++ s.last ≡ pieces s.views = ap (λ (ps : List Put). pieces s.views ++ ps) none ∙ append-nil (pieces s.views) in
        let all : (pieces s.views ++ s.last) ++ r.0 ≡ pieces (s.views ++ heads ∷ []) ++ [] =
        ap (λ (ps : List Put). ps ++ r.0) front ∙ ap (λ (ps : List Put). pieces s.views ++ ps) one ∙ sym (pieces_more s.views heads) ∙ sym
        (append-nil (pieces (s.views ++ heads ∷ []))) in
        record {
          views = s.views ++ heads ∷ [];
          count = count_more s.views heads ∙ ap (λ (k : ℕ). k + 1) s.count;
          shown = all_shown_more s.views heads s.shown shown;
          last = [];
          stop = subst (λ (ps : List Put). IsStopPut text Shown before None ps) none s.stop;
          led = subst leads' all (r.2 (pieces s.views ++ s.last) s.led);
        }

    -- a view that gives true
    pub one_view_more : (n : ℕ) (before old new : Option SinkError) → is_some old ≡ false → is_some new ≡ false →
        ((more : List Put) × IsPutOf t new more × ((puts : List Put) → leads puts → leads' (puts ++ more))) → ViewPuts text Shown leads n before old →
        ViewPuts text Shown leads' (n + 1) before new
    one_view_more n before None None a b put s = one_taken n before put s
    one_view_more n before None (Some e) a b put s = absurd cc
    one_view_more n before (Some d) new a b put s = absurd cc
