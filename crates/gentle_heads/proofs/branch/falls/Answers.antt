use Rattle.gentle_heads.proofs.Common.{◌≡◌, All, List, Option, true, false, refl, sym, ap, subst, arith, length, ◌∙◌, false≢true, Face, FallsThrough}
use Rattle.std.proofs.{lemmas.List.take_all, lemmas.List.Elements.All-more}
use Rattle.gentle_heads.proofs.branch.falls.Goals as goal

pub returns-then-not-falls_through : goal.returns-then-not-falls_through
returns-then-not-falls_through c =
    let P : Option Face → Type 0 = λ o. FallsThrough c.args.model.now c.args.layers.now c.args.heads.now c.args.c o in
    let len : length c.faces-faces.result ≡ 6 = ap length c.faces-faces.ensures.faces in
    let f : c.falls_through.result ≡ false = grind arith in (
      λ t. absurd (false≢true t),
      λ all. absurd (false≢true (sym f ∙ c.falls_through.ensures.1 (subst (λ (xs : List (Option Face)). All P xs) (sym c.faces-faces.ensures.faces) all c.loop-face.face-index _
          (omega (arith, len, c.loop-face-test.true))))),
    )

pub loop-face-preserved : goal.loop-face-preserved
loop-face-preserved c =
    let P : Option Face → Type 0 = λ o. FallsThrough c.args.model.now c.args.layers.now c.args.heads.now c.args.c o in
    let len : length c.faces-faces.result ≡ 6 = ap length c.faces-faces.ensures.faces in
    let t : c.falls_through.result ≡ true = grind arith in
    All-more P c.faces-faces.result c.loop-face.face-index _ (omega (arith, len, c.loop-face-test.true)) c.loop-face.invariant (c.falls_through.ensures.0 t)

pub returns : goal.returns
returns c =
    let P : Option Face → Type 0 = λ o. FallsThrough c.args.model.now c.args.layers.now c.args.heads.now c.args.c o in
    let len : length c.faces-faces.result ≡ 6 = ap length c.faces-faces.ensures.faces in
    let all = subst (λ (xs : List (Option Face)). All P xs)
    (take_all c.loop-face.face-index c.faces-faces.result (omega (arith, len, c.loop-face-test.false)) ∙ c.faces-faces.ensures.faces) c.loop-face.invariant in
    (λ t. all, λ _. refl)
