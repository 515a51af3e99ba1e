use Rattle.plan_wells.proofs.Common.{◌≡◌, ◌++◌, ◌<◌, ◌∙◌, ℕ, suc, ap, arith, get_or, length, List, set, subst, sym, get_or_default, Entry, Period, with_wells}
use Rattle.plan_wells.proofs.PutInPlace.{put_all, put_first, put_length, put_next}
use Rattle.plan_wells.proofs.planned.add_wells.Goals as goal

step : (xs ps : List Period) (lists : List (List Entry)) (i j : ℕ) (d d2 : Period) (e : List Entry) (w : List Entry) → j ≡ suc i → i < length ps →
    i < length lists → xs ≡ put_first with_wells i ps lists →
    w ≡ (get_or xs i d2).stresses.wells ++ get_or lists i e →
    set xs i (record (get_or xs i d) { stresses = record (get_or xs i d).stresses { wells = w } }) ≡ put_first with_wells j ps lists
step xs ps lists i j d d2 e w next low few are is =
    ap (λ (v : List Entry). set xs i (record (get_or xs i d) { stresses = record (get_or xs i d).stresses { wells = v } })) joined
    ∙ subst (λ (zs : List Period). set zs i (with_wells (get_or zs i d) (get_or lists i e)) ≡ put_first with_wells (suc i) ps lists) (sym are) (put_next with_wells i ps lists d e low few)
    ∙ ap (λ (k : ℕ). put_first with_wells k ps lists) (sym next)
  where
    within : i < length xs
    within = subst (λ (zs : List Period). i < length zs) (sym are) (let same = put_length with_wells i ps lists in omega (arith, same, low))

    joined : w ≡ (get_or xs i d).stresses.wells ++ get_or lists i e
    joined = is ∙ ap (λ (p : Period). p.stresses.wells ++ get_or lists i e) (get_or_default xs i d2 d within)

pub loop-i-preserved : goal.loop-i-preserved
loop-i-preserved c =
    let second : c.index-lists-i.result ≡ get_or c.args.lists.now c.loop-i.i c.index-lists-i.result = c.index-lists-i.is in
    step c.loop-i.periods c.args.periods.now c.args.lists.now c.loop-i.i _ c.index-periods-i-in-loop-i.result c.index-periods-i.result c.index-lists-i.result
    c.in_ok-wells.wells (omega arith) (omega arith) (omega arith)
    c.loop-i.invariant
    (c.in_ok-wells.ensures ∙ ap (λ (w : List Entry). (get_or c.loop-i.periods c.loop-i.i c.index-periods-i.result).stresses.wells ++ w) second)

pub returns : goal.returns
returns c =
    let whole : c.loop-i.i ≡ length c.args.periods.now = omega arith in
    c.loop-i.invariant ∙ ap (λ (k : ℕ). put_first with_wells k c.args.periods.now c.args.lists.now) whole ∙ put_all with_wells c.args.periods.now c.args.lists.now c.requires.long
