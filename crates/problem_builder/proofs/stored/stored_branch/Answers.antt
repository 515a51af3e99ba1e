use Rattle.problem_builder.proofs.Common.{Bool, None, Some, Option, FixedSource, Inputs, cond, sym, ap, ◌∙◌, FromStorage, known_head, fixed_over, branches_of, option_map, period_at, Storage}
use Rattle.problem_builder.proofs.stored.stored_branch.Goals as goal

-- the source of stored water by whether storage counts and whether the period is steady
abbrev source : Bool → Bool → Option FixedSource
source counts steady = cond counts (cond steady None (Some FromStorage)) None

pub returns : goal.returns
returns c =
    let i = c.args.input.now in
    let counts = sym (ap (λ (x : Inputs). x.stored) c.input.view_is) ∙ c.if-not-input.false in
    let e = sym c.is_steady.ensures ∙ c.if-is_steady.false in
    let pair = c.storage-pair.ensures c.requires.cell.variable e in
    let head = c.old_head-head.ensures in
    ap Some (c.known_head.ensures ∙ (λ t. known_head Storage c.args.cell (pair t) (head t)))
    ∙ (λ t. option_map (fixed_over i.model i.tables.digits i.at i.old (branches_of i) c.args.cell) (source (sym counts t) (sym e t)))

pub returns-then-is_steady : goal.returns-then-is_steady
returns-then-is_steady c =
    let i = c.args.input.now in
    let counts = sym (ap (λ (x : Inputs). x.stored) c.input.view_is) ∙ c.if-not-input.false in
    let e = sym c.is_steady.ensures ∙ c.if-is_steady.true in
    λ t. option_map (fixed_over i.model i.tables.digits i.at i.old (branches_of i) c.args.cell) (source (sym counts t) (sym e t))

pub returns-then-not-input : goal.returns-then-not-input
returns-then-not-input c =
    let i = c.args.input.now in
    let e = sym (ap (λ (x : Inputs). x.stored) c.input.view_is) ∙ c.if-not-input.true in
    λ t. option_map (fixed_over i.model i.tables.digits i.at i.old (branches_of i) c.args.cell) (source (sym e t) (period_at i.model i.at.period).steady)
