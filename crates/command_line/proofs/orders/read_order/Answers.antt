use Rattle.command_line.proofs.Common.{rules, ◌≢◌, map, ◌∙◌, sym, app_of, kind_of}
use Rattle.command_line.proofs.Plain.{usage_at_err, order_at_ok}
use Rattle.clap.specs.declared.error.kind.ErrorKind.TheVariants as kind
use Rattle.command_line.proofs.orders.read_order.Goals as goal

pub returns-in-Err-clause-usage : goal.returns-in-Err-clause-usage
returns-in-Err-clause-usage c = λ e.
    let other : kind_of c.in-Err.error ≢ kind.OutOfMemory = search rules in
    usage_at_err (map (λ w. w.now) c.args.words.now) (app_of c.in-Ok.command) c.in-Err.error c.in-Ok.ensures.is c.in-Err.ensures.kinds other

pub returns-in-Some-clause-order : goal.returns-in-Some-clause-order
returns-in-Some-clause-order c =
    order_at_ok (map (λ w. w.now) c.args.words.now)
    (app_of c.in-Ok.command) c.in-Ok-try_get_matches_from.matches c.in-Ok.ensures.is c.in-Ok-try_get_matches_from.ensures.kinds
    c.in-Ok-try_get_matches_from.ensures.matches
    ∙ sym c.in-Some.ensures

pub returns-clause-usage : goal.returns-clause-usage
returns-clause-usage c = λ e.
    order_at_ok (map (λ w. w.now) c.args.words.now)
    (app_of c.in-Ok.command) c.in-Ok-try_get_matches_from.matches c.in-Ok.ensures.is c.in-Ok-try_get_matches_from.ensures.kinds
    c.in-Ok-try_get_matches_from.ensures.matches
    ∙ sym c.in-None.ensures
