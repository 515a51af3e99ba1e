use Rattle.relax_worker.proofs.Common.{◌<◌, ◌∙◌, List, length, All, FitsSigned, rules, sym, subst, w64, to_z-of_z, Link, Entries, IsProblem, AreNoLooser, IsAsTight, IsRelaxedOn, ends_in_range}
use Rattle.relax_worker.proofs.Common.{is_side, seen_on, seen_of, moves_no_looser, no_looser_trans, tighter_second}
use Rattle.relax_worker.proofs.{Gaining.turn_gains, Loading.tighter_no_looser}
use Rattle.relax_worker.proofs.workers.relax_cell.Goals as goal

loads_loosen_nothing : (c : goal.After-exchange) → AreNoLooser c.args.table.now.problem.now (seen_of c.args.seat.now) (seen_of c.load_links.new.seat)
loads_loosen_nothing c = let load = c.load-own.ensures in
    no_looser_trans c.args.table.now.problem.now (seen_of c.args.seat.now) (seen_of c.load-own.new.seat) (seen_of c.load_links.new.seat)
    (moves_no_looser c.args.side c.args.table.now.problem.now c.args.seat.now c.load-own.new.seat c.args.cell _ load.seen load.later load.others load.opposite) c.load_links.ensures.no_looser

pub relax_to-to-requires-clause-values : goal.relax_to-to-requires-clause-values
relax_to-to-requires-clause-values c =
    let p = c.args.table.now.problem.now in
    let seat = c.load_links.new.seat in
    let links : List Link = c.as_slice-links.result.now in
    let within : All (λ x. x.cell < length p) links = search rules in
    rw c.load_links.ensures.values
    (ends_in_range (length p) (seen_on c.args.side seat) (λ k h. seat.sound.heads c.args.side k (subst (λ (ps : List Entries). k < length ps) (sym c.load_links.ensures.seat.problem) h)) links within)

pub returns-clause-gain : goal.returns-clause-gain
returns-clause-gain c =
    let p = c.args.table.now.problem.now in
    let side = c.args.side in
    let ok = subst IsProblem c.problem-problem.ensures c.recall_conditions.ensures.fits in
    let seen = seen_on side c.load_links.new.seat in
    let to = c.relax_to-to.result in
    let fits : FitsSigned w64 to = search rules in
    let relaxed : IsRelaxedOn side p seen c.args.cell to = search rules in
    let seen_to = simp to_z-of_z at c.exchange.ensures.seen in
    let past = subst (IsAsTight side to) (sym seen_to) (tighter_second side c.exchange.result to) in
    turn_gains (is_side side p ok) (seen_on side c.args.seat.now) seen c.args.cell to (seen_on side c.exchange.new.seat c.args.cell) c.requires.cell (loads_loosen_nothing c side) relaxed past

pub returns-clause-no_looser : goal.returns-clause-no_looser
returns-clause-no_looser c = no_looser_trans c.args.table.now.problem.now (seen_of c.args.seat.now) (seen_of c.load_links.new.seat) (seen_of c.exchange.new.seat) (loads_loosen_nothing c)
    (let put = c.exchange.ensures in tighter_no_looser c.args.side c.args.table.now.problem.now c.load_links.new.seat c.exchange.new.seat c.args.cell
    c.exchange.result _ put.before put.seen put.others put.opposite)

pub returns-clause-opposite : goal.returns-clause-opposite
returns-clause-opposite c = λ d. c.exchange.ensures.opposite d ∙ (c.load_links.ensures.opposite d ∙ c.load-own.ensures.opposite d)
