use Rattle.relax_worker.proofs.Common.{◌<◌, ◌∙◌, length, length-set, FitsSigned, rules, sym, arith, w64, to_z-of_z, no_link, link_at, seen_on, seen_of, moves_no_looser, no_looser_trans}
use Rattle.relax_worker.proofs.Loading.{load_more}
use Rattle.relax_worker.proofs.workers.load_links.Goals as goal

pub loop-i-preserved : goal.loop-i-preserved
loop-i-preserved c =
    let i = c.loop-i.i in
    let p = c.args.table.now.problem.now in
    let links = c.args.links.now in
    let before = c.loop-i.seat in
    let after = c.load.new.seat in
    let load = c.load.ensures in
    let inv = c.loop-i.invariant in
    let here : i < length links = c.loop-i-test.true in
    let room : i < length c.loop-i.values = omega (arith, inv.whole, here) in
    let fits : FitsSigned w64 c.load.result = search rules in
    simp to_z-of_z
    (record {
      seat = load.seat;
      whole = length-set _ _ _ ∙ inv.whole;
      values = load_more c.loop-i.values links (seen_on c.args.side before) (seen_on c.args.side after) i c.load.result room here c.requires.apart load.others inv.values (sym load.seen);
      others = λ d apart. load.others d (λ e. apart i no_link here (sym e)) ∙ inv.others d apart;
      no_looser = no_looser_trans p (seen_of c.args.seat.now) (seen_of before) (seen_of after) inv.no_looser
          (moves_no_looser c.args.side p before after (link_at links i).cell _ load.seen load.later load.others load.opposite);
      opposite = λ d. load.opposite d ∙ inv.opposite d;
    })
