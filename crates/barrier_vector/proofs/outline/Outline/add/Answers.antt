use Rattle.barrier_vector.proofs.Outlining.{outline_more}
use Rattle.barrier_vector.proofs.outline.Outline.add.Goals as goal

pub returns : goal.returns
returns c = outline_more c.args.side c.args.p.now c.args.c c.cell-cell.result.now c.args.self.now.mark c.cell_mark.result c.outer_mark-self.result
    c.args.self.now.need c.need_of.result c.min-self.result c.args.self.now.anchors.items c.push.new.self.items c.greatest_anchor.result c.requires.cell
    c.cell-cell.ensures c.outer_mark-self.ensures c.cell_mark.ensures c.min-self.ensures c.need_of.ensures.value c.in_ok-push.ensures.items
    c.greatest_anchor.ensures c.requires.before
