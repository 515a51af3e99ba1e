use Rattle.std.proofs.Common.{arith}
use Rattle.deck_span.proofs.Finding.{list_found}
use Rattle.deck_span.proofs.lists.list_apart.Goals as goal

pub returns-in-Some : goal.returns-in-Some
returns-in-Some g c =
    list_found g.T.Compared.alike c.args.cells c.args.xs.now c.args.ys.now g.T.Compared.number c.in-Some.place c.number.result c.index-ys-place.result
    c.numbered_cell.result (omega arith) c.in-Some.ensures c.index-ys-place.is c.number.ensures c.numbered_cell.ensures
