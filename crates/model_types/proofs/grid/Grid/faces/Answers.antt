use Rattle.model_types.proofs.{Leads.within_of, NeighbourFaces.ends_are}
use Rattle.model_types.proofs.grid.Grid.faces.Goals as goal

pub returns-clause-within : goal.returns-clause-within
returns-clause-within c =
    within_of c.args.self.now c.args.cell _ _ _ _ _ _ c.requires.size c.requires.cell
    c.face_before.ensures c.face_before-2.ensures c.face_before-3.ensures c.face_after.ensures c.face_after-2.ensures c.face_after-3.ensures

pub returns-clause-ends : goal.returns-clause-ends
returns-clause-ends c =
    ends_are c.args.self.now c.requires.size c.args.cell c.requires.cell _ _ _ _ _ _
    c.face_before.ensures c.face_before-2.ensures c.face_before-3.ensures c.face_after.ensures c.face_after-2.ensures c.face_after-3.ensures
