-- A discretization, one item behind the other.
use Rattle.dis_package.proofs.Common.{◌≡◌, refl, ℕ, ℤ, List, Ok, FileSet, Left, left_from, without_comments, Stops, StopsText, Period, grid_of, periods_of, model_of_grid, beds_of, frame_of, head_of}
use Rattle.dis_package.proofs.Common.{dis_of, line_at, words, Frame, Limits, Numbered, input_fault, Grid, FlowModel}
use Rattle.outside.specs.{declared.inputs.TextFault.TextFault, declared.inputs.TextFault.TheVariants.Refused, declared.inputs.TextFault.TheVariants.Memory}

-- the first line and LAYCBD
pub head_read : (limits : Limits) (file : List ℕ) (left rest after : Left) (line : Numbered) (ws : List (List ℕ)) (frame : Frame) (laycbd : List ℤ) →
    line_at file left ≡ Ok (line, rest) → ws ≡ words line.bytes
    → frame_of limits file line.number ws ≡ Ok frame → beds_of file frame.size.layers rest ≡ Ok (laycbd, after) → head_of limits file left ≡ Ok ((frame, laycbd), after)
unfolding head_of
head_read limits file left rest after line ws frame laycbd a w b d = rw (a, ← w, b, d) refl

pub dis_read : (limits : Limits) (files : FileSet) (file bytes : List ℕ) (left : Left) (head : (Frame × List ℤ) × Left) (grid : Grid × Left) (periods : List Period) (m : FlowModel)
    → left ≡ without_comments (left_from 1 bytes)
    → head_of limits file left ≡ Ok head
    → grid_of files file head.0.0.size head.0.1 head.1 ≡ Ok grid
    → periods_of file head.0.0.periods grid.1 ≡ Ok periods
    → m ≡ model_of_grid grid.0 head.0.0.lenuni periods
    → dis_of limits files file bytes ≡ Ok m
unfolding dis_of
dis_read limits files file bytes left head grid periods m from a b d is = rw (← from, a, b, d, is) refl

-- a fault of the periods is one of the discretization
pub dis_stops : (limits : Limits) (fault : TextFault) (files : FileSet) (file bytes : List ℕ) (left : Left) (head : (Frame × List ℤ) × Left) (grid : Grid × Left)
    → left ≡ without_comments (left_from 1 bytes)
    → head_of limits file left ≡ Ok head
    → grid_of files file head.0.0.size head.0.1 head.1 ≡ Ok grid
    → StopsText fault (periods_of file head.0.0.periods grid.1)
    → Stops (input_fault fault) (dis_of limits files file bytes)
unfolding dis_of
dis_stops limits (Refused r) files file bytes left head grid from a b d = rw (← from, a, b, d) refl
dis_stops limits Memory files file bytes left head grid from a b d = tt
