use Rattle.listing_io.proofs.Common.{◌≡◌, ◌++◌, ◌∷◌, [], drop, each_lines, head_line, text_of}
use Rattle.listing_io.proofs.view_writer.push_variable_cells.Given as goal

abbrev pub invariant-loop-cell : goal.invariant-loop-cell
invariant-loop-cell l =
    l.text.items ++ text_of (each_lines (λ e b. head_line l.grid e.id b ∷ []) (drop l.cell l.p) (drop l.cell l.heads)) ≡
    l.fn.text.items ++ text_of (each_lines (λ e b. head_line l.grid e.id b ∷ []) l.p l.heads)
