use Rattle.stated_text.proofs.Common.{ap, cut_after, or_bad, rules, Ok, ◌≡◌, ◌∙◌, bytes_eq, codes, false, length, lines, refl, sym}
use Rattle.stated_text.proofs.{CutTexts.at_end, CutTexts.at_nothing, CutTexts.no_lines, CutTexts.then_file, CutTexts.then_line, Faults.bad_stops}
use Rattle.stated_text.proofs.cutting.cut_rest.Goals.{in-Some+in_ok-push-2, in_default+in_ok-add}
use Rattle.stated_text.proofs.cutting.cut_rest.Goals as goal

pub returns-then-eq : goal.returns-then-eq
returns-then-eq c =
    let is : cut_after c.args.begun c.args.line (lines c.args.bytes.now) ≡ Ok c.push.new.self.items =
    sym c.loop-left.invariant ∙ rw (c.cut_line.ensures.line, c.in_ok-push.ensures.items)
    (at_end c.loop-left.files.items c.loop-left.last c.loop-left.number c.cut_line.result.0.now (lines c.cut_line.result.1.now) (search rules)) in
    ap (or_bad c.args.text.now) is

pub loop-left-preserved : goal.loop-left-preserved
loop-left-preserved c =
    let row = c.cut_line.result.0.now in
    let no_end : bytes_eq row (codes "END") ≡ false = search rules in
    elim c.match-name_in.branch [
      | in-Some+in_ok-push-2 w ↦
          then_file c.loop-left.files.items c.match-name_in.files.items c.loop-left.last c.match-name_in.last c.loop-left.number c.next_number-number.result row
          (lines c.cut_line.result.1.now) c.loop-left.left.now _
          c.cut_line.ensures.line no_end c.next_number-number.ensures c.loop-left.invariant w.in-Some.name.now w.in-Some.ensures.0 w.in-Some.ensures.1
          (rw w.files-is w.in_ok-push-2.ensures.items) (w.last-is ∙ w.new-last.ensures)
      | in_default+in_ok-add w ↦
          then_line c.loop-left.files.items c.match-name_in.files.items c.loop-left.last c.match-name_in.last c.loop-left.number c.next_number-number.result row
          (lines c.cut_line.result.1.now) c.loop-left.left.now _
          c.cut_line.ensures.line no_end c.next_number-number.ensures c.loop-left.invariant w.in_default.ensures (rw w.files-is refl) (w.last-is ∙ w.in_ok-add.ensures)
    ]

pub returns : goal.returns
returns c =
    let none : length c.loop-left.left.now ≡ 0 = search rules in
    bad_stops c.args.text.now _ c.loop-left.number c.text_fault.result
    (sym c.loop-left.invariant ∙ rw (no_lines c.loop-left.left.now none) (at_nothing c.loop-left.files.items c.loop-left.last c.loop-left.number)) c.text_fault.ensures
