use Rattle.engine.proofs.Common.{List, ℕ, Vec, Global, subst, sym, Answers, Case, asked_text, case_parts, case_read, file_at, read_by_name, Parts}
use Rattle.engine.proofs.{Ends.ends_read, Ends.ends_unread, Ends.puts_more, Ends.read_reads, TextEnds.parts_read}
unfoldable use Rattle.stated_text.specs.{parts_in}
use Rattle.engine.proofs.text_check.check_text.Goals as goal

pub returns-in-Ok-clause-serves : goal.returns-in-Ok-clause-serves
returns-in-Ok-clause-serves g c =
    let asked = asked_text c.args.asked in
    let come : List ℕ → Case = λ bytes. case_read (parts_in asked.limits asked.text bytes) (λ (p : Parts). case_parts asked p.first p.second) in
    puts_more g.K.Sink.leads c.check_bytes.ensures (λ more m files agree.
    let A : ℕ → Type 0 = λ k. Answers (case_read (read_by_name asked.text (file_at files)) come) (g.F.Folder.faults c.args.folder.now) k c.check_bytes.result more in
    let B : List ℕ → Type 0 = λ bytes. Answers (come bytes) (g.F.Folder.faults c.args.folder.now) (g.F.Folder.faults c.args.folder.now) c.check_bytes.result more in
    subst A (sym c.in-Ok.ensures.folder.counts) (ends_read (read_by_name asked.text (file_at files)) come c.in-Ok.bytes.items (c.in-Ok.ensures.reads files agree)
    (subst B c.as_slice.ensures.value (m (g.F.Folder.faults c.args.folder.now)))))

pub returns-in-Err-clause-serves : goal.returns-in-Err-clause-serves
returns-in-Err-clause-serves g c =
    let asked = asked_text c.args.asked in
    let come : List ℕ → Case = λ bytes. case_read (parts_in asked.limits asked.text bytes) (λ (p : Parts). case_parts asked p.first p.second) in
    puts_more g.K.Sink.leads c.end_reading.ensures (λ more m files agree. ends_unread (read_by_name asked.text (file_at files)) come (λ (v : Vec ℕ Global). v.items)
    (λ bytes. read_reads (λ (p : Parts). case_parts asked p.first p.second) (λ p. parts_read asked p.first p.second) (parts_in asked.limits asked.text bytes))
    c.in-Err.fault (c.in-Err.ensures.reads files agree) c.in-Err.ensures.folder.counts m)
