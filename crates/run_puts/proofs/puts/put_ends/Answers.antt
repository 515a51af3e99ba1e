use Rattle.run_puts.proofs.Common.{◌≡◌, ◌<◌, ◌≤◌, ◌++◌, List, length, get_or, Some, None, subst, refl, Text, end_line, IsLast, Status, JobEnd}
use Rattle.run_puts.proofs.{Pieces.puts_are_joined, Pieces.put_was, Batches.one_more, Batches.stops_at, Batches.ends_whole, Batches.text_at, Batches.all_texts}
use Rattle.run_puts.proofs.puts.put_ends.Goals as goal

pub loop-end-preserved : goal.loop-end-preserved
loop-end-preserved g c = λ start puts h.
    let ends : List JobEnd = c.args.ends.items in
    let k = c.loop-end.end-index in
    let items : c.as_slice-end-items.result.now ≡ ends = c.as_slice-end-items.ensures.value in
    let within = subst (λ (l : List JobEnd). k < length l) items c.loop-end-test.true in
    let e : JobEnd = c.end-item.result in
    let read = subst (λ (l : List JobEnd). e ≡ get_or l k e) items c.end-item.is in
    let piece : Text = c.as_slice.result.now in
    let t = text_at ends k e piece within read c.as_slice.ensures.value in
    let i = c.loop-end.invariant start puts h in
    let p = c.put_piece.ensures start (puts ++ i.0) i.1 in (
      i.0 ++ p.0,
      puts_are_joined (λ s. g.K.Sink.leads start s c.put_piece.new.out) puts i.0 p.0 p.1,
      one_more ends k piece i.0 p.0 t.0 t.1 i.2 (put_was piece piece _ None p.0 refl c.in_default.is p.2),
    )

pub returns-in-Some : goal.returns-in-Some
returns-in-Some g c = λ start puts h.
    let ends : List JobEnd = c.args.ends.items in
    let k = c.loop-end.end-index in
    let items : c.as_slice-end-items.result.now ≡ ends = c.as_slice-end-items.ensures.value in
    let within = subst (λ (l : List JobEnd). k < length l) items c.loop-end-test.true in
    let e : JobEnd = c.end-item.result in
    let read = subst (λ (l : List JobEnd). e ≡ get_or l k e) items c.end-item.is in
    let piece : Text = c.as_slice.result.now in
    let t = text_at ends k e piece within read c.as_slice.ensures.value in
    let i = c.loop-end.invariant start puts h in
    let p = c.put_piece.ensures start (puts ++ i.0) i.1 in (
      i.0 ++ p.0,
      puts_are_joined (λ s. g.K.Sink.leads start s c.put_piece.new.out) puts i.0 p.0 p.1,
      stops_at ends k piece i.0 p.0 c.in-Some.status t.0 t.1 i.2 (put_was piece piece _ (Some c.in-Some.status) p.0 refl c.in-Some.is p.2),
    )

pub returns : goal.returns
returns g c = λ start puts h.
    let ends : List JobEnd = c.args.ends.items in
    let k = c.loop-end.end-index in
    let items : c.as_slice-end-items.result.now ≡ ends = c.as_slice-end-items.ensures.value in
    let past = subst (λ (l : List JobEnd). length l ≤ k) items c.loop-end-test.false in
    let i = c.loop-end.invariant start puts h in
    let m = c.put_last.ensures start (puts ++ i.0) i.1 in
    let last = subst (λ (s : Status). IsLast end_line s c.put_last.result m.0) c.first_status.ensures m.2 in
    (i.0 ++ m.0, puts_are_joined (λ s. g.K.Sink.leads start s c.put_last.new.out) puts i.0 m.0 m.1, ends_whole ends i.0 m.0 c.put_last.result (all_texts ends k i.0 past i.2) last)
