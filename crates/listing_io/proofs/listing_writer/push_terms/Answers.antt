use Rattle.listing_io.proofs.Common.{rules, ◌≡◌, ◌++◌, ◌∙◌, ap, cond, List, [], ◌∷◌, slice_index_or, Term, Storage, ConstantHead, Wells, Drains, RiverLeakage, HeadDepBounds, Recharge, Et, no_pair}
use Rattle.listing_io.proofs.Common.{Line, ended_line, term_line, text_of, place_of}
use Rattle.listing_io.proofs.Walks.{seven_joined, line_if}
use Rattle.listing_io.proofs.listing_writer.push_terms.Goals as goal

pub returns : goal.returns
returns c =
    let line = λ (t : Term). term_line c.args.s c.args.dir t (slice_index_or c.args.pairs.now (place_of t) no_pair) in
    let et = cond c.args.evt (line Et ∷ []) [] in
    let pieces : c.push_row_if.new.text.items ≡ c.args.text.now.items ++ ended_line (line Storage) ++ ended_line (line ConstantHead) ++ ended_line
    (line Wells) ++ ended_line (line Drains) ++ ended_line (line RiverLeakage) ++ ended_line (line HeadDepBounds) ++ ended_line
    (line Recharge) ++ text_of et = search rules in
    pieces ∙ seven_joined c.args.text.now.items (line Storage) (line ConstantHead) (line Wells) (line Drains) (line RiverLeakage) (line HeadDepBounds) (line Recharge) et
    ∙ ap (λ (more : List Line). c.args.text.now.items ++ text_of
    (line Storage ∷ line ConstantHead ∷ line Wells ∷ line Drains ∷ line RiverLeakage ∷ line HeadDepBounds ∷ line Recharge ∷ more))
    (line_if line c.args.evt Et)
