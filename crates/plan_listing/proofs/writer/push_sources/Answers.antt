use Rattle.plan_listing.proofs.Common.{rules, ◌≡◌, ◌++◌, ◌∙◌, ap, cond, List, [], ◌∷◌, slice_index_or, Term, no_pair, place_of, Line, ended_line, source_line, text_of, line_if}
use Rattle.step_problem.specs.declared.place.Term.TheVariants.{Storage, ConstantHead, Drains, RiverLeakage, HeadDepBounds, Et}
use Rattle.plan_listing.proofs.Texts.{five_joined}
use Rattle.plan_listing.proofs.writer.push_sources.Goals as goal

pub returns : goal.returns
returns c =
    let line = λ (t : Term). source_line c.args.s t (slice_index_or c.args.pairs.now (place_of t) no_pair) in
    let et = cond c.args.evt (line Et ∷ []) [] in
    let pieces : c.push_row_if.new.text.items ≡ c.args.text.now.items ++ ended_line (line Storage) ++ ended_line (line ConstantHead) ++ ended_line
    (line Drains) ++ ended_line (line RiverLeakage) ++ ended_line (line HeadDepBounds) ++ text_of et = search rules in
    pieces ∙ five_joined c.args.text.now.items (line Storage) (line ConstantHead) (line Drains) (line RiverLeakage) (line HeadDepBounds) et
    ∙ ap (λ (more : List Line). c.args.text.now.items ++ text_of
    (line Storage ∷ line ConstantHead ∷ line Drains ∷ line RiverLeakage ∷ line HeadDepBounds ∷ more))
    (line_if line c.args.evt Et)
