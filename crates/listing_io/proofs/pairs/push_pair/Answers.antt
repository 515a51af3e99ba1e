use Rattle.listing_io.proofs.Common.{rules, ◌≡◌, ◌++◌, ◌∙◌, codes, List, ℕ, append_assoc, fixed_text}
use Rattle.listing_io.proofs.pairs.push_pair.Goals as goal

joined : (t a b c d : List ℕ) → t ++ a ++ b ++ c ++ d ≡ t ++ (a ++ (b ++ (c ++ d)))
joined t a b c d = simp append_assoc

pub returns : goal.returns
returns c =
    let places = c.args.form.now.places in
    let pieces : c.extend_from_slice.new.self.items ≡
    c.args.text.now.items ++ fixed_text places c.args.pair.lo ++ codes " " ++ fixed_text places c.args.pair.hi ++ c.args.form.now.back = search rules in
    pieces ∙ joined c.args.text.now.items (fixed_text places c.args.pair.lo) (codes " ") (fixed_text places c.args.pair.hi) c.args.form.now.back
