use Rattle.outside.proofs.Common.{rules, ◌≡◌, ◌∙◌, sym, subst, ℕ, Some, IsAsFound, IsFound, bytes_under, reading_of}
use Rattle.outside.proofs.Agreeing.{is_found, by_reading, found_asked, known_named}
use Rattle.outside.proofs.real_folder.RealFolderFolder.read_file.Goals as goal

pub returns-clause-words : goal.returns-clause-words
returns-clause-words g c =
    let is : reading_of c.args.name.now c.ask.new.self.readings ≡ Some c.in-Some.reading.now = search rules in
    found_asked _ _ _ (λ word h. known_named c.ask.new.self.given _ _ _ is word (c.in_ok-answer-in-Some.ensures.words word h))

pub returns-clause-found : goal.returns-clause-found
returns-clause-found g c = λ files agree.
    let is : reading_of c.args.name.now c.ask.new.self.readings ≡ Some c.in-Some.reading.now = search rules in
    let same : c.ask.new.self.limit ≡ c.self.inside.limit = search rules in
    let A : ℕ → Type 0 = λ n. IsAsFound (bytes_under c.args.name.now files.files) n c.in-Some.reading.now.found in
    let P : ℕ → Type 0 = λ n. IsFound files.files c.args.name.now n c.in_ok-answer-in-Some.field-0 in
    let found : P c.self.inside.limit = is_found files.files _ _ _
    (c.in_ok-answer-in-Some.ensures.found _ (subst A same (by_reading _ _ files.files _ _ agree.1 is))) c.in_ok-answer-in-Some.ensures.within in
    subst P (sym (agree.0 ∙ same)) found
