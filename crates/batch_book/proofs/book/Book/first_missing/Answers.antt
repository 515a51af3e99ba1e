use Rattle.batch_book.proofs.Common.{◌≡◌, ℕ, List, length, Option, None, subst, IsMissing}
use Rattle.std.proofs.Common.{Some}
use Rattle.batch_book.proofs.book.Book.first_missing.Goals as goal

-- the least empty place of a book is the least job without an end
of_book : {J E : Type 0} (number : J → ℕ) (jobs : J) (places shown : List (Option E)) (book : J × List (Option E)) (o : Option ℕ) → shown ≡ places →
    length places ≡ number jobs → (jobs, places) ≡ book → IsMissing shown (length shown) o → IsMissing book.1 (number book.0) o
of_book {J} {E} number jobs places shown book o same whole view h =
    let here : IsMissing places (length places) o = subst (λ (l : List (Option E)). IsMissing l (length l) o) same h in
    let counted : IsMissing places (number jobs) o = subst (λ (n : ℕ). IsMissing places n o) whole here in
    subst (λ (b : J × List (Option E)). IsMissing b.1 (number b.0) o) view counted

pub returns-in-Some : goal.returns-in-Some
returns-in-Some g c = of_book g.J.Jobs.number c.self.inside.jobs.now c.self.inside.ends.items c.as_slice.result.now c.args.self.now
    (Some c.in-Some.place) c.as_slice.ensures.value c.self.invariant.whole c.self.view_is c.in-Some.ensures

pub returns-in-None : goal.returns-in-None
returns-in-None g c = of_book g.J.Jobs.number c.self.inside.jobs.now c.self.inside.ends.items c.as_slice.result.now c.args.self.now None
    c.as_slice.ensures.value c.self.invariant.whole c.self.view_is c.in-None.ensures
