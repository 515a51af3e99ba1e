-- The text that a run put is certified.
use Rattle.engine.proofs.Common.{[], ◌≡◌, ◌≤◌, ◌<◌, ◌++◌, ◌∷◌, ◌∙◌, ℕ, ℤ, Bool, List, None, Ok, Err, Option, Some, Result, ap, append-nil, arith, inr, length-map, map, refl, subst, sym, unsigned_abs}
use Rattle.engine.proofs.Common.{IfSome, option_map, is_some, concat, Appends, AskedText, ListingOrder, order_of_words, AreDecks, Decks, one_deck, one_valid, two, FlowModel, Step, Task, Text}
use Rattle.engine.proofs.Common.{end_line, listing, ListedStep, pairs_in, AreNumbers, FileSet, Refusal, AreItsSteps, Case, Defines, IsCheck, RunIsCertified, RunIsReadAgain, as_listed, case_of}
use Rattle.engine.proofs.Common.{case_parts, case_read, case_rest, certified_line, have_one, reads, run_encloses, span_task_of, task_of, unit_is_short, zoned_text, zones_read, Wanted, Part}
use Rattle.engine.proofs.Common.{OneDeckListing, OneDeckSpan, cell_count, AreAlike, ◌>>=◌, unwrap_or, text_of, ChecksText, IsReadableText, OneSpanTextIsCertified, OneTextIsCertified, text_digits}
use Rattle.engine.proofs.Common.{read_writable, CanBeRead, ListingIsReadBack, parts_text, nat_abs, ◌^◌, zones_of, numbers_small, zones_give, AreZones}
use Rattle.engine.proofs.Written.{read_numbers, some_ok}
use Rattle.check_run.specs.declared.verdict.ListingVerdict.TheVariants.{Certified as Holds}
use Rattle.stated_text.proofs.ReadBack.{decks_are_read_back, listed_begins, rest_back}
use Rattle.run_puts.specs.declared.puts.Status.TheVariants as status
unfoldable use Rattle.stated_text.specs.{parts_in}

-- The listing of decks with all steps, after the text of these decks.
module _ (certified : RunIsCertified) (again : RunIsReadAgain) (k : Task) (values : List Step) (decks : AreDecks k.decks) (numbers : AreNumbers k.zones) (all : AreItsSteps k values)
    (digits : k.digits ≤ 18) (unit : nat_abs k.decks.first.lenuni < 2 ^ 64) (first : CanBeRead k.limits k.zones k.decks.first)
    (second : IfSome k.decks.second (CanBeRead k.limits k.zones)) (name : Text) where
  abbrev between : Bool
  between = is_some k.decks.second

  abbrev rest : List ℕ
  rest = concat (listing k values end_line)

  abbrev steps : List ListedStep
  steps = map as_listed values

  -- the check that is asked for
  abbrev asked : AskedText
  asked = record { limits = k.limits; text = name; digits = k.digits }

  back : ListingIsReadBack between k.decks.first k.digits (pairs_in k.decks.first k.zones) rest steps
  back =
      let w = listed_begins between k.decks.first k.digits (concat (map (λ v. text_of k v) values ++ (end_line ∷ []))) in
      rest_back between k.decks.first k.digits (pairs_in k.decks.first k.zones) rest w.0 steps w.1
      (again k.limits k.decks k.digits k.zones k.rounds k.quick values (record { decks = decks; digits = digits; numbers = numbers; unit = unit }) all.steps)

  checked : IsCheck k.limits k.decks k.digits (record { zones = k.zones; steps = steps }) status.Ok (certified_line ∷ [])
  checked = record {
    verdict = Holds;
    is = certified k.limits k.decks k.digits k.zones k.rounds k.quick values decks numbers all.steps;
    encloses = λ e. run_encloses k.limits k.decks k.digits k.zones k.rounds k.quick values all.steps all.encloses;
    history = λ e. have_one k values decks all.steps;
    status = refl;
    are = refl;
  }

  abbrev Ends : Case → Type 0
  Ends case = Defines case status.Ok (certified_line ∷ [])

  rest_ends : (d : Decks) (zones : Option (List ℕ)) (line : ℕ) (bytes : List ℕ) → d ≡ k.decks → zones ≡ k.zones → bytes ≡ rest → Ends (case_rest asked d zones line bytes)
  rest_ends d zones line bytes is same left =
      let D : Decks → Type 0 = λ x. Ends (case_rest asked x zones line bytes) in
      let Z : Option (List ℕ) → Type 0 = λ z. Ends (case_rest asked k.decks z line bytes) in
      let B : List ℕ → Type 0 = λ b. Ends (case_rest asked k.decks k.zones line b) in
      let read = back.read name line in
      let here : B rest = rw read checked in
      subst D (sym is) (subst Z (sym same) (subst B (sym left) here))

  parts_end : (a : Part) (b : Option Part) → a.model ≡ k.decks.first → option_map (λ p. p.model) b ≡ k.decks.second → a.zones ≡ k.zones → (unwrap_or b a).rest ≡ rest → Ends (case_parts asked a b)
  parts_end a None model none zones left = rest_ends (one_deck a.model) a.zones a.line a.rest (λ i. record { first = model i; second = none i }) zones left
  parts_end a (Some b) model some zones left =
      let same : two a.model b.model ≡ k.decks = λ i. record { first = model i; second = some i } in
      let here : AreDecks (two a.model b.model) = subst AreDecks (sym same) decks in
      inr (here.second.alike, rest_ends (two a.model b.model) a.zones b.line b.rest same zones left)

  pub text_ends : (bytes : List ℕ) → bytes ≡ parts_text k.decks.first k.decks.second k.zones ++ rest →
      Ends (case_read (parts_in k.limits name bytes) (λ p. case_parts asked p.first p.second))
  text_ends bytes is =
      let r = decks_are_read_back k.limits name k.decks.first k.decks.second k.zones rest first second back.apart in
      let B : List ℕ → Type 0 = λ b. Ends (case_read (parts_in k.limits name b) (λ p. case_parts asked p.first p.second)) in
      let read = r.read in
      let here : B (parts_text k.decks.first k.decks.second k.zones ++ rest) = rw read (parts_end r.parts.first r.parts.second r.first r.second r.zoned r.left) in
      subst B (sym is) here

-- what was appended to nothing, in two steps
two_parts_of : (mid : Option (List ℕ)) (bytes x y : List ℕ) → Appends (Some []) mid x → Appends mid (Some bytes) y → bytes ≡ x ++ y
two_parts_of None bytes x y first last = absurd first
two_parts_of (Some m) bytes x y first last = let is : bytes ≡ m ++ y = last in let was : m ≡ x = first in is ∙ ap (λ (t : List ℕ). t ++ y) was

-- zones that were read are zones of the model's cells
zones_fit : (files : FileSet) (o : Option Text) (m : FlowModel) (zones : Option (List ℕ)) → zones_read files o m ≡ Ok zones → AreZones m zones
zones_fit files None m zones h = subst (AreZones m) (some_ok None zones h) tt
zones_fit files (Some name) m zones h = by_zones (zones_of files m.grid name) refl h
  where
    by_zones : (r : Result (List ℤ) Refusal) → zones_of files m.grid name ≡ r → (r >>= λ zs. Ok (Some (map unsigned_abs zs))) ≡ Ok zones → AreZones m zones
    by_zones (Ok zs) is e =
        let many = ((zones_give files m.grid name).gives zs is).0 in
        subst (AreZones m) (some_ok (Some (map unsigned_abs zs)) zones e)
        (record { count = length-map zs unsigned_abs ∙ many; limits = numbers_small files m.grid name zs is })
    by_zones (Err refusal) is e = absurd (let bad : Path (Result (Option (List ℕ)) Refusal) (Err refusal) (Ok zones) = e in cc)

-- the same zones of a model that is alike
zones_alike : (a b : FlowModel) (zones : Option (List ℕ)) → AreAlike a b → AreZones a zones → AreZones b zones
zones_alike a b None alike h = tt
zones_alike a b (Some zs) alike h = record { count = h.count ∙ ap (λ (m : FlowModel). cell_count m.grid) (sym alike.same); limits = h.limits }

can_be_read : (asked : ListingOrder) (files : FileSet) (name : Text) (m : FlowModel) (zones : Option (List ℕ)) → reads asked.limits files name ≡ Ok m → AreZones m zones →
    IsReadableText asked zones m → CanBeRead asked.limits zones m
can_be_read asked files name m zones read fit h = record { writable = read_writable asked.limits files name m read h.short; zoned = fit; short = h.few }

-- The check of bytes that are such a text.
module _ (certified : RunIsCertified) (again : RunIsReadAgain) (order : ListingOrder) (files : FileSet) (bytes : List ℕ) (checks : List Text) (others : FileSet)
    (h : ChecksText checks others order bytes) where
  abbrev Come : Case → Type 0
  Come case = Defines case status.Ok (certified_line ∷ [])

  -- the check that was asked for, by the limits and the digits of the run
  check_ends : Come (case_read (parts_in order.limits h.check.text bytes) (λ p. case_parts (record { limits = order.limits; text = h.check.text; digits = order.digits }) p.first p.second)) →
      Come (case_of (order_of_words checks) others)
  check_ends ends =
      let same : Path AskedText (record { limits = order.limits; text = h.check.text; digits = order.digits }) h.check = λ i.
      record { limits = sym h.limits i; text = h.check.text; digits = sym h.digits i } in
      let A : AskedText → Type 0 = λ a. Come (case_read (parts_in a.limits a.text bytes) (λ p. case_parts a p.first p.second)) in
      let R : Result (List ℕ) Refusal → Type 0 = λ r. Come (case_read r (λ bs. case_read (parts_in h.check.limits h.check.text bs) (λ p. case_parts h.check p.first p.second))) in
      let W : Option Wanted → Type 0 = λ o. Come (case_of o others) in
      subst W (sym h.wanted) (subst R (sym h.read) (subst A same ends))

  digits : order.digits ≤ 18
  digits = let few = text_digits checks h.check h.wanted in let same = h.digits in omega (arith, few, same)

  pub one_ends : (x : OneDeckListing order files (Some []) (Some bytes)) → IsReadableText order x.headline.listing.zones x.headline.listing.model →
      Come (case_of (order_of_words checks) others)
  one_ends x can =
      let l = x.headline.listing in
      let k = task_of order l.model l.zones in
      let is = two_parts_of x.headline.mid bytes (zoned_text l.model l.zones) (concat (listing k l.values end_line)) x.headline.deck l.written in
      check_ends (text_ends certified again k l.values (one_valid l.model l.valid) (read_numbers files order.zones l.model l.zones l.zoned) x.values digits
      (unit_is_short order.limits files order.name l.model l.read)
      (can_be_read order files order.name l.model l.zones l.read (zones_fit files order.zones l.model l.zones l.zoned) can) tt h.check.text bytes
      (is ∙ ap (λ (t : List ℕ). t ++ concat (listing k l.values end_line)) (sym (append-nil (zoned_text l.model l.zones)))))

  pub span_ends : (to : Text) (x : OneDeckSpan order to files (Some []) (Some bytes)) → IsReadableText order x.headline.listing.zones x.headline.listing.decks.first →
      IsReadableText order x.headline.listing.zones x.headline.listing.decks.second → Come (case_of (order_of_words checks) others)
  span_ends to x can can_to =
      let l = x.headline.listing in
      let ds = l.decks in
      let k = span_task_of order ds.first ds.second l.zones in
      let fit = zones_fit files order.zones ds.first l.zones l.zoned in
      check_ends (text_ends certified again k l.values (record { first = ds.valid; second = record { model = ds.valid_to; alike = ds.alike } })
      (read_numbers files order.zones ds.first l.zones l.zoned) x.values digits
      (unit_is_short order.limits files order.name ds.first ds.read) (can_be_read order files order.name ds.first l.zones ds.read fit can)
      (can_be_read order files to ds.second l.zones ds.read_to (zones_alike ds.first ds.second l.zones ds.alike fit) can_to) h.check.text bytes
      (two_parts_of x.headline.mid bytes (zoned_text ds.first l.zones ++ zoned_text ds.second l.zones) (concat (listing k l.values end_line)) x.headline.decks l.written))

pub one_text : RunIsCertified → RunIsReadAgain → OneTextIsCertified
one_text certified again asked files bytes x can checks others h = one_ends certified again asked files bytes checks others h x can

pub one_span_text : RunIsCertified → RunIsReadAgain → OneSpanTextIsCertified
one_span_text certified again asked to files bytes x can can_to checks others h = span_ends certified again asked files bytes checks others h to x can can_to
