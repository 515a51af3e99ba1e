-- The number that a text writes plainly.
use Rattle.command_line.proofs.Common.{◌≡◌, ℕ, Bool, true, false, ◌≤◌, ◌<◌, ◌^◌, List, Some, None, Ok, Result, decimal, refl, sym, ap, subst, ◌∙◌, arith, ◌≢◌, [], ◌∷◌, Option, inl, inr, bytes_eq}
use Rattle.command_line.proofs.Common.{digits_value, ParsesUnsigned, and_parts, leb-true, le-leb, is_number, number_in, order_of_words, wanted_if, command_in, is_simple, is_simple_and_free, App, Text}
use Rattle.command_line.proofs.Common.{Kinds, HasKind, IsAmong, kind_of, fault_of, HasMatchesOf, subcommand_of, subcommand_rows_of, heads_app, run_app, check_app, make_app, batch_app, write_app}
use Rattle.command_line.proofs.Common.{settling, needing, spanning, with_flag, with_last_word, with_option, with_word, words_app}
use Rattle.std.proofs.Common.{◌&&◌, nat_le, option_and_then}
use Rattle.std.proofs.{lemmas.Fmt.parse-decimal, lemmas.Fmt.decimal_is_IsNumeral, lemmas.Slice.Eq.bytes_eq-Decides}
use Rattle.clap.proofs.OnLiterals.{clap_on_literals}
use Rattle.clap.specs.{declared.error.Error.Error, declared.error.kind.ErrorKind.ErrorKind, declared.parser.matches.ArgMatches.ArgMatches}
use Rattle.clap.specs.declared.error.kind.ErrorKind.TheVariants as kind

-- where the test holds
holds : (low high : ℕ) (text : List ℕ) → is_number low high text (digits_value 10 text) ≡ true → number_in low high text ≡ Some (digits_value 10 text)
holds low high text h = rw h refl

fails : (low high : ℕ) (text : List ℕ) → is_number low high text (digits_value 10 text) ≡ false → number_in low high text ≡ None
fails low high text h = rw h refl

pub some_number : (low high n : ℕ) (text : List ℕ) → text ≡ decimal n → n < 2 ^ 64 → is_number low high text n ≡ true → Some n ≡ number_in low high text
some_number low high n text is small test =
    let value : digits_value 10 text ≡ n = ap (digits_value 10) is ∙ (decimal_is_IsNumeral n small).1 in
    let P : ℕ → Type 0 = λ k. Some k ≡ number_in low high text in
    let Q : ℕ → Type 0 = λ k. is_number low high text k ≡ true in
    subst P value (sym (holds low high text (subst Q (sym value) test)))

by_test : (low high : ℕ) (text : List ℕ) (b : Bool) → is_number low high text (digits_value 10 text) ≡ b → (b ≡ true → ⊥) → None ≡ number_in low high text
by_test low high text true e no_true = absurd (no_true refl)
by_test low high text false e no_true = sym (fails low high text e)

pub no_number : (low high : ℕ) (text : List ℕ) → (is_number low high text (digits_value 10 text) ≡ true → ⊥) → None ≡ number_in low high text
no_number low high text none = by_test low high text (is_number low high text (digits_value 10 text)) refl none

all_true : (a b c : Bool) → (a && b && c) ≡ true → (a ≡ true) × (b ≡ true) × (c ≡ true)
all_true a b c h = let p = and_parts (a && b) c h in let q = and_parts a b p.0 in (q.0, q.1, p.1)

joined_true : (a b c : Bool) → a ≡ true → b ≡ true → c ≡ true → (a && b && c) ≡ true
joined_true a b c x y z = rw (x, y, z) refl

pub number_word_is_decimal : (low high n : ℕ) (text : List ℕ) → is_number low high text n ≡ true → (text ≡ decimal n) × (low ≤ n) × (n ≤ high)
number_word_is_decimal low high n text h =
    let p = all_true (bytes_eq text (decimal n)) (nat_le low n) (nat_le n high) h in
    ((bytes_eq-Decides text (decimal n)).0 p.0, leb-true low n p.1, leb-true n high p.2)

pub tested : (low high n : ℕ) (text : List ℕ) → text ≡ decimal n → low ≤ n → n ≤ high → is_number low high text n ≡ true
tested low high n text is a b = joined_true (bytes_eq text (decimal n)) (nat_le low n) (nat_le n high) ((bytes_eq-Decides text (decimal n)).1 is) (le-leb low n a) (le-leb n high b)

pub no_parse : {E : Type 0} (low high : ℕ) (text : List ℕ) (r : Result ℕ E) → ParsesUnsigned 32 10 text r → ((x : ℕ) → r ≡ Ok x → ⊥) → high < 2 ^ 32 → None ≡ number_in low high text
no_parse low high text r parses none small = no_number low high text (λ t.
    let p = number_word_is_decimal low high (digits_value 10 text) text t in
    let within = p.2 in
    none (digits_value 10 text) (parse-decimal 32 (digits_value 10 text) text r (omega (arith, within, small)) (omega (arith, within, small)) p.0 parses))

pub other_number : {E : Type 0} (low high n : ℕ) (text : List ℕ) (r : Result ℕ E) → ParsesUnsigned 32 10 text r → r ≡ Ok n → high < 2 ^ 32 →
    (is_number low high text n ≡ true → ⊥) → None ≡ number_in low high text
other_number low high n text r parses is small none = no_number low high text (λ t.
    let p = number_word_is_decimal low high (digits_value 10 text) text t in
    let within = p.2 in
    let e = parse-decimal 32 (digits_value 10 text) text r (omega (arith, within, small)) (omega (arith, within, small)) p.0 parses in
    let same : digits_value 10 text ≡ n = cc in
    let P : ℕ → Type 0 = λ k. is_number low high text k ≡ true in
    none (subst P same t))

-- The command line is one that clap's clauses are exact of.
pub heads_simple : is_simple heads_app ≡ true
unfolding clap_on_literals heads_app needing run_app check_app make_app batch_app write_app words_app settling spanning with_flag with_last_word with_option with_word
heads_simple = refl

pub heads_free : is_simple_and_free heads_app ≡ true
unfolding clap_on_literals heads_app needing run_app check_app make_app batch_app write_app words_app settling spanning with_flag with_last_word with_option with_word
heads_free = refl

-- From clap's clauses to what the words ask for.
among_none : (k : ErrorKind) (kinds : Kinds) (found : Option (Text × List _)) → IsAmong k kinds → wanted_if kinds found ≡ None
among_none k [] found h = absurd h
among_none k (x ∷ kinds) found h = refl

pub usage_at_err : (words : List Text) (a : App) (e : Error) → a ≡ heads_app → (is_simple_and_free a ≡ true → HasKind (fault_of a words) e) → kind_of e ≢ kind.OutOfMemory → order_of_words words ≡ None
usage_at_err words a e same kinds other = by_kind (let P : App → Type 0 = λ a. HasKind (fault_of a words) e in subst P same (kinds (ap is_simple_and_free same ∙ heads_free)))
  where
    by_kind : HasKind (fault_of heads_app words) e → order_of_words words ≡ None
    by_kind (inl h) = absurd (other h)
    by_kind (inr h) = among_none (kind_of e) (fault_of heads_app words) (subcommand_of heads_app words) h

pub order_at_ok : (words : List Text) (a : App) (m : ArgMatches) → a ≡ heads_app → (is_simple_and_free a ≡ true → fault_of a words ≡ []) →
    HasMatchesOf a words m → order_of_words words ≡ option_and_then (λ p. command_in p.0 p.1) (subcommand_rows_of m)
order_at_ok words a m same faults matches =
    let none : fault_of heads_app words ≡ [] = (let P : App → Type 0 = λ a. fault_of a words ≡ [] in subst P same (faults (ap is_simple_and_free same ∙ heads_free))) in
    let rows : subcommand_rows_of m ≡ subcommand_of heads_app words = (matches (ap is_simple same ∙ heads_simple)).1 ∙ ap (λ a. subcommand_of a words) same in
    let P : Kinds → Type 0 = λ ks. wanted_if ks (subcommand_of heads_app words) ≡ option_and_then (λ p. command_in p.0 p.1) (subcommand_rows_of m) in
    subst P (sym none) (ap (option_and_then (λ p. command_in p.0 p.1)) (sym rows))
