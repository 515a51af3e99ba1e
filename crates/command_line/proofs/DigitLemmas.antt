-- The digits that words ask for are at most 18.
use Rattle.command_line.proofs.Common.{◌≡◌, ℕ, ◌≤◌, Bool, true, false, cond, List, [], ◌∷◌, Option, Some, None, codes, refl, subst, arith, bytes_eq, digits_value, leb-true, and_parts, Text, Row}
use Rattle.command_line.proofs.Common.{Kinds, fault_of, subcommand_of, first_of, heads_app, is_number, number_in, number_or, Wanted, AskedCheck, Check, batch_in, write_in, check_in, command_in}
use Rattle.command_line.proofs.Common.{digits_in, make_in, rounds_in, run_in, wanted_if, order_of_words, watch_in, workers_in, flag_in, quick_if_unwatched, AskedText, CheckText, Words, listed_in}
use Rattle.command_line.proofs.Common.{CheckPlan, check_by, convertible_check_in, named_check_in, file_check_in, listing_check_in, if_omitted, plan_check_in, plan_in, run_by, text_check_in, unset}
use Rattle.std.specs.Prelude.{◌&&◌, if◌then◌else◌, decimal, nat_le, option_and_then}

-- a number that was taken is one of its range

taken : (test : Bool) (v n : ℕ) → (if test then Some v else None) ≡ Some n → (test ≡ true) × (v ≡ n)
taken true v n e = (refl, cc)
taken false v n e = absurd (let bad : Path (Option ℕ) None (Some n) = e in cc)

few : (given : Option Text) (n : ℕ) → number_or 0 18 12 given ≡ Some n → n ≤ 18
few None n e = let same : 12 ≡ n = (taken true 12 n e).1 in omega (arith, same)
few (Some text) n e =
    let v = digits_value 10 text in
    let (test, same) = taken (is_number 0 18 text v) v n e in
    let top : v ≤ 18 = leb-true v 18 (and_parts (bytes_eq text (decimal v) && nat_le 0 v) (nat_le v 18) test).1 in
    omega (arith, same, top)

-- a check has at most 18
abbrev Fits : Option Wanted → Type 0
Fits (Some (Check asked to)) = asked.digits ≤ 18
Fits (Some (CheckPlan asked wells to)) = asked.digits ≤ 18
Fits (Some (CheckText asked)) = asked.digits ≤ 18
Fits other = Unit {0}

then_fits : {A : Type 0} (x : Option A) (f : A → Option Wanted) → ((a : A) → x ≡ Some a → Fits (f a)) → Fits (option_and_then f x)
then_fits None f h = tt
then_fits (Some a) f h = h a refl

cond_fits : (test : Bool) (x y : Option Wanted) → Fits x → Fits y → Fits (cond test x y)
cond_fits true x y h k = h
cond_fits false x y h k = k

listed_fits : (rows : List Row) → Fits (listed_in rows)
listed_fits rows =
    then_fits (first_of (codes "name") rows) _ (λ name a.
    then_fits (digits_in rows) _ (λ digits b.
    then_fits (workers_in rows) _ (λ workers c.
    then_fits (rounds_in rows) _ (λ rounds d.
    then_fits (watch_in rows) _ (λ turns e. then_fits (quick_if_unwatched turns (flag_in (codes "quick") rows)) _ (λ quick f. tt))))))

plan_fits : (wells : Text) (rows : List Row) → Fits (plan_in wells rows)
plan_fits wells rows =
    then_fits (first_of (codes "name") rows) _ (λ name a.
    then_fits (digits_in rows) _ (λ digits b.
    then_fits (workers_in rows) _ (λ workers c.
    then_fits (rounds_in rows) _ (λ rounds d.
    then_fits (if_omitted (first_of (codes "watch") rows)) _ (λ watch e. then_fits (unset (flag_in (codes "deck") rows)) _ (λ deck f. tt))))))

run_fits : (rows : List Row) → Fits (run_in rows)
run_fits rows = by_wells (first_of (codes "plan") rows)
  where
    by_wells : (wells : Option Text) → Fits (run_by wells rows)
    by_wells None = listed_fits rows
    by_wells (Some wells) = plan_fits wells rows

listing_check_fits : (rows : List Row) → Fits (listing_check_in rows)
listing_check_fits rows =
    then_fits (first_of (codes "name") rows) _ (λ name a.
    then_fits (first_of (codes "listing") rows) _ (λ listing b. then_fits (digits_in rows) _ (λ digits c. (few (first_of (codes "digits") rows) digits c))))

plan_check_fits : (wells : Text) (rows : List Row) → Fits (plan_check_in wells rows)
plan_check_fits wells rows =
    then_fits (first_of (codes "name") rows) _ (λ name a.
    then_fits (first_of (codes "listing") rows) _ (λ listing b. then_fits (digits_in rows) _ (λ digits c. (few (first_of (codes "digits") rows) digits c))))

file_check_fits : (rows : List Row) → Fits (file_check_in rows)
file_check_fits rows = by_wells (first_of (codes "plan") rows)
  where
    by_wells : (wells : Option Text) → Fits (check_by wells rows)
    by_wells None = listing_check_fits rows
    by_wells (Some wells) = plan_check_fits wells rows

convertible_check_fits : (rows : List Row) → Fits (convertible_check_in rows)
convertible_check_fits rows =
    then_fits (first_of (codes "name") rows) _ (λ name a. then_fits (first_of (codes "listing") rows) _ (λ listing b. then_fits (if_omitted (first_of (codes "to") rows)) _
    (λ to c. then_fits (if_omitted (first_of (codes "plan") rows)) _ (λ plan d. then_fits (digits_in rows) _ (λ digits e. tt)))))

named_check_fits : (rows : List Row) → Fits (named_check_in rows)
named_check_fits rows = by_flag (flag_in (codes "convertible") rows)
  where
    by_flag : (convertible : Bool) → Fits (if convertible then convertible_check_in rows else file_check_in rows)
    by_flag true = convertible_check_fits rows
    by_flag false = file_check_fits rows

text_check_fits : (rows : List Row) → Fits (text_check_in rows)
text_check_fits rows =
    then_fits (first_of (codes "name") rows) _ (λ text a. then_fits (if_omitted (first_of (codes "listing") rows)) _ (λ listing b. then_fits (if_omitted (first_of (codes "to") rows)) _
    (λ to c. then_fits (if_omitted (first_of (codes "zones") rows)) _ (λ zones d. then_fits (if_omitted (first_of (codes "plan") rows)) _
    (λ plan f. then_fits (unset (flag_in (codes "convertible") rows)) _ (λ convertible g. then_fits (digits_in rows) _ (λ digits e. (few (first_of (codes "digits") rows) digits e))))))))

check_fits : (rows : List Row) → Fits (check_in rows)
check_fits rows = by_flag (flag_in (codes "deck") rows)
  where
    by_flag : (deck : Bool) → Fits (if deck then text_check_in rows else named_check_in rows)
    by_flag true = text_check_fits rows
    by_flag false = named_check_fits rows

make_fits : (rows : List Row) → Fits (make_in rows)
make_fits rows =
    then_fits (first_of (codes "seed") rows) _ (λ seed_text a.
    then_fits (first_of (codes "size") rows) _ (λ size_text b.
    then_fits (number_in 0 2147483647 seed_text) _ (λ seed c. then_fits (number_in 1 64 size_text) _ (λ size d. tt))))

batch_fits : (rows : List Row) → Fits (batch_in rows)
batch_fits rows =
    then_fits (first_of (codes "list") rows) _ (λ list a. then_fits (digits_in rows) _ (λ digits b. then_fits (workers_in rows) _ (λ workers c. then_fits (rounds_in rows) _ (λ rounds d. tt))))

write_fits : (rows : List Row) → Fits (write_in rows)
write_fits rows = then_fits (first_of (codes "name") rows) _ (λ name a. tt)

command_fits : (name : Text) (rows : List Row) → Fits (command_in name rows)
command_fits name rows =
    cond_fits (bytes_eq name (codes "run")) (run_in rows) _ (run_fits rows)
    (cond_fits (bytes_eq name (codes "check")) (check_in rows) _ (check_fits rows)
    (cond_fits (bytes_eq name (codes "make")) (make_in rows) _ (make_fits rows)
    (cond_fits (bytes_eq name (codes "batch")) (batch_in rows) _ (batch_fits rows)
    (cond_fits (bytes_eq name (codes "write")) (write_in rows) _ (write_fits rows)
    (cond_fits (bytes_eq name (codes "words")) (Some Words) None tt tt)))))

found_fits : (faults : Kinds) (found : Option (Text × List Row)) → Fits (wanted_if faults found)
found_fits [] found = then_fits found (λ p. command_in p.0 p.1) (λ p e. command_fits p.0 p.1)
found_fits (fault ∷ faults) found = tt

pub check_digits : (words : List Text) (asked : AskedCheck) (to : Option Text) → order_of_words words ≡ Some (Check asked to) → asked.digits ≤ 18
check_digits words asked to e = subst Fits e (found_fits (fault_of heads_app words) (subcommand_of heads_app words))

pub text_digits : (words : List Text) (asked : AskedText) → order_of_words words ≡ Some (CheckText asked) → asked.digits ≤ 18
text_digits words asked e = subst Fits e (found_fits (fault_of heads_app words) (subcommand_of heads_app words))
