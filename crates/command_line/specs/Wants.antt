-- What the words of the command line ask for.
use Rattle.std.specs.Prelude.{ℕ, Bool, true, false, List, [], ◌∷◌, Option, Some, None, cond, codes, option_map, option_and_then, ◌&&◌, decimal, nat_le}
use Rattle.std.specs.Prelude.{if◌then◌else◌}
use Rattle.std.specs.{Option.option_map_or, Str.bytes_eq, Str.Parse.digits_value}
use Rattle.clap.specs.Words.{Text, Row, Kinds, fault_of, subcommand_of, first_of}
use Rattle.command_line.specs.{Commands.heads_app, declared.order.BatchOrder.BatchOrder, declared.order.CheckOrder.CheckOrder, declared.order.Order.Order}
use Rattle.command_line.specs.{declared.order.PlanOrder.PlanOrder, declared.order.RunOrder.RunOrder, declared.order.TextOrder.TextOrder}
use Rattle.model_types.specs.{declared.limits.Limits.Limits, declared.limits.Limits.TheVariants.Plain, declared.limits.Limits.TheVariants.Wide}
use denote.Ref.{Bor}
use Rattle.command_line.specs.declared.order.Order.TheVariants as order

-- Numbers of the command line: decimal digits, without a sign and without needless leading zeros, within a range.
-- the text is n in decimal digits, and n lies in the range
abbrev pub is_number : ℕ → ℕ → List ℕ → ℕ → Bool
is_number low high text n = bytes_eq text (decimal n) && nat_le low n && nat_le n high

-- the number from low to high that a text gives
abbrev pub number_in : ℕ → ℕ → List ℕ → Option ℕ
number_in low high text = if is_number low high text (digits_value 10 text) then Some (digits_value 10 text) else None

-- the number that an option's value gives; the default where the option is omitted
abbrev pub number_or : ℕ → ℕ → ℕ → Option (List ℕ) → Option ℕ
number_or low high given None = Some given
number_or low high given (Some text) = number_in low high text

infixl 10 ◌>>=◌
abbrev ◌>>=◌ : {A B : Type 0} → Option A → (A → Option B) → Option B
x >>= f = option_and_then f x

-- A listing that the words ask for: the limits, the name of its name file, the digits of conductances, the number of workers and of plain
-- rounds in which a step must settle, the name of a zone file, if there is one, the number of views in each phase, if the heads are
-- viewed, whether a step may have any pair that is a certificate, and whether the text of the deck comes first.
pub record ListingOrder : Type 0 where
  pub limits : Limits
  pub name : Text
  pub digits : ℕ
  pub workers : ℕ
  pub rounds : ℕ
  pub zones : Option Text
  pub watch : Option ℕ
  pub quick : Bool
  pub deck : Bool

-- What a plan's wells do, which the words ask for: the limits, the names of the name file and of the wells' file, the digits of conductances, the
-- number of workers and of plain rounds in which each pair of a step must settle, the name of a zone file, if there is one, and whether a pair may
-- be any that is a certificate.
pub record AskedPlan : Type 0 where
  pub limits : Limits
  pub name : Text
  pub wells : Text
  pub digits : ℕ
  pub workers : ℕ
  pub rounds : ℕ
  pub zones : Option Text
  pub quick : Bool

-- A check that the words ask for: the limits, the name of the name file, that of the listing, the digits of conductances, and the name
-- of a zone file, if there is one.
pub record AskedCheck : Type 0 where
  pub limits : Limits
  pub name : Text
  pub listing : Text
  pub digits : ℕ
  pub zones : Option Text

-- A check of a text of decks and a listing that the words ask for: the limits, the name of the text, and the digits of conductances.
pub record AskedText : Type 0 where
  pub limits : Limits
  pub text : Text
  pub digits : ℕ

-- A batch of models that the words ask for: the limits of all its jobs, the name of its list, the digits of conductances, the number of
-- workers, and of plain rounds in which a step must settle, and whether a step may have any pair that is a certificate.
pub record AskedBatch : Type 0 where
  pub limits : Limits
  pub list : Text
  pub digits : ℕ
  pub workers : ℕ
  pub rounds : ℕ
  pub quick : Bool

-- To list a model, or with the name of a second name file all models between two; to list what a plan's wells do to either; to check a
-- listing of a model, or of all between two, or with the name of a plan's wells one of what these do, or one of a model with convertible
-- layers, or one that stands in one text with its decks; to make a model from this seed, with this many rows and columns, and sum it up;
-- to list the models of a batch; to write the deck of the model of this name file, by these limits; or to list the words of the program.
pub data Wanted : Type 0 where
  Run : ListingOrder → Option Text → Wanted
  Plan : AskedPlan → Option Text → Wanted
  Check : AskedCheck → Option Text → Wanted
  CheckPlan : AskedCheck → Text → Option Text → Wanted
  CheckConvertible : AskedCheck → Wanted
  CheckText : AskedText → Wanted
  Make : ℕ → ℕ → Wanted
  Batch : AskedBatch → Wanted
  Write : Limits → Text → Wanted
  Words : Wanted

-- the options' values, or their defaults where they are omitted
abbrev pub digits_in : List Row → Option ℕ
digits_in rows = number_or 0 18 12 (first_of (codes "digits") rows)

abbrev pub workers_in : List Row → Option ℕ
workers_in rows = number_or 1 64 4 (first_of (codes "workers") rows)

abbrev pub rounds_in : List Row → Option ℕ
rounds_in rows = number_or 1 4000000000 1000000 (first_of (codes "rounds") rows)

-- the turns of the watching seat, which exists only if they are given
abbrev pub turns_of : Option Text → Option (Option ℕ)
turns_of None = Some None
turns_of (Some text) = option_map Some (number_in 1 1000 text)

abbrev pub watch_in : List Row → Option (Option ℕ)
watch_in rows = turns_of (first_of (codes "watch") rows)

-- whether a flag is given: --quick, --wide, --deck, --convertible
abbrev pub flag_in : Text → List Row → Bool
flag_in id rows = option_map_or (λ text. bytes_eq text (codes "true")) (first_of id rows) false

-- the limits; wide ones with --wide
abbrev pub limits_of : Bool → Limits
limits_of wide = if wide then Wide else Plain

abbrev pub limits_in : List Row → Limits
limits_in rows = limits_of (flag_in (codes "wide") rows)

-- a quick listing is not watched
abbrev pub quick_if_unwatched : Option ℕ → Bool → Option Bool
quick_if_unwatched (Some turns) true = None
quick_if_unwatched turns quick = Some quick

-- what the words after a command ask for, by the values that they give to its arguments
abbrev pub listed_in : List Row → Option Wanted
listed_in rows = do
  name ← first_of (codes "name") rows
  digits ← digits_in rows
  workers ← workers_in rows
  rounds ← rounds_in rows
  turns ← watch_in rows
  quick ← quick_if_unwatched turns (flag_in (codes "quick") rows)
  Some (Run (record {
    limits = limits_in rows;
    name = name;
    digits = digits;
    workers = workers;
    rounds = rounds;
    zones = first_of (codes "zones") rows;
    watch = turns;
    quick = quick;
    deck = flag_in (codes "deck") rows;
  }) (first_of (codes "to") rows))

-- nothing, where an argument is omitted, or a flag isn't given
abbrev pub if_omitted : Option Text → Option (Unit {0})
if_omitted None = Some tt
if_omitted (Some text) = None

abbrev pub unset : Bool → Option (Unit {0})
unset true = None
unset false = Some tt

-- What these wells do: neither watched, nor after the text of a deck.
abbrev pub plan_in : Text → List Row → Option Wanted
plan_in wells rows = do
  name ← first_of (codes "name") rows
  digits ← digits_in rows
  workers ← workers_in rows
  rounds ← rounds_in rows
  watch ← if_omitted (first_of (codes "watch") rows)
  deck ← unset (flag_in (codes "deck") rows)
  Some (Plan (record {
    limits = limits_in rows;
    name = name;
    wells = wells;
    digits = digits;
    workers = workers;
    rounds = rounds;
    zones = first_of (codes "zones") rows;
    quick = flag_in (codes "quick") rows;
  }) (first_of (codes "to") rows))

-- a run is a listing, or with the name of a plan's wells what these do
abbrev pub run_by : Option Text → List Row → Option Wanted
run_by None rows = listed_in rows
run_by (Some wells) rows = plan_in wells rows

abbrev pub run_in : List Row → Option Wanted
run_in rows = run_by (first_of (codes "plan") rows) rows

abbrev pub listing_check_in : List Row → Option Wanted
listing_check_in rows = do
  name ← first_of (codes "name") rows
  listing ← first_of (codes "listing") rows
  digits ← digits_in rows
  Some (Check (record { limits = limits_in rows; name = name; listing = listing; digits = digits; zones = first_of (codes "zones") rows })
      (first_of (codes "to") rows))

abbrev pub plan_check_in : Text → List Row → Option Wanted
plan_check_in wells rows = do
  name ← first_of (codes "name") rows
  listing ← first_of (codes "listing") rows
  digits ← digits_in rows
  Some (CheckPlan (record { limits = limits_in rows; name = name; listing = listing; digits = digits; zones = first_of (codes "zones") rows })
      wells (first_of (codes "to") rows))

-- with the name of a plan's wells the check is of a listing of what these do
abbrev pub check_by : Option Text → List Row → Option Wanted
check_by None rows = listing_check_in rows
check_by (Some wells) rows = plan_check_in wells rows

abbrev pub file_check_in : List Row → Option Wanted
file_check_in rows = check_by (first_of (codes "plan") rows) rows

-- the check of a listing of a model with convertible layers has neither a second deck nor a plan's wells beside it
abbrev pub convertible_check_in : List Row → Option Wanted
convertible_check_in rows = do
  name ← first_of (codes "name") rows
  listing ← first_of (codes "listing") rows
  to ← if_omitted (first_of (codes "to") rows)
  plan ← if_omitted (first_of (codes "plan") rows)
  digits ← digits_in rows
  Some (CheckConvertible (record { limits = limits_in rows; name = name; listing = listing; digits = digits; zones = first_of (codes "zones") rows }))

-- of one deck, of two, or with convertible layers
abbrev pub named_check_in : List Row → Option Wanted
named_check_in rows = if flag_in (codes "convertible") rows then convertible_check_in rows else file_check_in rows

-- the check of a text has one word, which is the text's name, and neither a second deck, nor a zone file, nor a plan's wells beside it, nor
-- convertible layers
abbrev pub text_check_in : List Row → Option Wanted
text_check_in rows = do
  text ← first_of (codes "name") rows
  listing ← if_omitted (first_of (codes "listing") rows)
  to ← if_omitted (first_of (codes "to") rows)
  zones ← if_omitted (first_of (codes "zones") rows)
  plan ← if_omitted (first_of (codes "plan") rows)
  convertible ← unset (flag_in (codes "convertible") rows)
  digits ← digits_in rows
  Some (CheckText (record { limits = limits_in rows; text = text; digits = digits }))

abbrev pub check_in : List Row → Option Wanted
check_in rows = if flag_in (codes "deck") rows then text_check_in rows else named_check_in rows

abbrev pub make_in : List Row → Option Wanted
make_in rows = do
  seed_text ← first_of (codes "seed") rows
  size_text ← first_of (codes "size") rows
  seed ← number_in 0 2147483647 seed_text
  size ← number_in 1 64 size_text
  Some (Make seed size)

abbrev pub batch_in : List Row → Option Wanted
batch_in rows = do
  list ← first_of (codes "list") rows
  digits ← digits_in rows
  workers ← workers_in rows
  rounds ← rounds_in rows
  Some (Batch (record {
    limits = limits_in rows;
    list = list;
    digits = digits;
    workers = workers;
    rounds = rounds;
    quick = flag_in (codes "quick") rows;
  }))

abbrev pub write_in : List Row → Option Wanted
write_in rows = do
  name ← first_of (codes "name") rows
  Some (Write (limits_in rows) name)

abbrev pub command_in : Text → List Row → Option Wanted
command_in name rows =
    cond (bytes_eq name (codes "run")) (run_in rows)
    (cond (bytes_eq name (codes "check")) (check_in rows)
    (cond (bytes_eq name (codes "make")) (make_in rows)
    (cond (bytes_eq name (codes "batch")) (batch_in rows)
    (cond (bytes_eq name (codes "write")) (write_in rows) (cond (bytes_eq name (codes "words")) (Some Words) None)))))

-- the command and its values, if clap finds no fault
abbrev pub wanted_if : Kinds → Option (Text × List Row) → Option Wanted
wanted_if [] found = option_and_then (λ p. command_in p.0 p.1) found
wanted_if (fault ∷ faults) found = None

-- What the words ask for: clap accepts them (a call for help is a fault), and each number is in its range.
abbrev pub order_of_words : List Text → Option Wanted
order_of_words words = wanted_if (fault_of heads_app words) (subcommand_of heads_app words)

-- what an order asks for, in the form of the code
abbrev pub text_if : Option (Bor Text) → Option Text
text_if text = option_map (λ t. t.now) text

abbrev pub asked_of : RunOrder → ListingOrder
asked_of a =
    record {
      limits = a.limits;
      name = a.name.now;
      digits = a.digits;
      workers = a.workers;
      rounds = a.rounds;
      zones = text_if a.zones;
      watch = a.watch;
      quick = a.quick;
      deck = a.deck;
    }

abbrev pub plan_asked : PlanOrder → AskedPlan
plan_asked a =
    record {
      limits = a.limits;
      name = a.name.now;
      wells = a.wells.now;
      digits = a.digits;
      workers = a.workers;
      rounds = a.rounds;
      zones = text_if a.zones;
      quick = a.quick;
    }

abbrev pub check_of : CheckOrder → AskedCheck
check_of a = record { limits = a.limits; name = a.name.now; listing = a.listing.now; digits = a.digits; zones = text_if a.zones }

abbrev pub asked_text : TextOrder → AskedText
asked_text a = record { limits = a.limits; text = a.text.now; digits = a.digits }

abbrev pub batch_of : BatchOrder → AskedBatch
batch_of a = record { limits = a.limits; list = a.list.now; digits = a.digits; workers = a.workers; rounds = a.rounds; quick = a.quick }

abbrev pub wanted_by : Order → Wanted
wanted_by (order.Run a) = Run (asked_of a) (text_if a.to)
wanted_by (order.Plan a) = Plan (plan_asked a) (text_if a.to)
wanted_by (order.Check a) = Check (check_of a) (text_if a.to)
wanted_by (order.CheckPlan a) = CheckPlan (check_of a.check) a.wells.now (text_if a.check.to)
wanted_by (order.CheckConvertible a) = CheckConvertible (check_of a)
wanted_by (order.CheckText a) = CheckText (asked_text a)
wanted_by (order.Make a) = Make a.seed a.size
wanted_by (order.Batch a) = Batch (batch_of a)
wanted_by (order.Write limits name) = Write limits name.now
wanted_by order.Words = Words
