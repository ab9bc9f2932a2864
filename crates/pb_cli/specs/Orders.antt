-- What an order has of the arguments of the command line.
use Rattle.std.specs.Prelude.{◌≡◌, ◌<◌, ◌^◌, ℕ, Bool, false, List, [], Option, Some, None, codes}
use Rattle.std.specs.Prelude.{unwrap_or}
use Rattle.std.specs.Borrow.{Bor}
use Rattle.std.specs.Str.Parse.{IsNumeral, digits_value, without_leading_plus}
use Rattle.clap.specs.Words.{Row, Text, all_of, first_of, found_of, one_of, rows_of}
use Rattle.clap.specs.Values.{bool_text}
use Rattle.clap.specs.Walk.{texts}
use Rattle.clap.specs.declared.parser.matches.ArgMatches.{ArgMatches}
use Rattle.pb_accepted.specs.Rules.{AreRules, CountingRules}
use Rattle.pb_cli.specs.declared.order.Keeping.{Keeping}
use Rattle.pb_cli.specs.declared.order.Keeping.TheVariants.{Book, Ledger, Journal}
use Rattle.pb_cli.specs.declared.order.Order.{Order}
use Rattle.pb_cli.specs.declared.order.ParseFault.{ParseFault}
use Rattle.pb_cli.specs.declared.order.Taking.{Taking}
use Rattle.pb_cli.specs.declared.order.ParseFault.TheVariants.{Memory}
use Rattle.pb_cli.specs.declared.order.Order.TheVariants.{Fen, Epd, Show, Probe, Lookup, Check}
use Rattle.pb_cli.specs.declared.order.Order.TheVariants.{Collect, Export, Games, Tree}

-- what the matches found, argument by argument
abbrev pub rows_given : ArgMatches → List Row
rows_given given = rows_of (found_of given)

-- the command's name
abbrev pub name_of : Order → Text
name_of (Fen _ _) = codes "fen"
name_of Epd = codes "epd"
name_of (Show _) = codes "show"
name_of (Probe _) = codes "probe"
name_of (Lookup _) = codes "lookup"
name_of (Tree _) = codes "tree"
name_of Check = codes "check"
name_of (Collect _) = codes "collect"
name_of (Export _) = codes "export"
name_of (Games _) = codes "games"

-- the text that the argument of this name was given, or no text where it wasn't
abbrev pub HasArgument : Text → Bor Text → List Row → Type 0
HasArgument id text rows = text.now ≡ unwrap_or (first_of id rows) []

-- the texts that it was given
abbrev pub HasTexts : Text → List (Bor Text) → List Row → Type 0
HasTexts id all rows = texts all ≡ unwrap_or (all_of id rows) []

-- whether the option of this name, which has no value, was given, as its text says
abbrev pub HasFlag : Text → Bool → List Row → Type 0
HasFlag id flag rows = (given : Bool)
    → unwrap_or (one_of id rows) (codes "false") ≡ bool_text given → flag ≡ given

-- the text of `--ledger`, that of `--journal`, and whether there is `--sync`, where this is kept
abbrev pub options_of : Keeping → Option Text × Option Text × Bool
options_of Book = (None, None, false)
options_of (Ledger path) = (Some path.now, None, false)
options_of (Journal path sync) = (None, Some path.now, sync)

-- the options say what is kept beside the book
abbrev pub HasKeeping : Keeping → List Row → Type 0
HasKeeping (Ledger path) rows = first_of (codes "ledger") rows ≡ Some path.now
HasKeeping (Journal path sync) rows = (first_of (codes "ledger") rows ≡ None)
    × (first_of (codes "journal") rows ≡ Some path.now) × HasFlag (codes "sync") sync rows
HasKeeping Book rows =
    (first_of (codes "ledger") rows ≡ None) × (first_of (codes "journal") rows ≡ None)

-- the option of this name was given a text that writes this number in digits, after a plus or none
abbrev pub SaysNumber : Text → ℕ → List Row → Type 0
SaysNumber id number rows = (text : Text) × (one_of id rows ≡ Some text)
    × IsNumeral 10 (without_leading_plus text)
    × (digits_value 10 (without_leading_plus text) ≡ number)

-- the rules are those that the options say, where they say rules
abbrev pub HasRules : CountingRules → List Row → Type 0
HasRules rules rows = (said : CountingRules) → AreRules said
    → SaysNumber (codes "plies") said.plies rows → SaysNumber (codes "least") said.least rows
    → rules ≡ said

-- the number is that which the option of this name says, and 0 where it wasn't given
abbrev pub HasNumber : Text → ℕ → List Row → Type 0
HasNumber id number rows =
    ((said : ℕ) → said < 2 ^ 32 → SaysNumber id said rows → number ≡ said)
    × (one_of id rows ≡ None → number ≡ 0)

-- games are taken as the options say, by this table
abbrev pub HasTaking : Taking → List Row → Type 0
HasTaking taking rows = HasRules taking.rules rows × HasArgument (codes "TABLE") taking.table rows
    × HasFlag (codes "summary") taking.summary rows × HasFlag (codes "quiet") taking.quiet rows

-- the order has the arguments of these matches; the others have none
abbrev pub HasArguments : Order → List Row → Type 0
HasArguments (Fen fen moves) rows =
    HasArgument (codes "FEN") fen rows × HasTexts (codes "MOVES") moves.items rows
HasArguments (Show book) rows = HasArgument (codes "BOOK") book rows
HasArguments (Probe given) rows = HasArgument (codes "TABLE") given.table rows
    × HasArgument (codes "BOOK") given.book rows × HasArgument (codes "FEN") given.record rows
HasArguments (Lookup given) rows =
    HasArgument (codes "TABLE") given.table rows × HasArgument (codes "BOOK") given.book rows
HasArguments (Tree given) rows = HasNumber (codes "plies") given.plies rows
    × HasNumber (codes "weight") given.weight rows
    × HasArgument (codes "TABLE") given.table rows × HasArgument (codes "BOOK") given.book rows
    × HasArgument (codes "FEN") given.record rows
HasArguments (Collect given) rows = HasTaking given.taking rows × HasKeeping given.kept rows
    × HasArgument (codes "BOOK") given.book rows
HasArguments (Export taking) rows = HasTaking taking rows
HasArguments (Games files) rows = HasTexts (codes "FILE") files.items rows
HasArguments other rows = Unit {0}

-- the order is that of the command that was found, with its arguments as the matches give them
abbrev pub IsOrderOf : Order → Option (Text × List Row) → Type 0
IsOrderOf o found = (rows : List Row) × (found ≡ Some (name_of o, rows)) × HasArguments o rows

-- the fault is want of memory where the command that was found gives an order
abbrev pub RefusesRightly : Option (Text × List Row) → ParseFault → Type 0
RefusesRightly found fault = (o : Order) → IsOrderOf o found → fault ≡ Memory
