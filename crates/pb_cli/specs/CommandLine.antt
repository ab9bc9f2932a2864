-- The command line of `pbook`: one level of commands, each with its arguments.
use Rattle.std.specs.Prelude.{ℕ, Some, [], ◌∷◌, codes, true, false, ◌≡◌}
use Rattle.clap.specs.Words.{App, Rule, Text, new_app, new_rule, with_rule, with_subcommand, app_of}
use Rattle.clap.specs.Words.{is_broken, rule_of}
use Rattle.clap.specs.Simple.{on_top}
use Rattle.clap.specs.Lexer.{usize_max}
use Rattle.clap.specs.declared.builder.action.ArgAction.TheVariants.{Append, Set, SetTrue}
use Rattle.clap.specs.declared.builder.value_parser.ValueParser.TheVariants.{Unsigned}
use Rattle.clap.specs.declared.builder.arg.Arg.{Arg}
use Rattle.clap.specs.declared.builder.command.Command.{Command}
use Rattle.clap.specs.declared.builder.command.Command.TheViews.{out-Command}

-- an argument that has to be given
abbrev pub required_argument : Text → Rule
required_argument id = record (new_rule id) { required = true; action = Some Set }

-- an argument that has this value where it isn't given
abbrev pub argument_or : Text → Text → Rule
argument_or value id = record (new_rule id) { action = Some Set; defaults = value ∷ [] }

-- arguments, so many at least
abbrev pub arguments_from : ℕ → Text → Rule
arguments_from least id = record (new_rule id) {
  action = Some Append;
  range = Some (record { start_inclusive = least; end_inclusive = usize_max });
}

-- an option with a value
abbrev pub option : Text → Rule
option id = record (new_rule id) { long = Some id; action = Some Set; value_names = 1 }

-- an option with a number from 1 to `most`, which is `value` where it isn't given
abbrev pub number : Text → Text → ℕ → Rule
number id value most = record (option id) {
  defaults = value ∷ [];
  parser = Some (Unsigned 1 most);
}

-- an option without a value, which is given or isn't
abbrev pub flag : Text → Rule
flag id = record (new_rule id) { long = Some id; action = Some SetTrue }

-- an argument that may not stand with some other, or needs it
abbrev pub bound : Rule → Rule
bound rule = record rule { is_free = false }

-- a command that takes games: with the two options that say what of them counts, the flags that ask
-- for the summary and for errors alone (`--quiet`, or `-q`, whose letter is 113), and the table
abbrev pub with_games : App → App
with_games app = with_rule (with_rule (with_rule
    (with_rule (with_rule app (number (codes "plies") (codes "1024") 1024))
    (number (codes "least") (codes "1") 1000000)) (flag (codes "summary")))
    (record (flag (codes "quiet")) { short = Some 113 })) (required_argument (codes "TABLE"))

abbrev pub fen_command : App
fen_command = with_rule (with_rule (new_app (codes "fen")) (required_argument (codes "FEN")))
    (arguments_from 0 (codes "MOVES"))

abbrev pub epd_command : App
epd_command = new_app (codes "epd")

abbrev pub show_command : App
show_command = with_rule (new_app (codes "show")) (required_argument (codes "BOOK"))

abbrev pub probe_command : App
probe_command = with_rule (with_rule (with_rule (new_app (codes "probe"))
    (required_argument (codes "TABLE"))) (required_argument (codes "BOOK")))
    (required_argument (codes "FEN"))

abbrev pub lookup_command : App
lookup_command = with_rule (with_rule (new_app (codes "lookup"))
    (required_argument (codes "TABLE"))) (required_argument (codes "BOOK"))

-- by default it goes four plies deep from the initial array, over moves of any weight
abbrev pub tree_command : App
tree_command = with_rule (with_rule (with_rule (with_rule (with_rule (new_app (codes "tree"))
    (number (codes "plies") (codes "4") 1024))
    (record (option (codes "weight")) { parser = Some (Unsigned 1 65535) }))
    (required_argument (codes "TABLE")))
    (required_argument (codes "BOOK")))
    (argument_or (codes "rnbqkbnr/pppppppp/8/8/8/8/PPPPPPPP/RNBQKBNR w KQkq - 0 1") (codes "FEN"))

abbrev pub check_command : App
check_command = new_app (codes "check")

-- `--ledger`, `--journal` and `--sync` say what is kept beside the book
abbrev pub collect_command : App
collect_command = with_rule (with_games (with_rule (with_rule
    (with_rule (new_app (codes "collect")) (bound (option (codes "ledger"))))
    (option (codes "journal"))) (bound (flag (codes "sync"))))) (required_argument (codes "BOOK"))

abbrev pub export_command : App
export_command = with_games (new_app (codes "export"))

abbrev pub games_command : App
games_command = with_rule (new_app (codes "games"))
    (record (arguments_from 1 (codes "FILE")) { required = true })

-- the program, before its commands
abbrev pub program_alone : App
program_alone = on_top (λ s. record s {
  has_version = true;
  subcommand_required = true;
  arg_required_else_help = true;
}) (new_app (codes "pbook"))

-- the whole command line
abbrev pub pbook : App
pbook = with_subcommand (with_subcommand (with_subcommand (with_subcommand (with_subcommand
    (with_subcommand (with_subcommand (with_subcommand (with_subcommand (with_subcommand
    program_alone collect_command.top) export_command.top) check_command.top) games_command.top)
    show_command.top) probe_command.top) lookup_command.top) tree_command.top) fen_command.top)
    epd_command.top

-- ---- what is built of them

-- the command reads words as `app` says, and is not broken
abbrev pub IsCommand : App → Command → Type 0
IsCommand app c = (app_of c ≡ app) × ((out-Command c).has_globals ≡ false) × (is_broken c ≡ false)

-- words are read for the argument as `rule` says, and for the one command that has it
abbrev pub HasRule : Rule → Arg → Type 0
HasRule rule a = (rule_of a ≡ rule) × (a.global ≡ false)
