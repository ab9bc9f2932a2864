-- Table files: 781 lines of 16 hexadecimal digits, one for each random number of the table.
use Rattle.std.specs.Prelude.{◌≡◌, ◌≢◌, ℕ, ◌^◌, ◌<◌, ◌≤◌, List, length, All}
use Rattle.std.specs.List.{AllZip}
use Rattle.std.specs.Str.Lines.{strip_carriage_return}
use Rattle.std.specs.Str.Parse.{IsNumeral, digits_value}
use Rattle.pb_board.specs.Refusal.{BreaksAt}
use Rattle.pb_io.specs.Lines.{lines}
use Rattle.pb_poly.specs.declared.table.TableError.{TableError}
use Rattle.pb_poly.specs.declared.table.TableError.TheVariants.{Line, Count, Memory}

-- how many numbers a table has, each of 64 bits: as many as PolyGlot's Random64
abbrev pub table_length : ℕ
table_length = 781

pub record IsTable (randoms : List ℕ) : Type 0 where
  pub all : length randoms ≡ table_length
  pub fit : All (λ random. random < 2 ^ 64) randoms

-- the line, without one final CR, is 16 hexadecimal digits of either case that write the number
abbrev pub SpellsRandom : List ℕ → ℕ → Type 0
SpellsRandom line random = let digits = strip_carriage_return line in
    (length digits ≡ 16) × IsNumeral 16 digits × (random ≡ digits_value 16 digits)

abbrev pub IsRandomLine : List ℕ → Type 0
IsRandomLine line = (random : ℕ) × SpellsRandom line random

-- the bytes have a line for each number of a table, in order, which spells it
abbrev pub TableText : List ℕ → List ℕ → Type 0
TableText randoms bytes =
    (length randoms ≡ table_length) × AllZip SpellsRandom (lines bytes) randoms

-- the most bytes that a table file may have
abbrev pub table_limit : ℕ
table_limit = 16384

-- the bytes are a table file of these random numbers
abbrev pub IsTableFile : List ℕ → List ℕ → Type 0
IsTableFile randoms bytes = (length bytes ≤ table_limit) × TableText randoms bytes

-- when each refusal is due
abbrev pub IsDueTable : TableError → List ℕ → Type 0
IsDueTable (Line number) bytes = BreaksAt (All IsRandomLine) (lines bytes) number
IsDueTable (Count number) bytes =
    (number ≡ length (lines bytes)) × (number ≢ table_length) × All IsRandomLine (lines bytes)
IsDueTable Memory bytes = (randoms : List ℕ) × TableText randoms bytes
