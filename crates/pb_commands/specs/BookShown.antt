-- What the command `show` writes: a line for each entry of a book.
use Rattle.std.specs.Prelude.{ℕ, zero, suc, ◌+◌, ◌/◌, ◌%◌, List, [], ◌∷◌, ◌++◌, if◌then◌else◌}
use Rattle.std.specs.Prelude.{nat_lt, ◌≡◌, true, Result, Ok, flat_map}
use Rattle.pb_board.specs.LineEnd.{with_end}
use Rattle.pb_poly.specs.declared.book.Entry.{Entry}
use Rattle.pb_poly.specs.declared.reading.BookError.{BookError}
use Rattle.pb_commands.specs.Judged.{book_verdict, ByInput, Verdict}

-- the digit of a value below 16
abbrev pub digit : ℕ → ℕ
digit value = if nat_lt value 10 then 48 + value else 87 + value

-- the last digits of a number, so many of them, in lower case
unfoldable pub hexadecimal : ℕ → ℕ → List ℕ
hexadecimal zero number = []
hexadecimal (suc width) number = hexadecimal width (number / 16) ++ digit (number % 16) ∷ []

-- key, code, weight and learn, one space between
abbrev pub entry_line : Entry → List ℕ
entry_line e = with_end (hexadecimal 16 e.key ++ (32 ∷ (hexadecimal 4 e.code
    ++ (32 ∷ (hexadecimal 4 e.weight ++ (32 ∷ hexadecimal 8 e.learn))))))

abbrev pub show_text : List Entry → List ℕ
show_text entries = flat_map entry_line entries

-- what the command comes to, where `book` tells what its input is as a book
abbrev pub BookShown : (Result (List Entry) BookError → Type 0) → Verdict → Type 0
BookShown book verdict = ByInput book (λ entries. verdict ≡ Ok (true, show_text entries))
    (λ e. verdict ≡ book_verdict e)
