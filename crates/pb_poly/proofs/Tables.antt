-- The lines of a table file, and the randoms that they spell.
use Rattle.std.proofs.Common.{◌≡◌, ℕ, ◌+◌, ◌^◌, ◌<◌, List, [], ◌∷◌, ◌++◌, length, take, drop, All, refl, sym, ap, ◌∙◌, arith}
use Rattle.std.specs.List.{AllZip}
use Rattle.std.proofs.lemmas.List.{append-nil}
use Rattle.std.proofs.lemmas.Slice.Zip.{AllZip-long}
use Rattle.std.proofs.lemmas.List.Elements.{All-cons, All-nil}
use Rattle.std.specs.Str.Lines.{strip_carriage_return}
use Rattle.pb_board.proofs.Breaks.{all_unbroken}
use Rattle.pb_io.specs.Lines.{lines}
use Rattle.pb_io.proofs.LineLemmas.{IsLineFeedAt, IsQuiet, lines-ended, lines-quiet as line-quiet}
use Rattle.pb_poly.specs.declared.table.TableError.{TableError}
use Rattle.pb_poly.specs.declared.table.TableError.TheVariants.{Line, Count, Memory}
use Rattle.pb_poly.specs.Table.{IsDueTable, IsRandomLine, IsTable, SpellsRandom, TableText}
use Rattle.pb_poly.proofs.Digits.{random_is_one, random_small}

-- an LF ends the first line
pub lines-cut : (bytes : List ℕ) (i : ℕ) → IsLineFeedAt bytes i → lines bytes ≡ take i bytes ∷ lines (drop (i + 1) bytes)
lines-cut bytes i h = ap lines (sym h.cut) ∙ lines-ended (take i bytes) (drop (i + 1) bytes) h.quiet

-- bytes with no LF are one line
pub lines-quiet : (bytes : List ℕ) → IsQuiet bytes → 0 < length bytes → lines bytes ≡ bytes ∷ []
lines-quiet [] quiet some = absurd (omega arith)
lines-quiet (b ∷ bs) quiet some = line-quiet b bs quiet

-- lines spell one list of randoms
pub randoms_are_one : (ls : List (List ℕ)) (v w : List ℕ) → AllZip SpellsRandom ls v → AllZip SpellsRandom ls w → v ≡ w
randoms_are_one [] [] [] x y = refl
randoms_are_one [] (a ∷ v) w x y = absurd x
randoms_are_one [] [] (b ∷ w) x y = absurd y
randoms_are_one (l ∷ ls) [] w x y = absurd x
randoms_are_one (l ∷ ls) (a ∷ v) [] x y = absurd y
randoms_are_one (l ∷ ls) (a ∷ v) (b ∷ w) x y =
    let first : a ≡ b = random_is_one (strip_carriage_return l) a b x.0 y.0 in
    let more = randoms_are_one ls v w x.1 y.1 in
    cc

-- lines that spell randoms each spell one
pub all_spelled : (ls : List (List ℕ)) (randoms : List ℕ) → AllZip SpellsRandom ls randoms → All IsRandomLine ls
all_spelled [] [] zip = All-nil IsRandomLine
all_spelled [] (w ∷ randoms) zip = absurd zip
all_spelled (l ∷ ls) [] zip = absurd zip
all_spelled (l ∷ ls) (w ∷ randoms) zip = All-cons IsRandomLine l ls (w, zip.0) (all_spelled ls randoms zip.1)

-- at the end of the text all its lines have come
pub all_before : (bytes rest : List ℕ) (before : List (List ℕ)) → lines bytes ≡ before ++ lines rest → length rest ≡ 0 → before ≡ lines bytes
all_before bytes [] before cut none = sym (append-nil before) ∙ sym cut
all_before bytes (b ∷ rest) before cut none = absurd (omega arith)

-- one line more spells one random more
pub zip_more : (before : List (List ℕ)) (randoms : List ℕ) (line : List ℕ) (random : ℕ) → AllZip SpellsRandom before randoms → SpellsRandom line random → AllZip SpellsRandom (before ++ line ∷ []) (randoms ++ random ∷ [])
zip_more [] [] line random zip one = (one, tt)
zip_more [] (w ∷ randoms) line random zip one = absurd zip
zip_more (l ∷ before) [] line random zip one = absurd zip
zip_more (l ∷ before) (w ∷ randoms) line random zip one = (zip.0, zip_more before randoms line random zip.1 one)

-- for the bytes of a table nothing but Memory is due
pub only_memory : (randoms : List ℕ) (bytes : List ℕ) (e : TableError) → TableText randoms bytes → IsDueTable e bytes → e ≡ Memory
only_memory randoms bytes (Line number) text due = absurd (all_unbroken IsRandomLine (lines bytes) number (all_spelled (lines bytes) randoms text.1) due)
only_memory randoms bytes (Count number) text due = absurd (due.1 (due.0 ∙ sym (AllZip-long SpellsRandom (lines bytes) randoms text.1) ∙ text.0))
only_memory randoms bytes Memory text due = refl

randoms_small : (ls : List (List ℕ)) (randoms : List ℕ) → AllZip SpellsRandom ls randoms → All (λ random. random < 2 ^ 64) randoms
randoms_small [] [] zip = All-nil (λ random. random < 2 ^ 64)
randoms_small [] (w ∷ randoms) zip = absurd zip
randoms_small (l ∷ ls) [] zip = absurd zip
randoms_small (l ∷ ls) (w ∷ randoms) zip = All-cons (λ random. random < 2 ^ 64) w randoms (random_small (strip_carriage_return l) w zip.0) (randoms_small ls randoms zip.1)

-- what a table's text spells is a table
pub is_table : (randoms : List ℕ) (bytes : List ℕ) → TableText randoms bytes → IsTable randoms
is_table randoms bytes text = record { all = text.0; fit = randoms_small (lines bytes) randoms text.1 }
