-- Bytes are one table file, or none for one reason.
use Rattle.std.proofs.Common.{◌≡◌, ◌∙◌, ℕ, List, Result, Ok, Err, ap, arith, refl, sym}
use Rattle.pb_board.proofs.Breaks.{all_unbroken, one_all_break}
use Rattle.pb_io.specs.Lines.{lines}
use Rattle.pb_poly.proofs.Tables.{only_memory, randoms_are_one}
use Rattle.pb_poly.specs.Table.{IsRandomLine}
use Rattle.pb_poly.specs.TableReading.{AsTable}
use Rattle.pb_poly.specs.declared.table.TableError.TheVariants as poly
use Rattle.pb_poly.specs.declared.table.TableFault.{TableFault}
use Rattle.pb_poly.specs.declared.table.TableFault.TheVariants as table_fault

pub one_table : (bytes : List ℕ) (r x : Result (List ℕ) TableFault) → AsTable bytes r → AsTable bytes x → r ≡ x
one_table bytes (Ok words) (Ok others) h k = ap (λ ws. Ok ws) (randoms_are_one (lines bytes) words others h.1.1 k.1.1)
one_table bytes (Ok words) (Err table_fault.Long) h k = absurd (omega (arith, k, h.0))
one_table bytes (Ok words) (Err (table_fault.Line m)) h k = absurd (cc (only_memory words bytes (poly.Line m) h.1 k.1))
one_table bytes (Ok words) (Err (table_fault.Count m)) h k = absurd (cc (only_memory words bytes (poly.Count m) h.1 k.1))
one_table bytes (Err table_fault.Long) (Ok others) h k = absurd (omega (arith, h, k.0))
one_table bytes (Err table_fault.Long) (Err table_fault.Long) h k = refl
one_table bytes (Err table_fault.Long) (Err (table_fault.Line m)) h k = absurd (omega (arith, h, k.0))
one_table bytes (Err table_fault.Long) (Err (table_fault.Count m)) h k = absurd (omega (arith, h, k.0))
one_table bytes (Err (table_fault.Line n)) (Ok others) h k = absurd (cc (only_memory others bytes (poly.Line n) k.1 h.1))
one_table bytes (Err (table_fault.Line n)) (Err table_fault.Long) h k = absurd (omega (arith, k, h.0))
one_table bytes (Err (table_fault.Line n)) (Err (table_fault.Line m)) h k = ap (λ number. Err (table_fault.Line number)) (one_all_break IsRandomLine (lines bytes) n m h.1 k.1)
one_table bytes (Err (table_fault.Line n)) (Err (table_fault.Count m)) h k = absurd (all_unbroken IsRandomLine (lines bytes) n k.1.2 h.1)
one_table bytes (Err (table_fault.Count n)) (Ok others) h k = absurd (cc (only_memory others bytes (poly.Count n) k.1 h.1))
one_table bytes (Err (table_fault.Count n)) (Err table_fault.Long) h k = absurd (omega (arith, k, h.0))
one_table bytes (Err (table_fault.Count n)) (Err (table_fault.Line m)) h k = absurd (all_unbroken IsRandomLine (lines bytes) m h.1.2 k.1)
one_table bytes (Err (table_fault.Count n)) (Err (table_fault.Count m)) h k = ap (λ count. Err (table_fault.Count count)) (h.1.0 ∙ sym k.1.0)
one_table bytes (Err (table_fault.Fault e)) x h k = absurd h
one_table bytes r (Err (table_fault.Fault e)) h k = absurd k
