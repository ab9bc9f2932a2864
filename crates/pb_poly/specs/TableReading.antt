-- What reading a table file from a source gives.
use Rattle.std.specs.Prelude.{◌≡◌, ℕ, ◌+◌, ◌<◌, ◌≤◌, ◌⊎◌, List, Result, Ok, Err, length}
use Rattle.pb_io.specs.Source.{SourceState}
use Rattle.pb_io.specs.declared.fault.ReadFault.TheVariants.{Read, Endless, Memory}
use Rattle.pb_poly.specs.Streams.{ReadsTo, Extent, at_end, at_fault, at_no_end, just_so_far}
use Rattle.pb_poly.specs.Table.{IsDueTable, IsTableFile, table_limit}
use Rattle.pb_poly.specs.declared.table.TableError.TheVariants as poly
use Rattle.pb_poly.specs.declared.table.TableFault.{TableFault}
use Rattle.pb_poly.specs.declared.table.TableFault.TheVariants.{Long, Line, Count, Fault}

-- the bytes of a table file, read in this way, come to these random numbers or to this fault; where
-- they are too many, just one too many was read
abbrev pub TableIs : Extent → List ℕ → Result (List ℕ) TableFault → Type 0
TableIs at_end bytes (Ok randoms) = IsTableFile randoms bytes
TableIs just_so_far bytes (Err Long) = length bytes ≡ table_limit + 1
TableIs at_end bytes (Err (Line n)) = (length bytes ≤ table_limit) × IsDueTable (poly.Line n) bytes
TableIs at_end bytes (Err (Count n)) =
    (length bytes ≤ table_limit) × IsDueTable (poly.Count n) bytes
TableIs at_end bytes (Err (Fault Memory)) = (randoms : List ℕ) × IsTableFile randoms bytes
TableIs at_fault bytes (Err (Fault Read)) = length bytes ≤ table_limit
TableIs at_no_end bytes (Err (Fault Endless)) = length bytes ≤ table_limit
TableIs way bytes result = ⊥

-- the bytes, all of them, come to these random numbers, or to one of the three faults that bytes
-- alone can give
abbrev pub AsTable : List ℕ → Result (List ℕ) TableFault → Type 0
AsTable bytes (Err Long) = table_limit < length bytes
AsTable bytes (Err (Fault fault)) = ⊥
AsTable bytes result = TableIs at_end bytes result

-- reading a table file gives this; for want of memory at the start nothing is read
abbrev pub ReadsTable : ℕ → SourceState → SourceState → Result (List ℕ) TableFault → Type 0
ReadsTable fills old new result =
    ((way : Extent) × (bytes : List ℕ) × ReadsTo way table_limit fills old new bytes
    × TableIs way bytes result)
    ⊎ ((result ≡ Err (Fault Memory)) × (new ≡ old))
