-- The faults of a run over sources and sinks.
use Rattle.std.specs.Prelude.{ℕ, List, codes}
use Rattle.pb_io.specs.declared.fault.Fault.{Fault}
use Rattle.pb_io.specs.declared.fault.Fault.TheVariants as fault
use Rattle.pb_io.specs.declared.fault.ReadFault.{ReadFault}
use Rattle.pb_io.specs.declared.fault.ReadFault.TheVariants.{Read, Endless, Memory}

-- what a fault of reading is to a run
abbrev pub fault_of_read : ReadFault → Fault
fault_of_read Read = fault.Read
fault_of_read Endless = fault.Endless
fault_of_read Memory = fault.Memory

abbrev pub fault_word : Fault → List ℕ
fault_word fault.Read = codes "read"
fault_word fault.Write = codes "write"
fault_word fault.Endless = codes "endless"
fault_word fault.Memory = codes "memory"
