-- A store where a text is kept, such as that of a book, as a file is, and what writing and keeping
-- one does.
use Rattle.std.specs.Prelude.{◌≡◌, ◌⊎◌, ℕ, List, Option, Some, Result, IfErr, IfOk, OnOk, take}
use Rattle.std.specs.Result.{result_err}
use Rattle.pb_export.specs.declared.exporting.ExportFault.{ExportFault}
use Rattle.pb_export.specs.declared.exporting.ExportFault.TheVariants as fault
use Rattle.pb_commands.specs.declared.store.StoreError.{StoreError}
use Rattle.pb_commands.specs.declared.store.StoreError.TheVariants.{Open, Write, Memory}

-- What is known of a store: the bytes that were handed to what has its name now, if a text was put
-- there; and why the last text that came wasn't kept, if it wasn't.
pub record StoreState : Type 0 where
  pub handed : Option (List ℕ)
  pub fault : Option StoreError

-- what keeping these bytes leaves when it fails and what was there is gone: a front of the bytes,
-- where a write failed or memory was wanting; a store that couldn't be opened loses nothing
abbrev pub Spoils : StoreState → StoreError → List ℕ → Type 0
Spoils new Open bytes = ⊥
Spoils new why bytes = (count : ℕ) × (new.handed ≡ Some (take count bytes))

-- Keeping bytes: just these were handed to what has the store's name; or it tells why not, and is
-- as it was or spoilt.
pub record KeepsBytes {A : Type 0} (old new : StoreState) (answer : Result A StoreError)
    (bytes : List ℕ) : Type 0 where
  pub holds : OnOk answer (new.handed ≡ Some bytes)
  pub leaves : IfErr answer (λ why. (new.handed ≡ old.handed) ⊎ Spoils new why bytes)
  pub fault : new.fault ≡ result_err answer

-- this was done with a text, and the answer is how many entries or games it tells
abbrev pub TellsText : {E : Type 0} → (List ℕ → ℕ → Type 0) → (List ℕ → Type 0) → Result ℕ E
    → Type 0
TellsText is_text does answer = (bytes : List ℕ) × (count : ℕ) × is_text bytes count × does bytes
    × IfOk answer (λ n. n ≡ count)

-- a text was kept
abbrev pub KeepsText : (List ℕ → ℕ → Type 0) → StoreState → StoreState → Result ℕ StoreError
    → Type 0
KeepsText is_text old new answer = TellsText is_text (KeepsBytes old new answer) answer

-- what a fault of writing is to a store
abbrev pub store_error : ExportFault → StoreError
store_error fault.Write = Write
store_error fault.Memory = Memory
