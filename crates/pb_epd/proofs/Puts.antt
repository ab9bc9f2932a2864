-- Why an operation is not added, and the record after one was.
use Rattle.std.proofs.Common.{◌≡◌, ◌<◌, ◌↔◌, ◌⊎◌, ℕ, List, None, sym, subst, inl, inr, arith}
use Rattle.std.specs.Prelude.{All, Contains}
use Rattle.std.proofs.lemmas.List.Elements.{All-contains}
use Rattle.pb_epd.specs.declared.operation.Operand.{Operand}
use Rattle.pb_epd.specs.declared.refusal.PutError.{PutError}
use Rattle.pb_epd.specs.declared.refusal.PutError.TheVariants as put
use Rattle.pb_epd.specs.Operation.{Operation, IsOpcode, IsOperand, IsOperation}
use Rattle.std.specs.Global.{Vec}
use Rattle.std.specs.List.Sorted.{IsStrictlySortedBy}
use Rattle.std.specs.Map.{keys_of}
use Rattle.std.specs.BTreeMap.{insert_entry}
use Rattle.pb_board.specs.Position.{Position}
use Rattle.pb_board.specs.Refusal.{BreaksAt}
use Rattle.pb_board.proofs.Breaks.{all_unbroken}
use Rattle.pb_epd.specs.Epd.{EpdRecord, IsEpd, operations_of}
use Rattle.pb_epd.specs.Refusal.{IsDuePut, IsFirstDuePut}
use Rattle.pb_epd.proofs.Dues.{first_put, put_place}
use Rattle.pb_epd.proofs.Lists.{all_from_contains}
use Rattle.pb_epd.proofs.Maps.{Entry, key_order, find, insert_gains, ordered}

pub unnamed_first : (e : EpdRecord) (opcode : List ℕ) (operands : List Operand) → ¬ IsOpcode opcode → IsFirstDuePut put.Opcode e opcode operands
unnamed_first e opcode operands bad = first_put put.Opcode e opcode operands bad first
  where
    first : (y : PutError) → put_place y < 1 → ¬ IsDuePut y e opcode operands
    first put.Opcode lt due = omega (arith, lt)
    first _ lt due = omega (arith, lt)

pub unlawful_first : (e : EpdRecord) (opcode : List ℕ) (operands : List Operand) (n : ℕ) → IsOpcode opcode → BreaksAt (All IsOperand) operands n → IsFirstDuePut (put.Operand n) e opcode operands
unlawful_first e opcode operands n named breaks = first_put (put.Operand n) e opcode operands breaks first
  where
    first : (y : PutError) → put_place y < 2 → ¬ IsDuePut y e opcode operands
    first put.Opcode lt due = due named
    first _ lt due = omega (arith, lt)

module _ (e : EpdRecord) (opcode : List ℕ) (operands : List Operand) (named : IsOpcode opcode) (lawful : All IsOperand operands) where
  none_before : (y : PutError) → put_place y < 3 → IsDuePut y e opcode operands → ⊥
  none_before put.Opcode lt due = due named
  none_before (put.Operand n) lt due = all_unbroken IsOperand operands n lawful due
  none_before _ lt due = omega (arith, lt)

  pub repeated_first : (old : List Operand) × Contains e.operations (opcode, old) → IsFirstDuePut put.Repeated e opcode operands
  repeated_first h = first_put put.Repeated e opcode operands h none_before

  none_before_memory : ((old : List Operand) → Contains e.operations (opcode, old) → ⊥) → (y : PutError) → put_place y < 4 → IsDuePut y e opcode operands → ⊥
  none_before_memory fresh put.Repeated lt due = fresh due.0 due.1
  none_before_memory fresh put.Memory lt due = omega (arith, lt)
  none_before_memory fresh put.Opcode lt due = none_before put.Opcode (omega arith) due
  none_before_memory fresh (put.Operand n) lt due = none_before (put.Operand n) (omega arith) due

  pub memory_first : ((old : List Operand) → Contains e.operations (opcode, old) → ⊥) → IsFirstDuePut put.Memory e opcode operands
  memory_first fresh = first_put put.Memory e opcode operands tt (none_before_memory fresh)

-- each operation stays lawful
pub gained_lawful : (old new : List Operation) (x : Operation) → ((o : Operation) → Contains new o ↔ (Contains old o ⊎ (o ≡ x))) → All IsOperation old → IsOperation x → All IsOperation new
gained_lawful old new x gains h is = all_from_contains IsOperation new (λ o k. elim ((gains o).0 k) [ inl was ↦ All-contains IsOperation old o h was | inr same ↦ subst IsOperation (sym same) is ])

-- the record with a new entry
pub put_lawful : (setup : Position) (entries new : List Entry) (k : Vec ℕ) (v : Vec Operand) → IsEpd (record { setup = setup; operations = operations_of entries }) → find k.items entries ≡ None → IsOperation (k.items, v.items) → new ≡ insert_entry key_order entries k v → IsStrictlySortedBy key_order (keys_of new) → IsEpd (record { setup = setup; operations = operations_of new })
put_lawful setup entries new k v h none is made sorted = record {
  setup = h.setup;
  lawful = gained_lawful (operations_of entries) (operations_of new) (k.items, v.items) (subst (λ es. (o : Operation) → Contains (operations_of es) o ↔ (Contains (operations_of entries) o ⊎ (o ≡ (k.items, v.items)))) (sym made) (insert_gains k v entries none)) h.lawful is;
  ordered = ordered new sorted;
}
