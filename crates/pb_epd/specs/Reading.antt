-- What the parts of the reader tell of the tokens of a line.
use Rattle.std.specs.Prelude.{◌≡◌, ◌≢◌, ◌<◌, ℕ, ◌+◌, List, [], ◌∷◌, ◌++◌, length}
use Rattle.std.specs.Prelude.{map, flat_map, All, AllPairs, Contains, MatchOption, Option}
use Rattle.std.specs.List.{slice_split}
use Rattle.pb_board.specs.Refusal.{BreaksAt}
use Rattle.pb_epd.specs.declared.operation.Operand.{Operand}
use Rattle.pb_epd.specs.declared.read.SoFar.{SoFar}
use Rattle.pb_epd.specs.declared.read.NextOperation.{NextOperation}
use Rattle.pb_epd.specs.declared.read.NextOperation.TheVariants as next
use Rattle.pb_epd.specs.declared.refusal.EpdError.{EpdError}
use Rattle.pb_epd.specs.declared.refusal.EpdError.TheVariants as epd
use Rattle.pb_epd.specs.Token.{Token, end_mark, TokensAfter}
use Rattle.pb_epd.specs.Lexeme.{IsOperandToken}
use Rattle.pb_epd.specs.Operation.{Operation, IsOperand, IsOperation}
use Rattle.pb_epd.specs.Epd.{AreDistinct, AreHeld}
use Rattle.pb_epd.specs.Operation.{operand_token, operation_tokens}
use Rattle.pb_epd.specs.Refusal.{is_end, BeginOtherwise, IsNamed}

-- the bytes are tokens that follow this one
abbrev pub HasTokens : Token → List ℕ → Type 0
HasTokens before bytes = (ts : List Token) × TokensAfter before ts bytes

-- these tokens begin the list, and the others follow their last one, and are the rest
pub record Follow (first : List Token) (last : Token) (ts : List Token)
    (rest : List ℕ) : Type 0 where
  pub others : List Token
  pub is : ts ≡ first ++ others
  pub after : TokensAfter last others rest

-- words and texts alone
abbrev pub AreOperands : List Token → Type 0
AreOperands ts = All IsOperandToken ts

-- the bytes begin with lawful operands and an end, and they are tokens if what follows is
pub record EndsSoundly (before : Token) (bytes : List ℕ) (operands : List Operand)
    (rest : List ℕ) : Type 0 where
  pub shorter : length rest < length bytes
  pub lawful : All IsOperand operands
  pub back : HasTokens end_mark rest → HasTokens before bytes
  pub tokens : (ts : List Token) → TokensAfter before ts bytes
      → Follow (map operand_token operands ++ end_mark ∷ []) end_mark ts rest

-- an ended operation that does not begin with an opcode
pub record BeginsUnnamed (ts : List Token) : Type 0 where
  pub group : List Token
  pub others : List Token
  pub is : ts ≡ group ++ end_mark ∷ others
  pub operands : AreOperands group
  pub unnamed : ¬ IsNamed group

abbrev pub NextFrom : NextOperation → List Token → Type 0
NextFrom next.Done ts = ts ≡ []
NextFrom next.Unended ts = (ts ≢ []) × AreOperands ts
NextFrom next.Unnamed ts = BeginsUnnamed ts
NextFrom (next.Operation opcode operands rest) ts =
    Follow (operation_tokens (opcode.now, operands.items)) end_mark ts rest.now

-- an operation is lawful and takes some bytes, and the bytes are tokens if what follows it is
abbrev pub IsSound : NextOperation → Token → List ℕ → Type 0
IsSound next.Done before bytes = HasTokens before bytes
IsSound next.Unended before bytes = Unit {0}
IsSound next.Unnamed before bytes = Unit {0}
IsSound (next.Operation opcode operands rest) before bytes =
    (length rest.now < length bytes) × IsOperation (opcode.now, operands.items)
    × (HasTokens end_mark rest.now → HasTokens before bytes)

-- the tokens are lawful operations that are these
pub record AreOperations (ts : List Token) (these : List Operation) : Type 0 where
  pub operations : List Operation
  pub is : ts ≡ flat_map operation_tokens operations
  pub lawful : All IsOperation operations
  pub held : AreHeld operations these

-- the n-th operation is the first whose opcode stood before
pub record RepeatsAt (n : ℕ) (operations : List Operation) : Type 0 where
  pub front : List Operation
  pub o : Operation
  pub back : List Operation
  pub are : operations ≡ front ++ o ∷ back
  pub count : n ≡ length front + 1
  pub distinct : AreDistinct front
  pub operands : List Operand
  pub earlier : Contains front (o.0, operands)

abbrev pub Standing : Option ℕ → List Operation → List Operation → Type 0
Standing repeated operations held =
    MatchOption repeated (AreHeld operations held) (λ n. RepeatsAt n operations)

-- where the operations that were read stand so, they do with one more
abbrev pub StandsWith : Operation → SoFar → SoFar → Type 0
StandsWith x old new =
    (operations : List Operation) → old.count ≡ length operations
    → Standing old.repeated operations old.epd.operations
    → Standing new.repeated (operations ++ x ∷ []) new.epd.operations

-- each ended operation begins with an opcode
pub record AreNamed (ts : List Token) (ended : List (List Token))
    (unended : List Token) : Type 0 where
  pub cut : slice_split is_end ts ≡ ended ++ unended ∷ []
  pub named : All IsNamed ended

-- the first ended operation that does not begin with an opcode
pub record IsUnnamedAt (n : ℕ) (ts : List Token) : Type 0 where
  pub ended : List (List Token)
  pub unended : List Token
  pub cut : slice_split is_end ts ≡ ended ++ unended ∷ []
  pub breaks : BreaksAt (All IsNamed) ended n

-- why operations are refused
abbrev pub RefusesTokens : EpdError → List Token → Type 0
RefusesTokens (epd.Opcode n) ts = IsUnnamedAt n ts
RefusesTokens epd.Unended ts = (ended : List (List Token)) × (unended : List Token)
    × AreNamed ts ended unended × (unended ≢ [])
RefusesTokens (epd.Repeated n) ts =
    (ended : List (List Token)) × AreNamed ts ended [] × BreaksAt (AllPairs BeginOtherwise) ended n
RefusesTokens epd.Memory ts = ts ≢ []
RefusesTokens _ ts = ⊥
