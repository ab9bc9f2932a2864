-- What the tokenizer tells of the front of a text.
use Rattle.std.specs.Prelude.{◌≡◌, ◌≢◌, ℕ, ◌≤◌, List, [], ◌∷◌, ◌++◌, replicate}
use Rattle.pb_board.specs.Fields.{space}
use Rattle.pb_epd.specs.declared.token.Lexeme.{Lexeme}
use Rattle.pb_epd.specs.declared.token.Lexeme.TheVariants as lexeme
use Rattle.pb_epd.specs.declared.token.Next.{Next}
use Rattle.pb_epd.specs.declared.token.Next.TheVariants as next
use Rattle.pb_epd.specs.Token.{Token, word, quoted, end_mark, IsToken, IsWordByte, token_text}

-- a word or a text
abbrev pub IsOperandToken : Token → Type 0
IsOperandToken t = t ≢ end_mark

-- two neighbours have a space between them, of which there are n, where both are words or texts
abbrev pub MayFollow : Token → ℕ → Token → Type 0
MayFollow before n after = IsOperandToken before → IsOperandToken after → 1 ≤ n

abbrev pub BeginsWithWordByte : List ℕ → Type 0
BeginsWithWordByte [] = ⊥
BeginsWithWordByte (b ∷ bytes) = IsWordByte b

-- a word is as long a run as there is
abbrev pub IsWholeBefore : Token → List ℕ → Type 0
IsWholeBefore (word bytes) rest = ¬ BeginsWithWordByte rest
IsWholeBefore (quoted bytes) rest = Unit {0}
IsWholeBefore end_mark rest = Unit {0}

-- a byte that is no space
abbrev pub BeginsUnspaced : List ℕ → Type 0
BeginsUnspaced [] = ⊥
BeginsUnspaced (b ∷ bytes) = b ≢ space

-- the token that stands there
abbrev pub token_of : Lexeme → Token
token_of (lexeme.Word bytes) = word bytes.now
token_of (lexeme.Quoted bytes) = quoted bytes.now
token_of lexeme.End = end_mark

-- the bytes are this whole token and the rest
pub record Begins (bytes : List ℕ) (t : Token) (rest : List ℕ) : Type 0 where
  pub is_token : IsToken t
  pub stands : bytes ≡ token_text t ++ rest
  pub whole : IsWholeBefore t rest

-- so many spaces, and then a token that may stand there
pub record NextIs (before : Token) (bytes : List ℕ) (t : Token) (rest : List ℕ) : Type 0 where
  pub spaces : ℕ
  pub back : List ℕ
  pub cut : bytes ≡ replicate spaces space ++ back
  pub begins : Begins back t rest
  pub follows : MayFollow before spaces t

-- so many spaces, and then a byte that is no space and begins no token that may stand there
pub record IsStuck (before : Token) (bytes : List ℕ) (spaces : ℕ) : Type 0 where
  pub back : List ℕ
  pub cut : bytes ≡ replicate spaces space ++ back
  pub unspaced : BeginsUnspaced back
  pub bad : (t : Token) (rest : List ℕ) → Begins back t rest → ¬ MayFollow before spaces t

-- what comes after a token
abbrev pub IsNext : Token → List ℕ → Next → Type 0
IsNext before bytes next.Done = (n : ℕ) × (bytes ≡ replicate n space)
IsNext before bytes (next.Found found rest) = NextIs before bytes (token_of found) rest.now
IsNext before bytes (next.Bad spaces) = IsStuck before bytes spaces
