-- The ledger step by step: what is replied to a line, and what becomes of the games that are held.
-- These are a list of submissions, pairs of an id and a game, in order of acceptance; a game's
-- number counts from 1.
--
--   case           the line submits                  reply                       the list
--   new            a legal game, its id new, room    ok ID and the next number   gets it at its end
--   full           the same, no room                 refused ID full             stays
--   memory         the same, room                    refused ID memory           stays
--   repeat         a game that is held under its id  ok ID and its number        stays
--   conflict       another game under an id held     refused ID conflict NUMBER  stays
--   refused_alone  no legal game                     refused, and why            stays
--
-- With room a new game is added or refused for memory: which of the two is left open.
use Rattle.std.specs.Prelude.{◌≡◌, ◌≢◌, ℕ, ◌+◌, ◌<◌, ◌≤◌, ◌↔◌, List, [], ◌∷◌, ◌++◌, length, codes}
use Rattle.std.specs.Prelude.{decimal, slice_get, Some, All, AllPairs}
use Rattle.pb_games.specs.declared.game.Game.{Game}
use Rattle.pb_accepted.specs.Refusals.{IsRefused}
use Rattle.pb_games.specs.Submissions.{Submission, Submits}

-- the submission is number n of the list, from 1
abbrev pub IsNumber : List Submission → ℕ → Submission → Type 0
IsNumber A n s = (k : ℕ) × (n ≡ k + 1) × (slice_get A k ≡ Some s)

-- no submission of the list has this id
abbrev pub IsNewId : List ℕ → List Submission → Type 0
IsNewId id A = All (λ s. s.0 ≢ id) A

-- no id stands twice
abbrev pub HaveOwnIds : List Submission → Type 0
HaveOwnIds A = AllPairs (λ s t. s.0 ≢ t.0) A

-- the reply that submission s has the number n
abbrev pub ok : Submission → ℕ → List ℕ
ok s n = codes "ok " ++ s.0 ++ 32 ∷ decimal n

-- the reply that a line is refused: an id or a -, and why
abbrev pub refused : List ℕ → List ℕ
refused why = codes "refused " ++ why

-- the line submits a legal game under an id that the list hasn't
abbrev pub IsNew : List Submission → List ℕ → Submission → Type 0
IsNew A line s = Submits line s × IsNewId s.0 A

-- the most games that a ledger may hold
abbrev pub most_games : ℕ
most_games = 1000000

-- r is the reply to the line, where the list A may have at most cap members, and A becomes B
pub data Reply (cap : ℕ) (A : List Submission) (line r : List ℕ)
    (B : List Submission) : Type 0 where
  new : (s : Submission) → IsNew A line s → length A < cap → r ≡ ok s (length A + 1)
      → B ≡ A ++ s ∷ [] → Reply cap A line r B
  full : (s : Submission) → IsNew A line s → cap ≤ length A → r ≡ refused (s.0 ++ codes " full")
      → B ≡ A → Reply cap A line r B
  memory : (s : Submission) → IsNew A line s → length A < cap
      → r ≡ refused (s.0 ++ codes " memory") → B ≡ A → Reply cap A line r B
  repeat : (s : Submission) (n : ℕ) → Submits line s → IsNumber A n s → r ≡ ok s n → B ≡ A
      → Reply cap A line r B
  conflict : (s : Submission) (g : Game) (n : ℕ) → Submits line s → IsNumber A n (s.0, g)
      → g ≢ s.1 → r ≡ refused (s.0 ++ codes " conflict " ++ decimal n) → B ≡ A
      → Reply cap A line r B
  refused_alone : (why : List ℕ) → IsRefused line why → r ≡ refused why → B ≡ A
      → Reply cap A line r B

-- such are the replies R to the lines L, one to each in order; they make B of the list A
abbrev pub Replies : ℕ → List Submission → List (List ℕ) → List (List ℕ) → List Submission
    → Type 0
Replies cap A [] [] B = B ≡ A
Replies cap A (line ∷ L) (r ∷ R) B =
    (M : List Submission) × Reply cap A line r M × Replies cap M L R B
Replies cap A L R B = ⊥

-- ---- numbers: `say s n` is the answer where submission s has the number n, such as `ok s n`

-- line i, counted from 0, submits s: it is the text of a legal game under an id
abbrev pub Arrives : List (List ℕ) → ℕ → Submission → Type 0
Arrives L i s = (line : List ℕ) × (slice_get L i ≡ Some line) × Submits line s

-- line i submits s, and the answer to it gives s the number n, for the first time or again
abbrev pub IsAccepted : {X : Type 0} → (Submission → ℕ → X) → List (List ℕ) → List X → ℕ
    → Submission → ℕ → Type 0
IsAccepted say L R i s n = Arrives L i s × (slice_get R i ≡ Some (say s n))

-- The list has just the submissions to which the answers R to the lines L give numbers.
pub record AreNumbered {X : Type 0} (say : Submission → ℕ → X) (L : List (List ℕ)) (R : List X)
    (A : List Submission) : Type 0 where
  -- its members are those that were accepted, at their numbers, and no two have one id
  pub are : (n : ℕ) (s : Submission) → IsNumber A n s ↔ ((i : ℕ) × IsAccepted say L R i s n)
  pub ids : HaveOwnIds A
  -- one that comes again gets the same number
  pub repeats : (i j n : ℕ) (s : Submission) → i < j → IsAccepted say L R i s n → Arrives L j s
      → slice_get R j ≡ Some (say s n)
