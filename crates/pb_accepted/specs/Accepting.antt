-- The ledger step by step: what a line is answered, and what becomes of the games that are held.
-- These are a list of submissions, pairs of an id and a game, in order of acceptance; a game's
-- number counts from 1.
--
--   case        the line submits                    answered               the list
--   new         a legal game, its id new, room      ok, the next number    gets it at its end
--   full        the same, no room                   full                   stays
--   memory      the same, room                      memory                 stays
--   repeat      a game that is held under its id    ok, its number         stays
--   conflict    another game under an id held       conflict               stays
--   refused     no legal game                       why not                stays
use Rattle.std.specs.Prelude.{◌≡◌, ◌≢◌, ℕ, ◌+◌, ◌<◌, ◌≤◌, ◌⊎◌, List, [], ◌∷◌, ◌++◌, Bool, false}
use Rattle.std.specs.Prelude.{length, Contains, Result, Ok, Err, codes, decimal, ◌↔◌, AllPairs}
use Rattle.std.specs.Result.{result_map_both}
use Rattle.pb_games.specs.declared.game.Game.{Game}
use Rattle.pb_games.specs.declared.refusal.Refusal.{Refusal}
use Rattle.pb_games.specs.declared.refusal.Refusal.TheVariants.{Conflict, Full, Memory}
use Rattle.pb_games.specs.Submissions.{Submission, Submits}
use Rattle.pb_accepted.specs.Replying.{IsNewId, IsNumber}
use Rattle.pb_accepted.specs.declared.ledger.Accepted.{Accepted}
use Rattle.pb_games.specs.Refusing.{Refuses}
use Rattle.std.specs.Str.Lines.{strip_carriage_return}
use Rattle.pb_board.specs.Fields.{field, fields, tab}
use Rattle.pb_board.specs.LineEnd.{with_end}
use Rattle.pb_games.specs.declared.refusal.Refusal.TheVariants as refusal

-- what a line is answered: a game's number, or why it is refused
abbrev pub Answer : Type 0
Answer = Result ℕ Refusal

-- the answer in a full one
abbrev pub answer_of : Result Accepted Refusal → Answer
answer_of = result_map_both (λ accepted. accepted.number) (λ e. e)

-- whether a full answer says that a game is new
abbrev pub says_new : Result Accepted Refusal → Bool
says_new (Ok accepted) = accepted.is_new
says_new (Err e) = false

-- A line is answered r, where the list A may have at most cap members, and A becomes B.
pub data Step (cap : ℕ) (A : List Submission) (line : List ℕ) (r : Answer)
    (B : List Submission) : Type 0 where
  new : (s : Submission) → Submits line s → IsNewId s.0 A → length A < cap → r ≡ Ok (length A + 1)
      → B ≡ A ++ s ∷ [] → Step cap A line r B
  full : (s : Submission) → Submits line s → IsNewId s.0 A → cap ≤ length A → r ≡ Err Full → B ≡ A
      → Step cap A line r B
  memory : (s : Submission) → Submits line s → IsNewId s.0 A → length A < cap → r ≡ Err Memory
      → B ≡ A → Step cap A line r B
  repeat : (s : Submission) (n : ℕ) → Submits line s → IsNumber A n s → r ≡ Ok n → B ≡ A
      → Step cap A line r B
  conflict : (s : Submission) (g : Game) (n : ℕ) → Submits line s → IsNumber A n (s.0, g) → g ≢ s.1
      → r ≡ Err (Conflict n) → B ≡ A → Step cap A line r B
  refused : (e : Refusal) → Refuses line e → r ≡ Err e → B ≡ A → Step cap A line r B

-- from A steps of this kind lead to B, one for each line with its answer, in order
abbrev pub Along : (List Submission → List ℕ → Answer → List Submission → Type 0) → List Submission
    → List (List ℕ) → List Answer → List Submission → Type 0
Along Steps A [] [] B = B ≡ A
Along Steps A (line ∷ L) (r ∷ R) B = (M : List Submission) × Steps A line r M × Along Steps M L R B
Along Steps A L R B = ⊥

-- These lines are answered so, one after another, and this makes B of the list A.
abbrev pub Run : ℕ → List Submission → List (List ℕ) → List Answer → List Submission → Type 0
Run cap = Along (Step cap)

-- ---- the distinct submissions: one is new unless the list has it, the same game under the same id

-- no want of room or memory was answered
abbrev pub HasRoom : Answer → Type 0
HasRoom r = (r ≢ Err Full) × (r ≢ Err Memory)

-- what a line that was answered r makes of the list: a lawful submission that is new to it is
-- added, and nothing else is
abbrev pub Adds : (List Submission → Submission → Type 0) → List Submission → List ℕ → Answer
    → List Submission → Type 0
Adds IsNew A line r B =
    ((s : Submission) × Submits line s × IsNew A s × HasRoom r × (B ≡ A ++ s ∷ []))
    ⊎ (((s : Submission) → Submits line s → IsNew A s → ¬ HasRoom r) × (B ≡ A))

-- B is A with the distinct submissions that these lines brought, in order of their first arrival
-- with room and memory
abbrev pub Taken : List Submission → List (List ℕ) → List Answer → List Submission → Type 0
Taken = Along (Adds (λ A s. ¬ Contains A s))

-- no two of the lines submit legal games that differ under one id
abbrev pub OneGame : List (List ℕ) → Type 0
OneGame L = (b c : List ℕ) (s t : Submission) → Contains L b → Contains L c → Submits b s
    → Submits c t → s.0 ≡ t.0 → s ≡ t

-- ---- the replies, as texts and, with an LF each, as lines

-- why a line is refused
abbrev pub reason : Refusal → List ℕ
reason refusal.Long = codes "long"
reason refusal.Shape = codes "shape"
reason refusal.Id = codes "id"
reason refusal.Result = codes "result"
reason (refusal.Fen e) = codes "fen"
reason refusal.Start = codes "start"
reason (refusal.Spelling n) = codes "spelling " ++ decimal n
reason refusal.Plies = codes "plies"
reason (refusal.Illegal n) = codes "illegal " ++ decimal n
reason (refusal.Conflict n) = codes "conflict " ++ decimal n
reason refusal.Full = codes "full"
reason refusal.Memory = codes "memory"

-- the id that a reply names: the line's first field, or a - where that isn't known to be an id
abbrev pub named : List ℕ → Answer → List ℕ
named line (Err refusal.Long) = codes "-"
named line (Err refusal.Shape) = codes "-"
named line (Err refusal.Id) = codes "-"
named line r = field (fields tab (strip_carriage_return line)) 0

-- what the reply says of the line with this id
abbrev pub reply_text : List ℕ → Answer → List ℕ
reply_text id (Ok n) = codes "ok " ++ id ++ 32 ∷ decimal n
reply_text id (Err e) = codes "refused " ++ id ++ 32 ∷ reason e

-- the text of the reply to a line with this answer
abbrev pub reply : List ℕ → Answer → List ℕ
reply line r = reply_text (named line r) r

-- and its line
abbrev pub reply_line : List ℕ → Answer → List ℕ
reply_line line r = with_end (reply line r)

-- the texts of the replies to these lines with these answers
abbrev pub reply_texts : List (List ℕ) → List Answer → List (List ℕ)
reply_texts (line ∷ L) (r ∷ R) = reply line r ∷ reply_texts L R
reply_texts L R = []

-- and their lines, one after the other
abbrev pub replies : List (List ℕ) → List Answer → List ℕ
replies (line ∷ L) (r ∷ R) = reply_line line r ++ replies L R
replies L R = []

-- ---- lists of submissions with the same members

-- no member stands twice
abbrev pub NoRepeats : {X : Type 0} → List X → Type 0
NoRepeats xs = AllPairs (λ x y. x ≢ y) xs

abbrev pub SameMembers : List Submission → List Submission → Type 0
SameMembers S U = (s : Submission) → Contains S s ↔ Contains U s
