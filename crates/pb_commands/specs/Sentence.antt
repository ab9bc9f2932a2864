-- The theorem's sentence as one proposition over lines and replies. Each field is a phrase of it.
-- The first phrase, that no id names two different games, is the premise of the law beside it.
use Rattle.std.specs.Prelude.{◌≡◌, ℕ, ◌+◌, ◌<◌, ◌≤◌, ◌⊎◌, ◌↔◌, List, [], ◌++◌, Contains, Some}
use Rattle.std.specs.Prelude.{codes, length, slice_get, take}
use Rattle.pb_poly.specs.Book.{BookBytes}
use Rattle.pb_poly.specs.declared.book.Entry.{Entry}
use Rattle.pb_games.specs.Submissions.{Submission}
use Rattle.pb_accepted.specs.Rules.{Basis}
use Rattle.pb_accepted.specs.Counting.{IsBookOf}
use Rattle.pb_accepted.specs.Accepting.{NoRepeats}
use Rattle.pb_accepted.specs.Replying.{Arrives, IsAccepted, IsNewId, Replies, most_games, ok}
use Rattle.pb_accepted.specs.Replying.{refused}
use Rattle.pb_commands.specs.Headline.{Effect}

-- a legal submission that arrived and was accepted: some line submits it, and the reply is `ok`
abbrev pub WasAccepted : List (List ℕ) → List (List ℕ) → Submission → Type 0
WasAccepted L R s = (i : ℕ) × (n : ℕ) × IsAccepted ok L R i s n

-- after the first i lines and their replies these games are held, and no others
abbrev pub HeldAfter : List (List ℕ) → List (List ℕ) → ℕ → List Submission → Type 0
HeldAfter L R i held = (others : List Submission)
    → Replies most_games [] (take i L) (take i R) others ↔ (others ≡ held)

pub record Sentence (T : Basis) (L R : List (List ℕ)) (entries : List Entry) (book : List ℕ)
    : Type 0 where
  -- the distinct legal submissions that were accepted, each counted once
  pub distinct : List Submission
  pub once : NoRepeats distinct
  pub accepted : (s : Submission) → Contains distinct s ↔ WasAccepted L R s
  -- the book's bytes are those of their book, and decode to its entries
  pub is_book : IsBookOf T distinct entries
  pub decodes : (others : List Entry) → BookBytes others book ↔ (others ≡ entries)
  -- in any order and however often: each run on the same basis that accepted the same submissions
  -- has the same bytes
  pub any_order : (K Q : List (List ℕ)) (games : List Submission) (others : List Entry)
      (bytes : List ℕ) → Effect T K Q games others bytes
      → ((s : Submission) → WasAccepted K Q s ↔ WasAccepted L R s) → bytes ≡ book
  -- every legal arrival is accepted unless room or memory is refused: its id is new to the games
  -- held before it, and the reply is `full` where as many are held as may be, else `memory`
  pub arrivals : (i : ℕ) (s : Submission) → Arrives L i s → ((n : ℕ) × IsAccepted ok L R i s n)
      ⊎ ((held : List Submission) × HeldAfter L R i held × IsNewId s.0 held
      × (((most_games ≤ length held) × (slice_get R i ≡ Some (refused (s.0 ++ codes " full"))))
      ⊎ ((length held < most_games) × (slice_get R i ≡ Some (refused (s.0 ++ codes " memory"))))))
  -- a repeat is answered as its first acceptance was
  pub repeats : (i j n : ℕ) (s : Submission) → i < j → IsAccepted ok L R i s n → Arrives L j s
      → slice_get R j ≡ Some (ok s n)
  -- a refused submission changes nothing: the games held before it and after it are the same
  pub refusals : (i : ℕ) (why : List ℕ) → slice_get R i ≡ Some (refused why)
      → (held : List Submission) × HeldAfter L R i held × HeldAfter L R (i + 1) held
