-- The theorem of `pbook collect`, for the bytes of four texts: the table file and the submissions,
-- which two sources handed out, the replies, which a sink took, and the book. Read this file first:
-- nothing is assumed of the submissions.
use Rattle.std.specs.Prelude.{◌≡◌, ℕ, ◌↔◌, List, [], ◌∷◌, ◌++◌}
use Rattle.std.specs.List.{flat_map}
use Rattle.std.specs.Io.KnownBytes.{Appends}
pub use Rattle.pb_io.specs.Lines.{lines}
use Rattle.pb_io.specs.Source.{HandsOut}
use Rattle.pb_poly.specs.Book.{BookBytes}
use Rattle.pb_poly.specs.Table.{IsTableFile}
use Rattle.pb_poly.specs.declared.book.Entry.{Entry}
pub use Rattle.pb_games.specs.Submissions.{Submission}
pub use Rattle.pb_accepted.specs.Rules.{Basis}
use Rattle.pb_accepted.specs.Counting.{IsBookOf}
use Rattle.pb_accepted.specs.Replying.{AreNumbered, Replies, most_games, ok}
use Rattle.pb_accepted.specs.Rules.{AreRules, CountingRules}
use Rattle.pb_commands.specs.Runs.{EndStates}

-- What is made of lines with their replies, wherever the lines came from: the games that are held
-- in the end, the entries of their book, and its bytes.
pub record Effect (T : Basis) (L R : List (List ℕ)) (games : List Submission)
    (entries : List Entry) (book : List ℕ) : Type 0 where
  -- each line gets its reply, and games are added, by the six cases of `Reply`
  pub run : Replies most_games [] L R games
  -- the games are those whose lines got the reply `ok`, each once, however often it came
  pub numbered : AreNumbered ok L R games
  -- the entries and no others are the book of these games, and the bytes decode to no others
  pub is_book : (others : List Entry)
      → IsBookOf T games others ↔ (others ≡ entries)
  pub bytes : (others : List Entry) → BookBytes others book ↔ (others ≡ entries)

-- What is made of the bytes of a table file and those of submissions, by rules that say what of the
-- games counts: the bytes of the replies that were put, and the entries and the bytes of a book.
pub record Headline (rules : CountingRules) (table_bytes line_bytes reply_bytes : List ℕ)
    (entries : List Entry) (book : List ℕ) : Type 0 where
  -- the rules are within their bounds, and the file is a table
  pub counting : AreRules rules
  pub randoms : List ℕ
  pub table : IsTableFile randoms table_bytes
  -- the lines of the submissions are replied to, and just the replies were put, each as a line
  pub replies : List (List ℕ)
  pub games : List Submission
  pub effect : Effect (record { randoms = randoms; rules = rules })
      (lines line_bytes) replies games entries book
  pub replied : reply_bytes ≡ flat_map (λ r. r ++ 10 ∷ []) replies

-- all bytes that the sources of the table and of the submissions handed out, and those that the
-- sink of the replies took: any, if it doesn't tell them, but the program's sink, `ToWrite`, does
pub record EndBytes (e : EndStates) : Type 0 where
  pub table_bytes : List ℕ
  pub line_bytes : List ℕ
  pub reply_bytes : List ℕ
  pub table : HandsOut e.table.old e.table.new table_bytes
  pub lines : HandsOut e.lines.old e.lines.new line_bytes
  pub replies : Appends e.replies.old.bytes e.replies.new.bytes reply_bytes

-- the theorem, of all that the ends of a run handed out and took
abbrev pub HasHeadline : CountingRules → EndStates → List Entry → List ℕ → Type 0
HasHeadline rules e entries book =
    (at : EndBytes e) × Headline rules at.table_bytes at.line_bytes at.reply_bytes entries book
