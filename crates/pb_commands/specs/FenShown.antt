-- What the command `fen` writes.
use Rattle.std.specs.Prelude.{ℕ, List, map, ◌≡◌, ◌⊎◌, true, All, Ok}
use Rattle.std.specs.Borrow.{Bor}
pub use Rattle.std.specs.List.{AllZip}
use Rattle.pb_board.specs.Position.{Record}
use Rattle.pb_board.specs.LineEnd.{with_end}
pub use Rattle.pb_board.specs.Refusal.{BreaksAt}
pub use Rattle.pb_board.specs.Text.{fen_text}
pub use Rattle.pb_moves.specs.Moved.{Moved}
pub use Rattle.pb_moves.specs.Played.{IsSpelled, Plays, Spells}
use Rattle.pb_commands.specs.Judged.{ByInput, Verdict, AsRecord, record_verdict, refused_verdict}
use Rattle.pb_commands.specs.declared.stop.Refused.TheVariants.{Spelling, Illegal}

-- the bytes behind references, each by itself
abbrev pub texts : List (Bor (List ℕ)) → List (List ℕ)
texts = map (λ part. part.now)

-- the moves may be played in turn
abbrev pub MayPlay : Record → List Moved → Type 0
MayPlay start moves = (last : Record) × Plays start moves last

-- The record is judged first. Then a word is refused that spells no move, or the words spell moves,
-- of which one is refused that isn't legal where it is played, or all are played.
abbrev pub FenShown : List ℕ → List (List ℕ) → Verdict → Type 0
FenShown fen words verdict = ByInput (AsRecord fen) (λ start.
    ((n : ℕ) × BreaksAt (All IsSpelled) words n × (verdict ≡ refused_verdict (Spelling n)))
    ⊎ ((moves : List Moved) × AllZip Spells words moves
    × (((n : ℕ) × BreaksAt (MayPlay start) moves n × (verdict ≡ refused_verdict (Illegal n)))
    ⊎ ((last : Record) × Plays start moves last
    × (verdict ≡ Ok (true, with_end (fen_text last))))))) (λ e. verdict ≡ record_verdict e)
