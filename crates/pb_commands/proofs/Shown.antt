-- What the command `fen` shows.
use Rattle.std.proofs.Common.{◌≡◌, ◌∙◌, ℕ, List, [], ◌++◌, Result, Ok, Err, ap, append-nil, inl}
use Rattle.std.proofs.Common.{inr, refl, subst, sym, true}
use Rattle.std.specs.List.{AllZip}
use Rattle.std.specs.Prelude.{MatchResult}
use Rattle.std.specs.Result.{IsErrAnd}
use Rattle.pb_board.specs.Position.{Record}
use Rattle.pb_board.specs.Refusal.{BreaksAt}
use Rattle.pb_board.specs.Text.{fen_text}
use Rattle.pb_moves.specs.Moved.{Moved}
use Rattle.pb_moves.specs.Played.{Plays, Spells}
use Rattle.pb_board.specs.LineEnd.{with_end}
use Rattle.pb_io.specs.Sink.{SinkState}
use Rattle.pb_commands.specs.FenShown.{FenShown, MayPlay}
use Rattle.pb_commands.specs.Judged.{PutsOrEnds, AsRecord, refused_verdict}
use Rattle.pb_commands.specs.declared.stop.Refused.{Refused}
use Rattle.pb_commands.specs.declared.stop.Refused.TheVariants.{Illegal}
use Rattle.pb_io.specs.declared.fault.Fault.{Fault}
use Rattle.pb_io.specs.declared.fault.Fault.TheVariants.{Read, Write, Endless, Memory}

-- the bytes of a text show it
pub shown_by : (fen : List ℕ) (words : List (List ℕ)) (text bytes : List ℕ) → FenShown fen words (Ok (true, with_end text)) → bytes ≡ text
    → FenShown fen words (Ok (true, with_end (bytes ++ [])))
shown_by fen words text bytes shows same = subst (λ w. FenShown fen words (Ok (true, with_end w))) (sym (append-nil bytes ∙ same)) shows

-- the moves that the words spell are played, or one of them is refused
pub moves_played : (fen : List ℕ) (words : List (List ℕ)) (start : Record) → AsRecord fen (Ok start) → (played : Result Record ℕ)
    → (moves : List Moved) × AllZip Spells words moves × MatchResult played (λ last. Plays start moves last) (BreaksAt (MayPlay start) moves)
    → (answer : Result Record Refused) → MatchResult played (λ last. answer ≡ Ok last) (λ n. IsErrAnd answer (λ why. why ≡ Illegal n))
    → MatchResult answer (λ last. FenShown fen words (Ok (true, with_end (fen_text last)))) (λ why. FenShown fen words (refused_verdict why))
moves_played fen words start taken (Ok last) (moves, spelt, plays) answer is =
    subst (λ (a : Result Record Refused). MatchResult a (λ last. FenShown fen words (Ok (true, with_end (fen_text last)))) (λ why. FenShown fen words (refused_verdict why)))
    (sym is) (Ok start, taken, inr (moves, spelt, inr (last, plays, refl)))
moves_played fen words start taken (Err n) h (Ok last) is = absurd is
moves_played fen words start taken (Err n) (moves, spelt, breaks) (Err why) is = (Ok start, taken, inr (moves, spelt, inl (n, breaks, ap refused_verdict is)))

-- no fault ends the command before something is put
never : (fen : List ℕ) (words : List (List ℕ)) (fault : Fault) → FenShown fen words (Err fault) → ⊥
never fen words fault (Err e, h, is) = cc is
never fen words fault (Ok start, h, inl (n, k, is)) = cc is
never fen words fault (Ok start, h, inr (moves, spelt, inl (n, k, is))) = cc is
never fen words fault (Ok start, h, inr (moves, spelt, inr (last, plays, is))) = cc is

pub only_write : (fen : List ℕ) (words : List (List ℕ)) (sink sink' : SinkState) (fault : Fault) → PutsOrEnds (FenShown fen words) sink sink' (Err fault) → fault ≡ Write
only_write fen words sink sink' Write h = refl
only_write fen words sink sink' Read h = absurd (never fen words Read h.0)
only_write fen words sink sink' Endless h = absurd (never fen words Endless h.0)
only_write fen words sink sink' Memory h = absurd (never fen words Memory h.0)
