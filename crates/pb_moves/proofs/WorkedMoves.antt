-- Moves that every player knows are legal.
use Rattle.std.proofs.Common.{◌≡◌, ◌≢◌, ℕ, ◌<◌, ◌⊎◌, ◌↔◌, List, [], ◌∷◌, true, Some, None, take, refl, inl, inr, arith}
use Rattle.std.specs.Prelude.{IsSome, codes}
use Rattle.std.specs.Fmt.{digits}
use Rattle.pb_board.specs.declared.piece.Colour.{Colour}
use Rattle.pb_board.specs.declared.piece.Colour.TheVariants.{White, Black}
use Rattle.pb_board.specs.declared.piece.Kind.{Kind}
use Rattle.pb_board.specs.declared.piece.Kind.TheVariants.{Pawn, Knight, Bishop, Queen, King}
use Rattle.pb_board.specs.Initial.{initial, initial_board}
use Rattle.pb_board.specs.Piece.{piece_of}
use Rattle.pb_board.specs.Board.{Holds, IsEmpty, IsForward, file, rank_for}
use Rattle.pb_board.specs.Position.{Position, Record, record_of}
use Rattle.pb_board.specs.Text.{fen_text}
use Rattle.pb_board.proofs.Starts.{all_from, is_it, king_test}
use Rattle.pb_moves.specs.Attacks.{Pattern, files_apart, ranks_apart}
use Rattle.pb_moves.specs.Clocks.{record_after}
use Rattle.pb_moves.specs.Legal.{Legal, MayLand}
use Rattle.pb_moves.specs.Moved.{Moved, IsMove, moved_of}
use Rattle.pb_moves.specs.Played.{AreLegal, Plays}
use Rattle.pb_moves.specs.Successor.{after}
use Rattle.pb_moves.specs.Worked.{e2e4, fools_mate, pawn_run, two_knights}
use Rattle.pb_moves.proofs.Tested.{IsSafe, clear, is_harmless, is_open, may, unattacked, unchecked}

plain : (from to : ℕ) → from < 64 → to < 64 → from ≢ to → IsMove (moved_of from to None)
plain from to on_from on_to moves = record { from_on_board = on_from; to_on_board = on_to; moves = moves; promotes = λ kind e. absurd cc }

unnamed : (kind : Kind) (side : Colour) (to : ℕ) → (kind ≡ Pawn → rank_for side to ≢ 7) → IsSome {T = Kind} None ↔ ((kind ≡ Pawn) × (rank_for side to ≡ 7))
unnamed k side to other = ((λ h. absurd cc), λ h. absurd (other h.0 h.1))

-- a pawn goes straight on, takes, or another piece goes, where the tests of the way and of its king
-- pass
module _ (s : Position) (from to king : ℕ) (is : IsMove (moved_of from to None)) where
  module _ (stands : Holds s.board from (piece_of s.turn Pawn)) (inside : rank_for s.turn to ≢ 7) where
    pushed : file to ≡ file from → IsForward s.turn 1 from to ⊎ ((rank_for s.turn from ≡ 1) × IsForward s.turn 2 from to) → all_from (is_open from to) 0 s.board ≡ true
        → IsEmpty s.board to → IsSafe s.turn king (after s (moved_of from to None)).board → Legal s (moved_of from to None)
    pushed same forward way empty safe = record {
      moves = record {
        is_move = is;
        kind = Pawn;
        stands = stands;
        goes = inr (inl (refl, record { same_file = same; forward = forward; way = clear from to s.board way; empty = empty }));
        promotes = unnamed Pawn s.turn to (λ e. inside);
      };
      safe = unchecked s.turn king (after s (moved_of from to None)).board safe;
    }

    taken : (files_apart from to ≡ 1) × (ranks_apart from to ≡ 1) → IsForward s.turn 1 from to → all_from (is_open from to) 0 s.board ≡ true
        → MayLand s Pawn to → IsSafe s.turn king (after s (moved_of from to None)).board → Legal s (moved_of from to None)
    taken pattern forward way lands safe = record {
      moves = record {
        is_move = is;
        kind = Pawn;
        stands = stands;
        goes = inl ((pattern, (λ e. forward), clear from to s.board way), lands);
        promotes = unnamed Pawn s.turn to (λ e. inside);
      };
      safe = unchecked s.turn king (after s (moved_of from to None)).board safe;
    }

  gone : (kind : Kind) → kind ≢ Pawn → Holds s.board from (piece_of s.turn kind) → Pattern kind (files_apart from to) (ranks_apart from to) → all_from (is_open from to) 0 s.board ≡ true
      → MayLand s kind to → IsSafe s.turn king (after s (moved_of from to None)).board → Legal s (moved_of from to None)
  gone kind other stands pattern way lands safe = record {
    moves = record {
      is_move = is;
      kind = kind;
      stands = stands;
      goes = inl ((pattern, (λ e. absurd (other e)), clear from to s.board way), lands);
      promotes = unnamed kind s.turn to (λ e. absurd (other e));
    };
    safe = unchecked s.turn king (after s (moved_of from to None)).board safe;
  }

-- the record after so many of the moves
abbrev played : Record → List Moved → Record
played f [] = f
played f (m ∷ ms) = played (record_after f m) ms

abbrev setup_at : ℕ → List Moved → Position
setup_at n ms = (played (record_of initial 0 1) (take n ms)).setup

pub e2e4_legal : Legal initial e2e4
unfolding initial_board after is_open is_harmless may king_test is_it
e2e4_legal = pushed initial 12 28 4 (plain 12 28 (omega arith) (omega arith) (λ e. omega (arith, e))) refl (λ e. omega (arith, e)) refl (inr (refl, refl)) refl refl (refl, refl, refl)

f2f3 : Legal initial (moved_of 13 21 None)
unfolding initial_board after is_open is_harmless may king_test is_it
f2f3 = pushed initial 13 21 4 (plain 13 21 (omega arith) (omega arith) (λ e. omega (arith, e))) refl (λ e. omega (arith, e)) refl (inl refl) refl refl (refl, refl, refl)

e7e5 : Legal (setup_at 1 fools_mate) (moved_of 52 36 None)
unfolding initial_board after is_open is_harmless may king_test is_it
e7e5 = pushed (setup_at 1 fools_mate) 52 36 60 (plain 52 36 (omega arith) (omega arith) (λ e. omega (arith, e))) refl (λ e. omega (arith, e)) refl (inr (refl, refl)) refl refl (refl, refl, refl)

g2g4 : Legal (setup_at 2 fools_mate) (moved_of 14 30 None)
unfolding initial_board after is_open is_harmless may king_test is_it
g2g4 = pushed (setup_at 2 fools_mate) 14 30 4 (plain 14 30 (omega arith) (omega arith) (λ e. omega (arith, e))) refl (λ e. omega (arith, e)) refl (inr (refl, refl)) refl refl (refl, refl, refl)

d8h4 : Legal (setup_at 3 fools_mate) (moved_of 59 31 None)
unfolding initial_board after is_open is_harmless may king_test is_it
d8h4 = gone (setup_at 3 fools_mate) 59 31 60 (plain 59 31 (omega arith) (omega arith) (λ e. omega (arith, e))) Queen (λ e. absurd cc) refl (inl refl, omega arith) refl (inr refl) (refl, refl, refl)

pub fools_mate_legal : AreLegal initial fools_mate
fools_mate_legal = (f2f3, (e7e5, (g2g4, (d8h4, tt))))

-- ---- castling

open_game : Legal (setup_at 1 two_knights) (moved_of 52 36 None)
unfolding initial_board after is_open is_harmless may king_test is_it
open_game = pushed (setup_at 1 two_knights) 52 36 60 (plain 52 36 (omega arith) (omega arith) (λ e. omega (arith, e))) refl (λ e. omega (arith, e)) refl (inr (refl, refl)) refl refl (refl, refl, refl)

g1f3 : Legal (setup_at 2 two_knights) (moved_of 6 21 None)
unfolding initial_board after is_open is_harmless may king_test is_it
g1f3 = gone (setup_at 2 two_knights) 6 21 4 (plain 6 21 (omega arith) (omega arith) (λ e. omega (arith, e))) Knight (λ e. absurd cc) refl refl refl (inr refl) (refl, refl, refl)

b8c6 : Legal (setup_at 3 two_knights) (moved_of 57 42 None)
unfolding initial_board after is_open is_harmless may king_test is_it
b8c6 = gone (setup_at 3 two_knights) 57 42 60 (plain 57 42 (omega arith) (omega arith) (λ e. omega (arith, e))) Knight (λ e. absurd cc) refl refl refl (inr refl) (refl, refl, refl)

f1c4 : Legal (setup_at 4 two_knights) (moved_of 5 26 None)
unfolding initial_board after is_open is_harmless may king_test is_it
f1c4 = gone (setup_at 4 two_knights) 5 26 4 (plain 5 26 (omega arith) (omega arith) (λ e. omega (arith, e))) Bishop (λ e. absurd cc) refl (refl, omega arith) refl (inr refl) (refl, refl, refl)

g8f6 : Legal (setup_at 5 two_knights) (moved_of 62 45 None)
unfolding initial_board after is_open is_harmless may king_test is_it
g8f6 = gone (setup_at 5 two_knights) 62 45 60 (plain 62 45 (omega arith) (omega arith) (λ e. omega (arith, e))) Knight (λ e. absurd cc) refl refl refl (inr refl) (refl, refl, refl)

e1g1 : Legal (setup_at 6 two_knights) (moved_of 4 6 None)
unfolding initial_board after is_open is_harmless may king_test is_it
e1g1 = record {
  moves = record {
    is_move = plain 4 6 (omega arith) (omega arith) (λ e. omega (arith, e));
    kind = King;
    stands = refl;
    goes = inr (inr (
      refl,
      record {
        goes = refl;
        right = refl;
        rook = refl;
        way = clear 4 7 (setup_at 6 two_knights).board refl;
        unchecked = unattacked Black 4 (setup_at 6 two_knights).board refl;
        crosses = unattacked Black 5 (setup_at 6 two_knights).board refl;
      },
    ));
    promotes = unnamed King White 6 (λ e. absurd cc);
  };
  safe = unchecked White 6 (after (setup_at 6 two_knights) (moved_of 4 6 None)).board (refl, refl, refl);
}

pub castled : (g : Record) × Plays (record_of initial 0 1) two_knights g × (fen_text g ≡ codes "r1bqkb1r/pppp1ppp/2n2n2/4p3/2B1P3/5N2/PPPP1PPP/RNBQ1RK1 b kq - 5 4")
unfolding initial_board after digits
castled = (played (record_of initial 0 1) two_knights, (e2e4_legal, (open_game, (g1f3, (b8c6, (f1c4, (g8f6, (e1g1, refl))))))), refl)

-- ---- taking en passant, and promotion

a7a6 : Legal (setup_at 1 pawn_run) (moved_of 48 40 None)
unfolding initial_board after is_open is_harmless may king_test is_it
a7a6 = pushed (setup_at 1 pawn_run) 48 40 60 (plain 48 40 (omega arith) (omega arith) (λ e. omega (arith, e))) refl (λ e. omega (arith, e)) refl (inl refl) refl refl (refl, refl, refl)

e4e5 : Legal (setup_at 2 pawn_run) (moved_of 28 36 None)
unfolding initial_board after is_open is_harmless may king_test is_it
e4e5 = pushed (setup_at 2 pawn_run) 28 36 4 (plain 28 36 (omega arith) (omega arith) (λ e. omega (arith, e))) refl (λ e. omega (arith, e)) refl (inl refl) refl refl (refl, refl, refl)

d7d5 : Legal (setup_at 3 pawn_run) (moved_of 51 35 None)
unfolding initial_board after is_open is_harmless may king_test is_it
d7d5 = pushed (setup_at 3 pawn_run) 51 35 60 (plain 51 35 (omega arith) (omega arith) (λ e. omega (arith, e))) refl (λ e. omega (arith, e)) refl (inr (refl, refl)) refl refl (refl, refl, refl)

e5d6 : Legal (setup_at 4 pawn_run) (moved_of 36 43 None)
unfolding initial_board after is_open is_harmless may king_test is_it
e5d6 = taken (setup_at 4 pawn_run) 36 43 4 (plain 36 43 (omega arith) (omega arith) (λ e. omega (arith, e))) refl (λ e. omega (arith, e)) (refl, refl) refl refl (inr refl) (refl, refl, refl)

a6a5 : Legal (setup_at 5 pawn_run) (moved_of 40 32 None)
unfolding initial_board after is_open is_harmless may king_test is_it
a6a5 = pushed (setup_at 5 pawn_run) 40 32 60 (plain 40 32 (omega arith) (omega arith) (λ e. omega (arith, e))) refl (λ e. omega (arith, e)) refl (inl refl) refl refl (refl, refl, refl)

d6c7 : Legal (setup_at 6 pawn_run) (moved_of 43 50 None)
unfolding initial_board after is_open is_harmless may king_test is_it
d6c7 = taken (setup_at 6 pawn_run) 43 50 4 (plain 43 50 (omega arith) (omega arith) (λ e. omega (arith, e))) refl (λ e. omega (arith, e)) (refl, refl) refl refl (inl (Pawn, (λ e. absurd cc), refl)) (refl, refl, refl)

a5a4 : Legal (setup_at 7 pawn_run) (moved_of 32 24 None)
unfolding initial_board after is_open is_harmless may king_test is_it
a5a4 = pushed (setup_at 7 pawn_run) 32 24 60 (plain 32 24 (omega arith) (omega arith) (λ e. omega (arith, e))) refl (λ e. omega (arith, e)) refl (inl refl) refl refl (refl, refl, refl)

c7b8q : Legal (setup_at 8 pawn_run) (moved_of 50 57 (Some Queen))
unfolding initial_board after is_open is_harmless may king_test is_it
c7b8q = record {
  moves = record {
    is_move = record { from_on_board = omega arith; to_on_board = omega arith; moves = λ e. omega (arith, e); promotes = λ kind e. ((λ p. absurd cc), λ k. absurd cc) };
    kind = Pawn;
    stands = refl;
    goes = inl (((refl, refl), (λ e. refl), clear 50 57 (setup_at 8 pawn_run).board refl), inl (Knight, (λ e. absurd cc), refl));
    promotes = ((λ h. (refl, refl)), λ h. refl);
  };
  safe = unchecked White 4 (after (setup_at 8 pawn_run) (moved_of 50 57 (Some Queen))).board (refl, refl, refl);
}

pub promoted : (g : Record) × Plays (record_of initial 0 1) pawn_run g × (fen_text g ≡ codes "rQbqkbnr/1p2pppp/8/8/p7/8/PPPP1PPP/RNBQKBNR b KQkq - 0 5")
unfolding initial_board after digits
promoted = (played (record_of initial 0 1) pawn_run, (e2e4_legal, (a7a6, (e4e5, (d7d5, (e5d6, (a6a5, (d6c7, (a5a4, (c7b8q, refl))))))))), refl)
