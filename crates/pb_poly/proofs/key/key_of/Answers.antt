use Rattle.std.proofs.Common.{ℕ, ◌≡◌, subst, sym}
use Rattle.std.specs.Prelude.{bit_xor}
use Rattle.pb_poly.specs.Key.{IsKey, key, en_passant_offsets, piece_offsets}
use Rattle.pb_poly.proofs.Keys.{toggled_four}
use Rattle.pb_poly.proofs.Offsets.{right_offsets, turn_offsets}
use Rattle.pb_poly.proofs.Parity.{key_is_parity}
use Rattle.pb_poly.proofs.key.key_of.Goals as goal

pub returns : goal.returns
unfolding key
returns c =
    let randoms = c.args.table.now in
    let s = c.args.setup.now in
    let parts = toggled_four randoms 0 (piece_offsets s.board 0) (right_offsets s.rights) (en_passant_offsets s) (turn_offsets s.turn) in
    let value : bit_xor (bit_xor (bit_xor c.pieces_key-pieces.result c.rights_key-rights.result) c.en_passant_key-en_passant.result) c.turn_key-turn.result ≡ key randoms s =
    rw (c.pieces_key-pieces.ensures.value, c.board.ensures, c.rights_key-rights.ensures, c.rights.ensures, c.en_passant_key-en_passant.ensures.value, c.turn_key-turn.ensures, c.turn.ensures.value) (sym parts) in
    let P : ℕ → Type 0 = λ k. IsKey randoms s k in
    record { parity = subst P (sym value) (key_is_parity randoms s c.pieces_key-pieces.ensures.rules c.turn.ensures.rules); value = value }
