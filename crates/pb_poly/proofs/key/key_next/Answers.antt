use Rattle.std.proofs.Common.{◌≡◌, ℕ, [], ◌∷◌, ◌∙◌, sym, ap, subst}
use Rattle.std.specs.Prelude.{bit_xor}
use Rattle.pb_board.specs.Position.{Position}
use Rattle.pb_moves.specs.Successor.{after, rights_after}
use Rattle.pb_board.specs.declared.setup.Rights.{Rights}
use Rattle.pb_moves.proofs.Ways.{after_parts}
use Rattle.pb_moves.proofs.Kept.{after_is_setup}
use Rattle.pb_poly.specs.Key.{IsKey, key, en_passant_offsets}
use Rattle.pb_poly.specs.KeyChange.{changed_offsets, moved_offsets, stepped_offsets, toggled}
use Rattle.pb_poly.proofs.KeyChanges.{moved_changes}
use Rattle.pb_poly.proofs.KeyMoves.{steps_after}
use Rattle.pb_poly.proofs.KeyPlies.{key_follows}
use Rattle.pb_poly.proofs.Keys.{toggled_five, toggled_from, toggled_one}
use Rattle.pb_poly.proofs.Parity.{key_is_parity}
use Rattle.pb_poly.proofs.key.key_next.Goals as goal

pub changed_key-changed-requires : goal.changed_key-changed-requires
changed_key-changed-requires c =
    let rights = λ (x : Position). x.rights in
    let is = c.requires.effect in
    sym (ap rights is.after) ∙ ap rights (after_parts c.args.before.now c.args.m c.args.effect.now.piece is.stands)
    ∙ ap (λ (r : Rights). rights_after r c.args.m) (sym c.rights.ensures)

pub returns : goal.returns
returns c =
    let randoms = c.args.table.now in
    let s = c.args.before.now in
    let e = c.args.effect.now in
    let t = after s c.args.m in
    let is = c.requires.effect in
    let ok = c.en_passant_key-cleared.ensures.rules in
    let table = c.word.ensures.rules in
    let k = key randoms s in
    let moved = moved_offsets s.board e in
    let changed : c.changed_key-changed.result ≡ toggled randoms 0 (changed_offsets s.rights t.rights) =
    c.changed_key-changed.ensures ∙ rw c.rights.ensures (ap (λ (x : Position). toggled randoms 0 (changed_offsets s.rights x.rights)) (sym is.after)) in
    let stepped : c.stepped_key-stepped.result ≡ toggled randoms 0 (en_passant_offsets t) =
    c.stepped_key-stepped.ensures ∙ ap (λ q. toggled randoms 0 (stepped_offsets s q e.ep)) c.to.ensures.value ∙ ap (λ offsets. toggled randoms 0 offsets) (sym (steps_after s c.args.m e ok is)) in
    let turned : c.word.result ≡ toggled randoms 0 (780 ∷ []) = c.word.ensures.value ∙ sym (toggled_one randoms 780) in
    let parts = toggled_five randoms k moved (changed_offsets s.rights t.rights) (en_passant_offsets s) (en_passant_offsets t) (780 ∷ []) in
    let follows = key_follows randoms s t moved table (ap (λ (x : Position). x.turn) is.after) (λ f. moved_changes f s c.args.m e ok is) in
    let value : bit_xor (bit_xor (bit_xor (bit_xor (bit_xor c.args.key c.moved_key-moved.result) c.changed_key-changed.result) c.en_passant_key-cleared.result) c.stepped_key-stepped.result) c.word.result
    ≡ key randoms t =
    rw (c.requires.key, c.moved_key-moved.ensures, changed, c.en_passant_key-cleared.ensures.value, stepped, turned, ← toggled_from randoms k moved) (sym parts) ∙ sym follows in
    let P : ℕ → Type 0 = λ n. IsKey randoms t n in
    record { parity = subst P (sym value) (key_is_parity randoms t table (after_is_setup s c.args.m ok is.moves)); value = value }
