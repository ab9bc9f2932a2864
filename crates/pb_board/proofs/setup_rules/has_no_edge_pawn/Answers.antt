use Rattle.std.proofs.Common.{ℕ}
use Rattle.std.proofs.lemmas.Bool.{eq-eqb, eqb-true}
use Rattle.pb_board.proofs.Kings.{no_edge_bit, no_edge_pawn}
use Rattle.pb_board.proofs.setup_rules.has_no_edge_pawn.Goals as goal

pub returns : goal.returns
returns c = λ b full e.
    let squares = λ (q : ℕ). c.by_kind.ensures b q e in
    let fits = c.by_kind.type_inv in
    (λ none. no_edge_pawn b _ full squares (eqb-true _ 0 none), λ inside. eq-eqb _ 0 (no_edge_bit b _ full squares fits inside))
