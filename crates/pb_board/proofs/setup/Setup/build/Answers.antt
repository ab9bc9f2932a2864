use Rattle.std.proofs.Common.{◌≡◌, ℕ, rules}
use Rattle.pb_board.specs.declared.piece.Colour.TheVariants.{White, Black}
use Rattle.pb_board.specs.Position.{IsOnlyKing, IsSetup, position_of}
use Rattle.pb_board.proofs.Backs.{keeps_setup, setup_is}
use Rattle.pb_board.proofs.Firsts.{en_passant_first, kings_first, pawns_first}
use Rattle.pb_board.proofs.Kings.{both_kings}
use Rattle.pb_board.proofs.setup.Setup.build.Goals as goal

pub returns-then-not-has_one_king : goal.returns-then-not-has_one_king
returns-then-not-has_one_king c = kings_first (position_of c.args.board c.args.turn c.args.rights c.args.ep) (λ kings. let white = kings White in let black = kings Black in search rules)

pub returns-then-not-has_no_edge_pawn : goal.returns-then-not-has_no_edge_pawn
returns-then-not-has_no_edge_pawn c =
    let white : (king : ℕ) × IsOnlyKing c.args.board White king = (c.has_one_king.ensures c.args.board c.bitboards_of-bitboards.ensures).0 (search rules) in
    let black : (king : ℕ) × IsOnlyKing c.args.board Black king = (c.has_one_king-else-not-has_one_king.ensures c.args.board c.bitboards_of-bitboards.ensures).0 (search rules) in
    pawns_first (position_of c.args.board c.args.turn c.args.rights c.args.ep) (both_kings _ White _ _ white.1 black.1) (search rules)

pub returns : goal.returns
returns c =
    let white : (king : ℕ) × IsOnlyKing c.args.board White king = (c.has_one_king.ensures c.args.board c.bitboards_of-bitboards.ensures).0 (search rules) in
    let black : (king : ℕ) × IsOnlyKing c.args.board Black king = (c.has_one_king-else-not-has_one_king.ensures c.args.board c.bitboards_of-bitboards.ensures).0 (search rules) in
    en_passant_first _ (both_kings _ White _ _ white.1 black.1) (search rules) (search rules)

pub invariant_of-result : goal.invariant_of-result
invariant_of-result c =
    let white : (king : ℕ) × IsOnlyKing c.args.board White king = (c.has_one_king.ensures c.args.board c.bitboards_of-bitboards.ensures).0 (search rules) in
    let black : (king : ℕ) × IsOnlyKing c.args.board Black king = (c.has_one_king-else-not-has_one_king.ensures c.args.board c.bitboards_of-bitboards.ensures).0 (search rules) in
    let kings = both_kings c.args.board White _ _ white.1 black.1 in
    keeps_setup _ c.args.board _ _ _ c.bitboards_of-bitboards.ensures (search rules)

pub returns-2 : goal.returns-2
returns-2 c =
    let white : (king : ℕ) × IsOnlyKing c.args.board White king = (c.has_one_king.ensures c.args.board c.bitboards_of-bitboards.ensures).0 (search rules) in
    let black : (king : ℕ) × IsOnlyKing c.args.board Black king = (c.has_one_king-else-not-has_one_king.ensures c.args.board c.bitboards_of-bitboards.ensures).0 (search rules) in
    let kings = both_kings c.args.board White _ _ white.1 black.1 in
    let lawful : IsSetup (position_of c.args.board c.args.turn c.args.rights c.args.ep) = search rules in
    let same : c.in_default.ep ≡ c.args.ep = search rules in
    (rw same (setup_is _ c.args.board _ _ _ lawful.places c.bitboards_of-bitboards.ensures), lawful)
