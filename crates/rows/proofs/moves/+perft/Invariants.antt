use Rattle.rows.proofs.moves.+perft.Given as goal

abbrev pub decreases-perft : goal.decreases-perft
decreases-perft l = l.depth
