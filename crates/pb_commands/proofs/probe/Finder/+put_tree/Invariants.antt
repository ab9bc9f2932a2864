use Rattle.std.proofs.Common.{◌+◌, ◌-◌}
use Rattle.pb_moves.specs.Successor.{after}
use Rattle.pb_commands.specs.Tree.{Tree, branch_line}
use Rattle.pb_commands.proofs.Trees.{HasMoves, PutsBranches}
use Rattle.pb_commands.proofs.probe.Finder.+put_tree.Given as goal

abbrev pub decreases-put_tree : goal.decreases-put_tree
decreases-put_tree g l = l.plies

-- the moves are those that the book has, and the branches before this one have been put
abbrev pub invariant-loop-m : goal.invariant-loop-m
invariant-loop-m g l =
    let state = g.K.Sink.state in
    let f = l.fn in
    HasMoves f.self.table f.self.book f.least f.setup l.sum l.m-items
    × PutsBranches (branch_line f.depth l.sum) (λ m. Tree f.self.table f.self.book f.least (f.plies - 1) (f.depth + 1) (after f.setup m)) l.m-items l.m-index (state l.initial.sink) (state l.sink)
