use Rattle.std.proofs.Common.{◌∙◌, ◌<◌, ℕ, Err, List, Ok, ap, arith}
use Rattle.std.specs.List.{each_same}
use Rattle.std.proofs.lemmas.Result.{err_from_is_err_and}
use Rattle.pb_moves.specs.Moved.{Moved}
use Rattle.pb_commands.specs.Tree.{sum_of_weights}
use Rattle.pb_commands.proofs.Trees.{indented, is_played, line_fails, none_put, tree_fails}
use Rattle.pb_commands.proofs.Trees.{tree_more, tree_put}
use Rattle.pb_commands.proofs.probe.Finder.+put_tree.Goals as goal

pub loop-m-init : goal.loop-m-init
loop-m-init g t c = (
  record {
    all = c.in_ok-found.found.items;
    found = c.in_ok-found.ensures;
    sum_is = c.sum_of_weights-sum.ensures ∙ ap sum_of_weights c.as_slice.ensures.value;
    kept = c.as_slice-m-items.ensures.value ∙ c.keep_heavy.ensures;
  },
  none_put _ _ _ _,
)

pub returns-in_err-put_branch : goal.returns-in_err-put_branch
returns-in_err-put_branch g t c =
    let k = g.K.Sink.state in
    let words = c.args.self.now.table in
    let entries = c.args.self.now.book in
    let s = c.args.setup.now in
    let pairs : List (Moved × ℕ) = c.as_slice-m-items.result.now in
    let some : 0 < c.args.plies = omega (arith, c.if-plies-eq0.false) in
    let x : Moved × ℕ = c.loop-m-item.result in
    let indent = c.as_slice-in-loop-m.ensures.value ∙ each_same _ _ c.in_ok-indent.ensures.items in
    let p = err_from_is_err_and c.from_residual-in_err-put_branch.result c.from_residual-in_err-put_branch.ensures.1 in
    let put = indented (k c.loop-m.sink) (k c.put_branch.new.sink) (Err c.in_err-put_branch.field-0.0) c.args.depth c.sum_of_weights-sum.result c.as_slice-in-loop-m.result.now x indent c.in_err-put_branch.ensures in
    rw (p.1, p.2) (line_fails words entries c.args.least c.args.plies c.args.depth s c.requires.rules some c.sum_of_weights-sum.result pairs c.loop-m.invariant.0 c.loop-m.m-index (k c.args.sink.now) (k c.loop-m.sink) c.loop-m.invariant.1 x c.loop-m-item.is c.loop-m-test.true (k c.put_branch.new.sink) c.in_err-put_branch.field-0.0 put)

pub unwrap-next-requires : goal.unwrap-next-requires
unwrap-next-requires g t c =
    let k = g.K.Sink.state in
    let words = c.args.self.now.table in
    let entries = c.args.self.now.book in
    let s = c.args.setup.now in
    let pairs : List (Moved × ℕ) = c.as_slice-m-items.result.now in
    let some : 0 < c.args.plies = omega (arith, c.if-plies-eq0.false) in
    let x : Moved × ℕ = c.loop-m-item.result in
    is_played words entries c.args.least c.args.plies c.args.depth s c.requires.rules some c.sum_of_weights-sum.result pairs c.loop-m.invariant.0 c.loop-m.m-index (k c.args.sink.now) (k c.loop-m.sink) c.loop-m.invariant.1 x c.loop-m-item.is c.loop-m-test.true c.play.result c.play.ensures.played

pub returns-in_err-put_tree : goal.returns-in_err-put_tree
returns-in_err-put_tree g t c =
    let k = g.K.Sink.state in
    let words = c.args.self.now.table in
    let entries = c.args.self.now.book in
    let s = c.args.setup.now in
    let pairs : List (Moved × ℕ) = c.as_slice-m-items.result.now in
    let some : 0 < c.args.plies = omega (arith, c.if-plies-eq0.false) in
    let x : Moved × ℕ = c.loop-m-item.result in
    let indent = c.as_slice-in-loop-m.ensures.value ∙ each_same _ _ c.in_ok-indent.ensures.items in
    let put = indented (k c.loop-m.sink) (k c.put_branch.new.sink) (Ok c.in_ok-put_branch.field-0) c.args.depth c.sum_of_weights-sum.result c.as_slice-in-loop-m.result.now x indent c.in_ok-put_branch.ensures in
    let p = err_from_is_err_and c.from_residual-in_err-put_tree.result c.from_residual-in_err-put_tree.ensures.1 in
    rw (p.1, p.2) (tree_fails words entries c.args.least c.args.plies c.args.depth s c.requires.rules some c.sum_of_weights-sum.result pairs c.loop-m.invariant.0 c.loop-m.m-index (k c.args.sink.now) (k c.loop-m.sink) c.loop-m.invariant.1 x c.loop-m-item.is c.loop-m-test.true
    (k c.put_branch.new.sink) c.in_ok-put_branch.field-0 put c.play.result c.unwrap-next.result c.play.ensures.played c.unwrap-next.ensures (k c.put_tree.new.sink) c.in_err-put_tree.field-0.0 c.in_err-put_tree.ensures)

pub loop-m-preserved : goal.loop-m-preserved
loop-m-preserved g t c =
    let k = g.K.Sink.state in
    let words = c.args.self.now.table in
    let entries = c.args.self.now.book in
    let s = c.args.setup.now in
    let pairs : List (Moved × ℕ) = c.as_slice-m-items.result.now in
    let some : 0 < c.args.plies = omega (arith, c.if-plies-eq0.false) in
    let x : Moved × ℕ = c.loop-m-item.result in
    let indent = c.as_slice-in-loop-m.ensures.value ∙ each_same _ _ c.in_ok-indent.ensures.items in
    let put = indented (k c.loop-m.sink) (k c.put_branch.new.sink) (Ok c.in_ok-put_branch.field-0) c.args.depth c.sum_of_weights-sum.result c.as_slice-in-loop-m.result.now x indent c.in_ok-put_branch.ensures in (
      c.loop-m.invariant.0,
      tree_more words entries c.args.least c.args.plies c.args.depth s c.requires.rules some c.sum_of_weights-sum.result pairs c.loop-m.invariant.0 c.loop-m.m-index (k c.args.sink.now) (k c.loop-m.sink) c.loop-m.invariant.1 x c.loop-m-item.is c.loop-m-test.true
          (k c.put_branch.new.sink) c.in_ok-put_branch.field-0 put c.play.result c.unwrap-next.result c.play.ensures.played c.unwrap-next.ensures (k c.put_tree.new.sink) c.in_ok-put_tree.field-0 c.in_ok-put_tree.ensures,
    )

pub returns : goal.returns
returns g t c =
    let k = g.K.Sink.state in
    let words = c.args.self.now.table in
    let entries = c.args.self.now.book in
    let s = c.args.setup.now in
    let pairs : List (Moved × ℕ) = c.as_slice-m-items.result.now in
    let some : 0 < c.args.plies = omega (arith, c.if-plies-eq0.false) in
    tree_put words entries c.args.least c.args.plies c.args.depth s c.requires.rules some c.sum_of_weights-sum.result pairs c.loop-m.invariant.0 c.loop-m.m-index (k c.args.sink.now) (k c.loop-m.sink) c.loop-m.invariant.1 c.loop-m-test.false
