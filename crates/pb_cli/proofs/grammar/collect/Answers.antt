use Rattle.std.proofs.lemmas.Result.{IfOk-weaker}
use Rattle.pb_cli.proofs.Commands.{IsCommand-arg, conflicts-bound, requires-bound}
use Rattle.pb_cli.proofs.grammar.collect.Goals as goal

pub returns : goal.returns
returns c =
    let once = conflicts-bound c.option.result c.in_ok-conflicts_with.field-0 _ _ c.option.ensures c.in_ok-conflicts_with.ensures in
    let ledger = conflicts-bound c.in_ok-conflicts_with.field-0 c.in_ok-conflicts_with-2.field-0 _ _ once c.in_ok-conflicts_with-2.ensures in
    let sync = requires-bound c.flag.result c.in_ok-requires_arg.field-0 _ _ c.flag.ensures c.in_ok-requires_arg.ensures in
    let saved = IsCommand-arg _ _ _ _ _ c.bare_command.ensures c.in_ok-arg.ensures ledger in
    let journaled = IsCommand-arg _ _ _ _ _ saved c.in_ok-arg-2.ensures c.option-2.ensures in
    let keeping = IsCommand-arg _ _ _ _ _ journaled c.in_ok-keeping.ensures sync in
    let taking = c.in_ok-with_games.ensures _ keeping in
    IfOk-weaker c.arg-4.result _ _ (λ whole adds. IsCommand-arg _ _ _ _ _ taking adds c.required.ensures) c.arg-4.ensures
