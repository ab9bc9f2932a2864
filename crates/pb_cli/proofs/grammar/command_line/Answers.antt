use Rattle.std.proofs.lemmas.Result.{IfOk-weaker}
use Rattle.pb_cli.proofs.Commands.{IsCommand-adds}
use Rattle.pb_cli.proofs.grammar.command_line.Goals as goal

pub returns : goal.returns
returns c =
    let with_collect = IsCommand-adds _ _ _ _ _ c.in_ok-program.ensures c.in_ok-collect.ensures c.in_ok-subcommand.ensures in
    let with_export = IsCommand-adds _ _ _ _ _ with_collect c.in_ok-export.ensures c.in_ok-subcommand-2.ensures in
    let with_check = IsCommand-adds _ _ _ _ _ with_export c.check.ensures c.in_ok-subcommand-3.ensures in
    let with_games = IsCommand-adds _ _ _ _ _ with_check c.in_ok-games.ensures c.in_ok-subcommand-4.ensures in
    let with_show = IsCommand-adds _ _ _ _ _ with_games c.in_ok-show.ensures c.in_ok-subcommand-5.ensures in
    let with_probe = IsCommand-adds _ _ _ _ _ with_show c.in_ok-probe.ensures c.in_ok-subcommand-6.ensures in
    let with_lookup = IsCommand-adds _ _ _ _ _ with_probe c.in_ok-lookup.ensures c.in_ok-subcommand-7.ensures in
    let with_tree = IsCommand-adds _ _ _ _ _ with_lookup c.in_ok-tree.ensures c.in_ok-subcommand-8.ensures in
    let with_fen = IsCommand-adds _ _ _ _ _ with_tree c.in_ok-fen.ensures c.in_ok-subcommand-9.ensures in
    IfOk-weaker c.subcommand-10.result _ _ (λ line adds. IsCommand-adds _ _ _ _ _ with_fen c.epd.ensures adds) c.subcommand-10.ensures
