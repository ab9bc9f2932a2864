use Rattle.std.proofs.Common.{rules}
use Rattle.std.specs.Prelude.{Some, codes}
use Rattle.std.proofs.lemmas.Result.{IfOk-weaker}
use Rattle.pb_cli.specs.CommandLine.{HasRule, argument_or, option}
use Rattle.clap.specs.declared.builder.value_parser.ValueParser.TheVariants.{Unsigned}
use Rattle.pb_cli.proofs.Commands.{IsCommand-arg}
use Rattle.pb_cli.proofs.grammar.tree.Goals as goal

pub returns : goal.returns
returns c =
    let plies = IsCommand-arg _ _ _ _ _ c.bare_command.ensures c.in_ok-arg.ensures c.number.ensures in
    let heavy : HasRule (record (option (codes "weight")) { parser = Some (Unsigned 1 65535) }) c.value_parser.result = search rules in
    let weight = IsCommand-arg _ _ _ _ _ plies c.in_ok-arg-2.ensures heavy in
    let table = IsCommand-arg _ _ _ _ _ weight c.in_ok-arg-3.ensures c.required.ensures in
    let book = IsCommand-arg _ _ _ _ _ table c.in_ok-arg-4.ensures c.required-2.ensures in
    let fen : HasRule (argument_or (codes "rnbqkbnr/pppppppp/8/8/8/8/PPPPPPPP/RNBQKBNR w KQkq - 0 1") (codes "FEN")) c.help.result = search rules in
    IfOk-weaker c.arg-5.result _ _ (λ whole adds. IsCommand-arg _ _ _ _ _ book adds fen) c.arg-5.ensures
