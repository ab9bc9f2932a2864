use Rattle.std.proofs.Common.{◌∙◌, Some, ap}
use Rattle.std.proofs.lemmas.Result.{IfOk-weaker}
use Rattle.clap.specs.Words.{Rule, rule_of}
use Rattle.clap.specs.declared.builder.arg.Arg.{Arg}
use Rattle.pb_cli.proofs.Commands.{IsCommand-arg}
use Rattle.pb_cli.proofs.grammar.with_games.Goals as goal

pub returns : goal.returns
returns c = IfOk-weaker c.arg-5.result _ _ (λ taking adds. λ app h.
    let plies = IsCommand-arg _ _ _ _ _ h c.in_ok-arg.ensures c.number.ensures in
    let least = IsCommand-arg _ _ _ _ _ plies c.in_ok-arg-2.ensures c.number-2.ensures in
    let summary = IsCommand-arg _ _ _ _ _ least c.in_ok-arg-3.ensures c.flag.ensures in
    let short = c.short.ensures in
    let quiet = IsCommand-arg _ _ _ _ _ summary c.in_ok-arg-4.ensures
    (ap rule_of short ∙ ap (λ (r : Rule). record r { short = Some 113 }) c.flag-2.ensures.0, ap (λ (a : Arg). a.global) short ∙ c.flag-2.ensures.1) in
    IsCommand-arg _ _ _ _ _ quiet adds c.required.ensures) c.arg-5.ensures
