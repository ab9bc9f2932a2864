use Rattle.std.proofs.Common.{◌∙◌, ap}
use Rattle.std.specs.Prelude.{unwrap_or}
use Rattle.clap.specs.Words.{found_of}
use Rattle.clap.proofs.WalkLemmas.{one_text-rows}
use Rattle.pb_cli.proofs.Matches.{number_given}
use Rattle.pb_cli.proofs.order.number.Goals as goal

pub returns : goal.returns
returns c = (
  λ said small is. c.unwrap_or.ensures ∙ ap (λ o. unwrap_or o 0) (number_given c.args.given.now c.args.id.now _ said c.get_one.ensures.value small is),
  λ unset. c.unwrap_or.ensures ∙ ap (λ o. unwrap_or o 0) (c.get_one.ensures.none (one_text-rows (found_of c.args.given.now) c.args.id.now ∙ unset)),
)
