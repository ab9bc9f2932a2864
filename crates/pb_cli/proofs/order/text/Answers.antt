use Rattle.std.proofs.Common.{refl}
use Rattle.pb_cli.proofs.Matches.{text_given}
use Rattle.pb_cli.proofs.order.text.Goals as goal

pub returns : goal.returns
returns c = rw c.unwrap_or.ensures (text_given c.args.given.now c.args.id.now _ _ c.get_str.ensures refl)
