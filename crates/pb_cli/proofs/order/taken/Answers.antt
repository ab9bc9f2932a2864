use Rattle.std.proofs.Common.{codes}
use Rattle.pb_cli.proofs.Matches.{flag_given}
use Rattle.pb_cli.proofs.order.taken.Goals as goal

pub returns : goal.returns
returns c = (
  c.rules.ensures,
  c.text.ensures,
  flag_given c.args.given.now (codes "summary") _ c.get_flag.ensures.none c.get_flag.ensures.value c.get_flag.ensures.other,
  flag_given c.args.given.now (codes "quiet") _ c.get_flag-2.ensures.none c.get_flag-2.ensures.value c.get_flag-2.ensures.other,
)
