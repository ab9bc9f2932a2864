use Rattle.std.proofs.Common.{◌∙◌, ap, codes}
use Rattle.std.specs.Prelude.{option_map}
use Rattle.pb_cli.proofs.Matches.{first_given, flag_given}
use Rattle.pb_cli.proofs.order.kept.Goals as goal

pub returns-in-Some-default : goal.returns-in-Some-default
returns-in-Some-default c = first_given c.args.given.now (codes "ledger") _ c.get_str.ensures ∙ ap (option_map (λ s. s.now)) c.in-Some-default.is-0

pub returns-in-None-Some : goal.returns-in-None-Some
returns-in-None-Some c = (
  first_given c.args.given.now (codes "ledger") _ c.get_str.ensures ∙ ap (option_map (λ s. s.now)) c.in-None-Some.is-0,
  first_given c.args.given.now (codes "journal") _ c.get_str-2.ensures ∙ ap (option_map (λ s. s.now)) c.in-None-Some.is-1,
  flag_given c.args.given.now (codes "sync") _ c.get_flag.ensures.none c.get_flag.ensures.value c.get_flag.ensures.other,
)

pub returns-in-None-None : goal.returns-in-None-None
returns-in-None-None c = (
  first_given c.args.given.now (codes "ledger") _ c.get_str.ensures ∙ ap (option_map (λ s. s.now)) c.in-None-None.is-0,
  first_given c.args.given.now (codes "journal") _ c.get_str-2.ensures ∙ ap (option_map (λ s. s.now)) c.in-None-None.is-1,
)
