use Rattle.std.proofs.Common.{rules, ◌∙◌, ap, refl}
use Rattle.pb_io.specs.Sink.{SinkState}
use Rattle.pb_files.proofs.EndLemmas.{all_handed, handed_named, kept_whole}
use Rattle.pb_files.proofs.kept_file.make.Goals as goal

pub returns-in_err-tell_fault : goal.returns-in_err-tell_fault
returns-in_err-tell_fault g c =
    let h = c.in_ok-count.ensures in
    let all = handed_named c.into_file-file.result _ c.in_ok-name.ensures.named ∙ all_handed _ _ c.into_file-file.result.handed h.0 (ap (λ (s : SinkState). s.bytes) c.in_ok-end.ensures.state) (c.into_file-file.ensures.done h.3.flushed) h.3.all in
    (h.0, h.1, h.2, kept_whole c.from_residual-in_err-tell_fault.result _ _ h.0 (search rules) refl all, search rules)

pub name-requires-clause-synced : goal.name-requires-clause-synced
name-requires-clause-synced g c = search rules

pub sync_name-synced-requires : goal.sync_name-synced-requires
sync_name-synced-requires g c = search rules

pub returns : goal.returns
returns g c = search rules
