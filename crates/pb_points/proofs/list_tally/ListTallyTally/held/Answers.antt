use Rattle.std.proofs.Common.{ap, ◌∙◌, sym}
use Rattle.pb_points.specs.ListTally.{list_content}
use Rattle.pb_points.specs.Tally.{held}
use Rattle.pb_points.proofs.list_tally.ListTallyTally.held.Goals as goal

pub returns : goal.returns
returns c = rw (← c.self.view_is) (sym (ap (λ l. held (list_content l) c.args.key c.args.code) c.deref.ensures.value) ∙ c.find_held.ensures)
