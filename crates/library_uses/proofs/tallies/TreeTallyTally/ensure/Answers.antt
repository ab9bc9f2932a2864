use Rattle.std.proofs.Common.{rules}
use Rattle.library_uses.proofs.Sums.{changed, kept}
use Rattle.library_uses.proofs.tallies.TreeTallyTally.ensure.Goals as goal

pub returns-in_ok-insert-clause-ok : goal.returns-in_ok-insert-clause-ok
returns-in_ok-insert-clause-ok c = changed c.args.self.now.sums c.insert.new.self c.args.key c.args.code _ (λ h. h) (search rules) c.in_ok-insert.ensures.updates

pub returns-else-not-contains_key-clause-ok : goal.returns-else-not-contains_key-clause-ok
returns-else-not-contains_key-clause-ok c = kept c.args.self.now.sums c.args.key c.args.code (search rules)
