use Rattle.std.proofs.Common.{rules}
use Rattle.pb_ledger.proofs.GamesHeld.{shape_by_tabs}
use Rattle.pb_ledger.proofs.journal.may_be_game.Goals as goal

pub returns-then-eq : goal.returns-then-eq
returns-then-eq c = search (rules, shape_by_tabs c.args.line.now)
