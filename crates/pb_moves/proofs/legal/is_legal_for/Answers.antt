use Rattle.std.proofs.Common.{refl}
use Rattle.pb_moves.proofs.Pins.{legal_unpinned}
use Rattle.pb_moves.proofs.legal.is_legal_for.Goals as goal

pub returns-in-Some-default-None : goal.returns-in-Some-default-None
returns-in-Some-default-None c =
    let unpinned = c.requires.unpinned c.if-unpinned.true in
    let leads = rw c.in-Some-default-None.field-0-1-is at c.in-Some-default-None.ensures in
    (λ _. legal_unpinned c.args.setup.now c.args.m c.args.piece c.in-Some-default-None.field-0-0 c.requires.own leads unpinned, λ _. refl)

pub returns-in-None : goal.returns-in-None
returns-in-None c = (λ h. cc, λ legal. absurd (c.in-None.ensures legal.moves))
