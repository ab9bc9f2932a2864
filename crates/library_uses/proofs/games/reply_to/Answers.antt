use Rattle.library_uses.proofs.games.reply_to.Goals as goal

pub new-requires : goal.new-requires
new-requires g c = c.one_line.ensures.named _ _ _ _ _ c.submit-answer.ensures.step
