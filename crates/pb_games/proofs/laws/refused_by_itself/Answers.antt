use Rattle.pb_games.proofs.laws.refused_by_itself.Goals as goal

pub returns : goal.returns
returns c = record { conflict = λ line n h. h.due; full = λ line h. h.due; memory = λ line h. h.due }
