use Rattle.pb_commands.proofs.laws.kept.Goals as goal

pub returns : goal.returns
returns c = λ store taken report h. let keeps = h.1 in (keeps.0, keeps.1, keeps.2.holds)
