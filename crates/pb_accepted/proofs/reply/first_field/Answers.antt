use Rattle.std.proofs.Common.{◌∙◌, ◌==◌, [], ℕ, List, ap, sym}
use Rattle.std.specs.Prelude.{slice_index_or}
use Rattle.std.specs.List.{slice_split}
use Rattle.pb_accepted.proofs.reply.first_field.Goals as goal

-- the first field of a text that is cut at every TAB
first_cell : List ℕ → List ℕ
first_cell text = slice_index_or (slice_split (λ b. b == 9) text) 0 []

pub returns-in-Some : goal.returns-in-Some
unfolding first_cell
returns-in-Some c = sym (ap (λ ws. slice_index_or ws 0 []) c.in-Some.ensures) ∙ ap first_cell c.without_return-line.ensures

pub returns-in-None : goal.returns-in-None
unfolding first_cell
returns-in-None c = sym (ap (λ ws. slice_index_or ws 0 []) c.in-None.ensures) ∙ ap first_cell c.without_return-line.ensures
