use Rattle.std.proofs.Common.{sym, ap, ◌∙◌}
use Rattle.std.specs.Char.{to_ascii_lowercase}
use Rattle.pb_board.proofs.Letters.{capital_letter, small_letter, small_letter_is}
use Rattle.pb_board.proofs.read.piece_of.Goals as goal

pub returns-in_err-kind : goal.returns-in_err-kind
returns-in_err-kind c = rw c.from_residual.ensures (λ p e. c.in_err-kind.ensures p.kind (sym (small_letter p) ∙ ap to_ascii_lowercase e ∙ sym c.to_ascii_lowercase.ensures.value))

pub returns-then-is_ascii_uppercase : goal.returns-then-is_ascii_uppercase
returns-then-is_ascii_uppercase c = capital_letter c.args.letter _ (sym c.is_ascii_uppercase.ensures.value ∙ c.if-is_ascii_uppercase.true) (c.in_ok-kind.ensures ∙ c.to_ascii_lowercase.ensures.value)

pub returns-else-is_ascii_uppercase : goal.returns-else-is_ascii_uppercase
returns-else-is_ascii_uppercase c = small_letter_is c.args.letter _ (sym c.is_ascii_uppercase.ensures.value ∙ c.if-is_ascii_uppercase.false) (c.in_ok-kind.ensures ∙ c.to_ascii_lowercase.ensures.value)
