use Rattle.std.proofs.Common.{arith, length, ◌+◌, ◌∷◌, take, sym, ap, ◌∙◌}
use Rattle.std.proofs.lemmas.List.{drop_all, take_rest}
use Rattle.pb_io.specs.Lines.{lines}
use Rattle.pb_io.proofs.LineLemmas.{line_feed_absent, line_feed_found}
use Rattle.pb_poly.proofs.Tables.{lines-cut, lines-quiet}
use Rattle.pb_poly.proofs.table.first_line.Goals as goal

pub returns-in-Some-clause-cut : goal.returns-in-Some-clause-cut
returns-in-Some-clause-cut c =
    let bytes = c.args.bytes.now in
    lines-cut bytes c.in-Some.at (line_feed_found bytes c.in-Some.at c.in-Some.ensures)
    ∙ ap (λ xs. take c.in-Some.at bytes ∷ lines xs) (sym (take_rest bytes (c.in-Some.at + 1)))

pub returns-in-None-clause-cut : goal.returns-in-None-clause-cut
returns-in-None-clause-cut c =
    let bytes = c.args.bytes.now in
    lines-quiet bytes (line_feed_absent bytes c.in-None.ensures) c.requires
    ∙ ap (λ xs. bytes ∷ lines xs) (sym (take_rest bytes (length bytes) ∙ drop_all (length bytes) bytes (omega arith)))
