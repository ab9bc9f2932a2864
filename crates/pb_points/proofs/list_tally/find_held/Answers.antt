use Rattle.std.proofs.Common.{option_map, unwrap_or, ap, sym, ◌∙◌}
use Rattle.std.proofs.lemmas.List.{get_or_default}
use Rattle.pb_points.specs.Tally.{held_of, nothing}
use Rattle.pb_points.proofs.BagRows.{new_row}
use Rattle.pb_points.proofs.ListRows.{absent_found, is_index}
use Rattle.pb_points.proofs.list_tally.find_held.Goals as goal

pub returns-in-Some : goal.returns-in-Some
returns-in-Some c =
    let rows = c.args.rows.now in
    let index = is_index rows c.args.key c.args.code c.in-Some.index (sym c.in-Some.ensures) in
    ap (λ o. unwrap_or (option_map held_of o) nothing) index.found
    ∙ ap held_of (get_or_default rows c.in-Some.index (new_row 0 0) _ index.within)

pub returns-in-None : goal.returns-in-None
returns-in-None c =
    ap (λ o. unwrap_or (option_map held_of o) nothing) (absent_found c.args.rows.now c.args.key c.args.code (sym c.in-None.ensures))
