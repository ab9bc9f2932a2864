use Rattle.std.proofs.Common.{◌≡◌, None, IsSome, position, unwrap_or, option_map, ap, sym, subst, ◌∙◌}
use Rattle.std.specs.List.{IsDistinct}
use Rattle.std.proofs.lemmas.Bool.{false≢true}
use Rattle.pb_points.specs.ListTally.{list_content}
use Rattle.pb_points.specs.Rows.{is_row, same_pair}
use Rattle.pb_points.specs.Tally.{HasRoomFor, held, held_of, nothing}
use Rattle.pb_points.proofs.ListRows.{IsDistinct-more, absent_found, adds_set, is_index}
use Rattle.pb_points.proofs.list_tally.ListTallyTally.add.Goals as goal

pub add_at-requires-clause-fits : goal.add_at-requires-clause-fits
add_at-requires-clause-fits c =
    let rows = c.self.inside.rows.items in
    let index = is_index rows c.args.key c.args.code c.in-Some.index (sym (c.in-Some.ensures ∙ ap (position (is_row c.args.key c.args.code)) c.deref.ensures.value)) in
    let seen = ap (λ l. held (list_content l) c.args.key c.args.code) c.self.view_is in
    let here = ap (λ o. unwrap_or (option_map held_of o) nothing) index.found in
    subst (λ h. HasRoomFor h c.args.points) (sym seen ∙ here) c.requires.fits

pub invariant_of-self : goal.invariant_of-self
invariant_of-self c =
    let rows = c.self.inside.rows.items in
    let index = is_index rows c.args.key c.args.code c.in-Some.index (sym (c.in-Some.ensures ∙ ap (position (is_row c.args.key c.args.code)) c.deref.ensures.value)) in
    subst (IsDistinct same_pair) (sym c.add_at.ensures.row) (IsDistinct-more rows c.in-Some.index c.args.points index.within c.self.invariant)

pub returns-in-Some : goal.returns-in-Some
returns-in-Some c = rw (← c.self.view_is) (λ k d.
    let rows = c.self.inside.rows.items in
    let index = is_index rows c.args.key c.args.code c.in-Some.index (sym (c.in-Some.ensures ∙ ap (position (is_row c.args.key c.args.code)) c.deref.ensures.value)) in
    ap (λ l. list_content l k d) c.add_at.ensures.row ∙ adds_set rows c.args.key c.args.code c.in-Some.index c.args.points index k d)

pub returns-in_default : goal.returns-in_default
returns-in_default c =
    let rows = c.self.inside.rows.items in
    let gone = absent_found rows c.args.key c.args.code (sym (c.in_default.ensures ∙ ap (position (is_row c.args.key c.args.code)) c.deref.ensures.value)) in
    let none : list_content c.args.self.now c.args.key c.args.code ≡ None = ap (λ l. list_content l c.args.key c.args.code) (sym c.self.view_is) ∙ ap (option_map held_of) gone in
    absurd (false≢true (subst IsSome none c.requires.row))
