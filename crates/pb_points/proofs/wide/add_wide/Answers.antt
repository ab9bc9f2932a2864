use Rattle.std.proofs.Common.{position, refl, sym, ap, ◌∙◌, inl, inr}
use Rattle.pb_points.specs.Rows.{is_row, row_at}
use Rattle.pb_points.proofs.BlockRows.{IsIndex, points_at, times_at}
use Rattle.pb_points.proofs.DistinctRows.{none_counted}
use Rattle.pb_points.proofs.ListRows.{is_index}
use Rattle.pb_points.proofs.wide.add_wide.Goals as goal

pub add_at-requires-clause-within : goal.add_at-requires-clause-within
add_at-requires-clause-within c =
    let index = is_index c.args.wide.now.items c.args.key c.args.code c.in-Some.index (sym (c.in-Some.ensures ∙ ap (position (is_row c.args.key c.args.code)) c.deref.ensures.value)) in
    index.within

pub add_at-requires-clause-fits : goal.add_at-requires-clause-fits
add_at-requires-clause-fits c =
    let rows = c.args.wide.now.items in
    let at = c.in-Some.index in
    let index = is_index rows c.args.key c.args.code at (sym (c.in-Some.ensures ∙ ap (position (is_row c.args.key c.args.code)) c.deref.ensures.value)) in
    let there : IsIndex rows at c.args.key c.args.code (row_at rows at) = record { within = index.within; here = refl; test = index.here } in
    record {
      points = points_at rows at c.args.key c.args.code (row_at rows at) there c.args.points c.requires.fits;
      times = times_at rows at c.args.key c.args.code (row_at rows at) there c.args.points c.requires.fits;
    }

pub returns-in-Some-clause-adds : goal.returns-in-Some-clause-adds
returns-in-Some-clause-adds c =
    let index = is_index c.args.wide.now.items c.args.key c.args.code c.in-Some.index (sym (c.in-Some.ensures ∙ ap (position (is_row c.args.key c.args.code)) c.deref.ensures.value)) in
    inl (record { index = c.in-Some.index; there = (index.within, index.here); added = c.add_at.ensures.row })

pub push_reserved-requires : goal.push_reserved-requires
push_reserved-requires c =
    c.requires.room (none_counted c.args.wide.now.items c.args.key c.args.code (sym (c.in-None.ensures ∙ ap (position (is_row c.args.key c.args.code)) c.deref.ensures.value)))

pub returns-in-None-clause-adds : goal.returns-in-None-clause-adds
returns-in-None-clause-adds c =
    inr (none_counted c.args.wide.now.items c.args.key c.args.code (sym (c.in-None.ensures ∙ ap (position (is_row c.args.key c.args.code)) c.deref.ensures.value)), c.push_reserved.ensures.items)
