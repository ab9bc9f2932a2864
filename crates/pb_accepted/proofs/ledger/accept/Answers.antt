use Rattle.std.proofs.Common.{◌++◌, List, ap, ◌∙◌, arith, rules}
use Rattle.std.specs.Str.{bytes_eq}
use Rattle.indexmap.proofs.CallerLemmas.{insert_entry-new}
use Rattle.pb_points.specs.Tally.{Held}
use Rattle.pb_accepted.specs.declared.ply_points.PlyPoints.{PlyPoints}
use Rattle.pb_accepted.specs.Ledger.{lost, rowed, with_ply_points}
use Rattle.pb_accepted.proofs.Places.{absent_from_new}
use Rattle.pb_accepted.proofs.ledger.accept.Goals as goal

pub add_ply_points-requires-clause-points_fit : goal.add_ply_points-requires-clause-points_fit
add_ply_points-requires-clause-points_fit g c = λ k d. omega (arith, ap (λ (h : Held). h.points) (c.in_ok-make_room.ensures.same k d), c.requires.points_fit k d)

pub add_ply_points-requires-clause-times_fit : goal.add_ply_points-requires-clause-times_fit
add_ply_points-requires-clause-times_fit g c = λ k d. omega (arith, ap (λ (h : Held). h.times) (c.in_ok-make_room.ensures.same k d), c.requires.times_fit k d)

pub returns-clause-rows : goal.returns-clause-rows
returns-clause-rows g c = λ k d. c.add_ply_points.ensures.rows k d ∙ ap (with_ply_points (rowed c.args.least c.args.ply_points.now) k d) (c.in_ok-make_room.ensures.same k d)

pub returns-clause-lost : goal.returns-clause-lost
returns-clause-lost g c = ◌∙◌ {A = List PlyPoints} c.add_ply_points.ensures.lost (ap (λ l. l ++ lost c.args.least c.args.ply_points.now) c.in_ok-make_room.ensures.same_lost)

pub returns-clause-added : goal.returns-clause-added
returns-clause-added g c =
    c.in_ok-insert.ensures.entries ∙ insert_entry-new bytes_eq c.args.games.now c.args.id c.args.game (absent_from_new c.args.games.now.entries c.args.id c.requires.new)

pub returns-in_err-insert-clause-same_points : goal.returns-in_err-insert-clause-same_points
returns-in_err-insert-clause-same_points g c = search rules

pub returns-in_err-make_room-clause-same_games : goal.returns-in_err-make_room-clause-same_games
returns-in_err-make_room-clause-same_games g c = search rules
