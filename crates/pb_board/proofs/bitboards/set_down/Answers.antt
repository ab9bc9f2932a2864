use Rattle.std.proofs.Common.{◌≡◌, Option, None, slice_set, ap, sym, subst, ◌∙◌}
use Rattle.std.proofs.lemmas.List.{set-get_or}
use Rattle.pb_board.specs.Board.{Board, Place}
use Rattle.pb_board.specs.Bitboards.{bitboards_of}
use Rattle.pb_board.proofs.BitboardBits.{bitboards_put, colour_cast, kind_cast}
use Rattle.pb_board.proofs.bitboards.set_down.Goals as goal

pub returns-in-Some : goal.returns-in-Some
returns-in-Some c = λ b full e empty.
    rw (c.in-Some.is, colour_cast c.in-Some.piece.colour, kind_cast c.in-Some.piece.kind, e) (bitboards_put b c.args.index full c.requires c.in-Some.piece empty)

pub returns-in_default : goal.returns-in_default
returns-in_default c = λ b full e empty.
    let P : Option _ → Type 0 = λ o. c.args.bitboards.now ≡ bitboards_of (slice_set b c.args.index o) in
    let F : Place → Board = λ p. slice_set b c.args.index p in
    subst P (sym c.in_default.is) (e ∙ ap (λ (x : Board). bitboards_of x) (sym (sym (ap F empty) ∙ set-get_or b c.args.index None)))
