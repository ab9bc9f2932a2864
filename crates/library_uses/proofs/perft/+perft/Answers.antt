use Rattle.std.proofs.Common.{◌≡◌, ◌+◌, ◌-◌, List, arith, sym, subst, refl, ap, ◌∙◌}
use Rattle.std.proofs.lemmas.List.{take_all}
use Rattle.pb_moves.specs.Legal.{Legal}
use Rattle.pb_moves.specs.Listing.{ListsLegal}
use Rattle.pb_moves.specs.Moved.{Moved}
use Rattle.pb_moves.specs.Successor.{after}
use Rattle.library_uses.specs.Perft.{Counts, IsPerft}
use Rattle.library_uses.proofs.Lines.{Begins, begun_all, begun_more, perft_none}
use Rattle.library_uses.proofs.perft.+perft.Goals as goal
use Rattle.library_uses.proofs.perft.+perft.Goals.{in-Some+in_ok-perft, in_default}

pub returns-then-depth-eq0 : goal.returns-then-depth-eq0
returns-then-depth-eq0 t c = (1, subst (λ depth. IsPerft c.args.setup.now depth 1) (sym c.if-depth-eq0.true) (perft_none c.args.setup.now), refl)

pub loop-m-preserved : goal.loop-m-preserved
loop-m-preserved t c =
    let s = c.args.setup.now in
    let lists : ListsLegal s c.deref-m-items.result.now = subst (ListsLegal s) (sym c.deref-m-items.ensures.value) c.in_ok-moves.ensures in
    let before = c.loop-m.invariant in
    elim c.match-play.branch [
      | in-Some+in_ok-perft w ↦
          let more = w.in_ok-perft.ensures in
          let next = subst (λ p. IsPerft p (c.args.depth - 1) more.0) (w.in-Some.ensures.played.1 ∙ ap (after s) c.m-item.is) more.1 in
          (before.0 + more.0, begun_more s c.deref-m-items.result.now c.loop-m.m-index c.m-item.result (c.args.depth - 1) before.0 more.0 lists c.loop-m-test.true before.1 next, omega (arith, w.count-is, w.saturating_add-count.ensures, before.2, more.2))
      | in_default w ↦ absurd (w.in_default.ensures.played (subst (Legal s) (sym c.m-item.is) (lists.legal c.loop-m.m-index c.m-item.result c.loop-m-test.true)))
    ]

pub returns : goal.returns
returns t c =
    let s = c.args.setup.now in
    let moves = c.deref-m-items.result.now in
    let rest = c.args.depth - 1 in
    let counted = c.loop-m.invariant in
    let lists : ListsLegal s moves = subst (ListsLegal s) (sym c.deref-m-items.ensures.value) c.in_ok-moves.ensures in
    let all = subst (λ (firsts : List Moved). Counts (Begins s firsts rest) counted.0) (take_all c.loop-m.m-index moves c.loop-m-test.false) counted.1 in
    let depth : rest + 1 ≡ c.args.depth = omega (arith, c.if-depth-eq0.false) in
    (counted.0, subst (λ d. IsPerft s d counted.0) depth (begun_all s moves rest counted.0 lists all), counted.2)
