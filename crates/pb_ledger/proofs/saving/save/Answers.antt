use Rattle.std.proofs.Common.{◌∙◌, ◌≡◌, ℕ, ◌+◌, List, ◌∷◌, arith, drop, map, refl, subst, take}
use Rattle.std.specs.Io.KnownBytes.{Appends}
use Rattle.std.specs.List.{flat_map}
use Rattle.std.proofs.KnownBytes.{Appends-trans}
use Rattle.std.proofs.lemmas.List.{take_all, length-map}
use Rattle.pb_board.specs.LineEnd.{with_end}
use Rattle.pb_io.proofs.PutLemmas.{Lasts-trans, front_more, put_cut, put_failed}
use Rattle.pb_io.proofs.WritesLemmas.{Writes-flushed, Writes-stopped}
use Rattle.pb_games.specs.Submissions.{submission_text}
use Rattle.pb_accepted.specs.Replying.{IsNumber}
use Rattle.pb_accepted.proofs.Places.{game_there}
use Rattle.pb_ledger.specs.Saving.{header}
use Rattle.pb_ledger.proofs.SavedLoading.{lines_at, lines_more, numbered_text}
use Rattle.pb_ledger.proofs.saving.save.Goals as goal

pub returns-in_err-put_pieces : goal.returns-in_err-put_pieces
returns-in_err-put_pieces g c =
    let texts = map submission_text c.args.ledger.now.accepted in
    let answer = c.from_residual.result in
    let failing = c.from_residual.ensures.0 in (
      flat_map with_end (header ∷ texts),
      refl,
      Writes-stopped _ _ answer _ failing (put_cut _ _ _ answer (with_end header) (flat_map with_end texts) failing c.in_err-put_pieces.ensures),
    )

pub loop-index-init : goal.loop-index-init
loop-index-init g c =
    let texts = map submission_text c.args.ledger.now.accepted in
    let put = c.in_ok-put_pieces.ensures in record {
      written = put.all;
      failed = λ before. let bad = put.stays_failed before in cc;
      lasts = put.lasts;
      flushes = put.flushes;
    }

pub unwrap-requires : goal.unwrap-requires
unwrap-requires g c =
    let games = c.args.ledger.now.accepted in
    game_there games c.loop-index.index c.get.result (λ p. IsNumber games (c.loop-index.index + 1) (p.0.now, p.1.now)) (omega (arith, c.loop-index-test.true, c.len-index-end.ensures.value)) c.get.ensures

pub returns-in_err-put_game : goal.returns-in_err-put_game
returns-in_err-put_game g c =
    let games = c.args.ledger.now.accepted in
    let so_far = c.loop-index.invariant in
    let i = c.loop-index.index in
    let number = rw c.unwrap.ensures at c.get.ensures in
    let texts = map submission_text games in
    let text = numbered_text games i _ number in
    let answer = c.from_residual-in_err-put_game.result in
    let failing = c.from_residual-in_err-put_game.ensures.0 in
    let put = c.in_err-put_game.ensures in
    let front = front_more _ _ _ (flat_map with_end (header ∷ take i texts)) _ (flat_map with_end (drop (i + 1) texts)) (flat_map with_end (header ∷ texts)) so_far.written (lines_at texts i _ text.0 text.1) put.front.0 put.front.1 in (
      flat_map with_end (header ∷ texts),
      refl,
      Writes-stopped _ _ answer _ failing (put_failed _ _ answer _ failing front put.failed (Lasts-trans _ _ _ so_far.lasts put.lasts) put.flushed (put.flushes ∙ so_far.flushes)),
    )

pub loop-index-preserved : goal.loop-index-preserved
loop-index-preserved g c =
    let state = g.K.Sink.state in
    let games = c.args.ledger.now.accepted in
    let so_far = c.loop-index.invariant in
    let i = c.loop-index.index in
    let number = rw c.unwrap.ensures at c.get.ensures in
    let texts = map submission_text games in
    let text = numbered_text games i _ number in
    let put = c.in_ok-put_game.ensures in record {
      written = subst (Appends (state c.args.sink.now).bytes (state c.put_game.new.sink).bytes) (lines_more texts i _ text.0 text.1) (Appends-trans _ _ _ _ _ so_far.written put.all);
      failed = λ before. let bad = put.stays_failed (so_far.failed before) in cc;
      lasts = Lasts-trans _ _ _ so_far.lasts put.lasts;
      flushes = put.flushes ∙ so_far.flushes;
    }

pub returns : goal.returns
returns g c =
    let state = g.K.Sink.state in
    let games = c.args.ledger.now.accepted in
    let so_far = c.loop-index.invariant in
    let texts = map submission_text games in
    let long = length-map games submission_text in
    let all : take c.loop-index.index texts ≡ texts = take_all c.loop-index.index texts (omega (arith, c.loop-index-test.false, c.len-index-end.ensures.value, long)) in
    let put = subst (λ (ts : List (List ℕ)). Appends (state c.args.sink.now).bytes (state c.loop-index.sink).bytes (flat_map with_end (header ∷ ts))) all so_far.written in (
      flat_map with_end (header ∷ texts),
      refl,
      Writes-flushed (state c.args.sink.now) (state c.loop-index.sink) (state c.flush.new.self) c.flush.result _ put so_far.failed so_far.lasts so_far.flushes c.flush.ensures,
    )
