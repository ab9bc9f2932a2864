use Rattle.std.proofs.Common.{◌≡◌, ℕ, List, Option, refl, subst, ◌+◌, ◌++◌, ◌∷◌, [], length, length-append, append-nil, append_assoc, sym, ap, ◌∙◌, arith}
use Rattle.std.proofs.lemmas.List.{length_push}
use Rattle.std.proofs.lemmas.List.Elements.{All-push, All-same}
use Rattle.pb_board.specs.Refusal.{BreaksAt}
use Rattle.pb_board.proofs.Breaks.{all_breaks}
use Rattle.pb_moves.specs.Played.{AreLegal, IsSpelled}
use Rattle.pb_moves.specs.Moved.{Moved}
use Rattle.pb_moves.specs.Spelling.{spelling}
use Rattle.pb_games.specs.Tokens.{ReadsFirst, tokens_of, moves_spelt}
use Rattle.pb_games.proofs.Played.{Leads, leads_same, leads_more, leads_bad, legal_all, known_all, is_none, none_not_some, same_some, not_none}
use Rattle.pb_games.proofs.TokenLemmas.{few_tokens, spelt_back}
use Rattle.pb_games.proofs.judge.read_moves.Goals as goal
use Rattle.pb_games.proofs.judge.read_moves.Goals.{else-is_none-via-then-is_none+then-count-le-MAX_PLIES+else-not-play, else-is_none-via-then-is_none+else-count-le-MAX_PLIES, else-is_none-via-else-is_none}

read_as : (tokens rest : List (List ℕ)) (r s : Option Moved) → ReadsFirst tokens r rest → r ≡ s → ReadsFirst tokens s rest
read_as tokens rest r s h is = subst (λ x. ReadsFirst tokens x rest) is h

pub overflow_add-count : goal.overflow_add-count
overflow_add-count g c =
    let so_far = c.loop-read.invariant in
    omega (arith, so_far.number, few_tokens c.args.field.now, ap length so_far.cut, length-append so_far.done c.loop-read.tokens)

pub loop-read-init : goal.loop-read-init
loop-read-init g c =
    let cut : tokens_of c.args.field.now ≡ c.of-tokens.result = sym c.of-tokens.ensures in record {
      done = [];
      cut = cut;
      number = refl;
      spelt = λ k d h. absurd (omega (arith, h));
      legal = λ none few. leads_same (g.P.MoveVisitor.holds c.begin.new.self c.args.outcome) c.args.start.now (tokens_of c.args.field.now) _ cut c.begin.ensures.holds;
      fixed = c.begin.ensures.fixed;
      bad = λ n some. absurd (none_not_some n (sym some));
    }

pub play-requires : goal.play-requires
play-requires g c =
    let so_far = c.loop-read.invariant in
    let led = so_far.legal (is_none c.loop-read.illegal c.if-is_none.ensures) (omega (arith, c.if-count-le-MAX_PLIES.true)) in
    (c.args.outcome, led.known, led.held, omega (arith, led.number, c.if-count-le-MAX_PLIES.true))

pub loop-read-preserved-then-not-play : goal.loop-read-preserved-then-not-play
loop-read-preserved-then-not-play g c =
    let so_far = c.loop-read.invariant in
    let m = c.in-Some-read.m in
    let token = spelling m in
    let first = read_as _ _ _ _ c.in-Some.ensures c.in-Some-read.is in
    let same = spelt_back m first.0 in
    let led = so_far.legal (is_none c.loop-read.illegal c.if-is_none.ensures) (omega (arith, c.if-count-le-MAX_PLIES.true)) in
    record {
      done = so_far.done ++ token ∷ [];
      cut = so_far.cut ∙ ap (λ ws. so_far.done ++ ws) first.1 ∙ sym (append_assoc so_far.done (token ∷ []) c.next_move.new.self);
      number = ap (λ n. n + 1) so_far.number ∙ sym (length_push so_far.done token);
      spelt = All-push IsSpelled so_far.done token so_far.spelt (m, record { is_move = first.0; is = refl });
      fixed = c.if-not-play.ensures.fixed ∙ so_far.fixed;
      legal = λ none few. absurd (none_not_some (c.loop-read.count + 1) none);
      bad = λ n some. subst (BreaksAt (AreLegal c.args.start.now) (moves_spelt c.args.field.now)) (same_some (c.loop-read.count + 1) n some)
          (leads_bad (g.P.MoveVisitor.holds c.loop-read.visitor c.args.outcome) (g.P.MoveVisitor.holds c.loop-read.visitor c.args.outcome) c.args.start.now c.loop-read.setup c.loop-read.setup _ m token _ c.next_move.new.self c.loop-read.count led first.1 same (λ legal. absurd (let never = c.if-not-play.ensures.legal.1 legal in cc)));
    }

pub loop-read-preserved : goal.loop-read-preserved
loop-read-preserved g c =
    let so_far = c.loop-read.invariant in
    let m = c.in-Some-read.m in
    let token = spelling m in
    let first = read_as _ _ _ _ c.in-Some.ensures c.in-Some-read.is in
    let same = spelt_back m first.0 in
    record {
      done = so_far.done ++ token ∷ [];
      cut = so_far.cut ∙ ap (λ ws. so_far.done ++ ws) first.1 ∙ sym (append_assoc so_far.done (token ∷ []) c.next_move.new.self);
      number = ap (λ n. n + 1) so_far.number ∙ sym (length_push so_far.done token);
      spelt = All-push IsSpelled so_far.done token so_far.spelt (m, record { is_move = first.0; is = refl });
      fixed = elim c.else-is_none.branch [
        | else-is_none-via-then-is_none+then-count-le-MAX_PLIES+else-not-play w ↦ ap g.P.MoveVisitor.fixed w.visitor-is ∙ w.if-not-play.ensures.fixed ∙ so_far.fixed
        | else-is_none-via-then-is_none+else-count-le-MAX_PLIES w ↦ ap g.P.MoveVisitor.fixed w.visitor-is ∙ so_far.fixed
        | else-is_none-via-else-is_none w ↦ ap g.P.MoveVisitor.fixed w.visitor-is ∙ so_far.fixed
      ];
      legal = λ none few. elim c.else-is_none.branch [
        | else-is_none-via-then-is_none+then-count-le-MAX_PLIES+else-not-play w ↦
            subst (λ p. Leads (g.P.MoveVisitor.holds p c.args.outcome) c.args.start.now (moves_spelt c.args.field.now) c.else-is_none.setup c.next_move.new.self (c.loop-read.count + 1)) (sym w.visitor-is)
            (subst (λ t. Leads (g.P.MoveVisitor.holds w.play.new.self c.args.outcome) c.args.start.now (moves_spelt c.args.field.now) t c.next_move.new.self (c.loop-read.count + 1)) (sym w.setup-is)
            (leads_more (g.P.MoveVisitor.holds c.loop-read.visitor c.args.outcome) (g.P.MoveVisitor.holds w.play.new.self c.args.outcome) c.args.start.now c.loop-read.setup w.play.new.setup (moves_spelt c.args.field.now) m token c.loop-read.tokens c.next_move.new.self c.loop-read.count
            (so_far.legal none (omega (arith, few))) first.1 same (w.if-not-play.ensures.played refl) (w.if-not-play.ensures.legal.0 refl) (w.if-not-play.ensures.holds refl c.args.outcome)))
        | else-is_none-via-then-is_none+else-count-le-MAX_PLIES w ↦ absurd (omega (arith, few, w.if-count-le-MAX_PLIES.false))
        | else-is_none-via-else-is_none w ↦ absurd (not_none c.loop-read.illegal w.if-is_none.ensures none)
      ];
      bad = so_far.bad;
    }

pub returns-then-count-gt-MAX_PLIES-clause-read : goal.returns-then-count-gt-MAX_PLIES-clause-read
returns-then-count-gt-MAX_PLIES-clause-read g c =
    let so_far = c.loop-read.invariant in
    let all = so_far.cut ∙ ap (λ ws. so_far.done ++ ws) c.in_default.ensures.0 ∙ append-nil so_far.done in
    (All-same IsSpelled _ so_far.done all so_far.spelt, omega (arith, so_far.number, ap length all, c.if-count-gt-MAX_PLIES.true))

pub returns-in-Some-illegal-clause-read : goal.returns-in-Some-illegal-clause-read
returns-in-Some-illegal-clause-read g c =
    let so_far = c.loop-read.invariant in
    let all = so_far.cut ∙ ap (λ ws. so_far.done ++ ws) c.in_default.ensures.0 ∙ append-nil so_far.done in
    record {
      spelt = All-same IsSpelled _ so_far.done all so_far.spelt;
      few = omega (arith, so_far.number, ap length all, c.if-count-gt-MAX_PLIES.false);
      first = so_far.bad c.in-Some-illegal.number c.in-Some-illegal.is;
    }

pub returns-in-None-clause-read : goal.returns-in-None-clause-read
returns-in-None-clause-read g c =
    let so_far = c.loop-read.invariant in
    let all = so_far.cut ∙ ap (λ ws. so_far.done ++ ws) c.in_default.ensures.0 ∙ append-nil so_far.done in
    let led = so_far.legal c.in-None.is (omega (arith, c.if-count-gt-MAX_PLIES.false)) in
    record {
      spelt = All-same IsSpelled _ so_far.done all so_far.spelt;
      number = so_far.number ∙ sym (ap length all);
      few = omega (arith, c.if-count-gt-MAX_PLIES.false);
      legal = legal_all (g.P.MoveVisitor.holds c.loop-read.visitor c.args.outcome) c.args.start.now c.loop-read.setup (moves_spelt c.args.field.now) _ c.loop-read.count led c.in_default.ensures.0;
    }

pub returns-in-None-clause-holds : goal.returns-in-None-clause-holds
returns-in-None-clause-holds g c =
    let so_far = c.loop-read.invariant in
    let led = so_far.legal c.in-None.is (omega (arith, c.if-count-gt-MAX_PLIES.false)) in
    known_all (g.P.MoveVisitor.holds c.loop-read.visitor c.args.outcome) c.args.start.now c.loop-read.setup (moves_spelt c.args.field.now) _ c.loop-read.count led c.in_default.ensures.0

pub returns-in_default-read-clause-read : goal.returns-in_default-read-clause-read
returns-in_default-read-clause-read g c =
    let so_far = c.loop-read.invariant in
    let first = read_as _ _ _ _ c.in-Some.ensures c.in_default-read.is in
    all_breaks IsSpelled (tokens_of c.args.field.now) so_far.done first.0 c.next_move.new.self (c.loop-read.count + 1)
    (so_far.cut ∙ ap (λ ws. so_far.done ++ ws) first.1) (omega (arith, so_far.number)) so_far.spelt first.2
