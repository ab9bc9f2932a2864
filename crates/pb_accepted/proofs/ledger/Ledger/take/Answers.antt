use Rattle.std.proofs.Common.{◌≡◌, ℕ, ◌+◌, ◌<◌, ◌≤◌, ◌++◌, ◌∷◌, [], Ok, Err, All, length, refl, sym, ap, subst, ◌∙◌, arith}
use Rattle.std.proofs.lemmas.List.{length_push}
use Rattle.std.proofs.lemmas.Result.{err_from_is_err_and}
use Rattle.pb_games.specs.Submissions.{Submission}
use Rattle.pb_points.specs.Tally.{held}
use Rattle.pb_accepted.specs.Replying.{IsNewId}
use Rattle.pb_accepted.specs.Accepting as steps
use Rattle.pb_accepted.specs.Rules.{Basis}
use Rattle.pb_accepted.specs.Counting.{counted}
use Rattle.pb_accepted.specs.Ledger.{HoldsCounts, lost, rowed, with_ply_points, LedgerState}
use Rattle.pb_accepted.proofs.Arrivals.{is_new, lawful_pair, submitted}
use Rattle.pb_accepted.proofs.GivenPoints.{counted_ply_points, length-counted_one, moves_back, small_ply_points}
use Rattle.pb_accepted.proofs.Counts.{Holds-push, points_fit, times_fit}
use Rattle.pb_accepted.proofs.ledger.Ledger.take.Goals as goal

pub returns-then-len-self-clause-step : goal.returns-then-len-self-clause-step
returns-then-len-self-clause-step g c = λ line cut.
    let lawful = c.in_ok-read.ensures.found line cut in
    let many = subst (λ (l : LedgerState). l.cap ≤ length l.accepted) c.self.view_is (omega (arith, c.if-len-self.true, c.len.ensures.len)) in
    steps.full _ lawful (is_new _ line c.args.fields cut c.requires.new _ lawful) many refl (ap (λ (l : LedgerState). l.accepted) c.self.view_is)

pub returns-in_err-read-clause-step : goal.returns-in_err-read-clause-step
returns-in_err-read-clause-step g c = λ line cut.
    let e = err_from_is_err_and c.from_residual.result c.from_residual.ensures.1 in
    steps.refused _ (c.in_err-read.ensures.refused line cut) (e.1 ∙ ap (λ x. Err x) e.2) (ap (λ (l : LedgerState). l.accepted) c.self.view_is)

pub returns-in_default-clause-step : goal.returns-in_default-clause-step
returns-in_default-clause-step g c = λ line cut.
    let lawful = c.in_ok-read.ensures.found line cut in
    let room = subst (λ (l : LedgerState). length l.accepted < l.cap) c.self.view_is (omega (arith, c.if-len-self.false, c.len.ensures.len, c.self.invariant.rules.room)) in
    steps.memory _ lawful (is_new _ line c.args.fields cut c.requires.new _ lawful) room refl (ap (λ (l : LedgerState). l.accepted) c.self.view_is)

pub game-requires : goal.game-requires
game-requires g c = c.in_ok-read.ensures.holds.moves ∙ moves_back _ _

pub accept-requires-clause-new : goal.accept-requires-clause-new
accept-requires-clause-new g c =
    subst (IsNewId c.args.id) (sym (ap (λ (l : LedgerState). l.accepted) c.self.view_is))
    (subst (λ x. IsNewId x c.args.self.now.accepted) (sym c.requires.id) c.requires.new)

pub accept-requires-clause-small : goal.accept-requires-clause-small
accept-requires-clause-small g c =
    let T : Basis = record { randoms = c.self.inside.recorder.table; rules = c.self.inside.rules } in
    let s : Submission = (c.args.id, c.in-Ok.game) in
    let ply_points = counted_ply_points T _ s _ _ c.counted.result.now c.in_ok-read.ensures.fixed c.in-Ok.ensures c.in_ok-read.ensures.holds.ply_points c.counted.ensures in
    subst (All (λ r. r.points ≤ 2)) (sym ply_points) (small_ply_points T (s ∷ []))

pub accept-requires-clause-points_fit : goal.accept-requires-clause-points_fit
accept-requires-clause-points_fit g c =
    let line = c.requires.cut.0 in
    let cut = c.requires.cut.1 in
    let lawful = lawful_pair line c.args.fields cut _ (c.in_ok-read.ensures.found line cut) c.args.id c.requires.id c.in-Ok.game c.in-Ok.ensures in
    let T : Basis = record { randoms = c.self.inside.recorder.table; rules = c.self.inside.rules } in
    let s : Submission = (c.args.id, c.in-Ok.game) in
    let ply_points = counted_ply_points T _ s _ _ c.counted.result.now c.in_ok-read.ensures.fixed c.in-Ok.ensures c.in_ok-read.ensures.holds.ply_points c.counted.ensures in
    λ k d. omega (arith, points_fit (g.T.Tally.content c.self.inside.tally) _ _ s c.self.invariant (submitted line _ lawful) k d, ap length ply_points, length-counted_one T s)

pub accept-requires-clause-times_fit : goal.accept-requires-clause-times_fit
accept-requires-clause-times_fit g c =
    let line = c.requires.cut.0 in
    let cut = c.requires.cut.1 in
    let lawful = lawful_pair line c.args.fields cut _ (c.in_ok-read.ensures.found line cut) c.args.id c.requires.id c.in-Ok.game c.in-Ok.ensures in
    let T : Basis = record { randoms = c.self.inside.recorder.table; rules = c.self.inside.rules } in
    let s : Submission = (c.args.id, c.in-Ok.game) in
    let ply_points = counted_ply_points T _ s _ _ c.counted.result.now c.in_ok-read.ensures.fixed c.in-Ok.ensures c.in_ok-read.ensures.holds.ply_points c.counted.ensures in
    λ k d. omega (arith, times_fit (g.T.Tally.content c.self.inside.tally) _ _ s c.self.invariant (submitted line _ lawful) k d, ap length ply_points, length-counted_one T s)

pub invariant_of-self-in-Ok-accept : goal.invariant_of-self-in-Ok-accept
invariant_of-self-in-Ok-accept g c =
    let inside = c.self.inside in
    let A = inside.games.entries in
    let l : LedgerState = record { basis = record { randoms = inside.recorder.table; rules = inside.rules }; cap = inside.cap; accepted = A } in
    let f = g.T.Tally.content inside.tally in
    let h = g.T.Tally.content c.accept.new.tally in
    let line = c.requires.cut.0 in
    let cut = c.requires.cut.1 in
    let s : Submission = (c.args.id, c.in-Ok.game) in
    let lawful = lawful_pair line c.args.fields cut _ (c.in_ok-read.ensures.found line cut) c.args.id c.requires.id c.in-Ok.game c.in-Ok.ensures in
    let holds = ap (λ (x : LedgerState). x.accepted) c.self.view_is in
    let fresh = subst (IsNewId c.args.id) (sym holds) (is_new c.args.self.now.accepted line c.args.fields cut c.requires.new s lawful) in
    let room : length A < inside.cap = omega (arith, c.if-len-self.false, c.len.ensures.len, c.self.invariant.rules.room) in
    let table = c.in_ok-read.ensures.fixed in
    let ply_points = counted_ply_points l.basis _ s _ _ c.counted.result.now table c.in-Ok.ensures c.in_ok-read.ensures.holds.ply_points c.counted.ensures in
    let rows : (k d : ℕ) → held h k d ≡ with_ply_points (rowed inside.rules.least (counted l.basis (s ∷ []))) k d (held f k d) =
    λ k d. c.in-Ok-accept.ensures.rows k d ∙ (λ i. with_ply_points (rowed (c.least.ensures.value i) (ply_points i)) k d (held f k d)) in
    let beside : c.accept.new.lost.items ≡ inside.lost.items ++ lost inside.rules.least (counted l.basis (s ∷ [])) =
    c.in-Ok-accept.ensures.lost ∙ (λ i. inside.lost.items ++ lost (c.least.ensures.value i) (ply_points i)) in
    let pushed = Holds-push f h inside.lost.items c.accept.new.lost.items l s c.self.invariant (submitted line s lawful) fresh room rows beside in
    subst (λ w. HoldsCounts h c.accept.new.lost.items (record { basis = record { randoms = w; rules = inside.rules }; cap = inside.cap; accepted = c.accept.new.games.entries })) (sym table)
    (subst (λ X. HoldsCounts h c.accept.new.lost.items (record { basis = l.basis; cap = inside.cap; accepted = X })) (sym c.in-Ok-accept.ensures.added) pushed)

pub returns-in-Ok-accept-clause-step : goal.returns-in-Ok-accept-clause-step
returns-in-Ok-accept-clause-step g c = λ line cut.
    let A = c.args.self.now.accepted in
    let s : Submission = (c.args.id, c.in-Ok.game) in
    let lawful = lawful_pair line c.args.fields cut _ (c.in_ok-read.ensures.found line cut) c.args.id c.requires.id c.in-Ok.game c.in-Ok.ensures in
    let holds = ap (λ (l : LedgerState). l.accepted) c.self.view_is in
    let room = subst (λ (l : LedgerState). length l.accepted < l.cap) c.self.view_is (omega (arith, c.if-len-self.false, c.len.ensures.len, c.self.invariant.rules.room)) in
    let number : c.len-in-Ok-accept.result ≡ length A + 1 =
    c.len-in-Ok-accept.ensures.value ∙ ap length c.in-Ok-accept.ensures.added ∙ length_push c.self.inside.games.entries s ∙ ap (λ n. n + 1) (ap length holds) in
    steps.new s lawful (is_new A line c.args.fields cut c.requires.new s lawful) room (ap (λ n. Ok n) number) (c.in-Ok-accept.ensures.added ∙ ap (λ X. X ++ s ∷ []) holds)

pub returns-in-Err-clause-step : goal.returns-in-Err-clause-step
returns-in-Err-clause-step g c = λ line cut.
    let lawful = c.in_ok-read.ensures.found line cut in
    let room = subst (λ (l : LedgerState). length l.accepted < l.cap) c.self.view_is (omega (arith, c.if-len-self.false, c.len.ensures.len, c.self.invariant.rules.room)) in
    steps.memory _ lawful (is_new _ line c.args.fields cut c.requires.new _ lawful) room refl (c.in-Err.ensures.same_games ∙ ap (λ (l : LedgerState). l.accepted) c.self.view_is)
