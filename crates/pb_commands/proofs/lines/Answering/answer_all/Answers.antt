use Rattle.std.proofs.lemmas.Result.{err_from_is_err_and}
use Rattle.pb_commands.proofs.Answering.{all_of, awaits_of, flushed_all, lent_of, lent_until, unflushed, until_of}
use Rattle.pb_commands.proofs.lines.Answering.answer_all.Goals as goal

pub returns-in_err-take_lines-clause-ends : goal.returns-in_err-take_lines-clause-ends
returns-in_err-take_lines-clause-ends g c =
    let p = err_from_is_err_and c.from_residual.result c.from_residual.ensures.1 in
    rw (p.1, p.2) (until_of g.A.LineAnswer.shows g.K.Sink.state c.args.fills c.ranges.fills.fits _ _ c.args.self.now c.take_lines.new.task c.requires.first
    c.in_err-take_lines.field-0.0 c.in_err-take_lines.ensures.err)

pub returns-in_err-take_lines-clause-lent : goal.returns-in_err-take_lines-clause-lent
returns-in_err-take_lines-clause-lent g c =
    lent_until g.A.LineAnswer.shows g.K.Sink.state c.args.fills c.ranges.fills.fits _ _ c.args.self.now c.take_lines.new.task c.requires.first c.in_err-take_lines.field-0.0 c.in_err-take_lines.ensures.err

pub returns-in_err-flush-clause-ends : goal.returns-in_err-flush-clause-ends
returns-in_err-flush-clause-ends g c =
    let p = err_from_is_err_and c.from_residual-in_err-flush.result c.from_residual-in_err-flush.ensures.1 in
    let all = all_of g.A.LineAnswer.shows g.K.Sink.state c.args.fills c.ranges.fills.fits _ _ c.args.self.now c.take_lines.new.task c.requires.first c.requires.none_refused c.in_ok-take_lines.ensures.ok in
    let awaits = awaits_of g.A.LineAnswer.shows g.K.Sink.state c.args.fills c.ranges.fills.fits _ _ c.args.self.now c.take_lines.new.task c.requires.first c.in_ok-take_lines.ensures.ok in
    rw (p.1, p.2) (unflushed (g.A.LineAnswer.shows c.args.self.now.answerer.now) _ _ _ _ _ _ _ _ all awaits c.in_err-flush.ensures)

pub returns-in_err-flush-clause-lent : goal.returns-in_err-flush-clause-lent
returns-in_err-flush-clause-lent g c =
    lent_of g.A.LineAnswer.shows g.K.Sink.state c.args.fills c.ranges.fills.fits _ _ c.args.self.now c.take_lines.new.task c.requires.first c.in_ok-take_lines.ensures.ok

pub returns-clause-ends : goal.returns-clause-ends
returns-clause-ends g c =
    let all = all_of g.A.LineAnswer.shows g.K.Sink.state c.args.fills c.ranges.fills.fits _ _ c.args.self.now c.take_lines.new.task c.requires.first c.requires.none_refused c.in_ok-take_lines.ensures.ok in
    let awaits = awaits_of g.A.LineAnswer.shows g.K.Sink.state c.args.fills c.ranges.fills.fits _ _ c.args.self.now c.take_lines.new.task c.requires.first c.in_ok-take_lines.ensures.ok in
    flushed_all (g.A.LineAnswer.shows c.args.self.now.answerer.now) _ _ _ _ _ _ _ _ all awaits c.in_ok-flush.ensures

pub returns-clause-lent : goal.returns-clause-lent
returns-clause-lent g c =
    lent_of g.A.LineAnswer.shows g.K.Sink.state c.args.fills c.ranges.fills.fits _ _ c.args.self.now c.take_lines.new.task c.requires.first c.in_ok-take_lines.ensures.ok
