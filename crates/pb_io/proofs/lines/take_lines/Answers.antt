use Rattle.std.proofs.Common.{ℕ, List, Bool, Option, Result, Ok, Err, inl, inr}
use Rattle.std.proofs.lemmas.Result.{err_from_is_err_and}
use Rattle.std.specs.Prelude.{OnOk, IfErr}
use Rattle.pb_io.specs.Source.{SourceState}
use Rattle.pb_io.specs.declared.fault.ReadFault.{ReadFault}
use Rattle.pb_io.specs.LineTask.{DrainsTo, TakesStream, TakesText, TakesUntil, ended}
use Rattle.pb_io.proofs.lines.take_lines.Goals as goal

taken : {S E : Type 0} (takes : S → List ℕ → Bool → Result (Unit {0}) E → S → Type 0) (fills : ℕ) (old new : SourceState) (s m t : S) (buffer : Option (List ℕ))
    (r : Result (Unit {0}) E) (d : DrainsTo (ended takes) fills old new s m buffer) → TakesText takes s d.came r t
    → OnOk r (TakesStream takes fills old new s (Ok tt) t)
taken takes fills old new s m t buffer (Ok tt) d h = record { came = d.came; reads = d.reads; taken = h }
taken takes fills old new s m t buffer (Err e) d h = tt

stopped : {S E : Type 0} (gives : ReadFault → E → Type 0) (takes : S → List ℕ → Bool → Result (Unit {0}) E → S → Type 0) (fills : ℕ) (old new : SourceState) (s m t : S) (buffer : Option (List ℕ))
    (r : Result (Unit {0}) E) (d : DrainsTo (ended takes) fills old new s m buffer) → TakesText takes s d.came r t
    → IfErr r (TakesUntil gives takes fills old new s t)
stopped gives takes fills old new s m t buffer (Ok u) d h = tt
stopped gives takes fills old new s m t buffer (Err e) d h = inr (record { came = d.came; reads = d.reads; taken = h })

pub returns-clause-ok : goal.returns-clause-ok
returns-clause-ok g c =
    let d = c.in_ok-drain.ensures.ok in
    taken g.T.LineTask.takes c.args.fills _ _ c.args.task.now _ _ _ c.finish.result d (c.finish.ensures _ d.came d.reached)

pub returns-clause-err : goal.returns-clause-err
returns-clause-err g c =
    let d = c.in_ok-drain.ensures.ok in
    stopped _ g.T.LineTask.takes c.args.fills _ _ c.args.task.now _ _ _ c.finish.result d (c.finish.ensures _ d.came d.reached)

pub returns-in_err-drain-clause-err : goal.returns-in_err-drain-clause-err
returns-in_err-drain-clause-err g c =
    let p = err_from_is_err_and c.from_residual.result c.from_residual.ensures.1 in rw (p.1, p.2) (inl c.in_err-drain.ensures.err)
