use Rattle.std.proofs.Common.{◌≡◌, ◌≢◌, ◌∷◌, ◌++◌, [], List, ◌∙◌, subst, sym}
use Rattle.std.proofs.lemmas.Result.{err_from_is_err_and}
use Rattle.pb_epd.specs.Reading.{RefusesTokens}
use Rattle.pb_epd.specs.Token.{Token}
use Rattle.pb_epd.specs.Operation.{Operation}
use Rattle.pb_epd.proofs.Groups.{operations_more, read_all, read_repeated, read_unended, read_unnamed}
use Rattle.pb_epd.proofs.read.read_operations.Goals as goal

pub returns-in-Unended-clause-refused : goal.returns-in-Unended-clause-refused
returns-in-Unended-clause-refused c = λ ts h.
    read_unended _ _ _ _ _ _ _ c.loop-taken.invariant.read ts h (rw c.in-Unended.is at c.in-Ok.ensures.taken)

pub returns-in-Unnamed-clause-refused : goal.returns-in-Unnamed-clause-refused
returns-in-Unnamed-clause-refused c = λ ts h.
    read_unnamed _ _ _ _ _ _ _ c.loop-taken.invariant.read ts h (rw c.in-Unnamed.is at c.in-Ok.ensures.taken)

pub loop-taken-preserved : goal.loop-taken-preserved
loop-taken-preserved c =
    let x : Operation = (c.in-Operation.opcode.now, c.in-Operation.operands.items) in
    let taken = rw c.in-Operation.is at c.in-Ok.ensures.taken in
    let sound = rw c.in-Operation.is at c.in-Ok.ensures.sound in
    let noted = c.in_ok-note-in-Operation.ensures in
    record {
      rules = noted.rules;
      setup = noted.setup ∙ c.loop-taken.invariant.setup;
      read = rw noted.count (operations_more _ _ _ _ _ _ _ _ _ x _ c.loop-taken.invariant.read taken sound noted.stands);
    }

pub returns-in-Some-clause-refused : goal.returns-in-Some-clause-refused
returns-in-Some-clause-refused c = λ ts h.
    read_repeated _ _ _ _ _ _ _ c.loop-taken.invariant.read ts h _ c.in-Some.is (rw c.in-Done.is at c.in-Ok.ensures.taken)

pub returns-in-None-clause-found : goal.returns-in-None-clause-found
returns-in-None-clause-found c = (
  c.loop-taken.invariant.setup,
  c.loop-taken.invariant.rules,
  c.loop-taken.invariant.read.back (rw c.in-Done.is at c.in-Ok.ensures.sound),
  λ ts h. read_all _ _ _ _ _ _ _ c.loop-taken.invariant.read ts h c.in-None.is (rw c.in-Done.is at c.in-Ok.ensures.taken),
)

-- tokens follow those that were read
more_tokens : (ts front others : List Token) → ts ≡ front ++ others → others ≢ [] → ts ≢ []
more_tokens ts [] others is some none = some (sym is ∙ none)
more_tokens ts (t ∷ front) others is some none = let never = sym is ∙ none in cc

pub returns-in_default-clause-refused : goal.returns-in_default-clause-refused
returns-in_default-clause-refused c = λ ts h.
    let so_far = c.loop-taken.invariant.read.tokens ts h in
    more_tokens ts _ so_far.others so_far.is (c.in_default.ensures.memory so_far.others so_far.after)

pub returns-in_err-note-in-Operation-clause-refused : goal.returns-in_err-note-in-Operation-clause-refused
returns-in_err-note-in-Operation-clause-refused c =
    let taken = rw c.in-Operation.is at c.in-Ok.ensures.taken in
    let p = err_from_is_err_and c.from_residual.result c.from_residual.ensures.1 in rw (p.1, p.2) (λ ts h.
    let so_far = c.loop-taken.invariant.read.tokens ts h in
    let some : so_far.others ≢ [] = λ none. let never = sym (taken so_far.others so_far.after).is ∙ none in cc in
    subst (λ x. RefusesTokens x ts) (sym c.in_err-note-in-Operation.ensures.memory) (more_tokens ts _ so_far.others so_far.is some))
