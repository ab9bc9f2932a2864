use Rattle.std.proofs.Common.{◌+◌, get_or, refl, rules, take}
use Rattle.std.proofs.lemmas.List.{take_more}
use Rattle.pb_poly.specs.declared.book.Entry.{Entry}
use Rattle.pb_poly.specs.Entry.{IsEntry}
use Rattle.pb_poly.proofs.Entries.{IsOrdered-push, first_fall_at}
use Rattle.pb_poly.proofs.book.first_fall.Goals as goal

abbrev none : Entry
none = record { key = 0; code = 0; weight = 0; learn = 0 }

pub returns-then-entry-last : goal.returns-then-entry-last
returns-then-entry-last c = first_fall_at c.args.entries.now c.loop-before.before c.loop-before.last _ none c.loop-before.invariant c.loop-before-test.true refl c.if-entry-last.true

pub loop-before-preserved : goal.loop-before-preserved
loop-before-preserved c =
    let entries = c.args.entries.now in
    let i = c.loop-before.before in
    let rules : IsEntry (get_or entries i none) = search rules in
    IsOrdered-push (take i entries) (take (i + 1) entries) (get_or entries i none) c.loop-before.last _ c.loop-before.invariant (take_more entries i none c.loop-before-test.true) rules refl c.if-entry-last.false
