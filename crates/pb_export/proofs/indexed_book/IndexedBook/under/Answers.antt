use Rattle.std.proofs.Common.{◌≡◌, ◌-◌, ◌∙◌, List, length, take, drop, length-drop, ltb, true, false, arith, sym, subst, ap}
use Rattle.std.specs.Prelude.{◌==◌, filter}
use Rattle.std.specs.List.Sorted.{IsPartitionPoint}
use Rattle.std.proofs.lemmas.List.{take_all}
use Rattle.pb_poly.specs.declared.book.Entry.{Entry}
use Rattle.pb_poly.specs.Book.{NeverFall}
use Rattle.pb_poly.proofs.Runs.{run}
use Rattle.pb_export.proofs.indexed_book.IndexedBook.under.Goals as goal

pub returns : goal.returns
returns c =
    let key = c.args.key in
    let entries : List Entry = c.entries.result.now in
    let first = c.args.first in
    let rest : List Entry = drop first entries in
    let value : entries ≡ c.args.self.now = c.entries.ensures.value ∙ c.self.view_is in
    let ordered : NeverFall entries = subst NeverFall (sym c.entries.ensures.value) c.entries.ensures.ordered in
    let point = subst (λ (es : List Entry). IsPartitionPoint (λ (e : Entry). ltb e.key key ≡ true) (λ (e : Entry). ltb e.key key ≡ false) es first) (sym value) c.requires.point in
    run key entries (take (length entries - first) rest) first c.count_under.result ordered (take_all (length entries - first) rest (omega (arith, length-drop first entries))) point c.count_under.ensures
    ∙ ap (λ (es : List Entry). filter (λ (e : Entry). e.key == key) es) value
