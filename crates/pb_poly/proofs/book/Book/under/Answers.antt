use Rattle.std.proofs.Common.{◌≡◌, ◌-◌, ◌∙◌, List, length, take, drop, length-drop, ltb, arith, sym, subst, ap, rules}
use Rattle.std.specs.Prelude.{◌==◌, filter}
use Rattle.std.proofs.lemmas.List.{take_all}
use Rattle.std.proofs.lemmas.List.Sorted.{IsPartitionPoint-from_clause, IsPartitionedBy-ltb}
use Rattle.pb_poly.specs.declared.book.Entry.{Entry}
use Rattle.pb_poly.specs.Book.{NeverFall}
use Rattle.pb_poly.proofs.Runs.{keys_rise, run}
use Rattle.pb_poly.proofs.book.Book.under.Goals as goal

pub returns : goal.returns
returns c =
    let key = c.args.key in
    let entries : List Entry = c.entries-entries.result.now in
    let first = c.partition_point-first.result in
    let rest : List Entry = drop first entries in
    let value : entries ≡ c.args.self.now = c.entries-entries.ensures.value in
    let ordered : NeverFall entries = subst (λ (es : List Entry). NeverFall es) (sym value) c.entries-entries.ensures.ordered in
    let point = IsPartitionPoint-from_clause (λ (e : Entry). ltb e.key key) entries first c.partition_point-first.ensures.partitioned (IsPartitionedBy-ltb (λ (e : Entry). e.key) entries key (keys_rise 0 entries ordered)) (λ a r q k. search rules) in
    run key entries (take (length entries - first) rest) first c.count_under.result ordered (take_all (length entries - first) rest (omega (arith, length-drop first entries))) point c.count_under.ensures
    ∙ ap (λ (es : List Entry). filter (λ (e : Entry). e.key == key) es) value
