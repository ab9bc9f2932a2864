use Rattle.std.proofs.Common.{rules, ℕ, ◌≡◌}
use Rattle.std.proofs.lemmas.List.Sorted.{answers_always}
use Rattle.std.proofs.lemmas.Result.{on_ok_weaker}
use Rattle.pb_points.specs.declared.row.Row.{Row}
use Rattle.pb_points.proofs.Pairs.{sorted_up_to}
use Rattle.pb_points.proofs.row.sort_rows.Goals as goal

abbrev sort_key : Row → ℕ × ℕ
sort_key r = (r.key, r.code)

pub returns-clause-sorted : goal.returns-clause-sorted
returns-clause-sorted c =
    on_ok_weaker c.sort_by_key.result
    (λ sorted. sorted_up_to c.sort_by_key.new.self.items (sorted sort_key (answers_always _ (λ a r. r ≡ sort_key a.0.now) _ (λ f a r g q. search rules))))
    c.sort_by_key.ensures.sorted
