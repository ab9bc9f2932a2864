use Rattle.std.proofs.Common.{rules, ℕ, ◌≡◌}
use Rattle.std.specs.declared.cmp.Reverse.{Reverse}
use Rattle.std.proofs.lemmas.List.Sorted.{answers_always}
use Rattle.pb_poly.specs.declared.book.Entry.{Entry}
use Rattle.pb_points.proofs.Ordering.{sorted_before}
use Rattle.pb_points.proofs.book.sort_group.Goals as goal

abbrev sort_key : Entry → Reverse ℕ × ℕ
sort_key e = (record { 0 = e.weight }, e.code)

pub returns : goal.returns
returns c =
    let sort = c.sort_unstable_by_key in
    record {
      permutation = sort.ensures.permutation;
      ordered = sorted_before c.args.entries.now sort.new.self c.requires sort.ensures.permutation
          (sort.ensures.sorted sort_key (answers_always _ (λ a r. r ≡ sort_key a.0.now) _ (λ f a r g q. search rules)));
    }
