-- The rows that are left of what occurs often enough.
use Rattle.std.proofs.Common.{◌≡◌, ℕ, ◌≤◌, ◌↔◌, nat_le, Bool, true, List, Contains}
use Rattle.std.specs.List.{filter}
use Rattle.std.proofs.lemmas.Bool.{leb-true, le-leb}
use Rattle.std.proofs.lemmas.List.Elements.{All-contains, filter_passes}
use Rattle.pb_points.specs.declared.row.Row.{Row}
use Rattle.pb_points.specs.Rows.{frequent}
use Rattle.pb_board.proofs.Elements.{contains_filter, within_filter}

-- a row is left just where it was there and occurs so often
pub frequent_rows : (least : ℕ) (rows : List Row) (r : Row) → Contains (frequent least rows) r ↔ (Contains rows r × (least ≤ r.times))
frequent_rows least rows r =
    let often : Row → Bool = λ q. nat_le least q.times in (
      λ h. (
        within_filter often rows r h,
        leb-true least r.times (All-contains (λ q. often q ≡ true) (filter often rows) r (filter_passes often rows) h),
      ),
      λ h. contains_filter often rows r h.0 (le-leb least r.times h.1),
    )
