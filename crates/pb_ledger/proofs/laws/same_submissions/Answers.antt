use Rattle.std.proofs.Common.{[], subst}
use Rattle.pb_poly.specs.Book.{BookBytes}
use Rattle.pb_poly.proofs.EntryBytes.{bytes_are_one}
use Rattle.pb_accepted.specs.Accepting.{SameMembers}
use Rattle.pb_accepted.proofs.Distinct.{Taken-unique}
use Rattle.pb_accepted.proofs.Steps.{same_books, takes_the_taken}
use Rattle.pb_export.proofs.ExportLaws.{same_exports}
use Rattle.pb_ledger.proofs.laws.same_submissions.Goals as goal

pub returns : goal.returns
returns c = λ T m n K L Q R A B S U one two run twin taken taken' same.
    let held : SameMembers A B = subst (λ X. SameMembers X B) (Taken-unique [] K Q S A taken (takes_the_taken m K Q A one run))
    (subst (λ X. SameMembers S X) (Taken-unique [] L R U B taken' (takes_the_taken n L R B two twin)) same) in (
      λ least E F a b book book' bytes bytes'. bytes_are_one F a b (subst (λ X. BookBytes X a) (same_books T m n K L Q R A B run twin held least E F book book') bytes) bytes',
      same_exports T m n K L Q R A B run twin held,
    )
