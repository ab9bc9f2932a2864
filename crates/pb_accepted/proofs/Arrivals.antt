-- How a line relates to the games held.
use Rattle.std.proofs.Common.{◌≡◌, ◌≢◌, ℕ, List, Some, slice_get, sym, ap, subst, ◌∙◌}
use Rattle.std.specs.List.{All}
use Rattle.std.proofs.lemmas.Option.{slice_get_within, get_or_from_slice_get}
use Rattle.pb_games.specs.declared.fields.LineFields.{LineFields}
use Rattle.pb_games.specs.declared.game.Game.{Game}
use Rattle.pb_games.specs.Cuts.{IsCut}
use Rattle.pb_games.specs.Repeat.{AreFieldsOf}
use Rattle.pb_games.specs.Submissions.{Submits, IsSubmission, Submission}
use Rattle.pb_games.proofs.Again.{again, fields_again}
use Rattle.pb_games.proofs.Texts.{lawful_submission}
use Rattle.pb_accepted.specs.Replying.{IsNewId, IsNumber}

-- a legal game that a line submits is within the bounds
pub submitted : (line : List ℕ) (s : Submission) → Submits line s → IsSubmission s
submitted line s lawful = lawful_submission line s lawful

-- what stands at an index of the list is a submission
pub submission_at : (A : List Submission) (k : ℕ) (s : Submission) → All IsSubmission A → slice_get A k ≡ Some s → IsSubmission s
submission_at A k s all at = subst IsSubmission (get_or_from_slice_get A k s s at) (all k s (slice_get_within A k s at))

module _ (line : List ℕ) (f : LineFields) (cut : IsCut line f) where
  -- an id and a game that are those of what the line submits
  pub lawful_pair : (s : Submission) → Submits line s → (id : List ℕ) → id ≡ f.id.now → (g : Game) → g ≡ s.1 → Submits line (id, g)
  lawful_pair s lawful id own g same =
      let id_is : id ≡ s.0 = own ∙ (fields_again line f cut s lawful).0 in
      let pair : (id, g) ≡ s = λ i. (id_is i, same i) in
      subst (Submits line) (sym pair) lawful

module _ (A : List Submission) (line : List ℕ) (f : LineFields) (cut : IsCut line f) where
  pub is_new : IsNewId f.id.now A → (s : Submission) → Submits line s → IsNewId s.0 A
  is_new fresh s lawful = subst (λ id. IsNewId id A) (fields_again line f cut s lawful).0 fresh

  pub comes_again : All IsSubmission A → (n : ℕ) → ((g : Game) × IsNumber A n (f.id.now, g) × AreFieldsOf g f) → (s : Submission) × Submits line s × IsNumber A n s
  comes_again all n h =
      let s : Submission = (f.id.now, h.0) in
      (s, again line f cut h.0 (submission_at A h.1.0 s all h.1.2) h.2, h.1)

  pub another : (n : ℕ) → ((g : Game) × IsNumber A n (f.id.now, g) × ¬ AreFieldsOf g f) → (s : Submission) → Submits line s → (g : Game) × IsNumber A n (s.0, g) × (g ≢ s.1)
  another n h s lawful =
      let of = fields_again line f cut s lawful in
      (h.0, (h.1.0, h.1.1, h.1.2 ∙ ap (λ id. Some (id, h.0)) of.0), λ same. h.2 (subst (λ g. AreFieldsOf g f) (sym same) of.1))
