-- The fields of a line.
use Rattle.std.specs.Prelude.{◌≡◌, ℕ, ◌≤◌, List, [], ◌∷◌, length}
use Rattle.std.specs.Str.Lines.{strip_carriage_return}
use Rattle.pb_board.specs.Fields.{fields, tab}
use Rattle.pb_games.specs.Ids.{IsId}
use Rattle.pb_games.specs.declared.fields.LineFields.{LineFields}
use Rattle.pb_games.specs.declared.fields.TheConstants.{MAX_BYTES}

-- the fields of a line, which is cut at every TAB
abbrev pub fields_of : List ℕ → List (List ℕ)
fields_of line = fields tab (strip_carriage_return line)

-- the line isn't too long, and these are its four fields, of which the first is an id
pub record IsCut (line : List ℕ) (f : LineFields) : Type 0 where
  pub short : length line ≤ MAX_BYTES
  pub room : length f.moves.now ≤ length line
  pub cut : fields_of line ≡ f.id.now ∷ f.outcome.now ∷ f.start.now ∷ f.moves.now ∷ []
  pub id_is : IsId f.id.now
