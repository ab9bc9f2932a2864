-- The word of each refusal of a FEN record, as the program prints it.
use Rattle.std.specs.Prelude.{ℕ, List, codes}
use Rattle.pb_board.specs.declared.refusal.FenError.{FenError}
use Rattle.pb_board.specs.declared.refusal.FenError.TheVariants as refusal

abbrev pub word_of : FenError → List ℕ
word_of refusal.Fields = codes "fields"
word_of refusal.Placement = codes "placement"
word_of refusal.Turn = codes "turn"
word_of refusal.Castling = codes "castling"
word_of refusal.EnPassantText = codes "ep-text"
word_of refusal.Half = codes "half"
word_of refusal.Full = codes "full"
word_of refusal.Kings = codes "kings"
word_of refusal.Pawns = codes "pawns"
word_of refusal.EnPassantPawn = codes "ep-pawn"
