-- Words that spell moves, and moves that are played one after the other.
use Rattle.std.proofs.Common.{◌≡◌, ◌≢◌, ◌∙◌, ℕ, ◌+◌, ◌<◌, ◌≤◌, All, Bor, List, [], ◌∷◌, ◌++◌, ap}
use Rattle.std.proofs.Common.{drop, false, get_or, length, None, Option, Some, subst, sym, true}
use Rattle.std.specs.List.{AllZip}
use Rattle.std.specs.Prelude.{MatchOption}
use Rattle.std.specs.Option.{SomeIff, is_some}
use Rattle.std.proofs.Math.ListN.{drop_of_length-le}
use Rattle.std.proofs.lemmas.List.{drop_more}
use Rattle.std.proofs.lemmas.List.Elements.{All-head, All-tail}
use Rattle.pb_board.specs.Position.{Record}
use Rattle.pb_moves.specs.Clocks.{record_after}
use Rattle.pb_moves.specs.Legal.{Legal}
use Rattle.pb_moves.specs.Moved.{IsMove, Moved}
use Rattle.pb_moves.specs.Played.{IsSpelled, Plays, Spells}
use Rattle.pb_moves.specs.Spelling.{spelling}
use Rattle.pb_commands.specs.FenShown.{texts}

-- the texts of the move texts from one on
pub texts_from : (words : List (Bor (List ℕ))) (i : ℕ) (d : Bor (List ℕ)) → i < length words
    → texts (drop i words) ≡ (get_or words i d).now ∷ texts (drop (i + 1) words)
texts_from words i d below = ap texts (drop_more words i d below)

pub texts_past : (words : List (Bor (List ℕ))) (i : ℕ) → length words ≤ i → texts (drop i words) ≡ []
texts_past words i past = ap texts (drop_of_length-le words past)

pub spelt_joined : (xs : List (List ℕ)) (ms : List Moved) (ys : List (List ℕ)) (ns : List Moved) → AllZip Spells xs ms
    → AllZip Spells ys ns → AllZip Spells (xs ++ ys) (ms ++ ns)
spelt_joined [] [] ys ns none spelt = spelt
spelt_joined [] (m ∷ ms) ys ns bad spelt = absurd bad
spelt_joined (x ∷ xs) [] ys ns bad spelt = absurd bad
spelt_joined (x ∷ xs) (m ∷ ms) ys ns first spelt = (first.0, spelt_joined xs ms ys ns first.1 spelt)

-- the moves that words spell
pub spelt_moves : (words : List (List ℕ)) → All IsSpelled words → (moves : List Moved) × AllZip Spells words moves
spelt_moves [] all = ([], tt)
spelt_moves (w ∷ ws) all =
    let first = All-head IsSpelled w ws all in
    let others = spelt_moves ws (All-tail IsSpelled w ws all) in (first.0 ∷ others.0, (first.1, others.1))

-- whether a word spells a move, by what is read of it
pub is_spelt : (word text : List ℕ) (read : Option Moved) → text ≡ word → is_some read ≡ true
    → MatchOption read ((m : Moved) → IsMove m → text ≢ spelling m) (λ m. IsMove m × (text ≡ spelling m)) → IsSpelled word
is_spelt word text None same there h = absurd (cc there)
is_spelt word text (Some m) same there h = (m, record { is_move = h.0; is = sym same ∙ h.1 })

pub isnt_spelt : (word text : List ℕ) (read : Option Moved) → text ≡ word → is_some read ≡ false
    → MatchOption read ((m : Moved) → IsMove m → text ≢ spelling m) (λ m. IsMove m × (text ≡ spelling m)) → ¬ IsSpelled word
isnt_spelt word text None same there h spelt = h spelt.0 spelt.1.is_move (same ∙ spelt.1.is)
isnt_spelt word text (Some m) same there h spelt = absurd (cc there)

-- one move more
pub plays_more : (f : Record) (ms : List Moved) (g : Record) (m : Moved) (h : Record) → Plays f ms g → Legal g.setup m
    → h ≡ record_after g m → Plays f (ms ++ m ∷ []) h
plays_more f [] g m h same legal is = (subst (λ (r : Record). Legal r.setup m) same legal, is ∙ ap (λ (r : Record). record_after r m) same)
plays_more f (n ∷ ms) g m h plays legal is = (plays.0, plays_more (record_after f n) ms g m h plays.1 legal is)

-- a move that is played after others is legal there
pub last_legal : (f : Record) (ms : List Moved) (g : Record) (m : Moved) (h : Record) → Plays f ms g → Plays f (ms ++ m ∷ []) h → Legal g.setup m
last_legal f [] g m h same plays = subst (λ (r : Record). Legal r.setup m) (sym same) plays.0
last_legal f (n ∷ ms) g m h plays more = last_legal (record_after f n) ms g m h plays.1 more.1

-- the move that a word spells is played, or isn't legal
pub move_played : (word text : List ℕ) (f : Record) (m : Moved) (next : Option Record) → IsMove m × (text ≡ spelling m)
    → text ≡ word → SomeIff next (Legal f.setup m) (record_after f m)
    → MatchOption next (IsSpelled word → (n : Moved) × Spells word n × ¬ Legal f.setup n)
    (λ g. (n : Moved) × Spells word n × Legal f.setup n × (g ≡ record_after f n))
move_played word text f m None read same illegal = λ _. (m, record { is_move = read.0; is = sym same ∙ read.1 }, illegal)
move_played word text f m (Some g) read same played = (m, record { is_move = read.0; is = sym same ∙ read.1 }, played.0, played.1)
