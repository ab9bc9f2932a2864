-- The texts of a record, and the one refusal that is due first.
use Rattle.std.proofs.Common.{◌≡◌, ◌≢◌, ℕ, ◌<◌, List, [], ◌∷◌, ◌++◌, length, refl, sym, ap, subst, ◌∙◌, arith}
use Rattle.std.specs.Prelude.{All, AllPairs, Contains, map, flat_map}
use Rattle.std.specs.List.{slice_split}
use Rattle.std.proofs.lemmas.List.{append-nil, same_from_push}
use Rattle.pb_board.specs.Position.{Position, IsSetup}
use Rattle.pb_board.specs.Refusal.{of_setup}
use Rattle.pb_board.specs.Text.{setup_fields}
use Rattle.pb_board.specs.declared.refusal.FenError.{FenError}
use Rattle.pb_board.proofs.Breaks.{all_unbroken}
use Rattle.pb_board.proofs.Dues.{IsFirstDue}
use Rattle.pb_board.proofs.Fens.{setup_never_due}
use Rattle.pb_epd.specs.declared.refusal.EpdError.{EpdError}
use Rattle.pb_epd.specs.declared.refusal.EpdError.TheVariants as epd
use Rattle.pb_epd.specs.Token.{Token, word, end_mark, Tokens, TokensAfter, IsBadAt}
use Rattle.pb_epd.specs.Operation.{Operation, operation_tokens}
use Rattle.pb_epd.specs.Epd.{EpdRecord, IsEpd, EpdText}
use Rattle.pb_epd.specs.Refusal.{BeginOtherwise, Cut, IsDueEpd, IsFirstDueEpd, IsNamed, is_end}
use Rattle.pb_epd.specs.Reading.{HasTokens, Follow, AreOperations, AreNamed, RefusesTokens}
use Rattle.pb_epd.proofs.Lists.{contains_head, contains_none, pairs_unbroken}
use Rattle.pb_epd.proofs.Dues.{epd_place, first_epd, memory_first}
use Rattle.pb_epd.proofs.TokenLists.{tokens_one}
use Rattle.pb_epd.proofs.Bad.{bad_none}
use Rattle.pb_epd.proofs.Groups.{all_named, begin_otherwise, group_of, last_group, operations_cut}
use Rattle.pb_epd.specs.Refusal.{IsFourWords}

pub same_words : (xs ys : List (List ℕ)) (us vs : List Token) → length xs ≡ length ys → map word xs ++ us ≡ map word ys ++ vs → (xs ≡ ys) × (us ≡ vs)
same_words [] [] us vs len e = (refl, e)
same_words [] (y ∷ ys) us vs len e = absurd (omega (arith, len))
same_words (x ∷ xs) [] us vs len e = absurd (omega (arith, len))
same_words (x ∷ xs) (y ∷ ys) us vs len e =
    let first : x ≡ y = cc (e) in
    let tails : map word xs ++ us ≡ map word ys ++ vs = cc (e) in
    let s = same_words xs ys us vs (omega (arith, len)) tails in
    (ap (λ (w : List ℕ). w ∷ xs) first ∙ ap (λ (ws : List (List ℕ)). y ∷ ws) s.0, s.1)

-- ---- a line of whole tokens

abbrev pub NotDue : EpdError → List ℕ → Type 0
NotDue x bytes = IsDueEpd x bytes → ⊥

pub token_not_due : (bytes : List ℕ) (ts : List Token) (at : ℕ) → Tokens ts bytes → NotDue (epd.Token at) bytes
token_not_due bytes ts at tokens due = bad_none bytes at due ts tokens

pub token_first : (bytes : List ℕ) (at : ℕ) → IsBadAt bytes at → IsFirstDueEpd (epd.Token at) bytes
token_first bytes at bad = first_epd (epd.Token at) bytes bad first
  where
    first : (y : EpdError) → epd_place y < 1 → NotDue y bytes
    first epd.Fields lt = absurd (omega (arith, lt))
    first _ lt = absurd (omega (arith, lt))

module _ (bytes : List ℕ) (four : List (List ℕ)) (others : List Token) (size : length four ≡ 4) (tokens : Tokens (map word four ++ others) bytes) where
  abbrev pub is_cut : (ended : List (List Token)) (unended : List Token) → slice_split is_end others ≡ ended ++ unended ∷ [] → Cut bytes
  is_cut ended unended cut = record { four = four; rest = others; ended = ended; unended = unended; four_words = size; tokens = tokens; cut = cut }

  cut_is : (k : Cut bytes) → (k.four ≡ four) × (slice_split is_end others ≡ k.ended ++ k.unended ∷ [])
  cut_is k =
      let same = tokens_one end_mark (map word k.four ++ k.rest) (map word four ++ others) bytes k.tokens tokens in
      let f = same_words k.four four k.rest others (k.four_words ∙ sym size) same in
      (f.0, ap (slice_split is_end) (sym f.1) ∙ k.cut)

  abbrev pub some_cut : Cut bytes
  some_cut = let last = last_group others in is_cut last.0 last.1 last.2

  pub fields_not_due : NotDue epd.Fields bytes
  fields_not_due due = due some_cut

  pub setup_not_due : (p : Position) (e : FenError) → IsSetup p → four ≡ setup_fields p → NotDue (epd.Setup e) bytes
  setup_not_due p e lawful spells due = setup_never_due p four e lawful spells (subst (IsFirstDue of_setup e) (cut_is due.0).0 due.1)

  pub opcode_not_due : (n : ℕ) (ended : List (List Token)) (unended : List Token) → AreNamed others ended unended → NotDue (epd.Opcode n) bytes
  opcode_not_due n ended unended h due =
      let k = due.0 in
      let same = same_from_push ended k.ended unended k.unended (sym h.cut ∙ (cut_is k).1) in
      all_unbroken IsNamed k.ended n (subst (All IsNamed) same.0 h.named) due.1

  pub unended_not_due : (ended : List (List Token)) → AreNamed others ended [] → NotDue epd.Unended bytes
  unended_not_due ended h due = due.1 (sym (same_from_push ended due.0.ended [] due.0.unended (sym h.cut ∙ (cut_is due.0).1)).1)

  -- ---- the first that is due

  none_before_setup : (y : EpdError) → epd_place y < 3 → NotDue y bytes
  none_before_setup (epd.Token at) lt = token_not_due bytes (map word four ++ others) at tokens
  none_before_setup epd.Fields lt = fields_not_due
  none_before_setup _ lt = absurd (omega (arith, lt))

  pub setup_first : (e : FenError) → IsFirstDue of_setup e four → IsFirstDueEpd (epd.Setup e) bytes
  setup_first e h = first_epd (epd.Setup e) bytes (some_cut, h) none_before_setup

  module _ (p : Position) (lawful : IsSetup p) (spells : four ≡ setup_fields p) where
    none_before_opcode : (y : EpdError) → epd_place y < 4 → NotDue y bytes
    none_before_opcode (epd.Setup e) lt = setup_not_due p e lawful spells
    none_before_opcode (epd.Token at) lt = none_before_setup (epd.Token at) (omega arith)
    none_before_opcode epd.Fields lt = fields_not_due
    none_before_opcode _ lt = absurd (omega (arith, lt))

    none_before_unended : (ended : List (List Token)) (unended : List Token) → AreNamed others ended unended → (y : EpdError) → epd_place y < 5 → NotDue y bytes
    none_before_unended ended unended h (epd.Opcode n) lt = opcode_not_due n ended unended h
    none_before_unended ended unended h epd.Unended lt = absurd (omega (arith, lt))
    none_before_unended ended unended h (epd.Repeated n) lt = absurd (omega (arith, lt))
    none_before_unended ended unended h epd.Memory lt = absurd (omega (arith, lt))
    none_before_unended ended unended h (epd.Token at) lt = none_before_opcode (epd.Token at) (omega arith)
    none_before_unended ended unended h epd.Fields lt = fields_not_due
    none_before_unended ended unended h (epd.Setup e) lt = setup_not_due p e lawful spells

    none_before_repeated : (ended : List (List Token)) → AreNamed others ended [] → (y : EpdError) → epd_place y < 6 → NotDue y bytes
    none_before_repeated ended h epd.Unended lt = unended_not_due ended h
    none_before_repeated ended h (epd.Repeated n) lt = absurd (omega (arith, lt))
    none_before_repeated ended h epd.Memory lt = absurd (omega (arith, lt))
    none_before_repeated ended h (epd.Token at) lt = none_before_opcode (epd.Token at) (omega arith)
    none_before_repeated ended h epd.Fields lt = fields_not_due
    none_before_repeated ended h (epd.Setup e) lt = setup_not_due p e lawful spells
    none_before_repeated ended h (epd.Opcode n) lt = opcode_not_due n ended [] h

    pub refused_first : (x : EpdError) → RefusesTokens x others → IsFirstDueEpd x bytes
    refused_first (epd.Opcode n) h = first_epd (epd.Opcode n) bytes (is_cut h.ended h.unended h.cut, h.breaks) none_before_opcode
    refused_first epd.Unended h = first_epd epd.Unended bytes (is_cut h.0 h.1 h.2.cut, h.3) (none_before_unended h.0 h.1 h.2)
    refused_first (epd.Repeated n) h = first_epd (epd.Repeated n) bytes (is_cut h.0 [] h.1.cut, h.2) (none_before_repeated h.0 h.1)
    refused_first epd.Memory h = memory_first bytes some_cut (p, lawful, spells)
    refused_first _ h = absurd h

pub fields_first : (bytes : List ℕ) (ts : List Token) → Tokens ts bytes
    → ((four : List (List ℕ)) (us : List Token) → length four ≡ 4 → ¬ Tokens (map word four ++ us) bytes) → IsFirstDueEpd epd.Fields bytes
fields_first bytes ts tokens none = first_epd epd.Fields bytes (λ k. none k.four k.rest k.four_words k.tokens) first
  where
    first : (y : EpdError) → epd_place y < 2 → NotDue y bytes
    first (epd.Token at) lt = token_not_due bytes ts at tokens
    first _ lt = absurd (omega (arith, lt))

-- ---- a record that was read

pub text_found : (e : EpdRecord) (bytes : List ℕ) (four : List (List ℕ)) (ts us : List Token) (p : Position) → Tokens ts bytes → ts ≡ map word four ++ us → four ≡ setup_fields p → e.setup ≡ p → AreOperations us e.operations → EpdText e bytes
text_found e bytes four ts us p tokens is fields same h = record {
  operations = h.operations;
  lawful = h.lawful;
  held = h.held;
  tokens = subst (λ w. Tokens w bytes) (is ∙ ap (λ w. map word four ++ w) h.is ∙ ap (λ ws. map word ws ++ flat_map operation_tokens h.operations) (fields ∙ ap setup_fields (sym same))) tokens;
}

-- ---- the text of a record

module _ (e : EpdRecord) (bytes : List ℕ) (lawful : IsEpd e) (h : EpdText e bytes) where
  text_named : AreNamed (flat_map operation_tokens h.operations) (map group_of h.operations) []
  text_named = record {
    cut = ap (slice_split is_end) (sym (append-nil (flat_map operation_tokens h.operations))) ∙ operations_cut h.operations [];
    named = all_named h.operations h.lawful;
  }

  no_repeat : (n : ℕ) → NotDue (epd.Repeated n) bytes
  no_repeat n due =
      let k = due.0 in
      let f = cut_is bytes (setup_fields e.setup) (flat_map operation_tokens h.operations) refl h.tokens k in
      let same = same_from_push (map group_of h.operations) k.ended [] k.unended (sym text_named.cut ∙ f.1) in
      pairs_unbroken BeginOtherwise k.ended n (subst (AllPairs BeginOtherwise) same.0 (begin_otherwise h.operations h.held.distinct)) due.1

  -- no refusal but want of memory is due
  pub text_not_due : (x : EpdError) → x ≢ epd.Memory → NotDue x bytes
  text_not_due (epd.Token at) other = token_not_due bytes (map word (setup_fields e.setup) ++ flat_map operation_tokens h.operations) at h.tokens
  text_not_due epd.Fields other = fields_not_due bytes (setup_fields e.setup) (flat_map operation_tokens h.operations) refl h.tokens
  text_not_due (epd.Setup f) other = setup_not_due bytes (setup_fields e.setup) (flat_map operation_tokens h.operations) refl h.tokens e.setup f lawful.setup refl
  text_not_due (epd.Opcode n) other = opcode_not_due bytes (setup_fields e.setup) (flat_map operation_tokens h.operations) refl h.tokens n (map group_of h.operations) [] text_named
  text_not_due epd.Unended other = unended_not_due bytes (setup_fields e.setup) (flat_map operation_tokens h.operations) refl h.tokens (map group_of h.operations) text_named
  text_not_due (epd.Repeated n) other = no_repeat n
  text_not_due epd.Memory other = absurd (other refl)

-- want of memory may come at the text of a record
pub text_memory : (e : EpdRecord) (bytes : List ℕ) → IsEpd e → EpdText e bytes → IsFirstDueEpd epd.Memory bytes
text_memory e bytes lawful h = memory_first bytes (some_cut bytes (setup_fields e.setup) (flat_map operation_tokens h.operations) refl h.tokens)
    (e.setup, lawful.setup, refl)

-- ---- the text of a record without operations

none_from_none : (held : List Operation) (operations : List Operation) → ((o : Operation) → Contains operations o → Contains held o) → held ≡ [] → operations ≡ []
none_from_none held [] there none = refl
none_from_none held (o ∷ operations) there none = absurd (contains_none o (subst (λ w. Contains w o) none (there o (contains_head o operations))))

pub bare_is_four_words : (e : EpdRecord) (bytes : List ℕ) → EpdText e bytes → e.operations ≡ [] → IsFourWords bytes
bare_is_four_words e bytes h none =
    let bare = none_from_none e.operations h.operations (λ o. (h.held.same o).0) none in
    (setup_fields e.setup, refl, subst (λ w. Tokens (map word (setup_fields e.setup) ++ flat_map operation_tokens w) bytes) bare h.tokens)

-- ---- what the reader answers

module _ (bytes : List ℕ) (four : List (List ℕ)) (last : Token) (rest : List ℕ) (size : length four ≡ 4) (next : (ts : List Token) → Tokens ts bytes → Follow (map word four) last ts rest) where
  pub setup_refused : (e : FenError) → IsFirstDue of_setup e four → (ts : List Token) → Tokens ts bytes → IsFirstDueEpd (epd.Setup e) bytes
  setup_refused e h ts tokens =
      let f = next ts tokens in
      setup_first bytes four f.others size (subst (λ w. Tokens w bytes) f.is tokens) e h

  module _ (p : Position) (lawful : IsSetup p) (spells : four ≡ setup_fields p) where
    pub found_all : (HasTokens last rest → HasTokens end_mark bytes) → (e : EpdRecord) → (e.setup ≡ p) × IsEpd e × HasTokens last rest × ((vs : List Token) → TokensAfter last vs rest → AreOperations vs e.operations) → IsEpd e × EpdText e bytes
    found_all back e h =
        let whole = back h.2 in
        let f = next whole.0 whole.1 in
        (h.1, text_found e bytes four whole.0 f.others p whole.1 f.is spells h.0 (h.3 f.others f.after))

    pub refused_all : (x : EpdError) → ((vs : List Token) → TokensAfter last vs rest → RefusesTokens x vs) → (ts : List Token) → Tokens ts bytes → IsFirstDueEpd x bytes
    refused_all x h ts tokens =
        let f = next ts tokens in
        refused_first bytes four f.others size (subst (λ w. Tokens w bytes) f.is tokens) p lawful spells x (h f.others f.after)

  -- four words alone have no operation
  pub no_memory : (x : EpdError) → ((ts : List Token) → TokensAfter last ts rest → RefusesTokens x ts) → x ≡ epd.Memory → ¬ IsFourWords bytes
  no_memory x refused is alone =
      let f = next (map word alone.0) alone.2 in
      let same = same_words alone.0 four [] f.others (alone.1 ∙ sym size) (append-nil (map word alone.0) ∙ f.is) in
      subst (λ y. RefusesTokens y f.others) is (refused f.others f.after) (sym same.1)
