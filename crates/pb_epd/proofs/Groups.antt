-- The tokens of operations, cut at their ends.
use Rattle.std.proofs.Common.{◌≡◌, ◌≢◌, ℕ, ◌+◌, ◌<◌, ◌≤◌, ◌↔◌, ◌⊎◌, false, List, [], ◌∷◌, ◌++◌, length, get_or, Option, Some, None, refl, sym, ap, subst, ◌∙◌, inl, inr, arith}
use Rattle.std.specs.Prelude.{All, AllPairs, Contains, map, flat_map}
use Rattle.std.specs.List.{slice_split}
use Rattle.std.specs.Option.{option_or}
use Rattle.std.proofs.lemmas.List.{append_assoc, append-nil, map-append, length-map, length_push}
use Rattle.std.proofs.lemmas.List.Splits.{slice_split_at, slice_split_none, length-slice_split}
use Rattle.std.proofs.lemmas.List.Concat.{flat_map-append}
use Rattle.std.proofs.lemmas.List.Elements.{All-push, All-map, All-weaker, All-cons, Contains-push, Contains-push_cases, Contains-append_left, Contains-get_or}
use Rattle.std.proofs.lemmas.List.Quantifiers.{all_pairs_push}
use Rattle.pb_epd.specs.declared.operation.Operand.{Operand}
use Rattle.pb_epd.specs.Token.{Token, word, quoted, end_mark, TokensAfter}
use Rattle.pb_epd.specs.Lexeme.{IsOperandToken}
use Rattle.pb_epd.specs.Operation.{Operation, IsOperation, operand_token, operation_tokens}
use Rattle.pb_board.specs.Refusal.{BreaksAt}
use Rattle.pb_board.proofs.Breaks.{all_breaks, breaks_from}
use Rattle.pb_epd.specs.Epd.{AreDistinct, AreHeld}
use Rattle.pb_epd.specs.Refusal.{is_end, BeginOtherwise, IsNamed}
use Rattle.pb_epd.specs.Reading.{HasTokens, AreOperands, BeginsUnnamed, Follow, AreOperations, AreNamed, IsUnnamedAt, RepeatsAt, Standing}
use Rattle.pb_epd.proofs.Lists.{contains_map, pairs_cons, pairs_head, pairs_none, pairs_split, pairs_tail}
use Rattle.pb_epd.proofs.Reader.{operands_are}

-- ---- groups

-- an operation's tokens before its end
abbrev pub group_of : Operation → List Token
group_of o = word o.0 ∷ map operand_token o.1

no_end : (t : Token) → IsOperandToken t → is_end t ≡ false
no_end (word bytes) h = refl
no_end (quoted bytes) h = refl
no_end end_mark h = absurd (h refl)

no_ends : (ts : List Token) → AreOperands ts → All (λ t. is_end t ≡ false) ts
no_ends ts h = All-weaker IsOperandToken (λ t. is_end t ≡ false) no_end ts h

pub cut_group : (group others : List Token) → AreOperands group → slice_split is_end (group ++ end_mark ∷ others) ≡ group ∷ slice_split is_end others
cut_group group others h = slice_split_at is_end group end_mark others (no_ends group h) refl

pub cut_alone : (ts : List Token) → AreOperands ts → slice_split is_end ts ≡ ts ∷ []
cut_alone ts h = slice_split_none is_end ts (no_ends ts h)

operation_cut : (o : Operation) (others : List Token) → slice_split is_end (operation_tokens o ++ others) ≡ group_of o ∷ slice_split is_end others
operation_cut o others =
    ap (slice_split is_end) (ap (λ w. word o.0 ∷ w) (append_assoc (map operand_token o.1) (end_mark ∷ []) others))
    ∙ cut_group (group_of o) others (All-cons IsOperandToken (word o.0) (map operand_token o.1) (λ e. cc (e)) (operands_are o.1))

pub operations_cut : (operations : List Operation) (others : List Token) → slice_split is_end (flat_map operation_tokens operations ++ others) ≡ map group_of operations ++ slice_split is_end others
operations_cut [] others = refl
operations_cut (o ∷ operations) others =
    ap (slice_split is_end) (append_assoc (operation_tokens o) (flat_map operation_tokens operations) others)
    ∙ operation_cut o (flat_map operation_tokens operations ++ others) ∙ ap (λ w. group_of o ∷ w) (operations_cut operations others)

named : (o : Operation) → IsOperation o → IsNamed (group_of o)
named o h = (o.0, map operand_token o.1, h.opcode, refl)

pub all_named : (operations : List Operation) → All IsOperation operations → All IsNamed (map group_of operations)
all_named operations h = All-map IsNamed group_of operations (All-weaker IsOperation (λ o. IsNamed (group_of o)) named operations h)

last_of : (groups : List (List Token)) → 0 < length groups → (ended : List (List Token)) × (unended : List Token) × (groups ≡ ended ++ unended ∷ [])
last_of [] some = absurd (omega (arith, some))
last_of (g ∷ []) some = ([], g, refl)
last_of (g ∷ h ∷ groups) some = let l = last_of (h ∷ groups) (omega arith) in (g ∷ l.0, l.1, ap (λ w. g ∷ w) l.2)

-- what no end follows stands last
pub last_group : (ts : List Token) → (ended : List (List Token)) × (unended : List Token) × (slice_split is_end ts ≡ ended ++ unended ∷ [])
last_group ts = last_of (slice_split is_end ts) (omega (arith, length-slice_split is_end ts))

-- ---- opcodes that stood before

otherwise : (o p : Operation) → o.0 ≢ p.0 → BeginOtherwise (group_of o) (group_of p)
otherwise o p other e = let same : o.0 ≡ p.0 = cc (e) in other same

pub begin_otherwise : (operations : List Operation) → AreDistinct operations → AllPairs BeginOtherwise (map group_of operations)
begin_otherwise [] h = pairs_none BeginOtherwise
begin_otherwise (o ∷ operations) h =
    pairs_cons BeginOtherwise (group_of o) (map group_of operations)
    (All-map (BeginOtherwise (group_of o)) group_of operations (All-weaker (λ (p : Operation). o.0 ≢ p.0) (λ p. BeginOtherwise (group_of o) (group_of p)) (otherwise o) operations (pairs_head (λ (x y : Operation). x.0 ≢ y.0) o operations h)))
    (begin_otherwise operations (pairs_tail (λ (x y : Operation). x.0 ≢ y.0) o operations h))

pub repeated_at : (n : ℕ) (operations : List Operation) → RepeatsAt n operations → BreaksAt (AllPairs BeginOtherwise) (map group_of operations) n
repeated_at n operations h =
    let front = map group_of h.front in
    breaks_from (AllPairs BeginOtherwise) (map group_of operations) front (group_of h.o) (map group_of h.back) n
    (ap (map group_of) h.are ∙ map-append group_of h.front (h.o ∷ h.back)) (omega (arith, h.count, length-map h.front group_of)) (begin_otherwise h.front h.distinct)
    (λ apart. pairs_split BeginOtherwise front (group_of h.o) [] (group_of (h.o.0, h.operands)) apart (contains_map group_of h.front (h.o.0, h.operands) h.earlier) refl)

-- ---- operations that were read so far

held_more : (operations held new : List Operation) (x : Operation) → AreHeld operations held → ((o : Operation) → Contains new o ↔ (Contains held o ⊎ (o ≡ x))) → ((old : List Operand) → ¬ Contains held (x.0, old)) → AreHeld (operations ++ x ∷ []) new
held_more operations held new x h gains fresh = record {
  distinct = all_pairs_push (λ (o p : Operation). o.0 ≢ p.0) operations x h.distinct (λ k d lt e.
      let o = get_or operations k d in
      let was = (h.same o).0 (Contains-get_or operations k d lt) in
      fresh o.1 (subst (λ (w : List ℕ). Contains held (w, o.1)) e was));
  same = λ o. (
    λ k. elim (Contains-push_cases operations x o k) [ inl was ↦ (gains o).1 (inl ((h.same o).0 was)) | inr same ↦ (gains o).1 (inr (sym same)) ],
    λ k. elim ((gains o).0 k) [
      | inl was ↦ Contains-append_left operations (x ∷ []) o ((h.same o).1 was)
      | inr same ↦ subst (λ y. Contains (operations ++ x ∷ []) y) (sym same) (Contains-push operations x)
    ],
  );
}

repeats_more : (n : ℕ) (operations : List Operation) (x : Operation) → RepeatsAt n operations → RepeatsAt n (operations ++ x ∷ [])
repeats_more n operations x h = record {
  front = h.front;
  o = h.o;
  back = h.back ++ x ∷ [];
  are = ap (λ w. w ++ x ∷ []) h.are ∙ append_assoc h.front (h.o ∷ h.back) (x ∷ []);
  count = h.count;
  distinct = h.distinct;
  operands = h.operands;
  earlier = h.earlier;
}

pub standing_added : (repeated : Option ℕ) (operations held new : List Operation) (x : Operation) → Standing repeated operations held → ((o : Operation) → Contains new o ↔ (Contains held o ⊎ (o ≡ x))) → ((old : List Operand) → ¬ Contains held (x.0, old)) → Standing repeated (operations ++ x ∷ []) new
standing_added None operations held new x h gains fresh = held_more operations held new x h gains fresh
standing_added (Some n) operations held new x h gains fresh = repeats_more n operations x h

pub standing_repeated : (repeated : Option ℕ) (operations held : List Operation) (x : Operation) (count : ℕ) → Standing repeated operations held → count ≡ length operations + 1 → (old : List Operand) → Contains held (x.0, old) → Standing (option_or repeated (Some count)) (operations ++ x ∷ []) held
standing_repeated None operations held x count h is old earlier = record {
  front = operations;
  o = x;
  back = [];
  are = refl;
  count = is;
  distinct = h.distinct;
  operands = old;
  earlier = (h.same (x.0, old)).1 earlier;
}
standing_repeated (Some n) operations held x count h is old earlier = repeats_more n operations x h

-- these operations begin the tokens, and the others follow this token
pub record OperationsSoFar (ts : List Token) (held : List Operation) (before : Token) (rest : List ℕ) (count : ℕ) (repeated : Option ℕ) : Type 0 where
  pub operations : List Operation
  pub others : List Token
  pub is : ts ≡ flat_map operation_tokens operations ++ others
  pub lawful : All IsOperation operations
  pub counted : count ≡ length operations
  pub after : TokensAfter before others rest
  pub standing : Standing repeated operations held

pub record InOperations (start : Token) (bytes : List ℕ) (held : List Operation) (before : Token) (rest : List ℕ) (count : ℕ) (repeated : Option ℕ) : Type 0 where
  pub room : count + length rest ≤ length bytes
  pub back : HasTokens before rest → HasTokens start bytes
  pub tokens : (ts : List Token) → TokensAfter start ts bytes → OperationsSoFar ts held before rest count repeated

-- one more operation was read
pub operations_more : (start : Token) (bytes : List ℕ) (held new : List Operation) (before : Token) (rest : List ℕ) (count : ℕ) (repeated again : Option ℕ) (x : Operation) (after : List ℕ) → InOperations start bytes held before rest count repeated → ((us : List Token) → TokensAfter before us rest → Follow (operation_tokens x) end_mark us after) → (length after < length rest) × IsOperation x × (HasTokens end_mark after → HasTokens before rest) → ((operations : List Operation) → count ≡ length operations → Standing repeated operations held → Standing again (operations ++ x ∷ []) new) → InOperations start bytes new end_mark after (count + 1) again
operations_more start bytes held new before rest count repeated again x after h taken sound stands = record {
  room = omega (arith, h.room, sound.0);
  back = λ left. h.back (sound.2 left);
  tokens = λ ts tokens.
      let p = h.tokens ts tokens in
      let t = taken p.others p.after in
      record {
        operations = p.operations ++ x ∷ [];
        others = t.others;
        is =
            p.is ∙ ap (λ w. flat_map operation_tokens p.operations ++ w) t.is ∙ sym (append_assoc (flat_map operation_tokens p.operations) (operation_tokens x) t.others)
            ∙ ap (λ w. (flat_map operation_tokens p.operations ++ w) ++ t.others) (sym (append-nil (operation_tokens x)))
            ∙ ap (λ w. w ++ t.others) (sym (flat_map-append operation_tokens p.operations (x ∷ [])));
        lawful = All-push IsOperation p.operations x p.lawful sound.1;
        counted = omega (arith, p.counted, length_push p.operations x);
        after = t.after;
        standing = stands p.operations p.counted p.standing;
      };
}

module _ (start : Token) (bytes : List ℕ) (held : List Operation) (before : Token) (rest : List ℕ) (count : ℕ) (repeated : Option ℕ) (h : InOperations start bytes held before rest count repeated) (ts : List Token) (tokens : TokensAfter start ts bytes) where
  so_far : OperationsSoFar ts held before rest count repeated
  so_far = h.tokens ts tokens

  all_read : so_far.others ≡ [] → ts ≡ flat_map operation_tokens so_far.operations
  all_read e = so_far.is ∙ ap (λ w. flat_map operation_tokens so_far.operations ++ w) e ∙ append-nil (flat_map operation_tokens so_far.operations)

  cut_so_far : (groups : List (List Token)) → slice_split is_end so_far.others ≡ groups → slice_split is_end ts ≡ map group_of so_far.operations ++ groups
  cut_so_far groups e = ap (slice_split is_end) so_far.is ∙ operations_cut so_far.operations so_far.others ∙ ap (λ w. map group_of so_far.operations ++ w) e

  none_left : ((us : List Token) → TokensAfter before us rest → us ≡ []) → so_far.others ≡ []
  none_left none = none so_far.others so_far.after

  pub read_all : repeated ≡ None → ((us : List Token) → TokensAfter before us rest → us ≡ []) → AreOperations ts held
  read_all is none =
      record { operations = so_far.operations; is = all_read (none_left none); lawful = so_far.lawful; held = subst (λ r. Standing r so_far.operations held) is so_far.standing }

  named_so_far : (unended : List Token) → slice_split is_end so_far.others ≡ unended ∷ [] → AreNamed ts (map group_of so_far.operations) unended
  named_so_far unended e = record { cut = cut_so_far (unended ∷ []) e; named = all_named so_far.operations so_far.lawful }

  pub read_repeated : (n : ℕ) → repeated ≡ Some n → ((us : List Token) → TokensAfter before us rest → us ≡ []) → (ended : List (List Token)) × AreNamed ts ended [] × BreaksAt (AllPairs BeginOtherwise) ended n
  read_repeated n is none = (
    map group_of so_far.operations,
    named_so_far [] (ap (slice_split is_end) (none_left none)),
    repeated_at n so_far.operations (subst (λ r. Standing r so_far.operations held) is so_far.standing),
  )

  pub read_unended : ((us : List Token) → TokensAfter before us rest → (us ≢ []) × AreOperands us) → (ended : List (List Token)) × (unended : List Token) × AreNamed ts ended unended × (unended ≢ [])
  read_unended left =
      let l = left so_far.others so_far.after in
      (map group_of so_far.operations, so_far.others, named_so_far so_far.others (cut_alone so_far.others l.1), l.0)

  pub read_unnamed : ((us : List Token) → TokensAfter before us rest → BeginsUnnamed us) → IsUnnamedAt (count + 1) ts
  read_unnamed left =
      let l = left so_far.others so_far.after in
      let cut = ap (slice_split is_end) l.is ∙ cut_group l.group l.others l.operands in
      let last = last_group l.others in
      let before = map group_of so_far.operations in
      record {
        ended = before ++ l.group ∷ last.0;
        unended = last.1;
        cut =
            cut_so_far (l.group ∷ slice_split is_end l.others) cut ∙ ap (λ w. before ++ l.group ∷ w) last.2
            ∙ sym (append_assoc before (l.group ∷ last.0) (last.1 ∷ []));
        breaks = all_breaks IsNamed (before ++ l.group ∷ last.0) before l.group last.0 (count + 1) refl (omega (arith, so_far.counted, length-map so_far.operations group_of))
            (all_named so_far.operations so_far.lawful) l.unnamed;
      }
