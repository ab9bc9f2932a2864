-- Rows have a book, whatever they are: each entry is put into its place.
use Rattle.std.proofs.Common.{◌≡◌, ℕ, ◌<◌, ◌≤◌, ◌⊎◌, ◌↔◌, List, [], ◌∷◌, AllPairs, Contains, refl, sym, ap, subst, ◌∙◌, inl, inr, arith}
use Rattle.std.proofs.lemmas.Bool.{cases_eq, cases_lt, cases_order}
use Rattle.std.proofs.lemmas.List.Kept.{AllPairs-cons}
use Rattle.pb_poly.specs.declared.book.Entry.{Entry}
use Rattle.pb_points.specs.declared.row.Row.{Row}
use Rattle.pb_points.specs.Group.{entry_with}
use Rattle.pb_points.specs.Rows.{Gives, IsBookOfRows, IsTop}
use Rattle.pb_points.specs.Weight.{Before, scaled}
use Rattle.pb_board.proofs.Elements.{all_of, contains_cases, contains_head, contains_tail, pairs_head, pairs_tail}
use Rattle.pb_points.proofs.Tops.{IsTop-unique}
use Rattle.pb_points.proofs.Weighing.{Gives-unique}

-- ---- entries in their order

before_trans : (e f g : Entry) → Before e f → Before f g → Before e g
before_trans e f g (inl a) (inl b) = inl (omega arith)
before_trans e f g (inl a) (inr b) = inl (omega (arith, b.0))
before_trans e f g (inr a) (inl b) = inl (omega (arith, a.0))
before_trans e f g (inr a) (inr b) = inr (a.0 ∙ b.0, by a.1 b.1)
  where
    by : ((f.weight < e.weight) ⊎ ((e.weight ≡ f.weight) × (e.code < f.code))) → ((g.weight < f.weight) ⊎ ((f.weight ≡ g.weight) × (f.code < g.code))) → (g.weight < e.weight) ⊎ ((e.weight ≡ g.weight) × (e.code < g.code))
    by (inl a) (inl b) = inl (omega arith)
    by (inl a) (inr b) = inl (omega (arith, b.0))
    by (inr a) (inl b) = inl (omega (arith, a.0))
    by (inr a) (inr b) = inr (a.0 ∙ b.0, omega (arith, a.1, b.1))

compare : (e f : Entry) → e.learn ≡ f.learn → Before e f ⊎ ((e ≡ f) ⊎ Before f e)
compare e f learn = elim (cases_order e.key f.key) [
  | inr (inl lt) ↦ inl (inl lt)
  | inr (inr gt) ↦ inr (inr (inl gt))
  | inl key ↦ elim (cases_order e.weight f.weight) [
    | inr (inl less) ↦ inr (inr (inr (sym key, inl less)))
    | inr (inr more) ↦ inl (inr (key, inl more))
    | inl weight ↦ elim (cases_order e.code f.code) [
      | inr (inl low) ↦ inl (inr (key, inr (weight, low)))
      | inr (inr high) ↦ inr (inr (inr (sym key, inr (sym weight, high))))
      | inl code ↦ inr (inl (λ j. record { key = key j; code = code j; weight = weight j; learn = learn j }))
    ]
  ]
]

-- entries in order, none of which tells what was learnt
record AreOrdered (l : List Entry) : Type 0 where
  ordered : AllPairs Before l
  learn : (e : Entry) → Contains l e → e.learn ≡ 0

-- the entries with one more, which was put into its place
record Inserted (e : Entry) (l : List Entry) : Type 0 where
  list : List Entry
  are : AreOrdered list
  members : (x : Entry) → Contains list x ↔ ((e ≡ x) ⊎ Contains l x)

insert : (e : Entry) (l : List Entry) → e.learn ≡ 0 → AreOrdered l → Inserted e l
insert e [] learn are = record {
  list = e ∷ [];
  are = record {
    ordered = λ i j d lt within. absurd (omega arith);
    learn = λ x h. elim (contains_cases e [] x h) [ inl is ↦ ap (λ (y : Entry). y.learn) (sym is) ∙ learn | inr none ↦ absurd (omega (arith, none.1)) ];
  };
  members = λ x. (contains_cases e [] x, elim [ inl is ↦ subst (Contains (e ∷ [])) is (contains_head e []) | inr none ↦ absurd (omega (arith, none.1)) ]);
}
insert e (f ∷ l) learn are =
    by (compare e f (learn ∙ sym (are.learn f (contains_head f l))))
    (insert e l learn (record { ordered = pairs_tail Before f l are.ordered; learn = λ x h. are.learn x (contains_tail f l x h) }))
  where
    by : Before e f ⊎ ((e ≡ f) ⊎ Before f e) → Inserted e l → Inserted e (f ∷ l)
    by (inl first) rest = record {
      list = e ∷ f ∷ l;
      are = record {
        ordered = AllPairs-cons Before e (f ∷ l) (all_of (Before e) (f ∷ l) (λ x h. elim (contains_cases f l x h) [
          | inl is ↦ subst (Before e) is first
          | inr later ↦ before_trans e f x first (pairs_head Before f l x are.ordered later)
        ])) are.ordered;
        learn = λ x h. elim (contains_cases e (f ∷ l) x h) [ inl is ↦ ap (λ (y : Entry). y.learn) (sym is) ∙ learn | inr later ↦ are.learn x later ];
      };
      members = λ x. (contains_cases e (f ∷ l) x, elim [ inl is ↦ subst (Contains (e ∷ f ∷ l)) is (contains_head e (f ∷ l)) | inr later ↦ contains_tail e (f ∷ l) x later ]);
    }
    by (inr (inl same)) rest = record {
      list = f ∷ l;
      are = are;
      members = λ x. (λ h. inr h, elim [ inl is ↦ subst (Contains (f ∷ l)) (sym same ∙ is) (contains_head f l) | inr here ↦ here ]);
    }
    by (inr (inr last)) rest = record {
      list = f ∷ rest.list;
      are = record {
        ordered = AllPairs-cons Before f rest.list (all_of (Before f) rest.list (λ x h. elim ((rest.members x).0 h) [
          | inl is ↦ subst (Before f) is last
          | inr later ↦ pairs_head Before f l x are.ordered later
        ])) rest.are.ordered;
        learn = λ x h. elim (contains_cases f rest.list x h) [ inl is ↦ are.learn x (subst (Contains (f ∷ l)) is (contains_head f l)) | inr later ↦ rest.are.learn x later ];
      };
      members = λ x. (
        λ h. elim (contains_cases f rest.list x h) [
          | inl is ↦ inr (subst (Contains (f ∷ l)) is (contains_head f l))
          | inr later ↦ elim ((rest.members x).0 later) [ inl is ↦ inl is | inr old ↦ inr (contains_tail f l x old) ]
        ],
        elim [
          | inl is ↦ contains_tail f rest.list x ((rest.members x).1 (inl is))
          | inr old ↦ elim (contains_cases f l x old) [
            | inl is ↦ subst (Contains (f ∷ rest.list)) is (contains_head f rest.list)
            | inr later ↦ contains_tail f rest.list x ((rest.members x).1 (inr later))
          ]
        ],
      );
    }

-- ---- the greatest points of a key

top_or_none : (rows : List Row) (k : ℕ) → ((M : ℕ) × IsTop rows k M) ⊎ ((r : Row) → Contains rows r → r.key ≡ k → ⊥)
top_or_none [] k = inr (λ r h is. omega (arith, h.1))
top_or_none (x ∷ xs) k = by (cases_eq x.key k) (top_or_none xs k)
  where
    met_head : (M : ℕ) → x.key ≡ k → x.points ≡ M → ((r : Row) → Contains xs r → r.key ≡ k → r.points ≤ M) → IsTop (x ∷ xs) k M
    met_head M key is above = record {
      above = λ r h e. elim (contains_cases x xs r h) [ inl same ↦ omega (arith, ap (λ (y : Row). y.points) same, is) | inr later ↦ above r later e ];
      met = (x, contains_head x xs, key, is);
    }

    met_tail : (M : ℕ) → (x.key ≡ k → x.points ≤ M) → IsTop xs k M → IsTop (x ∷ xs) k M
    met_tail M low top = record {
      above = λ r h e. elim (contains_cases x xs r h) [
        | inl same ↦ omega (arith, ap (λ (y : Row). y.points) same, low (ap (λ (y : Row). y.key) same ∙ e))
        | inr later ↦ top.above r later e
      ];
      met = (top.met.0, contains_tail x xs top.met.0 top.met.1, top.met.2, top.met.3);
    }

    by : ((x.key ≡ k) ⊎ (x.key ≡ k → ⊥)) → ((M : ℕ) × IsTop xs k M) ⊎ ((r : Row) → Contains xs r → r.key ≡ k → ⊥) → ((M : ℕ) × IsTop (x ∷ xs) k M) ⊎ ((r : Row) → Contains (x ∷ xs) r → r.key ≡ k → ⊥)
    by (inl key) (inl rest) = elim (cases_lt rest.0 x.points) [
      | inl more ↦ inl (x.points, met_head x.points key refl (λ r h e. omega (arith, rest.1.above r h e, more)))
      | inr less ↦ inl (rest.0, met_tail rest.0 (λ e. less) rest.1)
    ]
    by (inl key) (inr none) = inl (x.points, met_head x.points key refl (λ r h e. absurd (none r h e)))
    by (inr other) (inl rest) = inl (rest.0, met_tail rest.0 (λ e. absurd (other e)) rest.1)
    by (inr other) (inr none) = inr (λ r h e. elim (contains_cases x xs r h) [ inl same ↦ other (ap (λ (y : Row). y.key) same ∙ e) | inr later ↦ none r later e ])

top_of : (rows : List Row) (r : Row) → Contains rows r → (M : ℕ) × IsTop rows r.key M
top_of rows r h = elim (top_or_none rows r.key) [ inl top ↦ top | inr none ↦ absurd (none r h refl) ]

-- ---- the entries of the rows

-- the entries that some of the rows give
record AreGiven (rows some : List Row) : Type 0 where
  list : List Entry
  are : AreOrdered list
  members : (e : Entry) → Contains list e ↔ ((r : Row) × Contains some r × Gives rows r e)

one_more : (rows : List Row) (x : Row) (some : List Row) → Contains rows x → AreGiven rows some → AreGiven rows (x ∷ some)
one_more rows x some there rest = by (cases_lt 0 weight)
  where
    top : (M : ℕ) × IsTop rows x.key M
    top = top_of rows x there

    weight : ℕ
    weight = scaled x.points top.0

    later : (e : Entry) → Contains rest.list e → (r : Row) × Contains (x ∷ some) r × Gives rows r e
    later e h = let g = (rest.members e).0 h in (g.0, contains_tail x some g.0 g.1, g.2)

    by : ((0 < weight) ⊎ (weight ≤ 0)) → AreGiven rows (x ∷ some)
    by (inl much) =
        let entry : Entry = entry_with x weight in
        let gives : Gives rows x entry = record { greatest = top.0; top = top.1; key = refl; code = refl; weight = refl; some = omega arith; learn = refl } in
        let more = insert entry rest.list refl rest.are in
        record {
          list = more.list;
          are = more.are;
          members = λ e. (
            λ h. elim ((more.members e).0 h) [ inl is ↦ (x, contains_head x some, subst (Gives rows x) is gives) | inr old ↦ later e old ],
            λ g. (more.members e).1 (elim (contains_cases x some g.0 g.1) [
              | inl same ↦ inl (Gives-unique rows x entry e gives (subst (λ r. Gives rows r e) (sym same) g.2))
              | inr old ↦ inr ((rest.members e).1 (g.0, old, g.2))
            ]),
          );
        }
    by (inr none) = record {
      list = rest.list;
      are = rest.are;
      members = λ e. (
        later e,
        λ g. elim (contains_cases x some g.0 g.1) [
          | inl same ↦
              let h : Gives rows x e = subst (λ r. Gives rows r e) (sym same) g.2 in
              let one = IsTop-unique rows x.key h.greatest top.0 h.top top.1 in
              absurd (omega (arith, h.some, h.weight, ap (scaled x.points) one, none))
          | inr old ↦ (rest.members e).1 (g.0, old, g.2)
        ],
      );
    }

given : (rows some : List Row) → ((r : Row) → Contains some r → Contains rows r) → AreGiven rows some
given rows [] within = record {
  list = [];
  are = record { ordered = λ i j d lt fits. absurd (omega arith); learn = λ e h. absurd (omega (arith, h.1)) };
  members = λ e. (λ h. absurd (omega (arith, h.1)), λ g. absurd (omega (arith, g.1.1)));
}
given rows (x ∷ some) within = one_more rows x some (within x (contains_head x some)) (given rows some (λ r h. within r (contains_tail x some r h)))

pub some_book : (rows : List Row) → (book : List Entry) × IsBookOfRows rows book
some_book rows =
    let all = given rows rows (λ r h. h) in
    (all.list, record { ordered = all.are.ordered; members = all.members })
