use Rattle.std.proofs.Common.{◌≡◌, None, refl, rules, sym, subst}
use Rattle.pb_epd.specs.Operation.{IsOperation}
use Rattle.pb_epd.proofs.Maps.{find, has_key, no_key, find_none, insert_gains}
use Rattle.pb_epd.proofs.Puts.{repeated_first, memory_first, put_lawful}
use Rattle.pb_epd.proofs.epd.Epd.add.Goals as goal

pub returns-then-contains_key-clause-puts : goal.returns-then-contains_key-clause-puts
returns-then-contains_key-clause-puts c =
    rw (← c.self.view_is) (record {
      rules = tt;
      setup = refl;
      added = tt;
      lawful = tt;
      fresh = tt;
      same = refl;
      refused = repeated_first _ _ _ c.requires.opcode c.requires.operands (has_key _ _ (sym c.if-contains_key.ensures));
    })

pub returns-in_default-clause-puts : goal.returns-in_default-clause-puts
returns-in_default-clause-puts c =
    let none = no_key c.args.opcode.now c.self.inside.operations.entries (sym c.if-contains_key.ensures) in
    rw (← c.self.view_is) (record {
      rules = tt;
      setup = refl;
      added = tt;
      lawful = tt;
      fresh = tt;
      same = refl;
      refused = memory_first _ _ _ c.requires.opcode c.requires.operands (find_none _ _ none);
    })

pub invariant_of-self : goal.invariant_of-self
invariant_of-self c =
    let none = no_key c.args.opcode.now c.self.inside.operations.entries (sym c.if-contains_key.ensures) in
    let key : c.in-Ok.key.items ≡ c.args.opcode.now = c.in-Ok.ensures.items_if_clones_equal (λ x y e. e) in
    put_lawful c.self.inside.setup c.self.inside.operations.entries c.insert.new.self.entries c.in-Ok.key c.args.operands c.self.invariant
    (subst (λ w. find w c.self.inside.operations.entries ≡ None) (sym key) none)
    (subst (λ w. IsOperation (w, c.args.operands.items)) (sym key) c.requires)
    c.in-Ok-insert.ensures.entries c.in-Ok-insert.ensures.ordered

pub returns-in-Ok-insert-clause-puts : goal.returns-in-Ok-insert-clause-puts
returns-in-Ok-insert-clause-puts c =
    let none = no_key c.args.opcode.now c.self.inside.operations.entries (sym c.if-contains_key.ensures) in
    let key : c.in-Ok.key.items ≡ c.args.opcode.now = c.in-Ok.ensures.items_if_clones_equal (λ x y e. e) in
    rw (← c.self.view_is) (record {
      rules = invariant_of-self c;
      setup = refl;
      added = rw (c.in-Ok-insert.ensures.entries, ← key)
          (insert_gains c.in-Ok.key c.args.operands c.self.inside.operations.entries (subst (λ w. find w c.self.inside.operations.entries ≡ None) (sym key) none));
      lawful = c.requires;
      fresh = find_none _ _ none;
      same = tt;
      refused = tt;
    })

pub returns-clause-puts : goal.returns-clause-puts
returns-clause-puts c =
    let none = no_key c.args.opcode.now c.self.inside.operations.entries (sym c.if-contains_key.ensures) in
    rw (← c.self.view_is) (record {
      rules = tt;
      setup = refl;
      added = tt;
      lawful = tt;
      fresh = tt;
      same = search rules;
      refused = memory_first _ _ _ c.requires.opcode c.requires.operands (find_none _ _ none);
    })

pub returns-in-Ok-insert-clause-rules : goal.returns-in-Ok-insert-clause-rules
returns-in-Ok-insert-clause-rules c = invariant_of-self c
