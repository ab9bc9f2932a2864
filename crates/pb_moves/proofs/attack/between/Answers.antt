use Rattle.std.proofs.Common.{ℕ, ◌↔◌, bit_and, sym, subst}
use Rattle.std.specs.Int.Bits.{bit_xor}
use Rattle.pb_board.specs.declared.piece.Kind.TheVariants.{Queen}
use Rattle.pb_moves.specs.Attackers.{In}
use Rattle.pb_moves.specs.Attacks.{IsBetween, Pattern, files_apart, ranks_apart}
use Rattle.pb_moves.proofs.Between.{between_told}
use Rattle.pb_moves.proofs.Targets.{up_from}
use Rattle.pb_moves.proofs.attack.between.Goals as goal

pub returns : goal.returns
returns c = λ k goes q on.
    let a = c.args.a in
    let b = c.args.b in
    let near = c.pattern.result in
    let far = c.pattern-2.result in
    let T : ℕ → ℕ → Type 0 = λ x y. In (bit_and (bit_and near far) (bit_xor (up_from x) (up_from y))) q ↔ (Pattern Queen (files_apart a b) (ranks_apart a b) × IsBetween a q b) in
    let told : T a b = between_told k c.line_kind-kind.result a b q near far c.pattern.ensures.on_board c.pattern-2.ensures.on_board on goes c.line_kind-kind.ensures
    (c.pattern.ensures.squares q on) (c.pattern-2.ensures.squares q on) in
    subst (λ (x : ℕ). T x c.index-2.result) (sym c.index.ensures.value) (subst (λ (y : ℕ). T a y) (sym c.index-2.ensures.value) told)
