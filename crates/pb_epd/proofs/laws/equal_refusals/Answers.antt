use Rattle.std.proofs.Common.{◌≡◌, false, true, ap, refl}
use Rattle.std.proofs.lemmas.Bool.{false≢true}
use Rattle.std.proofs.lemmas.Bool.Decides.{Decides-eqb, Decides-like}
use Rattle.std.specs.Bool.{Decides}
use Rattle.pb_board.proofs.Equal as equal
use Rattle.pb_epd.specs.declared.refusal.EpdError.TheVariants as epd
use Rattle.pb_epd.specs.declared.refusal.PutError.TheVariants as put
use Rattle.pb_epd.proofs.laws.equal_refusals.Goals as goal

same : {A : Type 0} (a : A) → Decides true (a ≡ a)
same a = (λ _. refl, λ _. refl)

differ : {P : Type 0} → ¬ P → Decides false P
differ never = (λ e. absurd (false≢true e), λ p. absurd (never p))

-- the same variant with what it holds, or two variants
pub returns-clause-operations : goal.returns-clause-operations
returns-clause-operations c put.Opcode put.Opcode = same put.Opcode
returns-clause-operations c (put.Operand m) (put.Operand n) = Decides-like _ (ap put.Operand) (λ e. cc (e)) (Decides-eqb m n)
returns-clause-operations c put.Repeated put.Repeated = same put.Repeated
returns-clause-operations c put.Memory put.Memory = same put.Memory
returns-clause-operations c a b = differ (λ e. cc (e))

pub returns-clause-texts : goal.returns-clause-texts
returns-clause-texts c (epd.Token m) (epd.Token n) = Decides-like _ (ap epd.Token) (λ e. cc (e)) (Decides-eqb m n)
returns-clause-texts c epd.Fields epd.Fields = same epd.Fields
returns-clause-texts c (epd.Setup x) (epd.Setup y) = Decides-like _ (ap epd.Setup) (λ e. cc (e)) (equal.fen_errors x y)
returns-clause-texts c (epd.Opcode m) (epd.Opcode n) = Decides-like _ (ap epd.Opcode) (λ e. cc (e)) (Decides-eqb m n)
returns-clause-texts c epd.Unended epd.Unended = same epd.Unended
returns-clause-texts c (epd.Repeated m) (epd.Repeated n) = Decides-like _ (ap epd.Repeated) (λ e. cc (e)) (Decides-eqb m n)
returns-clause-texts c epd.Memory epd.Memory = same epd.Memory
returns-clause-texts c a b = differ (λ e. cc (e))
