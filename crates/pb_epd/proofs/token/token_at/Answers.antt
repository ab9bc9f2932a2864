use Rattle.std.proofs.Common.{◌≡◌, ◌∷◌, ◌∙◌, ap, arith}
use Rattle.pb_epd.proofs.Lexing.{no_quoted, no_token}
use Rattle.pb_epd.proofs.token.token_at.Goals as goal

pub returns-in_err-quoted-in-34 : goal.returns-in_err-quoted-in-34
returns-in_err-quoted-in-34 c =
    let cut : c.args.text.now ≡ 34 ∷ c.in_ok-first.rest.now = c.in_ok-first.ensures.cases.0 ∙ ap (λ b. b ∷ c.in_ok-first.rest.now) c.in-34.is in
    rw (c.from_residual-in_err-quoted-in-34.ensures, cut) (no_quoted _ c.in_err-quoted-in-34.ensures)

pub returns-in_err-word-in_default : goal.returns-in_err-word-in_default
returns-in_err-word-in_default c =
    let cut = c.in_ok-first.ensures.cases.0 in
    rw (c.from_residual-in_err-word-in_default.ensures, cut) (no_token c.in_ok-first.first.now c.in_ok-first.rest.now (λ e. omega arith) (λ e. omega arith) (rw cut at c.in_err-word-in_default.ensures))
