use Rattle.std.proofs.Common.{◌∙◌, ap, refl}
use Rattle.std.proofs.lemmas.Result.{IfOk-weaker}
use Rattle.clap.specs.Walk.{texts}
use Rattle.pb_cli.proofs.Matches.{texts_given}
use Rattle.pb_cli.proofs.order.texts.Goals as goal

pub returns : goal.returns
returns c =
    let given = texts_given c.args.given.now c.args.id.now c.get_strs.result _ c.get_strs.ensures refl in
    IfOk-weaker c.to_vec.result _ _ (λ all copied.
    ap texts (copied (λ x y same. same) ∙ ap (λ s. s.now) c.unwrap_or.ensures) ∙ given) c.to_vec.ensures.items_if_clones_equal
