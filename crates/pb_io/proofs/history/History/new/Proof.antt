-- The one field is of no bytes, and the list that goes with it is picked here.
use Rattle.std.proofs.Common.{[], ◌∷◌, refl}
use Rattle.std.proofs.raw_atomic.Walks.{proved}
use base.Fml.{ftrue}
use denote.Shadow.{pure_i}
use denote.Steps.{nothing}
use denote.Triple.Walked.{Stays, walk_of, says, ends_at}
use mir.Val.{Val, vstruct, vcons, vnil}
use types.ByLocal.{alloc_all, pass_all, free_all, look_at, get, sets}
use types.Kit.{‵, ◌⊛◌, ◌$◌, ◌∵◌, !, qed, done, drop, join, suffices}
use types.Part.{agg}
use types.Run.{enter, no_more, and_then, returns}
use Rattle.pb_io.specs.contracts.history.History.{the_row as R}
use Rattle.pb_io.specs.contracts.history.History.new as f
use Rattle.pb_io.specs.declared.history.History.{History}
use Rattle.pb_io.proofs.history.History.new.Code as code
use Rattle.pb_io.proofs.history.History.new.Statement.{statement}

abbrev stayed : Stays f.ended.signature.params f.ended.kept
stayed = tt

abbrev held : Val
held = vstruct (vcons (vstruct vnil) vnil)

abbrev empty : History
empty = record { marker = record {}; bytes = [] }

pub new_spec : {M : Type 1} → statement M
new_spec 𝓤 𝓛 𝓜 𝓡 wired =
    let c = f.clauses 𝓛 𝓜.mem 𝓡.returns in let W = walk_of 𝓛 f.ended stayed c in
    proved 𝓛 f.ended stayed c 𝓜 𝓡 tt
    f.Key.name code.function (code.unfolded 𝓤 𝓛.H 𝓜 𝓡 wired)
    (λ κs. tt) (λ κs. tt) (λ κs qs bounds a _ are.
    let y : W.Ghost = ((κs, qs, bounds, a, tt), tt) in
    qed 𝓛 ((‵ ftrue ⊛ ‵ ftrue) ∷ ‵ ftrue ∷ []) ∵ drop ! $ drop ! $
    enter ! _ _ _ _ _ $ alloc_all ! (λ l. pass_all ! refl tt $
    sets ! (agg ! (no_more !)) refl (tt, tt) $ sets ! (agg ! (and_then ! (get ! refl) (no_more !))) refl (tt, (tt, tt)) $
    returns ! (look_at ! 0 refl) $ free_all ! refl $
    pure_i ! (R.own_val empty (held ∷ [])) ((λ vss. (tt, ((λ uss. (tt, tt)), tt))), tt)
    (((vstruct vnil ∷ [], tt), (refl, ((tt, (refl, tt)), tt))), tt) $
    suffices ! _ (ends_at 𝓛 f.ended stayed c y held empty tt tt) $ says ! refl $
    nothing ! $ join ! $ nothing ! $ done !))
