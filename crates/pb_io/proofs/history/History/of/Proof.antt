-- The one field is of no bytes, and the list that goes with it is what the writer tells. The writer
-- is only looked at by the list.
use Rattle.std.proofs.Common.{◌≡◌, ℕ, List, [], ◌∷◌, refl}
use Rattle.std.proofs.raw_atomic.Walks.{proved, leaves}
use contract.Monad.{fact, fact_i}
use base.Logic.{emp}
use base.Fml.{flft, fsep, ftrue}
use denote.Builtin.{RefOf}
use denote.Exit.{yes}
use denote.Param.{bounded, param}
use denote.RattleType.{owns}
use denote.Ref.{shr_Tells, shr_vals}
use denote.Shadow.{pure_i}
use denote.Signature.{Slot, plain, types_at}
use denote.Steps.{nothing}
use denote.Triple.Walked.{Goes-dropped, Stays, stay_dropped, walk_of}
use mir.MapTy.{inst_fn}
use mir.Syntax.{a_type, dcons, dnil, named}
use mir.Val.{Val, vcons, vnil, vptr, vstruct}
use types.ByLocal.{alloc_all, free_all, get, look_at, pass_all, sets}
use types.Kit.{‵, raw, ◌⊛◌, ◌$◌, ◌∵◌, !, by, fjoin, fsplit, join, keep, move, qed, split, use0}
use types.Part.{agg}
use types.Run.{and_then, enter, no_more, returns}
use Rattle.pb_io.specs.Sink.{known_or_none}
use Rattle.pb_io.specs.contracts.history.History.{the_row as R}
use Rattle.pb_io.specs.contracts.history.History.of as f
use Rattle.pb_io.specs.declared.history.History.{History}
use Rattle.pb_io.proofs.history.History.of.Code as code
use Rattle.pb_io.proofs.history.History.of.Statement.{statement}

abbrev held : Val
held = vstruct (vcons (vstruct vnil) vnil)

pub of_spec : {M : Type 1} → statement M
of_spec 𝓤 𝓛 𝓜 𝓡 wired A _ g d _ =
    let T = f.ended A g d in let c = f.clauses A g d 𝓛 𝓜.mem 𝓡.returns in
    let inst = bounded (a_type ∷ []) (A, tt) (dcons d dnil) in let fn = inst_fn inst code.function in
    let P : Slot 2 = RefOf (0 ∷ []) tt (plain (λ _. param 0 A)) (λ _. tt) in
    let hs : Stays T.signature.params T.kept = (stay_dropped P yes, tt) in
    proved 𝓛 T hs c 𝓜 𝓡 (Goes-dropped 𝓛 2 P yes (λ κs x f. refl), tt) (f.Key.name inst) fn (code.unfolded 𝓤 𝓛.H 𝓜 𝓡 wired (A, tt) d)
    (λ κs. (shr_vals, tt)) (λ κs. (shr_Tells (named 0) κs.0 (param 0 A), tt)) (λ κs qs bounds a gh are.
    let told : List ℕ = known_or_none (g.contents a.0.now) in let made : History = record { marker = record {}; bytes = told } in
    let y : (walk_of 𝓛 T hs c).Ghost = ((κs, qs, bounds, a, (vptr a.0.ref_ptr.0 a.0.ref_ptr.1 ∷ [], tt)), gh) in
    qed 𝓛 (((‵ (flft κs.0 qs.0) ⊛ ‵ (fsep (flft κs.1.0 qs.1.0) ftrue)) ⊛ ‵ (owns (types_at T.signature.params κs) a y.0.4)) ∷ raw (fact 𝓤 _) ∷ ‵ ftrue ∷ []) ∵
    keep ! (0 ∷ []) $ split ! $ split ! $ move ! (2 ∷ []) $ fsplit ! $ fsplit ! $ keep ! (1 ∷ 3 ∷ 4 ∷ []) $
    enter ! _ _ fn (vptr a.0.ref_ptr.0 a.0.ref_ptr.1 ∷ []) _ $ alloc_all ! (λ l. pass_all ! refl ((tt, tt), tt) $
    sets ! (agg ! (no_more !)) refl (tt, tt) $ sets ! (agg ! (and_then ! (get ! refl) (no_more !))) refl (tt, (tt, tt)) $
    pure_i ! (R.own_val made (held ∷ [])) ((λ vss. (tt, ((λ uss. (tt, tt)), tt))), tt)
    (((vstruct vnil ∷ [], tt), (refl, ((tt, (refl, tt)), tt))), tt) $
    nothing ! $ nothing ! $ fjoin ! $ move ! (3 ∷ 4 ∷ []) $ join ! $ use0 𝓛 (raw (fact 𝓤 (told ≡ told))) (fact_i 𝓤 (told ≡ told) (emp 𝓤) refl) $
    returns ! (look_at ! 0 refl) $ free_all ! refl $ keep ! (1 ∷ 2 ∷ 3 ∷ 0 ∷ []) $ by ! (leaves 𝓛 T hs c y held made (tt, tt) (tt, tt))))
