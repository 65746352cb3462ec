-- `with_sync` makes a value of no bytes, whose ghost field is the calls with a sync behind them.
use Rattle.std.proofs.Common.{[], ◌∷◌, refl, ◌++◌, w32}
use Rattle.std.proofs.raw_atomic.Walks.{proved}
use mir.Syntax.{named}
use mir.Val.{vstruct, vnil}
use denote.Builtin.{u32}
use denote.Exit.{yes}
use denote.Plain.{uint_vals, uint_Tells}
use denote.Ref.{shr_vals, shr_Tells}
use denote.RattleType.{owns}
use denote.Shadow.{pure_i}
use denote.Signature.{plain, types_at}
use denote.Triple.Entry.{alive}
use denote.Triple.Walked.{says, Stays, walk_of, ends_at, stay_none_ref, Goes-none_ref, stay_none, Goes-none}
use types.ByLocal.{alloc_all, pass_all, free_all, look_at, sets}
use types.Kit.{‵, raw, ◌⊛◌, ◌$◌, ◌∵◌, !, qed, move, drop, split, suffices, done}
use types.Part.{agg}
use types.Run.{enter, returns, no_more}
use Rattle.repl_disk.specs.Mem.{Synced}
use Rattle.repl_disk.specs.contracts.log.Calls as log
use Rattle.repl_disk.specs.contracts.log.Calls.with_sync as f
use Rattle.repl_disk.proofs.log.Calls.with_sync.Statement.{statement}
use Rattle.repl_disk.proofs.log.Calls.with_sync.Code as code

abbrev stayed : Stays f.ended.signature.params f.ended.kept
stayed = (stay_none_ref (0 ∷ []) tt (plain (λ _. log.the_row)) yes, (stay_none (λ _. u32) yes, tt))

pub with_sync_spec : {M : Type 1} → statement M
with_sync_spec 𝓤 𝓛 𝓜 𝓡 wired =
    let c = f.clauses 𝓛 𝓜.mem 𝓡.returns in let W = walk_of 𝓛 f.ended stayed c in
    proved 𝓛 f.ended stayed c 𝓜 𝓡 (Goes-none_ref 𝓛 1 (0 ∷ []) tt (plain (λ _. log.the_row)) yes, (Goes-none 𝓛 1 (λ _. u32) yes (λ κs x w. refl), tt)) f.Key.name code.function (code.unfolded 𝓤 𝓛.H 𝓜 𝓡 wired)
    (λ κs. (shr_vals, (uint_vals w32, tt))) (λ κs. (shr_Tells (named 0) κs.0 log.the_row, (uint_Tells w32, tt))) (λ κs qs bounds a g are.
    let y : W.Ghost = ((κs, qs, bounds, a, (shr_vals a.0, (uint_vals w32 a.1.0, tt))), g) in
    let made : log.the_row.Denot = record { items = a.0.now.items ++ Synced a.1.0 ∷ [] } in
    qed 𝓛 ((raw (alive 𝓛 f.signature κs qs) ⊛ ‵ (owns (types_at f.signature.params κs) a y.0.4)) ∷ raw ((c κs a).requires g) ∷ []) ∵ move ! (1 ∷ []) $ drop ! $ split ! $
    enter ! _ _ _ _ _ $ alloc_all ! (λ l. pass_all ! refl ((tt, tt), ((tt, record { fits = are.1.0.1 }), tt)) $ sets ! (agg ! (no_more !)) refl (tt, tt) $
    returns ! (look_at ! 0 refl) $ free_all ! refl $
    suffices ! _ (ends_at 𝓛 f.ended stayed c y (vstruct vnil) made (tt, (tt, tt)) (tt, (tt, tt))) $ says ! refl $
    pure_i ! (log.the_row.own_val made (vstruct vnil ∷ [])) ((λ vss. (tt, tt)), tt) ((tt, (refl, tt)), tt) $
    move ! (1 ∷ 2 ∷ 0 ∷ []) $ done !))
