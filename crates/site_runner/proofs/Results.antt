-- Clauses of calls that may fail.
use Rattle.std.proofs.Common.{sym, subst}
use Rattle.std.specs.Prelude.{◌≡◌, Result, Ok, Err, OnOk, OnErr, IfOk, IfErr}
use Rattle.site_runner.specs.declared.ending.Ended.{Ended}
use Rattle.site_runner.specs.declared.ending.Ended.TheVariants.{Undone}

pub on_err : {T E : Type 0} (r : Result T E) (P Q : E → Type 0) → IfErr r P → ((e : E) → P e → Q e) → IfErr r Q
on_err (Ok x) P Q h f = h
on_err (Err e) P Q h f = f e h

pub err_holds : {T E : Type 0} (r : Result T E) (P : Type 0) → P → OnErr r P
err_holds (Ok x) P h = tt
err_holds (Err e) P h = h

pub on_err_of : {T E : Type 0} (r : Result T E) (P Q : Type 0) → OnErr r P → (P → Q) → OnErr r Q
on_err_of (Ok x) P Q h f = tt
on_err_of (Err e) P Q h f = f h

pub on_errs : {T E : Type 0} (r : Result T E) (P Q : Type 0) → OnErr r P → (P → Q) → OnErr r Q
on_errs (Ok x) P Q h f = h
on_errs (Err e) P Q h f = f h

pub ok_so : {T E : Type 0} (r : Result T E) (P : Type 0) → P → OnOk r P
ok_so (Ok x) P h = h
ok_so (Err e) P h = tt

-- what holds of a call that succeeded
pub ok_then : {T E : Type 0} (r : Result T E) (x : T) (P : Type 0) → r ≡ Ok x → OnOk r P → P
ok_then {T} {E} r x P is h = subst (λ (y : Result T E). OnOk y P) is h

pub on_any : {T E : Type 0} (r : Result T E) (P : T → Type 0) (Q : Type 0) → IfOk r P → ((x : T) → P x → Q) → OnOk r Q
on_any (Ok x) P Q h f = f x h
on_any (Err e) P Q h f = h

-- a call that answered that a command wasn't done
pub on_refused : {E : Type 0} (r : Result Ended E) (T Q : Type 0) → IfOk r (λ ended. (ended ≡ Undone) × T) → (T → Q) → OnOk r Q
on_refused (Ok ended) T Q h f = f h.1
on_refused (Err e) T Q h f = h

-- a command that ended so once its line was written
pub on_written : {T E F : Type 0} (written : Result T F) (r : Result Ended E) (ended : Ended) (Q : Type 0) (P : Ended → Type 0) → OnOk written Q → OnOk written (r ≡ Ok ended) → OnErr written (IfOk r (λ x. ⊥)) → (Q → P ended) → IfOk r P
on_written (Ok x) r ended Q P q is not f = subst (λ (y : Result Ended _). IfOk y P) (sym is) (f q)
on_written (Err e) r ended Q P q is not f = none r not
  where
    none : {E : Type 0} (r : Result Ended E) → IfOk r (λ x. ⊥) → IfOk r P
    none (Ok x) h = absurd h
    none (Err e) h = tt
