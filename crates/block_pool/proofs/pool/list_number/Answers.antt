use Rattle.std.proofs.Common.{◌≡◌, true, false, sym, ◌∙◌, ap}
use Rattle.std.specs.Prelude.{Result, Ok, Err, is_ok, if◌then◌else◌}
use Rattle.std.specs.List.{insert}
use Rattle.block_pool.proofs.Numbers.{listed_at, found_set}
use Rattle.block_pool.proofs.pool.list_number.Goals as goal

-- what was done without an error
done : {T E A : Type 0} (r : Result T E) (x y z : A) → x ≡ (if is_ok r then y else z) → is_ok r ≡ true → x ≡ y
done (Ok t) x y z is ok = is
done (Err e) x y z is ok = cc

pub returns-else-is_err-clause-listed : goal.returns-else-is_err-clause-listed
returns-else-is_err-clause-listed c marks are low known =
    done c.insert.result c.insert.new.self.items _ _ c.insert.ensures.items c.if-is_err.ensures.negation
    ∙ ap (λ ns. insert ns c.in-Err.place c.args.number) (sym c.deref.ensures.value)
    ∙ listed_at c.deref.result.now marks c.args.number c.in-Err.place (c.deref.ensures.value ∙ are) low c.in-Err.ensures.position

pub returns-in_default-clause-listed : goal.returns-in_default-clause-listed
returns-in_default-clause-listed c marks are low known =
    let is : true ≡ false = sym (found_set c.deref.result.now marks c.args.number c.in_default.field-0 (c.deref.ensures.value ∙ are) c.in_default.ensures.position) ∙ known ∙ c.if-dirty.false in
    cc
