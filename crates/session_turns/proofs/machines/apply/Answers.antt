use Rattle.std.proofs.Common.{◌≡◌, ◌+◌, ◌≤◌, List, [], ◌∷◌, ◌++◌, length, sym, ap, subst, ◌∙◌, arith, append-nil, length-append}
use Rattle.recv_pool.specs.Pools.{put_in, taken, known}
use Rattle.ship_defs.specs.Arrivals.{Arrival}
use Rattle.session_turns.specs.Following.{Followed, Awaits}
use Rattle.session_turns.proofs.Applied.{applied_all, halted_one}
use Rattle.session_turns.proofs.Progress.{none_left}
use Rattle.session_turns.proofs.machines.apply.Goals as goal

pub returns-in-Ok-clause-applied : goal.returns-in-Ok-clause-applied
returns-in-Ok-clause-applied g c = λ begun w.
    let put = put_in c.args.into.now in
    let before = taken c.show.new.out in
    let after = taken c.apply_next-applied.new.pool in
    let old = g.S.EntrySink.copy c.args.site.now in
    let now = g.S.EntrySink.copy c.apply_next-applied.new.site in
    let waits : Awaits begun put before old = subst (λ (l : List Arrival). Awaits begun put l old) (sym c.show.ensures.taken) w in
    let same : put_in c.beside.new.into ≡ put = c.beside.ensures.put ∙ c.show.ensures.put in
    let all_before : before ++ known c.show.new.out ≡ put = c.show.ensures.all ∙ c.show.ensures.put in
    let all_after : after ++ known c.beside.new.out ≡ put = ap (λ (l : List Arrival). l ++ known c.beside.new.out) (sym c.beside.ensures.taken) ∙ (c.beside.ensures.all ∙ same) in
    let done = applied_all begun put before old now waits (known c.show.new.out) (known c.beside.new.out) after all_before all_after c.in-Ok.field-0 c.in-Ok.ensures.after in
    (c.beside.ensures.taken ∙ (done.0 ∙ sym same), subst (λ (l : List Arrival). Followed begun l now) (sym same) done.1)

pub returns-in-Err-clause-halted : goal.returns-in-Err-clause-halted
returns-in-Err-clause-halted g c = λ begun w.
    let put = put_in c.args.into.now in
    let before = taken c.show.new.out in
    let after = taken c.apply_next-applied.new.pool in
    let old = g.S.EntrySink.copy c.args.site.now in
    let now = g.S.EntrySink.copy c.apply_next-applied.new.site in
    let waits : Awaits begun put before old = subst (λ (l : List Arrival). Awaits begun put l old) (sym c.show.ensures.taken) w in
    let same : put_in c.beside.new.into ≡ put = c.beside.ensures.put ∙ c.show.ensures.put in
    let all_before : before ++ known c.show.new.out ≡ put = c.show.ensures.all ∙ c.show.ensures.put in
    let all_after : after ++ known c.beside.new.out ≡ put = ap (λ (l : List Arrival). l ++ known c.beside.new.out) (sym c.beside.ensures.taken) ∙ (c.beside.ensures.all ∙ same) in
    let done = halted_one begun put before old now waits (known c.show.new.out) (known c.beside.new.out) after all_before all_after c.in-Err.error c.in-Err.ensures.failed in
    (done.0, done.1 ∙ ap (λ (l : List Arrival). l ++ done.0 ∷ []) c.show.ensures.taken, done.2)

pub returns-in-Ok-clause-empty : goal.returns-in-Ok-clause-empty
returns-in-Ok-clause-empty g c = λ places few.
    let put = put_in c.args.into.now in
    let before = taken c.show.new.out in
    let after = taken c.apply_next-applied.new.pool in
    let left = known c.beside.new.out in
    let all_before : before ++ known c.show.new.out ≡ put = c.show.ensures.all ∙ c.show.ensures.put in
    let all_after : after ++ left ≡ put = ap (λ (l : List Arrival). l ++ left) (sym c.beside.ensures.taken) ∙ (c.beside.ensures.all ∙ (c.beside.ensures.put ∙ c.show.ensures.put)) in
    let same : length before ≡ length (taken c.args.out.now) = ap length c.show.ensures.taken in
    let most : length put ≤ length before + 1 = omega (arith, same, few) in
    let none = none_left c.in-Ok.field-0 (known c.show.new.out) before after left put (g.S.EntrySink.copy c.args.site.now) (g.S.EntrySink.copy c.apply_next-applied.new.site) c.in-Ok.ensures.after all_before all_after most in
    let zero : length left ≡ 0 = ap (λ (l : List Arrival). length l) none in
    let places_now = c.beside.ensures.same.0.1 ∙ c.show.ensures.same.0.1 in
    let free = c.beside.ensures.free in
    let is : taken c.beside.new.out ≡ put_in c.beside.new.into = sym (append-nil (taken c.beside.new.out)) ∙ (ap (λ (l : List Arrival). taken c.beside.new.out ++ l) (sym none) ∙ c.beside.ensures.all) in
    record { places = omega (arith, places_now, places); known = omega (arith, places_now, places, free, zero); empty = is }

pub returns-in-Err-clause-nothing : goal.returns-in-Err-clause-nothing
returns-in-Err-clause-nothing g c = λ all.
    let put = put_in c.args.into.now in
    let before = taken c.show.new.out in
    let after = taken c.apply_next-applied.new.pool in
    let left = known c.beside.new.out in
    let all_after : after ++ left ≡ put = ap (λ (l : List Arrival). l ++ left) (sym c.beside.ensures.taken) ∙ (c.beside.ensures.all ∙ (c.beside.ensures.put ∙ c.show.ensures.put)) in
    let failed = c.in-Err.ensures.failed in
    let was : length before ≡ length put = ap length (c.show.ensures.taken ∙ all) in
    let more : length after ≡ length (before ++ failed.0 ∷ []) = ap length failed.1.is in
    let sum : length (after ++ left) ≡ length put = ap length all_after in
    let one = length-append before (failed.0 ∷ []) in
    let parts = length-append after left in
    omega (arith, was, more, sum, one, parts)
