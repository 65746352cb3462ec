use Rattle.std.proofs.Common.{length, sym, ◌∙◌}
use Rattle.std.proofs.lemmas.Result.{IfOk-weaker}
use Rattle.gvn_key.proofs.Below.{next_is, none_next, next_child}
use Rattle.gvn_key.proofs.Subscripts.{rest_is}
use Rattle.gvn_key.proofs.key.Key.next_sub.Goals as goal

pub returns-then-starts_with-clause-next : goal.returns-then-starts_with-clause-next
returns-then-starts_with-clause-next c = λ key h e.
    let code = c.args.code.now in
    let own = c.as_encoded-own.result.now in
    IfOk-weaker c.first_sub.result _ _
    (λ sub r. next_is c.args.self.now key c.as_encoded-own.ensures.valid h code own e c.as_encoded-own.ensures.value _ sub (sym c.starts_with.ensures.value ∙ c.if-starts_with.true) (rest_is code (length own)) r)
    c.first_sub.ensures

pub returns-then-starts_with-clause-a_key : goal.returns-then-starts_with-clause-a_key
returns-then-starts_with-clause-a_key c =
    let code = c.args.code.now in
    let own = c.as_encoded-own.result.now in
    let key = c.requires.0 in
    let begins = sym c.starts_with.ensures.value ∙ c.if-starts_with.true in
    IfOk-weaker c.first_sub.result _ _
    (λ sub r. next_child c.args.self.now key c.as_encoded-own.ensures.valid c.requires.1 code own (sym c.requires.2) c.as_encoded-own.ensures.value sub begins
    (next_is c.args.self.now key c.as_encoded-own.ensures.valid c.requires.1 code own (sym c.requires.2) c.as_encoded-own.ensures.value _ sub begins (rest_is code (length own)) r))
    c.first_sub.ensures

pub returns-else-starts_with-clause-next : goal.returns-else-starts_with-clause-next
returns-else-starts_with-clause-next c = λ key h e.
    none_next c.args.self.now key c.as_encoded-own.ensures.valid h c.args.code.now c.as_encoded-own.result.now e c.as_encoded-own.ensures.value (sym c.starts_with.ensures.value ∙ c.if-starts_with.false)
