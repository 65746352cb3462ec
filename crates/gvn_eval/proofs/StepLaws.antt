-- Steps of a job.
use Rattle.std.proofs.Common.{◌≡◌, ℕ, ◌+◌, ◌<◌, ◌≤◌, ◌+ℤ◌, ℤ, Bool, true, false, length, drop, get_or, Option, Some, None, if◌then◌else◌, refl, sym, ap, subst, ◌∙◌}
use Rattle.std.proofs.lemmas.List.{at_drop_more, at_drop_all}
use Rattle.std.specs.declared.result.Result.{Result}
use Rattle.global_defs.specs.Key.{Key}
use Rattle.global_defs.specs.Numeral.{is_counted}
use Rattle.global_defs.specs.Jobs.{Statement, Job, Cause, NotNum}
use Rattle.global_defs.specs.Evaluation.{Progress, Goes, Stops, Evaluated, Done, RolledBack, incrementing, incremented, stepping, going}
use Rattle.gvn_eval.specs.declared.progress.Stop.{Stop}
use Rattle.gvn_eval.specs.Steps.{Leads}

sum_is : (v : Bool) (x s : ℤ) → Some s ≡ (if v then Some x else None) → s ≡ x
sum_is true x s e = cc
sum_is false x s e = absurd (cc)

-- an operand that counts and a sum that counts: the sum is what the node is incremented to
pub added : (p here : Progress) (key : Key) (n old s n' old' s' : ℤ) (counts : Option ℤ) (result : Result (Unit {0}) Stop) → n' ≡ n → old' ≡ old → s' ≡ s → true ≡ is_counted n'
    → Some old ≡ counts → Some s ≡ (if is_counted (old' +ℤ n') then Some (old' +ℤ n') else None) → Leads (incrementing p key s') here result → Leads (incremented p key n counts) here result
added p here key n old s n' old' s' counts result en eo es fits is so leads =
    let e : s' ≡ old +ℤ n = es ∙ sum_is (is_counted (old' +ℤ n')) (old' +ℤ n') s so ∙ (λ i. eo i +ℤ en i) in
    let counts_n : true ≡ is_counted n = fits ∙ ap is_counted en in
    subst (λ o. Leads (incremented p key n o) here result) is
    (subst (λ b. Leads (if b then incrementing p key (old +ℤ n) else Stops NotNum) here result) counts_n
    (subst (λ z. Leads (incrementing p key z) here result) e leads))

-- an operand that doesn't count has a cause, whatever the node holds
pub uncounted : (p : Progress) (key : Key) (n : ℤ) (counts : Option ℤ) → is_counted n ≡ false → incremented p key n counts ≡ Stops NotNum
uncounted p key n None e = refl
uncounted p key n (Some old) e = ap (λ b. if b then incrementing p key (old +ℤ n) else Stops NotNum) e

-- the statement at a place is the next one
stepped : (p : Progress) (job : Job) (i : ℕ) (s : Statement) → i < length job → get_or job i s ≡ s → going (Goes p) (drop i job) ≡ going (stepping p s) (drop (i + 1) job)
stepped p job i s below at = at_drop_more (going (Goes p)) job i s below ∙ ap (λ t. going (stepping p t) (drop (i + 1) job)) at

pub goes_on : (p here : Progress) (job : Job) (i : ℕ) (s : Statement) (whole : Evaluated) → i < length job → get_or job i s ≡ s → going (Goes p) (drop i job) ≡ whole
    → stepping p s ≡ Goes here → going (Goes here) (drop (i + 1) job) ≡ whole
goes_on p here job i s whole below at so leads = sym (stepped p job i s below at ∙ ap (λ o. going o (drop (i + 1) job)) leads) ∙ so

pub stops_at : (p : Progress) (job : Job) (i : ℕ) (s : Statement) (cause : Cause) (whole : Evaluated) → i < length job → get_or job i s ≡ s → going (Goes p) (drop i job) ≡ whole
    → stepping p s ≡ Stops cause → RolledBack cause ≡ whole
stops_at p job i s cause whole below at so leads = sym (stepped p job i s below at ∙ ap (λ o. going o (drop (i + 1) job)) leads) ∙ so

pub is_done : (p : Progress) (job : Job) (i : ℕ) (whole : Evaluated) → length job ≤ i → going (Goes p) (drop i job) ≡ whole → Done p.updates p.answers ≡ whole
is_done p job i whole all so = sym (at_drop_all (going (Goes p)) job i all) ∙ so
