-- Updates that their statements make, and entries of them, are of their form.
use Rattle.std.proofs.Common.{◌≡◌, ℕ, ◌≤◌, Bool, true, false, cond, List, [], ◌∷◌, length, Option, Some, None, refl, ap, ◌∙◌, nat_lt}
use Rattle.std.specs.List.{AllByRecursion}
use Rattle.std.proofs.lemmas.Bool.{ltb-false}
use Rattle.global_defs.specs.declared.limits.TheConstants.{LONGEST_VALUE, MOST_UPDATES}
use Rattle.global_defs.specs.Key.{Key}
use Rattle.global_defs.specs.Entry.{Update, Set, Kill, ZKill, Entry}
use Rattle.global_defs.specs.Jobs.{Statement}
use Rattle.global_defs.specs.Jobs as jobs
use Rattle.global_defs.specs.Fields.{IsStamp, IsOrigin, IsUpdate}
use Rattle.global_defs.specs.Valid.{is_key}
use Rattle.global_defs.specs.Encoded.{encoded}
use Rattle.gvn_key.specs.Faults.{key_of, parts_fault, length_fault, or_else}
use Rattle.gvn_key.specs.declared.key.KeyError.{KeyError}
use Rattle.gvn_key.specs.declared.key.KeyError.TheVariants.{KeyTooLong}
use Rattle.gvn_key.proofs.NoFault.{no_fault}
use Rattle.script_defs.specs.Parts.{IsNode}
use Rattle.script_defs.specs.Statements.{IsOperand, set, kill, zkill, incr, get, defined, order, check_is, check_at_least, IsStatement}
use Rattle.script_defs.proofs.StatementsWritten.{statement_written}
use Rattle.jnl_extract.specs.Updates.{statement_of}
use Rattle.jnl_extract.specs.Extracts.{IsSpelled, IsEntry}

neither : (a b : Option KeyError) → or_else a b ≡ None → (a ≡ None) × (b ≡ None)
neither None b e = (refl, e)
neither (Some f) b e = cc

not_long : (b : Bool) → cond b (Some KeyTooLong) None ≡ None → b ≡ false
not_long true e = cc
not_long false e = refl

node_key : {t : List ℕ} {key : Key} → IsNode t key → is_key key ≡ true
node_key {t} {key} p =
    let f = neither (parts_fault p.name p.subs) (length_fault (key_of p.name p.subs)) p.no_fault in
    let k : is_key (key_of p.name p.subs) ≡ true = no_fault p.name p.subs f.0 (ltb-false 255 (length (encoded (key_of p.name p.subs))) (not_long (nat_lt 255 (length (encoded (key_of p.name p.subs)))) f.1)) in
    ap is_key p.key_is ∙ k

-- of a statement that makes an update
abbrev IsMade : Statement → Type 0
IsMade (jobs.Set key value) = (is_key key ≡ true) × (length value ≤ LONGEST_VALUE)
IsMade (jobs.Kill key) = is_key key ≡ true
IsMade (jobs.ZKill key) = is_key key ≡ true
IsMade _ = Unit {0}

made : {word text : List ℕ} {s : Statement} → IsOperand word text s → IsMade s
made (set p q few) = (node_key p, few)
made (kill p) = node_key p
made (zkill p) = node_key p
made (incr d n p e) = tt
made (get p) = tt
made (defined p) = tt
made (order p) = tt
made (check_is p q few) = tt
made (check_at_least d p e) = tt

pub update_of_form : (u : Update) → IsSpelled u → IsUpdate u
update_of_form (Set key value) p = made p.operand_is
update_of_form (Kill key) p = made p.operand_is
update_of_form (ZKill key) p = made p.operand_is

updates_of_form : (us : List Update) → AllByRecursion IsSpelled us → AllByRecursion IsUpdate us
updates_of_form [] p = tt
updates_of_form (u ∷ us) p = (update_of_form u p.0, updates_of_form us p.1)

pub entry_of_form : (e : Entry) → IsStamp e.stamp → IsOrigin e.transaction.origin → 1 ≤ length e.transaction.updates → length e.transaction.updates ≤ MOST_UPDATES → AllByRecursion IsSpelled e.transaction.updates → IsEntry e
entry_of_form e s o some few each = record {
  stamp = s;
  transaction = record { origin = o; some = some; few = few; each = updates_of_form e.transaction.updates each };
  each = each;
}

pub spelled_of_form : (u : Update) → IsStatement (statement_of u) → IsSpelled u
spelled_of_form u h = statement_written (statement_of u) h
