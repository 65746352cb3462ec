use Rattle.std.proofs.Common.{◌≡◌, sym, ap}
use Rattle.std.specs.Prelude.{Err, IsErrOf}
use Rattle.std.proofs.lemmas.Result.{err_from_is_err_and}
use Rattle.gvt_leaf.specs.Chained.{all_cells}
use Rattle.gvt_leaf.specs.Nodes.{globals_in}
use Rattle.gvt_leaf.specs.declared.error.ChainError.{ChainError}
use Rattle.gvt_leaf.specs.declared.error.ChainError.TheVariants.{Broken}
use Rattle.gvt_leaf.proofs.Backed.{backed}
use Rattle.gvt_leaf.proofs.Decoding.{nothing_decodes}
use Rattle.gvt_leaf.proofs.leaves.Leaves.open.Goals as goal

pub invariant_of-result : goal.invariant_of-result
invariant_of-result c = record { rising = c.in_ok-chain.ensures.rising; forms = c.in_ok-chain.ensures.forms; count = c.in_ok-nodes.ensures }

pub returns-clause-decodes : goal.returns-clause-decodes
returns-clause-decodes c =
    let cells = all_cells c.in_ok-chain.chain.leaves in
    c.in_ok-chain.ensures.decodes (globals_in cells) (sym (backed cells c.in_ok-chain.ensures.forms c.in_ok-chain.ensures.rising.rise).are)

pub returns-clause-keys : goal.returns-clause-keys
returns-clause-keys c = (backed (all_cells c.in_ok-chain.chain.leaves) c.in_ok-chain.ensures.forms c.in_ok-chain.ensures.rising.rise).keys

handed_on : {T U : Type 0} (e x : ChainError) → IsErrOf {T = T} (Err e) x → IsErrOf {T = U} (Err e) x
handed_on e x is = let same : e ≡ x = cc is in ap Err same

pub returns-in_err-chain-clause-none : goal.returns-in_err-chain-clause-none
returns-in_err-chain-clause-none c =
    let p = err_from_is_err_and c.from_residual.result c.from_residual.ensures.1 in
    rw (p.1, p.2) (λ block g is keys d. nothing_decodes c.args.pool block g (c.in_err-chain.ensures.broken block (handed_on c.in_err-chain.field-0.0 (Broken block) is)) keys d)
