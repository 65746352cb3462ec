-- The globals of a region that was opened, and the region's part of the state.
use Rattle.std.proofs.Common.{◌≡◌, ℕ, zero, suc, List, [], ◌∷◌, fold, take, drop, Option, sym, ap, ◌∙◌}
use Rattle.std.specs.List.{AllByRecursion}
use Rattle.global_defs.specs.Entry.{Globals, Sequence, Update, apply}
use Rattle.global_defs.specs.Fields.{IsTransaction}
use Rattle.journal_defs.specs.Directory.{Pattern}
use Rattle.journal_defs.specs.Sound.{Restores, region_state}
use Rattle.block_laws.specs.Nodes.{HaveKeys, updates_of, updates_in}
use Rattle.block_laws.proofs.Chains as chains
use Rattle.block_laws.proofs.Parts as parts
use Rattle.region_store.specs.Region.{IsReplayed}

pub one : (blocks : ℕ → Option (List ℕ)) (us : List Update) (g h : Globals) → IsReplayed blocks us g → HaveKeys h → Restores blocks h → g ≡ fold apply h us
one blocks us g h r keys d = r.made ∙ ap (λ (x : Globals). fold apply x us) (chains.one blocks r.restored h r.keys keys r.restores.1 d.1)

first_all : (n : ℕ) (seq : Sequence) → AllByRecursion (λ e. IsTransaction e.transaction) seq → AllByRecursion (λ e. IsTransaction e.transaction) (take n seq)
first_all zero seq all = tt
first_all (suc n) [] all = tt
first_all (suc n) (e ∷ es) all = (all.0, first_all n es all.1)

pub state : (blocks : ℕ → Option (List ℕ)) (ps : List Pattern) (r n : ℕ) (seq : Sequence) (g : Globals) → AllByRecursion (λ e. IsTransaction e.transaction) seq
    → Restores blocks (region_state ps r (take n seq)) → IsReplayed blocks (updates_in ps r (updates_of (drop n seq))) g → g ≡ region_state ps r seq
state blocks ps r n seq g all d replayed =
    one blocks (updates_in ps r (updates_of (drop n seq))) g (region_state ps r (take n seq)) replayed (parts.keys ps r (take n seq) (first_all n seq all)) d
    ∙ sym (parts.replay ps r n seq)
