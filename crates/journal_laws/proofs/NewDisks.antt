-- Disks before any entry.
use Rattle.std.proofs.Common.{◌≡◌, ◌≢◌, inr, ℕ, zero, suc, ◌==◌, nat_lt, Bool, true, false, List, [], ◌∷◌, length, map, replicate, Option, Some, None, unwrap_or, refl, sym, ◌∙◌, ap, arith, if◌then◌else◌}
use Rattle.std.proofs.lemmas.Bool.Decides.{nat_tests}
use Rattle.std.proofs.lemmas.List.{length-replicate}
use Rattle.std.specs.FinMap as globals
use Rattle.disk_defs.specs.Disk.{Files}
use Rattle.disk_defs.specs.Gates.{Body, records}
use Rattle.global_defs.specs.Key.{Key, key_cmp}
use Rattle.global_defs.specs.Encoded.{encoded}
use Rattle.global_defs.proofs.Order.{key_total, key_same}
use Rattle.global_defs.specs.Entry.{Globals}
use Rattle.global_defs.specs.Rising.{SerialsRise}
use Rattle.global_defs.specs.Region.{Region}
use Rattle.journal_defs.specs.Numbers.{INSTANCE, journal_file, lost_file, broken_file, database_file}
use Rattle.journal_defs.specs.Instance.{InstanceRecord, Create, IsInstanceBody}
use Rattle.journal_defs.specs.Directory.{patterns, region_of}
use Rattle.journal_defs.specs.Sequence.{Records}
use Rattle.journal_defs.specs.Epochs.{Blocks, beginning, image_state, block_of}
use Rattle.journal_defs.specs.Leaves.{cells_of}
use Rattle.journal_defs.specs.Sound.{AreWhole, Restores, region_state}
use Rattle.journal_defs.specs.Fit.{HasFewNodes, IsFitImage}

-- no record but those of the instance file
abbrev without_journals : List InstanceRecord → Records
without_journals instance = record { instance = instance; journal = λ r. [] }

pub few_nodes : HasFewNodes []
few_nodes zero = let none = globals.len-empty key_cmp (List ℕ) in omega (arith, none)
few_nodes (suc k) = let none = globals.len-empty key_cmp (List ℕ) in omega (arith, none)

serials : SerialsRise []
serials i j d e low first second stamps updaters = let none : None ≡ Some d = first in cc

pub empty_is_fit : (files : Files) → ((f : ℕ) → files f ≡ []) → IsFitImage files (without_journals []) []
empty_is_fit files none = record {
  image = record {
    held = record {
      instance = record { bodies = ([], ap records (none INSTANCE), tt); create = tt; cuts = tt; reigns = tt };
      journals = λ r low. absurd (omega arith);
      no_more = λ r past. refl;
    };
    sequence = record { each = tt; ended = refl };
    clean = record {
      journals = λ g r undrawn low. absurd (omega arith);
      lost = λ g undrawn. none (lost_file g);
      first_broken = λ g undrawn first. (let no_byte : length (files (broken_file g)) ≡ 0 = ap length (none (broken_file g)) in omega (arith, no_byte));
      later_broken = λ g undrawn later. none (broken_file g);
    };
    sound = λ t low r here. absurd (omega arith);
    grow = λ r low. absurd (omega arith);
    at_home = λ r low. absurd (omega arith);
    few_nodes = few_nodes;
  };
  serials = serials;
  few_reigns = omega arith;
}

-- the region's part of an empty state
abbrev none_at_all : Globals
none_at_all = globals.empty

nothing_kept : (keep : Key → Bool) → globals.retain_keys globals.empty keep ≡ none_at_all
nothing_kept keep = globals.same_map key_total key_same (globals.retain_keys globals.empty keep) none_at_all same
  where
    same : (k : Key) → globals.get (globals.retain_keys none_at_all keep) k ≡ globals.get none_at_all k
    same k =
        globals.get-retain_keys none_at_all keep k (λ x e. ap keep (sym (key_same k x e)))
        ∙ elim (keep k) as (λ b. (if b then globals.get none_at_all k else None) ≡ globals.get none_at_all k) [ true ↦ refl | false ↦ sym (globals.get-empty key_cmp k) ]

pub no_elements : {X : Type 0} (xs : List X) → length xs ≡ 0 → [] ≡ xs
no_elements [] none = refl
no_elements (x ∷ xs) none = absurd (omega arith)

pub no_cells : (g : Globals) → globals.len g ≡ 0 → [] ≡ cells_of g
no_cells g none = ap (λ (es : List (Key × List ℕ)). map (λ e. (encoded e.0, e.1)) es) (no_elements (globals.entries g) (sym (globals.len-entries g) ∙ none))

-- block 0 alone, and it's whole
one_block : (blocks : Blocks) → AreWhole (image_state (beginning []) blocks)
one_block blocks zero bytes is = ap length (ap (λ (o : Option (List ℕ)). unwrap_or o bytes) (sym is)) ∙ length-replicate {A = ℕ} 4096 0
one_block blocks (suc b) bytes is =
    let past : nat_lt (suc b) 0 ≡ false = grind (arith, nat_tests) in
    let other : (suc b == 0) ≡ false = grind (arith, nat_tests) in
    let none : image_state (beginning []) blocks (suc b) ≡ None =
    ap (λ (x : Bool). if x then Some (blocks (suc b)) else if suc b == 0 then Some (replicate 4096 0) else None) past
    ∙ ap (λ (x : Bool). if x then Some (replicate 4096 0) else None) other in
    let gone : None ≡ Some bytes = sym none ∙ is in
    cc

empty_leaf : (blocks : Blocks) (g : Globals) → globals.len g ≡ 0 → Restores (image_state (beginning []) blocks) g
empty_leaf blocks g none = (
  one_block blocks,
  (
    record { next = 0; cells = [] } ∷ [],
    ((replicate 4096 0, refl, record { form = record { next = omega arith; fits = omega arith; cells = tt; rising = tt }; spelled = refl }), refl),
    tt,
    no_cells g none,
  ),
)

pub created_is_fit : (files : Files) (name : List ℕ) (named : List Region) (body : Body) → IsInstanceBody body (Create name named)
    → records (files INSTANCE) ≡ Some (body ∷ []) → ((f : ℕ) → f ≢ INSTANCE → files f ≡ [])
    → IsFitImage files (without_journals (Create name named ∷ [])) []
created_is_fit files name named body spelled is none = record {
  image = record {
    held = record {
      instance = record { bodies = (body ∷ [], is, (spelled, tt)); create = tt; cuts = tt; reigns = tt };
      journals = λ r low. (0, (refl, refl));
      no_more = λ r past. refl;
    };
    sequence = record { each = tt; ended = refl };
    clean = record {
      journals = λ g r undrawn low. ap records (none (journal_file g r) (λ e. omega arith));
      lost = λ g undrawn. none (lost_file g) (λ e. omega arith);
      first_broken = λ g undrawn first. (let no_byte : length (files (broken_file g)) ≡ 0 = ap length (none (broken_file g) (λ e. omega arith)) in omega (arith, no_byte));
      later_broken = λ g undrawn later. none (broken_file g) (λ e. omega arith);
    };
    sound = λ t low r here. inr (empty_leaf (block_of (files (database_file r))) (region_state (patterns (Create name named ∷ [])) r [])
        (ap (λ (g : Globals). globals.len g) (nothing_kept (λ k. region_of (patterns (Create name named ∷ [])) k.name == r)) ∙ globals.len-empty key_cmp (List ℕ)));
    grow = λ r low t u le high. inr (omega arith);
    at_home = λ r low. tt;
    few_nodes = few_nodes;
  };
  serials = serials;
  few_reigns = omega arith;
}
