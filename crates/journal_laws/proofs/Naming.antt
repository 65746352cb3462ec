-- Instance files that gain a REIGN, a MAP or a MODE.
use Rattle.std.proofs.Common.{◌≡◌, ◌≢◌, ℕ, ◌≤◌, ◌<◌, Bool, List, [], ◌∷◌, ◌++◌, length, Some, refl, sym, subst, arith}
use Rattle.std.specs.List.{AllByRecursion, AllZip}
use Rattle.disk_defs.specs.Disk.{Files}
use Rattle.disk_defs.specs.Gates.{Body, records}
use Rattle.global_defs.specs.Entry.{Reign}
use Rattle.global_defs.specs.Rising.{StartsRise}
use Rattle.global_defs.specs.Region.{Region}
use Rattle.journal_defs.specs.Numbers.{INSTANCE, journal_file}
use Rattle.journal_defs.specs.Instance.{InstanceRecord, Create, Reigned, Cut, Map, Mode, IsInstanceBody, IsNoCreate, IsNoCut, BeginsWithCreate, CutsRise, generation, regions}
use Rattle.journal_defs.specs.Surviving.{reigns}
use Rattle.journal_defs.specs.Growth.{with_record}
use Rattle.journal_defs.specs.Stands.{Holds, IsJournal, AreRecords}
use Rattle.journal_defs.specs.Sequence.{Records}
use Rattle.journal_laws.proofs.Runs.{reigns-more}
use Rattle.journal_laws.proofs.Later.{reigns-same}
use Rattle.journal_laws.proofs.Appending.{zip_append, journal_same}

generation-same : (rs : List InstanceRecord) (x : InstanceRecord) → IsNoCut x → generation (rs ++ x ∷ []) ≡ generation rs
generation-same [] (Create name qs) other = refl
generation-same [] (Reigned r) other = refl
generation-same [] (Cut n g) other = absurd other
generation-same [] (Map region star name) other = refl
generation-same [] (Mode region before) other = refl
generation-same (Cut n h ∷ rs) x other = let rest : generation (rs ++ x ∷ []) ≡ generation rs = generation-same rs x other in omega (arith, rest)
generation-same (Create name qs ∷ rs) x other = generation-same rs x other
generation-same (Reigned r ∷ rs) x other = generation-same rs x other
generation-same (Map region star name ∷ rs) x other = generation-same rs x other
generation-same (Mode region before ∷ rs) x other = generation-same rs x other

cuts_same : (rs : List InstanceRecord) (x : InstanceRecord) (low : ℕ) → IsNoCut x → CutsRise low rs → CutsRise low (rs ++ x ∷ [])
cuts_same [] (Create name qs) low other h = tt
cuts_same [] (Reigned r) low other h = tt
cuts_same [] (Cut n g) low other h = absurd other
cuts_same [] (Map region star name) low other h = tt
cuts_same [] (Mode region before) low other h = tt
cuts_same (Cut n k ∷ rs) x low other h = (h.0, cuts_same rs x k other h.1)
cuts_same (Create name qs ∷ rs) x low other h = cuts_same rs x low other h
cuts_same (Reigned r ∷ rs) x low other h = cuts_same rs x low other h
cuts_same (Map region star name ∷ rs) x low other h = cuts_same rs x low other h
cuts_same (Mode region before ∷ rs) x low other h = cuts_same rs x low other h

no_create : (rs : List InstanceRecord) (x : InstanceRecord) → IsNoCreate x → AllByRecursion IsNoCreate rs → AllByRecursion IsNoCreate (rs ++ x ∷ [])
no_create [] x other h = (other, tt)
no_create (r ∷ rs) x other h = (h.0, no_create rs x other h.1)

create_same : (rs : List InstanceRecord) (x : InstanceRecord) → 1 ≤ length (regions rs) → IsNoCreate x → BeginsWithCreate rs → BeginsWithCreate (rs ++ x ∷ [])
create_same [] x some other h = absurd (omega arith)
create_same (Create name qs ∷ rs) x some other h = no_create rs x other h
create_same (Cut n k ∷ rs) x some other h = absurd h
create_same (Reigned r ∷ rs) x some other h = absurd h
create_same (Map region star name ∷ rs) x some other h = absurd h
create_same (Mode region before ∷ rs) x some other h = absurd h

pub same_regions : (rs : List InstanceRecord) (x : InstanceRecord) → 1 ≤ length (regions rs) → regions (rs ++ x ∷ []) ≡ regions rs
same_regions [] x some = absurd (omega arith)
same_regions (Create name qs ∷ rs) x some = refl
same_regions (Cut n k ∷ rs) x some = absurd (omega arith)
same_regions (Reigned r ∷ rs) x some = absurd (omega arith)
same_regions (Map region star name ∷ rs) x some = absurd (omega arith)
same_regions (Mode region before ∷ rs) x some = absurd (omega arith)

starts_more : (rs : List Reign) (low : ℕ) (x : Reign) → StartsRise low rs → low < x.start → AllByRecursion (λ r. r.start < x.start) rs → StartsRise low (rs ++ x ∷ [])
starts_more [] low x h above all = (above, tt)
starts_more (r ∷ rs) low x h above all = (h.0, starts_more rs r.start x h.1 all.0 all.1)

other : (old new : Files) (s : Records) (x : InstanceRecord) (bodies : List Body) (body : Body)
    → AreRecords old s → 1 ≤ length (regions s.instance) → IsNoCreate x → IsNoCut x → StartsRise 0 (reigns (s.instance ++ x ∷ []))
    → ((f : ℕ) → f ≢ INSTANCE → new f ≡ old f)
    → records (old INSTANCE) ≡ Some bodies → records (new INSTANCE) ≡ Some (bodies ++ body ∷ []) → IsInstanceBody body x
    → AreRecords new (with_record s x)
other old new s x bodies body held some plain uncut rise same old_is new_is spelled = record {
  instance = record {
    bodies = (bodies ++ body ∷ [], new_is, zip_append IsInstanceBody bodies (body ∷ []) s.instance (x ∷ []) (subst (λ (l : List Body). AllZip IsInstanceBody l s.instance) are mine.2) (spelled, tt));
    create = create_same s.instance x some plain held.instance.create;
    cuts = cuts_same s.instance x 0 uncut held.instance.cuts;
    reigns = rise;
  };
  journals = λ r low.
      let here : r < length (regions s.instance) = subst (λ (l : List Region). r < length l) (same_regions s.instance x some) low in
      let theirs = held.journals r here in (
        theirs.0,
        subst (λ (k : ℕ). IsJournal new r k theirs.0 (s.journal r)) (sym (generation-same s.instance x uncut))
            (journal_same old new r (generation s.instance) theirs.0 (s.journal r) (λ h low. same (journal_file h r) (λ e. omega arith)) theirs.1),
      );
  no_more = λ r low. held.no_more r (subst (λ (l : List Region). length l ≤ r) (same_regions s.instance x some) low);
}
  where
    mine : Holds IsInstanceBody (old INSTANCE) s.instance
    mine = held.instance.bodies

    are : mine.0 ≡ bodies
    are = let a : records (old INSTANCE) ≡ Some mine.0 = mine.1 in cc

pub reign : (old new : Files) (s : Records) (r : Reign) (bodies : List Body) (body : Body)
    → AreRecords old s → 1 ≤ length (regions s.instance) → AllByRecursion (λ q. q.start < r.start) (reigns s.instance)
    → ((f : ℕ) → f ≢ INSTANCE → new f ≡ old f)
    → records (old INSTANCE) ≡ Some bodies → records (new INSTANCE) ≡ Some (bodies ++ body ∷ []) → IsInstanceBody body (Reigned r)
    → AreRecords new (with_record s (Reigned r))
reign old new s r bodies body held some later same old_is new_is spelled =
    let starts : 1 ≤ r.start = spelled.form.start.0 in
    other old new s (Reigned r) bodies body held some tt tt
    (subst (StartsRise 0) (sym (reigns-more s.instance r)) (starts_more (reigns s.instance) 0 r held.instance.reigns (omega arith) later)) same old_is new_is spelled

pub map : (old new : Files) (s : Records) (region : ℕ) (star : Bool) (name : List ℕ) (bodies : List Body) (body : Body)
    → AreRecords old s → 1 ≤ length (regions s.instance) → ((f : ℕ) → f ≢ INSTANCE → new f ≡ old f)
    → records (old INSTANCE) ≡ Some bodies → records (new INSTANCE) ≡ Some (bodies ++ body ∷ []) → IsInstanceBody body (Map region star name)
    → AreRecords new (with_record s (Map region star name))
map old new s region star name bodies body held some same old_is new_is spelled =
    other old new s (Map region star name) bodies body held some tt tt
    (subst (StartsRise 0) (sym (reigns-same s.instance (Map region star name) (λ n. refl) refl)) held.instance.reigns) same old_is new_is spelled

pub mode : (old new : Files) (s : Records) (region : ℕ) (before : Bool) (bodies : List Body) (body : Body)
    → AreRecords old s → 1 ≤ length (regions s.instance) → ((f : ℕ) → f ≢ INSTANCE → new f ≡ old f)
    → records (old INSTANCE) ≡ Some bodies → records (new INSTANCE) ≡ Some (bodies ++ body ∷ []) → IsInstanceBody body (Mode region before)
    → AreRecords new (with_record s (Mode region before))
mode old new s region before bodies body held some same old_is new_is spelled =
    other old new s (Mode region before) bodies body held some tt tt
    (subst (StartsRise 0) (sym (reigns-same s.instance (Mode region before) (λ n. refl) refl)) held.instance.reigns) same old_is new_is spelled
