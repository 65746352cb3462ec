-- Serial runs: among the entries of one stamp each updater's serials go on rising, and its next one is past them.
use Rattle.std.proofs.Common.{◌≡◌, inl, inr, ℕ, zero, suc, ◌+◌, ◌-◌, ◌≤◌, ◌<◌, nat_lt, leb, Bool, true, false, List, [], ◌∷◌, ◌++◌, length, take, set, Option, Some, None, refl, sym, ◌∙◌, ap, subst, arith, if◌then◌else◌}
use Rattle.std.proofs.lemmas.Bool.{and_parts, and_from, leb-true}
use Rattle.std.proofs.lemmas.List.{get_or-set_same}
use Rattle.std.proofs.Math.ListN.{length-set}
use Rattle.std.specs.List.{AllByRecursion, list_all}
use Rattle.global_defs.specs.declared.limits.TheConstants.{MOST_UPDATERS}
use Rattle.global_defs.specs.Entry.{Update, Stamp, Entry, Sequence, state}
use Rattle.global_defs.specs.Evaluation.{Evaluated, Done, RolledBack, eval}
use Rattle.global_defs.specs.Jobs.{Job, Answers, SeqLimit}
use Rattle.global_defs.specs.Serial as serials
use Rattle.global_defs.specs.Serial.{MOST_ENTRIES, Turn, Seq, serial_at, entry_of, replied, decided, picked, serial, next_job}
use Rattle.command_defs.specs.Updaters.{is_updater, UPDATERS}
use Rattle.journal_laws.proofs.FrontFacts as fronts
use Rattle.world_defs.specs.Fit.{IsBeforeNext}
use Rattle.world_laws.proofs.Lists.{all-weaker, all-push, all-get, get-within}
use Rattle.global_defs.proofs.Lists.{get-push}
use Rattle.global_defs.proofs.Lists.{at_least}
use Rattle.global_defs.specs.Rising.{SerialsRise}

-- an entry of the site's own has none but these cycles
abbrev pub IsOf : (name : List ℕ) → (cycles : ℕ) → Entry → Type 0
IsOf name cycles e = e.stamp.root ≡ name → e.stamp.cycle ≤ cycles

-- What a section keeps: of its reign's stamp, the next serials of its updaters, and the entries.
pub record IsGoing (name : List ℕ) (cycles : ℕ) (stamp : Stamp) (next : List ℕ) (seq : Sequence) : Type 0 where
  pub rise : SerialsRise seq
  pub within : AllByRecursion (IsOf name cycles) seq
  pub updaters : length next ≡ 64
  pub before : AllByRecursion (IsBeforeNext stamp next) seq

-- what stands before each updater's next serial still does once an updater took its own
before-risen : (stamp : Stamp) (next : List ℕ) (u : ℕ) (seq : Sequence) → AllByRecursion (IsBeforeNext stamp next) seq
    → AllByRecursion (IsBeforeNext stamp (set next (u - 1) (serial_at next u + 1))) seq
before-risen stamp next u seq h =
    all-weaker (IsBeforeNext stamp next) (IsBeforeNext stamp (set next (u - 1) (serial_at next u + 1)))
    (λ e below same. let more = at_least next (e.transaction.origin.updater - 1) (u - 1) in let low = below same in omega arith) seq h

-- an entry more, whose serial is the updater's next one
rise-more : (stamp : Stamp) (next : List ℕ) (u : ℕ) (updates : List Update) (seq : Sequence) → SerialsRise seq → AllByRecursion (IsBeforeNext stamp next) seq
    → SerialsRise (seq ++ entry_of stamp u (serial_at next u) updates ∷ [])
rise-more stamp next u updates seq rise before i j d e low first second stamps same = elim (get-push seq new i d first) [
  | inl old ↦ elim (get-push seq new j e second) [
    | inl also ↦ rise i j d e low old also stamps same
    | inr last ↦
        let below = all-get (IsBeforeNext stamp next) seq i d before old (stamps ∙ ap (λ (x : Entry). x.stamp) last.1) in
        let updater : d.transaction.origin.updater ≡ u = same ∙ ap (λ (x : Entry). x.transaction.origin.updater) last.1 in
        let own : e.transaction.origin.serial ≡ serial_at next u = ap (λ (x : Entry). x.transaction.origin.serial) last.1 in
        subst (λ (n : ℕ). d.transaction.origin.serial < n) (sym own)
        (subst (λ (v : ℕ). d.transaction.origin.serial < serial_at next v) updater below)
  ]
  | inr last ↦ elim (get-push seq new j e second) [
    | inl also ↦ let within = get-within seq j e also in let here = last.0 in absurd (omega arith)
    | inr both ↦ let here = last.0 in let there = both.0 in absurd (omega arith)
  ]
]
  where
    new : Entry
    new = entry_of stamp u (serial_at next u) updates

going-same : (name : List ℕ) (cycles : ℕ) (stamp : Stamp) (next : List ℕ) (u : ℕ) (seq : Sequence) → IsGoing name cycles stamp next seq
    → IsGoing name cycles stamp (set next (u - 1) (serial_at next u + 1)) seq
going-same name cycles stamp next u seq h = record {
  rise = h.rise;
  within = h.within;
  updaters = length-set next (u - 1) (serial_at next u + 1) ∙ h.updaters;
  before = before-risen stamp next u seq h.before;
}

going-more : (name : List ℕ) (cycles : ℕ) (stamp : Stamp) (next : List ℕ) (u : ℕ) (updates : List Update) (seq : Sequence) → stamp.cycle ≤ cycles → 1 ≤ u → u ≤ MOST_UPDATERS
    → IsGoing name cycles stamp next seq
    → IsGoing name cycles stamp (set next (u - 1) (serial_at next u + 1)) (seq ++ entry_of stamp u (serial_at next u) updates ∷ [])
going-more name cycles stamp next u updates seq within least most h = record {
  rise = rise-more stamp next u updates seq h.rise h.before;
  within = all-push (IsOf name cycles) seq (entry_of stamp u (serial_at next u) updates) h.within (λ own. within);
  updaters = length-set next (u - 1) (serial_at next u + 1) ∙ h.updaters;
  before = all-push (IsBeforeNext stamp (set next (u - 1) (serial_at next u + 1))) seq (entry_of stamp u (serial_at next u) updates)
      (before-risen stamp next u seq h.before)
      (λ same.
      let updaters = h.updaters in
      let there = get_or-set_same next (u - 1) (serial_at next u + 1) 1 (omega arith) in
      omega arith);
}

abbrev GoesOn : List ℕ → ℕ → Stamp → Turn → Type 0
GoesOn name cycles stamp t = IsGoing name cycles stamp t.serials t.sequence

going-appended : (name : List ℕ) (cycles : ℕ) (stamp : Stamp) (t : Turn) (u : ℕ) (updates : List Update) (answers : Answers) (fits : Bool) → stamp.cycle ≤ cycles → 1 ≤ u → u ≤ MOST_UPDATERS
    → GoesOn name cycles stamp t
    → GoesOn name cycles stamp (if fits
    then replied t u (Seq (length t.sequence + 1) answers) (t.sequence ++ entry_of stamp u (serial_at t.serials u) updates ∷ [])
    else replied t u (serials.RolledBack SeqLimit) t.sequence)
going-appended name cycles stamp t u updates answers true within least most h = going-more name cycles stamp t.serials u updates t.sequence within least most h
going-appended name cycles stamp t u updates answers false within least most h = going-same name cycles stamp t.serials u t.sequence h

going-decided : (name : List ℕ) (cycles : ℕ) (stamp : Stamp) (t : Turn) (u : ℕ) (done : Evaluated) → stamp.cycle ≤ cycles → 1 ≤ u → u ≤ MOST_UPDATERS
    → GoesOn name cycles stamp t → GoesOn name cycles stamp (decided stamp t u done)
going-decided name cycles stamp t u (RolledBack cause) within least most h = going-same name cycles stamp t.serials u t.sequence h
going-decided name cycles stamp t u (Done [] answers) within least most h = going-same name cycles stamp t.serials u t.sequence h
going-decided name cycles stamp t u (Done (x ∷ xs) answers) within least most h =
    going-appended name cycles stamp t u (x ∷ xs) answers (nat_lt (length t.sequence) MOST_ENTRIES) within least most h

going-picked : (name : List ℕ) (cycles : ℕ) (stamp : Stamp) (t : Turn) (u : ℕ) (job : Option Job) → stamp.cycle ≤ cycles → 1 ≤ u → u ≤ MOST_UPDATERS
    → GoesOn name cycles stamp t → GoesOn name cycles stamp (picked stamp t u job)
going-picked name cycles stamp t u None within least most h = h
going-picked name cycles stamp t u (Some job) within least most h = going-decided name cycles stamp t u (eval job (state t.sequence)) within least most h

pub going-serial : (name : List ℕ) (cycles : ℕ) (stamp : Stamp) (picks : List ℕ) (t : Turn) → stamp.cycle ≤ cycles → list_all is_updater picks ≡ true
    → GoesOn name cycles stamp t → GoesOn name cycles stamp (serial stamp picks t)
going-serial name cycles stamp [] t within updaters h = h
going-serial name cycles stamp (u ∷ us) t within updaters h =
    let parts = and_parts (is_updater u) (list_all is_updater us) updaters in
    let bounds = and_parts (leb 1 u) (leb u UPDATERS) parts.0 in
    going-serial name cycles stamp us (picked stamp t u (next_job u t.left)) within parts.1
    (going-picked name cycles stamp t u (next_job u t.left) within (leb-true 1 u bounds.0) (leb-true u UPDATERS bounds.1) h)

-- the first few of the picks are updaters too
pub updaters-front : (n : ℕ) (us : List ℕ) → list_all is_updater us ≡ true → list_all is_updater (take n us) ≡ true
updaters-front zero us h = refl
updaters-front (suc n) [] h = refl
updaters-front (suc n) (u ∷ us) h =
    let parts = and_parts (is_updater u) (list_all is_updater us) h in
    and_from (is_updater u) (list_all is_updater (take n us)) parts.0 (updaters-front n us parts.1)

-- a front of what a section appended
pub rise-front : (n : ℕ) (seq : Sequence) → SerialsRise seq → SerialsRise (take n seq)
rise-front n seq h = fronts.serials seq n h
