-- What picks make of a turn: no entry moves, and each number that a reply tells has its entry.
use Rattle.std.proofs.Common.{◌≡◌, ◌⊎◌, inl, inr, ℕ, zero, suc, ◌+◌, ◌-◌, ◌<◌, nat_lt, Bool, true, false, List, [], ◌∷◌, ◌++◌, length, take, Option, Some, None, slice_get, refl, sym, ◌∙◌, ap, subst, arith, if◌then◌else◌}
use Rattle.global_defs.specs.Entry.{Update, Stamp, Entry, Sequence, state}
use Rattle.global_defs.specs.Evaluation.{Evaluated, Done, RolledBack, eval}
use Rattle.global_defs.specs.Jobs.{Job, Answers, Cause, SeqLimit}
use Rattle.global_defs.specs.Serial as serials
use Rattle.global_defs.specs.Serial.{MOST_ENTRIES, Turn, Reply, Replied, Seq, Read, serial_at, entry_of, replied, decided, picked, serial, next_job, begun}
use Rattle.site_defs.specs.Lists.{Among}
use Rattle.world_laws.specs.Entries.{IsEntryAt, IsReplied}
use Rattle.global_defs.proofs.Lists.{get-append as get-more}

-- elements by their places

get-last : {X : Type 0} (xs : List X) (y : X) → slice_get (xs ++ y ∷ []) (length xs) ≡ Some y
get-last [] y = refl
get-last (x ∷ xs) y = get-last xs y

pub get-front : {X : Type 0} (n : ℕ) (xs : List X) (i : ℕ) (x : X) → i < n → slice_get xs i ≡ Some x → slice_get (take n xs) i ≡ Some x
get-front zero xs i x low is = absurd (omega arith)
get-front (suc n) [] i x low is = is
get-front (suc n) (y ∷ xs) zero x low is = is
get-front (suc n) (y ∷ xs) (suc i) x low is = get-front n xs i x (omega arith) is

among-push : {X : Type 0} (xs : List X) (y x : X) → Among (xs ++ y ∷ []) x → Among xs x ⊎ (x ≡ y)
among-push [] y x (inl e) = inr e
among-push [] y x (inr none) = absurd none
among-push (z ∷ xs) y x (inl e) = inl (inl e)
among-push (z ∷ xs) y x (inr later) = elim (among-push xs y x later) [
  | inl old ↦ inl (inr old)
  | inr last ↦ inr last
]

-- What one turn has, a later one has; and a number that a reply of the later one tells has its entry.
pub record GoesOn (t u : Turn) : Type 0 where
  pub entries : (i : ℕ) (e : Entry) → slice_get t.sequence i ≡ Some e → slice_get u.sequence i ≡ Some e
  pub replies : ((n : ℕ) → IsReplied n t → (e : Entry) × IsEntryAt n e t.sequence) → (n : ℕ) → IsReplied n u → (e : Entry) × IsEntryAt n e u.sequence

goes-same : (t : Turn) → GoesOn t t
goes-same t = record { entries = λ i e is. is; replies = λ h n r. h n r }

goes-through : (t u v : Turn) → GoesOn t u → GoesOn u v → GoesOn t v
goes-through t u v h k = record { entries = λ i e is. k.entries i e (h.entries i e is); replies = λ f. k.replies (h.replies f) }

-- the reply tells no number, or that of an entry
abbrev IsTrueOf : Reply → Sequence → Type 0
IsTrueOf reply seq = (n : ℕ) (answers : Answers) → reply ≡ Seq n answers → (e : Entry) × IsEntryAt n e seq

goes-replied : (t : Turn) (u : ℕ) (reply : Reply) (more : List Entry) → IsTrueOf reply (t.sequence ++ more) → GoesOn t (replied t u reply (t.sequence ++ more))
goes-replied t u reply more true_of = record {
  entries = λ i e is. get-more t.sequence more i e is;
  replies = λ h n r. elim (among-push t.replies (record { updater = u; serial = serial_at t.serials u; reply = reply }) r.reply r.among) [
    | inl old ↦ let there = h n (record { reply = r.reply; answers = r.answers; among = old; is = r.is }) in
        (there.0, record { number = there.1.number; there = get-more t.sequence more (n - 1) there.0 there.1.there })
    | inr last ↦ true_of n r.answers (sym (ap (λ (x : Replied). x.reply) last) ∙ r.is)
  ];
}

-- without an entry
goes-without : (t : Turn) (u : ℕ) (reply : Reply) → ((n : ℕ) (answers : Answers) → reply ≡ Seq n answers → ⊥) → GoesOn t (replied t u reply t.sequence)
goes-without t u reply none = record {
  entries = λ i e is. is;
  replies = λ h n r. elim (among-push t.replies (record { updater = u; serial = serial_at t.serials u; reply = reply }) r.reply r.among) [
    | inl old ↦ h n (record { reply = r.reply; answers = r.answers; among = old; is = r.is })
    | inr last ↦ absurd (none n r.answers (sym (ap (λ (x : Replied). x.reply) last) ∙ r.is))
  ];
}

abbrev number-of : Reply → ℕ
number-of (Seq n answers) = n
number-of (Read answers) = 0
number-of (serials.RolledBack cause) = 0

goes-seq : (t : Turn) (u : ℕ) (e : Entry) (answers : Answers) → GoesOn t (replied t u (Seq (length t.sequence + 1) answers) (t.sequence ++ e ∷ []))
goes-seq t u e answers = goes-replied t u (Seq (length t.sequence + 1) answers) (e ∷ []) (λ n others is.
    let same : length t.sequence + 1 ≡ n = ap number-of is in
    let place : length t.sequence ≡ n - 1 = omega arith in
    (e, record { number = omega arith; there = subst (λ (i : ℕ). slice_get (t.sequence ++ e ∷ []) i ≡ Some e) place (get-last t.sequence e) }))

not_read : (a answers : Answers) (n : ℕ) → Read a ≡ Seq n answers → ⊥
not_read a answers n e = cc

not_rolled_back : (cause : Cause) (answers : Answers) (n : ℕ) → serials.RolledBack cause ≡ Seq n answers → ⊥
not_rolled_back cause answers n e = cc

goes-appended : (stamp : Stamp) (t : Turn) (u : ℕ) (updates : List Update) (answers : Answers) (fits : Bool) → GoesOn t (if fits
    then replied t u (Seq (length t.sequence + 1) answers) (t.sequence ++ entry_of stamp u (serial_at t.serials u) updates ∷ [])
    else replied t u (serials.RolledBack SeqLimit) t.sequence)
goes-appended stamp t u updates answers true = goes-seq t u (entry_of stamp u (serial_at t.serials u) updates) answers
goes-appended stamp t u updates answers false = goes-without t u (serials.RolledBack SeqLimit) (λ n a e. not_rolled_back SeqLimit a n e)

goes-decided : (stamp : Stamp) (t : Turn) (u : ℕ) (done : Evaluated) → GoesOn t (decided stamp t u done)
goes-decided stamp t u (RolledBack cause) = goes-without t u (serials.RolledBack cause) (λ n a e. not_rolled_back cause a n e)
goes-decided stamp t u (Done [] answers) = goes-without t u (Read answers) (λ n a e. not_read answers a n e)
goes-decided stamp t u (Done (x ∷ xs) answers) = goes-appended stamp t u (x ∷ xs) answers (nat_lt (length t.sequence) MOST_ENTRIES)

goes-picked : (stamp : Stamp) (t : Turn) (u : ℕ) (job : Option Job) → GoesOn t (picked stamp t u job)
goes-picked stamp t u None = goes-same t
goes-picked stamp t u (Some job) = goes-decided stamp t u (eval job (state t.sequence))

pub goes-serial : (stamp : Stamp) (picks : List ℕ) (t : Turn) → GoesOn t (serial stamp picks t)
goes-serial stamp [] t = goes-same t
goes-serial stamp (u ∷ us) t =
    let next = picked stamp t u (next_job u t.left) in
    goes-through t next (serial stamp us next) (goes-picked stamp t u (next_job u t.left)) (goes-serial stamp us next)

-- one pick more
pub goes-further : (stamp : Stamp) (k : ℕ) (order : List ℕ) (t : Turn) → GoesOn (serial stamp (take k order) t) (serial stamp (take (suc k) order) t)
goes-further stamp zero [] t = goes-same t
goes-further stamp (suc k) [] t = goes-same t
goes-further stamp zero (u ∷ us) t = goes-picked stamp t u (next_job u t.left)
goes-further stamp (suc k) (u ∷ us) t = goes-further stamp k us (picked stamp t u (next_job u t.left))

-- before the first pick there is no reply
pub begun_replies : (next : List ℕ) (jobs : List (List Job)) (seq : Sequence) (n : ℕ) → IsReplied n (begun next jobs seq) → (e : Entry) × IsEntryAt n e seq
begun_replies next jobs seq n r = absurd r.among
