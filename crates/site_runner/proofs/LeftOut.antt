-- A section decides the same where updaters without jobs are left out.
use Rattle.std.proofs.Common.{◌≡◌, ℕ, ◌+◌, ◌-◌, Bool, List, length, take, sym, ap, subst}
use Rattle.disk_defs.specs.Disk.{View, Files}
use Rattle.global_defs.specs.Entry.{Stamp, Sequence}
use Rattle.global_defs.specs.Jobs.{Job}
use Rattle.global_defs.specs.Serial.{Turn, Replied}
use Rattle.repl_script.proofs.LeftOut.{with_more, turn_same}
use Rattle.repl_script.specs.Places.{at_all}
use Rattle.repl_section.specs.Deciding.{HasReached, HasDecided, MayHaveFront, FailsBy, FailsAt, FailsIn, LeftAfter, MayLeave}
use Rattle.site_defs.specs.Contents.{Contents}
use Rattle.site_defs.specs.Behind.{MayStand}
use Rattle.site_defs.specs.Fronts.{IsFrontOf, turn_of}
use Rattle.repl_section.specs.declared.reign.Reign.{Reign}
use Rattle.repl_section.specs.Reigns.{stamp_of}

-- what all jobs come to, but for the jobs that are left
same : (stamp : Stamp) (serials : List ℕ) (jobs : List (List Job)) (picks : List ℕ) (seq : Sequence) → turn_of stamp serials (at_all jobs) picks seq ≡ with_more (64 - length jobs) (turn_of stamp serials jobs picks seq)
same stamp serials jobs picks seq = turn_same stamp serials jobs picks seq

sequence_same : (stamp : Stamp) (serials : List ℕ) (jobs : List (List Job)) (picks : List ℕ) (seq : Sequence) → (turn_of stamp serials jobs picks seq).sequence ≡ (turn_of stamp serials (at_all jobs) picks seq).sequence
sequence_same stamp serials jobs picks seq = sym (ap (λ (t : Turn). t.sequence) (same stamp serials jobs picks seq))

pub all_decided : {D : Type 0} (v : View) (told : Bool) (c : Contents) (jobs : List (List Job)) (picks : List ℕ) (old new : Reign D) (gave : List Replied → Type 0) → HasDecided v told c jobs picks old new gave → HasDecided v told c (at_all jobs) picks old new gave
all_decided v told c jobs picks old new gave d =
    subst (λ (t : Turn). HasReached v told c t new gave) (sym (same (stamp_of old) old.serials jobs picks c.sequence))
    (record { reigns = d.reigns; serials = d.serials; given = d.given; grown = d.grown; printed = d.printed })

pub all_fail_at : (v : View) (stamp : Stamp) (told : Bool) (c : Contents) (jobs : List (List Job)) (order serials : List ℕ) (undecided : ℕ) (gave : List Replied → Type 0) (n : ℕ)
    → FailsAt v stamp told c jobs order serials undecided gave n → FailsAt v stamp told c (at_all jobs) order serials undecided gave n
all_fail_at v stamp told c jobs order serials undecided gave n f =
    subst (λ (t : Turn). FailsBy v told c t (length order) undecided gave) (sym (same stamp serials jobs (take n order) c.sequence))
    (record { hardened = f.hardened; begun = f.begun; at_once = f.at_once; count = f.count; given = f.given; front = f.front })

pub left_same : (stamp : Stamp) (c : Contents) (jobs : List (List Job)) (order serials : List ℕ) (decided : ℕ) (files : Files) → LeftAfter stamp c jobs order serials decided files → LeftAfter stamp c (at_all jobs) order serials decided files
left_same stamp c jobs order serials decided files l = record {
  standing = l.standing;
  may = subst (λ (s : Sequence). MayStand c s (turn_of stamp serials (at_all jobs) (take (decided + 1) order) c.sequence).sequence l.standing) (sequence_same stamp serials jobs (take decided order) c.sequence)
      (subst (λ (s : Sequence). MayStand c (turn_of stamp serials jobs (take decided order) c.sequence).sequence s l.standing) (sequence_same stamp serials jobs (take (decided + 1) order) c.sequence) l.may);
  stands = l.stands;
}

pub all_fail_in : (v : View) (stamp : Stamp) (told : Bool) (c : Contents) (jobs : List (List Job)) (order serials : List ℕ) (undecided : ℕ) (gave : List Replied → Type 0)
    → FailsIn v stamp told c jobs order serials undecided gave → FailsIn v stamp told c (at_all jobs) order serials undecided gave
all_fail_in v stamp told c jobs order serials undecided gave f =
    let is = sym (same stamp serials jobs (take f.decided order) c.sequence) in
    record {
      decided = f.decided;
      inside = f.inside;
      count = subst (λ (t : Turn). undecided + length t.replies ≡ length order) is f.count;
      given = subst (λ (t : Turn). gave t.replies) is f.given;
      front = subst (λ (s : Sequence). MayHaveFront v told c (turn_of stamp serials (at_all jobs) (take (f.decided + 1) order) c.sequence).sequence (length s)) (sequence_same stamp serials jobs (take f.decided order) c.sequence)
          (subst (λ (s : Sequence). MayHaveFront v told c s (length (turn_of stamp serials jobs (take f.decided order) c.sequence).sequence)) (sequence_same stamp serials jobs (take (f.decided + 1) order) c.sequence) f.front);
      left = λ is files i. left_same stamp c jobs order serials f.decided files (f.left is files i);
    }

pub all_may_leave : (v : View) (stamp : Stamp) (told : Bool) (c : Contents) (jobs : List (List Job)) (order serials : List ℕ) → MayLeave v stamp told c jobs order serials → MayLeave v stamp told c (at_all jobs) order serials
all_may_leave v stamp told c jobs order serials m = record {
  told = m.told;
  images = λ is files i. (let o = m.images is files i in
      (o.0, (o.1.0, subst (λ (s : Sequence). IsFrontOf s (length c.sequence) c o.0) (sequence_same stamp serials jobs (take o.1.0 order) c.sequence) o.1.1), o.2));
  left = λ is files i. (let l = m.left is files i in (l.0, left_same stamp c jobs order serials l.0 files l.1));
}
