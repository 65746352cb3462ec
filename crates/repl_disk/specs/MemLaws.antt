-- A disk in memory is lawful.
use Rattle.std.proofs.Common.{◌≡◌, ℕ, ◌+◌, ◌≤◌, ◌==◌, true, false, cond, List, [], ◌∷◌, ◌++◌, length, take, drop, replicate, refl, arith, length-append, length-take, length-drop}
use Rattle.std.proofs.lemmas.List.{length-replicate}
use Rattle.disk_defs.specs.Disk.{Files, IsLawful}
use Rattle.repl_disk.specs.Mem.{Call, Wrote, Synced, Mem, Room, States, put, settled, wrote, last, before, after, replay, IsImageOf, mem_view}

-- no file is synced past its end, and each place has its mark
pub record IsWhole (m : Mem) : Type 0 where
  pub ends : length m.synced ≤ length m.read
  pub marks : length m.marks ≡ length m.read

whole_settled : (bytes : List ℕ) → IsWhole (settled bytes)
whole_settled bytes = record { ends = omega arith; marks = length-replicate (length bytes) false }

whole_wrote : (at : ℕ) (bytes : List ℕ) (m : Mem) → IsWhole m → IsWhole (wrote at bytes m)
whole_wrote at bytes m whole =
    let n = length bytes in
    let read = length-append (take at m.read ++ bytes) (drop (at + n) m.read) in
    let read_front = length-append (take at m.read) bytes in
    let ones = replicate n true in
    let marks = length-append (take at m.marks ++ ones) (drop (at + n) m.marks) in
    let marks_front = length-append (take at m.marks) ones in
    record {
      ends = omega (arith, whole.ends, read, read_front, length-take at m.read, length-drop (at + n) m.read);
      marks = omega (arith, whole.marks, read, read_front, marks, marks_front, length-take at m.read, length-drop (at + n) m.read, length-take at m.marks, length-drop (at + n) m.marks, length-replicate n true);
    }

pub at_put : (P : Mem → Type 0) (file : ℕ) (m : Mem) (old : States) (f : ℕ) → P m → P (old f) → P (put file m old f)
at_put P file m old f new kept = elim (f == file) as (λ b. P (cond b m (old f))) [ true ↦ new | false ↦ kept ]

whole_after : (call : Call) (kept : List ℕ) (old : States) (f : ℕ) → ((g : ℕ) → IsWhole (old g)) → IsWhole (after call kept old f)
whole_after (Wrote file at n) kept old f whole = at_put IsWhole file (wrote at (last n kept) (old file)) old f (whole_wrote at (last n kept) (old file) (whole file)) (whole f)
whole_after (Synced file) kept old f whole = at_put IsWhole file (settled (old file).read) old f (whole_settled (old file).read) (whole f)

pub whole_replay : (left : Files) (calls : List Call) (kept : List ℕ) (f : ℕ) → IsWhole (replay left calls kept f)
whole_replay left [] kept f = whole_settled (left f)
whole_replay left (call ∷ calls) kept f = whole_after call kept (replay left calls (before call kept)) f (λ g. whole_replay left calls (before call kept) g)

pub read_image : (m : Mem) → IsWhole m → IsImageOf m m.read
read_image m whole = record { no_shorter = whole.ends; no_longer = omega arith; same = λ i lt free. refl }

pub mem_lawful : (left : Files) (calls : List Call) (kept : List ℕ) (rooms : ℕ → Room) (faults : ℕ) → IsLawful (mem_view left calls kept rooms faults)
mem_lawful left calls kept rooms faults = record {
  told = λ is. refl;
  as_read = (0, omega arith, λ f. read_image (replay left calls kept f) (whole_replay left calls kept f));
  counts_now = λ t c le now. (now.0, omega (arith, le, now.1), now.2);
  no_room = λ file. (omega arith, omega arith);
  less_room = λ file m n k l le lf room. (omega (arith, le, room.0), omega (arith, lf, room.1));
}
