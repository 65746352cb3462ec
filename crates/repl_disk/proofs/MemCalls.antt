-- The calls of a disk in memory.
use Rattle.std.proofs.Common.{◌≡◌, ℕ, ◌+◌, ◌-◌, ◌≤◌, ◌==◌, Bool, true, false, cond, List, ◌∷◌, ◌++◌, length, take, drop, Some, refl, sym, ◌∙◌, ap, subst, arith, length-append, length-take, inl, inr}
use Rattle.std.proofs.lemmas.Bool.{cases_eq}
use Rattle.std.proofs.lemmas.List.{take_at, drop_at}
use Rattle.disk_defs.specs.Disk.{Files, View, OnFile, Same, Passes, Torn, Reads, written}
use Rattle.repl_disk.specs.Mem.{Call, Wrote, Synced, Mem, Room, States, put, settled, wrote, last, front, replay, RoomGiven, mem_view}
use Rattle.repl_disk.specs.Table.{Entry, entry_in, put_entry, entry_written, entry_synced, lefts}
use Rattle.repl_disk.specs.declared.file.MemFile.{MemFile}
use Rattle.repl_disk.proofs.MemSteps.{written_passes, synced_passes}
use Rattle.repl_disk.proofs.Parts.{length_over, over_front}
use Rattle.repl_disk.proofs.Tables.{cond_yes, cond_no}

-- a call that changed nothing
pub same_passes : (step : Files → Files → Type 0) → ((c : Files) → step c c) → (left : Files) (calls : List Call) (kept : List ℕ) (rooms_old rooms_new : ℕ → Room) (faults_old faults_new : ℕ)
    → Passes step (mem_view left calls kept rooms_old faults_old) (mem_view left calls kept rooms_new faults_new)
same_passes step same left calls kept rooms_old rooms_new faults_old faults_new = record {
  later = omega arith;
  images = λ c now. (c, now, same c);
  nothing_else = λ t c le since. inl since;
  keeps = λ t c le since. since;
  simulated = refl;
}

pub torn_same : (file at n : ℕ) (c : Files) → OnFile file (Torn at n) c c
torn_same file at n c = record { here = record { before = refl; after = refl; no_shorter = omega arith; no_longer = omega arith }; others = λ f ne. refl }

-- the same at fields that are equal
pub passes_at : (step : Files → Files → Type 0) (v : View) (left left2 : Files) (calls calls2 : List Call) (kept kept2 : List ℕ) (rooms : ℕ → Room) (faults : ℕ) → ((f : ℕ) → left2 f ≡ left f) → calls2 ≡ calls → kept2 ≡ kept
    → Passes step v (mem_view left calls kept rooms faults) → Passes step v (mem_view left2 calls2 kept2 rooms faults)
passes_at step v left left2 calls calls2 kept kept2 rooms faults left_is calls_are kept_is passes =
    let lefts_are : left ≡ left2 = λ i. λ f. sym (left_is f) i in
    subst (λ (l : Files). Passes step v (mem_view l calls2 kept2 rooms faults)) lefts_are
    (subst (λ (l : List Call). Passes step v (mem_view left l kept2 rooms faults)) (sym calls_are) (subst (λ (l : List ℕ). Passes step v (mem_view left calls l rooms faults)) (sym kept_is) passes))

put_both : (file : ℕ) (h : Mem → Mem) (a b : States) (f : ℕ) → ((g : ℕ) → a g ≡ b g) → put file (h (a file)) a f ≡ put file (h (b file)) b f
put_both file h a b f same = ap (λ (x : Mem). cond (f == file) (h x) (a f)) (same file) ∙ ap (λ (y : Mem). cond (f == file) (h (b file)) y) (same f)

pub replay_wrote : (left : Files) (calls : List Call) (file at : ℕ) (bytes kept : List ℕ) (f : ℕ) → replay left (Wrote file at (length bytes) ∷ calls) (kept ++ bytes) f ≡ put file (wrote at bytes (replay left calls kept file)) (replay left calls kept) f
replay_wrote left calls file at bytes kept f =
    let n = length bytes in
    let long : length (kept ++ bytes) - n ≡ length kept = omega (arith, length-append kept bytes) in
    let front_is : front n (kept ++ bytes) ≡ kept = ap (λ (k : ℕ). take k (kept ++ bytes)) long ∙ take_at kept bytes (length kept) refl in
    let last_is : last n (kept ++ bytes) ≡ bytes = ap (λ (k : ℕ). drop k (kept ++ bytes)) long ∙ drop_at kept bytes (length kept) refl in
    ap (λ (b : List ℕ). put file (wrote at b (replay left calls (front n (kept ++ bytes)) file)) (replay left calls (front n (kept ++ bytes))) f) last_is
    ∙ ap (λ (l : List ℕ). put file (wrote at bytes (replay left calls l file)) (replay left calls l) f) front_is

-- replays of equal fields are equal
replay_at : (left left2 : Files) (calls calls2 : List Call) (kept kept2 : List ℕ) → ((f : ℕ) → left2 f ≡ left f) → calls2 ≡ calls → kept2 ≡ kept → (f : ℕ) → replay left2 calls2 kept2 f ≡ replay left calls kept f
replay_at left left2 calls calls2 kept kept2 left_is calls_are kept_is f =
    let lefts_are : left2 ≡ left = λ i. λ g. left_is g i in
    ap (λ (l : Files). replay l calls2 kept2 f) lefts_are ∙ ap (λ (l : List Call). replay left l kept2 f) calls_are ∙ ap (λ (l : List ℕ). replay left calls l f) kept_is

mem_put : (b : Bool) (e o : Entry) → (cond b e o).mem ≡ cond b e.mem o.mem
mem_put true e o = refl
mem_put false e o = refl

pub left_put : (file : ℕ) (e : Entry) (old : ℕ → Entry) → e.left ≡ (old file).left → (f : ℕ) → (put_entry file e old f).left ≡ (old f).left
left_put file e old same f = elim (cases_eq f file) [
  | inl here ↦ ap (λ (x : Entry). x.left) (cond_yes f file e (old f) here) ∙ same ∙ ap (λ (g : ℕ). (old g).left) (sym here)
  | inr other ↦ ap (λ (x : Entry). x.left) (cond_no f file e (old f) other)
]

module _ (files files2 : List MemFile) (calls calls2 : List Call) (kept kept2 : List ℕ) where
  -- the table goes on as the calls do
  pub table_wrote : (file at : ℕ) (bytes : List ℕ) → calls2 ≡ Wrote file at (length bytes) ∷ calls → kept2 ≡ kept ++ bytes → ((f : ℕ) → (entry_in files f).mem ≡ replay (lefts files) calls kept f)
      → ((f : ℕ) → entry_in files2 f ≡ put_entry file (entry_written at bytes (entry_in files file)) (entry_in files) f) → (f : ℕ) → (entry_in files2 f).mem ≡ replay (lefts files2) calls2 kept2 f
  table_wrote file at bytes calls_are kept_is was now f =
      let e = entry_written at bytes (entry_in files file) in
      let left_is : (g : ℕ) → lefts files2 g ≡ lefts files g = λ g. ap (λ (x : Entry). x.left) (now g) ∙ left_put file e (entry_in files) refl g in
      ap (λ (x : Entry). x.mem) (now f) ∙ mem_put (f == file) e (entry_in files f)
      ∙ put_both file (wrote at bytes) (λ g. (entry_in files g).mem) (replay (lefts files) calls kept) f was
      ∙ sym (replay_at (lefts files) (lefts files2) (Wrote file at (length bytes) ∷ calls) calls2 (kept ++ bytes) kept2 left_is calls_are kept_is f ∙ replay_wrote (lefts files) calls file at bytes kept f)

  pub table_synced : (file : ℕ) → calls2 ≡ Synced file ∷ calls → kept2 ≡ kept → ((f : ℕ) → (entry_in files f).mem ≡ replay (lefts files) calls kept f)
      → ((f : ℕ) → entry_in files2 f ≡ put_entry file (entry_synced (entry_in files file)) (entry_in files) f) → (f : ℕ) → (entry_in files2 f).mem ≡ replay (lefts files2) calls2 kept2 f
  table_synced file calls_are kept_is was now f =
      let e = entry_synced (entry_in files file) in
      let left_is : (g : ℕ) → lefts files2 g ≡ lefts files g = λ g. ap (λ (x : Entry). x.left) (now g) ∙ left_put file e (entry_in files) refl g in
      ap (λ (x : Entry). x.mem) (now f) ∙ mem_put (f == file) e (entry_in files f)
      ∙ put_both file (λ m. settled m.read) (λ g. (entry_in files g).mem) (replay (lefts files) calls kept) f was
      ∙ sym (replay_at (lefts files) (lefts files2) (Synced file ∷ calls) calls2 kept kept2 left_is calls_are kept_is f)

module _ (left left2 : Files) (calls calls2 : List Call) (kept kept2 : List ℕ) (left_is : (f : ℕ) → left2 f ≡ left f) where
  pub wrote_passes : (file at : ℕ) (bytes : List ℕ) (rooms_old rooms_new : ℕ → Room) (faults_old faults_new : ℕ) → at ≤ length (replay left calls kept file).read → calls2 ≡ Wrote file at (length bytes) ∷ calls → kept2 ≡ kept ++ bytes
      → Passes (OnFile file (Torn at (length bytes))) (mem_view left calls kept rooms_old faults_old) (mem_view left2 calls2 kept2 rooms_new faults_new)
  wrote_passes file at bytes rooms_old rooms_new faults_old faults_new inside calls_are kept_is =
      passes_at (OnFile file (Torn at (length bytes))) (mem_view left calls kept rooms_old faults_old) left left2 (Wrote file at (length bytes) ∷ calls) calls2 (kept ++ bytes) kept2 rooms_new faults_new left_is calls_are kept_is
      (written_passes left calls file at bytes kept rooms_old rooms_new faults_old faults_new inside)

  pub wrote_reads : (file at : ℕ) (bytes : List ℕ) → calls2 ≡ Wrote file at (length bytes) ∷ calls → kept2 ≡ kept ++ bytes
      → OnFile file (λ old new. new ≡ written old at bytes) (λ f. (replay left calls kept f).read) (λ f. (replay left2 calls2 kept2 f).read)
  wrote_reads file at bytes calls_are kept_is =
      let is : (f : ℕ) → replay left2 calls2 kept2 f ≡ put file (wrote at bytes (replay left calls kept file)) (replay left calls kept) f = λ f.
      replay_at left left2 (Wrote file at (length bytes) ∷ calls) calls2 (kept ++ bytes) kept2 left_is calls_are kept_is f ∙ replay_wrote left calls file at bytes kept f in
      record {
        here = ap (λ (m : Mem). m.read) (is file ∙ cond_yes file file (wrote at bytes (replay left calls kept file)) (replay left calls kept file) refl);
        others = λ f ne. ap (λ (m : Mem). m.read) (is f ∙ cond_no f file (wrote at bytes (replay left calls kept file)) (replay left calls kept f) ne);
      }

  pub sync_passes : (file : ℕ) (rooms_old rooms_new : ℕ → Room) (faults_old faults_new : ℕ) → calls2 ≡ Synced file ∷ calls → kept2 ≡ kept → Passes Same (mem_view left calls kept rooms_old faults_old) (mem_view left2 calls2 kept2 rooms_new faults_new)
  sync_passes file rooms_old rooms_new faults_old faults_new calls_are kept_is =
      passes_at Same (mem_view left calls kept rooms_old faults_old) left left2 (Synced file ∷ calls) calls2 kept kept2 rooms_new faults_new left_is calls_are kept_is (synced_passes left calls file kept rooms_old rooms_new faults_old faults_new)

-- a whole write is one that a crash may leave
torn_written : (old new : List ℕ) (at : ℕ) (bytes : List ℕ) → at ≤ length old → new ≡ written old at bytes → Torn at (length bytes) old new
torn_written old new at bytes inside is =
    let n = length bytes in
    let front : length (take at old ++ bytes) ≡ at + n = omega (arith, length-append (take at old) bytes, length-take at old, inside) in
    let long = length_over old bytes at n inside refl in
    record {
      before = ap (take at) is ∙ over_front old bytes at n inside refl at (omega arith);
      after = ap (drop (at + n)) is ∙ drop_at (take at old ++ bytes) (drop (at + n) old) (at + n) front;
      no_shorter = omega (arith, ap length is, long);
      no_longer = omega (arith, ap length is, long);
    }

pub written_content : (file at : ℕ) (bytes : List ℕ) (a b : Files) → at ≤ length (a file) → OnFile file (λ old new. new ≡ written old at bytes) a b → OnFile file (Torn at (length bytes)) a b
written_content file at bytes a b inside wrote = record { here = torn_written (a file) (b file) at bytes inside wrote.here; others = wrote.others }

-- on each file there is at least as much room
abbrev pub HasMore : (ℕ → Room) → (ℕ → Room) → Type 0
HasMore old new = (f : ℕ) → ((old f).calls ≤ (new f).calls) × ((old f).bytes ≤ (new f).bytes)

pub more_same : (old new : ℕ → Room) → ((f : ℕ) → new f ≡ old f) → HasMore old new
more_same old new same f = (omega (arith, ap (λ (r : Room). r.calls) (same f)), omega (arith, ap (λ (r : Room). r.bytes) (same f)))

pub more_given : (old new : ℕ → Room) (file more_calls more_bytes : ℕ) → RoomGiven file more_calls more_bytes old new → HasMore old new
more_given old new file more_calls more_bytes given f = elim (cases_eq f file) [
  | inl here ↦
      let calls : (old file).calls ≤ (new file).calls = omega (arith, given.calls) in
      let bytes : (old file).bytes ≤ (new file).bytes = omega (arith, given.bytes) in
      subst (λ (n : ℕ). ((old n).calls ≤ (new n).calls) × ((old n).bytes ≤ (new n).bytes)) (sym here) (calls, bytes)
  | inr other ↦ (omega (arith, ap (λ (r : Room). r.calls) (given.others f other)), omega (arith, ap (λ (r : Room). r.bytes) (given.others f other)))
]

-- a call that left what files have, and took no room
pub reads_at : (left left2 : Files) (calls calls2 : List Call) (kept kept2 : List ℕ) (rooms rooms2 : ℕ → Room) (faults faults2 : ℕ) → ((f : ℕ) → left2 f ≡ left f) → calls2 ≡ calls → kept2 ≡ kept → HasMore rooms rooms2
    → Reads (mem_view left calls kept rooms faults) (mem_view left2 calls2 kept2 rooms2 faults2)
reads_at left left2 calls calls2 kept kept2 rooms rooms2 faults faults2 left_is calls_are kept_is more = record {
  content = λ i. Some (λ f. (replay_at left left2 calls calls2 kept kept2 left_is calls_are kept_is f i).read);
  passes = passes_at Same (mem_view left calls kept rooms faults) left left2 calls calls2 kept kept2 rooms2 faults2 left_is calls_are kept_is (same_passes Same (λ c. refl) left calls kept rooms rooms2 faults faults2);
  room = λ f calls bytes room. (omega (arith, room.0, (more f).0), omega (arith, room.1, (more f).1));
}
