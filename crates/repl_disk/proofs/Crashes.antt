-- What a crash makes of the table.
use Rattle.std.proofs.Common.{◌≡◌, ℕ, suc, ◌+◌, ◌≤◌, ◌<◌, List, [], ◌∷◌, length, get_or, set, refl, sym, ◌∙◌, ap, subst, arith, inl, inr}
use Rattle.std.proofs.lemmas.Bool.{cases_eq}
use Rattle.std.proofs.lemmas.List.{get_or_default, get_or-set_same, get_or-set_other, length-set}
use Rattle.repl_disk.specs.Mem.{Room, settled, IsImageOf}
use Rattle.repl_disk.specs.Table.{mem_of, room_of, Entry, entry_of, nothing, entry_in, IsCrashed, IsKept, AreKept, all_calls, all_bytes}
use Rattle.repl_disk.specs.declared.file.MemFile.{MemFile}
use Rattle.repl_disk.proofs.Tables.{cond_yes, cond_no, calls_set, bytes_set, numbers_set, kept_set}

-- the files before this place were made an image, and the others are as they were
pub record Turned (old now : List MemFile) (i : ℕ) : Type 0 where
  pub long : length now ≡ length old
  pub kept : AreKept now
  pub calls : all_calls now ≡ all_calls old
  pub bytes : all_bytes now ≡ all_bytes old
  pub numbers : (k : ℕ) (d : MemFile) → (get_or now k d).number ≡ (get_or old k d).number
  pub done : (k : ℕ) (d : MemFile) → k < i → IsCrashed (entry_of (get_or old k d)) (entry_of (get_or now k d))
  pub rest : (k : ℕ) (d : MemFile) → i ≤ k → get_or now k d ≡ get_or old k d

pub turned_none : (files : List MemFile) → AreKept files → Turned files files 0
turned_none files kept = record {
  long = refl;
  kept = kept;
  calls = refl;
  bytes = refl;
  numbers = λ k d. refl;
  done = λ k d lt. absurd (omega (arith, lt));
  rest = λ k d le. refl;
}

pub crashed_file : (d m : MemFile) → IsImageOf (mem_of d) m.read.items → mem_of m ≡ settled m.read.items → m.left.items ≡ m.read.items → room_of m ≡ room_of d → m.syncs ≡ d.syncs → IsCrashed (entry_of d) (entry_of m)
crashed_file d m image mem left room syncs = record {
  image = subst (IsImageOf (mem_of d)) (sym left) image;
  mem = mem ∙ ap settled (sym left);
  room = room;
  syncs = syncs;
}

module _ (old now : List MemFile) (i : ℕ) (d m : MemFile) (turned : Turned old now i) (inside : i < length now) (read : d ≡ get_or now i d) (number : m.number ≡ d.number) (room : room_of m ≡ room_of d) (crashed : IsCrashed (entry_of d) (entry_of m)) where
  here_now : (e : MemFile) → get_or (set now i m) i e ≡ m
  here_now e = get_or-set_same now i m e inside

  here_old : (e : MemFile) → get_or old i e ≡ d
  here_old e = sym (turned.rest i e (omega arith)) ∙ get_or_default now i e d inside ∙ sym read

  numbers_next : (k : ℕ) (e : MemFile) → (get_or (set now i m) k e).number ≡ (get_or old k e).number
  numbers_next k e = numbers_set now i d m inside read number k e ∙ turned.numbers k e

  done_next : (k : ℕ) (e : MemFile) → k < i + 1 → IsCrashed (entry_of (get_or old k e)) (entry_of (get_or (set now i m) k e))
  done_next k e lt = elim (cases_eq k i) [
    | inl same ↦
        subst (λ (j : ℕ). IsCrashed (entry_of (get_or old j e)) (entry_of (get_or (set now i m) j e))) (sym same)
        (subst (λ (x : MemFile). IsCrashed (entry_of (get_or old i e)) (entry_of x)) (sym (here_now e)) (subst (λ (x : MemFile). IsCrashed (entry_of x) (entry_of m)) (sym (here_old e)) crashed))
    | inr other ↦ subst (λ (x : MemFile). IsCrashed (entry_of (get_or old k e)) (entry_of x)) (sym (get_or-set_other now i k m e other)) (turned.done k e (omega (arith, lt, other)))
  ]

  pub turned_next : IsKept m → Turned old (set now i m) (i + 1)
  turned_next is =
      let calls_same = ap (λ (x : MemFile). x.calls_left) read in
      let bytes_same = ap (λ (x : MemFile). x.bytes_left) read in
      record {
        long = length-set now i m ∙ turned.long;
        kept = kept_set now i d m inside read number turned.kept is;
        calls = omega (arith, calls_set now i d m inside, calls_same, ap (λ (r : Room). r.calls) room, turned.calls);
        bytes = omega (arith, bytes_set now i d m inside, bytes_same, ap (λ (r : Room). r.bytes) room, turned.bytes);
        numbers = numbers_next;
        done = done_next;
        rest = λ k e le. get_or-set_other now i k m e (λ same. absurd (omega (arith, le, same))) ∙ turned.rest k e (omega (arith, le));
      }

nothing_crashed : IsCrashed nothing nothing
nothing_crashed = record { image = record { no_shorter = omega arith; no_longer = omega arith; same = λ i lt free. refl }; mem = refl; room = refl; syncs = refl }

all_crashed : (old now : List MemFile) → length now ≡ length old → ((k : ℕ) (d : MemFile) → (get_or now k d).number ≡ (get_or old k d).number) → ((k : ℕ) (d : MemFile) → k < length old → IsCrashed (entry_of (get_or old k d)) (entry_of (get_or now k d)))
    → (f : ℕ) → IsCrashed (entry_in old f) (entry_in now f)
all_crashed [] [] long numbers done f = nothing_crashed
all_crashed [] (n ∷ now) long numbers done f = absurd (omega (arith, long))
all_crashed (o ∷ old) [] long numbers done f = absurd (omega (arith, long))
all_crashed (o ∷ old) (n ∷ now) long numbers done f =
    let more = all_crashed old now (omega (arith, long)) (λ k d. numbers (suc k) d) (λ k d lt. done (suc k) d (omega (arith, lt))) f in
    elim (cases_eq f o.number) [
      | inl here ↦
          subst (λ (x : Entry). IsCrashed x (entry_in (n ∷ now) f)) (sym (cond_yes f o.number (entry_of o) (entry_in old f) here))
          (subst (λ (x : Entry). IsCrashed (entry_of o) x) (sym (cond_yes f n.number (entry_of n) (entry_in now f) (here ∙ sym (numbers 0 o)))) (done 0 o (omega arith)))
      | inr other ↦
          subst (λ (x : Entry). IsCrashed x (entry_in (n ∷ now) f)) (sym (cond_no f o.number (entry_of o) (entry_in old f) other))
          (subst (λ (x : Entry). IsCrashed (entry_in old f) x) (sym (cond_no f n.number (entry_of n) (entry_in now f) (λ e. other (e ∙ numbers 0 o)))) more)
    ]

pub turned_all : (old now : List MemFile) (i : ℕ) → Turned old now i → length old ≤ i → (f : ℕ) → IsCrashed (entry_in old f) (entry_in now f)
turned_all old now i turned all f = all_crashed old now turned.long turned.numbers (λ k d lt. turned.done k d (omega (arith, lt, all))) f
