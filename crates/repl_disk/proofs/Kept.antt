-- What holds of each file of a memory disk.
use Rattle.std.proofs.Common.{◌≡◌, ℕ, ◌+◌, ◌-◌, ◌≤◌, min, List, [], ◌++◌, length, take, drop, replicate, get_or, Bool, false, true, vec_capacity, sym, ◌∙◌, ap, arith, append_assoc, length-append, length-take, length-drop, get_or-drop, get_or-take, ⊎_elim}
use Rattle.std.proofs.Math.Seq.{take-add}
use Rattle.std.proofs.lemmas.Bool.{cases_lt}
use Rattle.std.proofs.lemmas.List.{length-replicate, take_all, append-nil, get_or_append_left, get_or-append_right}
use Rattle.disk_defs.specs.Disk.{written}
use Rattle.repl_disk.specs.Mem.{Mem, marked, wrote, settled, IsImageOf}
use Rattle.repl_disk.specs.Table.{mem_of, IsKept}
use Rattle.repl_disk.specs.declared.file.MemFile.{MemFile}
use Rattle.repl_disk.proofs.Parts.{over, length_over, over_front, over_behind, replicate_sum}

pub mem_is : {r r2 s s2 : List ℕ} {p p2 : List Bool} → r ≡ r2 → s ≡ s2 → p ≡ p2 → (let a : Mem = record { read = r; synced = s; marks = p } in let b : Mem = record { read = r2; synced = s2; marks = p2 } in a ≡ b)
mem_is a b c = λ i. record { read = a i; synced = b i; marks = c i }

-- What a write does.
pub record Writes (m w : MemFile) (at : ℕ) (bytes : List ℕ) : Type 0 where
  pub inside : at ≤ length m.read.items
  pub read : w.read.items ≡ written m.read.items at bytes
  pub low : w.low ≡ min m.low at
  pub synced : w.synced.items ≡ take (m.low - w.low) (drop w.low m.read.items) ++ m.synced.items
  pub marks : w.marks.items ≡ marked (replicate (m.low - w.low) false ++ m.marks.items) (at - w.low) (length bytes)
  pub bytes_left : w.bytes_left + length bytes ≡ m.bytes_left
  pub for_read : vec_capacity m.read ≤ vec_capacity w.read
  pub for_synced : vec_capacity m.synced ≤ vec_capacity w.synced
  pub for_marks : vec_capacity m.marks ≤ vec_capacity w.marks

module _ (m w : MemFile) (at : ℕ) (bytes : List ℕ) (call : Writes m w at bytes) (kept : IsKept m) where
  abbrev n : ℕ
  n = length bytes

  -- as many marks as there are places, before it marks
  abbrev front : List Bool
  front = replicate (m.low - w.low) false ++ m.marks.items

  front_is : w.low + length front ≡ length m.read.items
  front_is = omega (arith, call.low, kept.marks, length-append (replicate (m.low - w.low) false) m.marks.items, length-replicate (m.low - w.low) false)

  pub kept_written : IsKept w
  kept_written =
      let read_is : length w.read.items ≡ _ = ap length call.read ∙ length_over m.read.items bytes at n call.inside (omega arith) in
      let ones : length (replicate n true) ≡ n = length-replicate n true in
      let in_front : at - w.low ≤ length front = omega (arith, front_is, call.inside) in
      let marks_is : length w.marks.items ≡ _ = ap length call.marks ∙ length_over front (replicate n true) (at - w.low) n in_front ones in
      let between = take (m.low - w.low) (drop w.low m.read.items) in
      let synced_is = ap length call.synced ∙ length-append between m.synced.items in
      record {
        ends = omega (arith, read_is, call.low, kept.ends, synced_is, length-take (m.low - w.low) (drop w.low m.read.items), length-drop w.low m.read.items);
        marks = omega (arith, read_is, call.low, call.inside, front_is, marks_is);
        memory = record {
          for_read = omega (arith, read_is, call.inside, call.bytes_left, call.for_read, kept.memory.for_read);
          for_synced = omega (arith, read_is, call.inside, call.bytes_left, call.for_synced, kept.memory.for_synced);
          for_marks = omega (arith, read_is, call.inside, call.bytes_left, call.for_marks, kept.memory.for_marks);
        };
      }

  same_synced : take w.low w.read.items ++ w.synced.items ≡ take m.low m.read.items ++ m.synced.items
  same_synced =
      let between = take (m.low - w.low) (drop w.low m.read.items) in
      let below : take w.low w.read.items ≡ take w.low m.read.items = ap (take w.low) call.read ∙ over_front m.read.items bytes at n call.inside (omega arith) w.low (omega (arith, call.low)) in
      let low_is : w.low + (m.low - w.low) ≡ m.low = omega (arith, call.low) in
      ap (λ (l : List ℕ). l ++ w.synced.items) below
      ∙ ap (λ (l : List ℕ). take w.low m.read.items ++ l) call.synced
      ∙ sym (append_assoc (take w.low m.read.items) between m.synced.items)
      ∙ ap (λ (l : List ℕ). l ++ m.synced.items) (sym (take-add w.low (m.low - w.low) m.read.items))
      ∙ ap (λ (k : ℕ). take k m.read.items ++ m.synced.items) low_is

  same_marks : replicate w.low false ++ w.marks.items ≡ marked (replicate m.low false ++ m.marks.items) at n
  same_marks =
      let low_is : w.low + (m.low - w.low) ≡ m.low = omega (arith, call.low) in
      let at_is : w.low + (at - w.low) ≡ at = omega (arith, call.low) in
      ap (λ (l : List Bool). replicate w.low false ++ l) call.marks
      ∙ sym (over_behind (replicate w.low false) front (replicate n true) w.low (at - w.low) n (length-replicate w.low false))
      ∙ ap (λ (l : List Bool). over l (w.low + (at - w.low)) n (replicate n true))
      (sym (append_assoc (replicate w.low false) (replicate (m.low - w.low) false) m.marks.items) ∙ ap (λ (l : List Bool). l ++ m.marks.items) (replicate_sum w.low (m.low - w.low) false ∙ ap (λ (k : ℕ). replicate k false) low_is))
      ∙ ap (λ (k : ℕ). marked (replicate m.low false ++ m.marks.items) k n) at_is

  pub mem_written : mem_of w ≡ wrote at bytes (mem_of m)
  mem_written = mem_is call.read same_synced same_marks

-- a file all of which is synced
pub mem_settled : (m : MemFile) → m.low ≡ length m.read.items → m.synced.items ≡ [] → m.marks.items ≡ [] → mem_of m ≡ settled m.read.items
mem_settled m low synced marks =
    mem_is (λ i. m.read.items)
    (ap (λ (l : List ℕ). take m.low m.read.items ++ l) synced ∙ append-nil (take m.low m.read.items) ∙ take_all m.low m.read.items (omega (arith, low)))
    (ap (λ (l : List Bool). replicate m.low false ++ l) marks ∙ append-nil (replicate m.low false) ∙ ap (λ (k : ℕ). replicate k false) low)

-- A crash gave the places from `low` on their bytes, and left no less than was synced.
module _ (m : MemFile) (back c : List ℕ) (kept : IsKept m) (long : length back + m.low ≡ length m.read.items)
    (same : (i : ℕ) → get_or m.marks.items i true ≡ false → get_or back i 0 ≡ get_or (drop m.low m.read.items) i 0) where
  image_byte : (i : ℕ) → get_or (replicate m.low false ++ m.marks.items) i true ≡ false → get_or (take m.low m.read.items ++ back) i 0 ≡ get_or m.read.items i 0
  image_byte i free =
      let front : length (take m.low m.read.items) ≡ m.low = omega (arith, long, length-take m.low m.read.items) in
      ⊎_elim
      (λ below. get_or_append_left (take m.low m.read.items) back 0 i (omega (arith, below, front)) ∙ get_or-take m.low m.read.items i 0 below)
      (λ above.
      let here : get_or m.marks.items (i - m.low) true ≡ false = sym (get_or-append_right (replicate m.low false) m.marks.items m.low i true (length-replicate m.low false) above) ∙ free in
      get_or-append_right (take m.low m.read.items) back m.low i 0 front above ∙ same (i - m.low) here ∙ get_or-drop m.low m.read.items (i - m.low) 0 ∙ ap (λ (k : ℕ). get_or m.read.items k 0) (omega (arith, above)))
      (cases_lt i m.low)

  pub is_image : (k : ℕ) → m.low + length m.synced.items ≤ k → k ≤ length m.read.items → c ≡ take k (take m.low m.read.items ++ back) → IsImageOf (mem_of m) c
  is_image k no_less no_more is =
      let whole : length (take m.low m.read.items ++ back) ≡ length m.read.items = omega (arith, long, length-append (take m.low m.read.items) back, length-take m.low m.read.items) in
      let end : length c ≡ k = omega (arith, ap length is, length-take k (take m.low m.read.items ++ back), whole, no_more) in
      record {
        no_shorter = omega (arith, end, no_less, length-append (take m.low m.read.items) m.synced.items, length-take m.low m.read.items);
        no_longer = omega (arith, end, no_more);
        same = λ i lt free. ap (λ (l : List ℕ). get_or l i 0) is ∙ get_or-take k (take m.low m.read.items ++ back) i 0 (omega (arith, lt, end)) ∙ image_byte i free;
      }
