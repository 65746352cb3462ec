-- What is read from a file of gates.
use Rattle.std.proofs.Common.{◌≡◌, ◌≢◌, ℕ, ◌+◌, ◌-◌, ◌≤◌, ◌<◌, ◌∷◌, [], ◌++◌, List, length, take, drop, get_or, Some, Bool, false, cond, refl, sym, ◌∙◌, ap, arith, length-drop, length-take}
use Rattle.std.proofs.lemmas.Bool.Decides.{nat_tests}
use Rattle.std.proofs.lemmas.List.{drop_more, drop-drop}
use Rattle.std.proofs.lemmas.Nat.{from_be_bytes-to_be_bytes_4}
use Rattle.std.specs.Int.{from_be_bytes, to_be_bytes, w32}
use Rattle.global_defs.specs.declared.limits.TheConstants.{LONGEST_BODY}
use Rattle.disk_defs.specs.Disk.{Files}
use Rattle.disk_defs.specs.Gates.{Body, Open, NoGate, fits, behind_length, behind, gate_of, gate_at, bodies_within, records}
use Rattle.disk_defs.proofs.Texts.{behind_is, fits_is}
use Rattle.gated_file.specs.Reading.{Finds, HasBody}
use Rattle.disk_defs.proofs.Walks.{gate_in as at_long}

pub records_in : (file : List ℕ) → 2 ≤ length file → records file ≡ bodies_within (length file) file
records_in file long = grind (arith, nat_tests)

-- an open gate
open_at : (file : List ℕ) (at : ℕ) → 2 ≤ length file → at < length file → 1 ∷ [] ≡ take 1 (drop at file) → gate_at file at ≡ behind (drop (at + 1) file)
open_at file at long lt gate =
    let split : drop at file ≡ get_or file at 0 ∷ drop (at + 1) file = drop_more file at 0 lt in
    let is : get_or file at 0 ≡ 1 = sym (ap (λ (l : List ℕ). get_or l 0 0) (gate ∙ ap (λ (l : List ℕ). take 1 l) split)) in
    at_long file at long ∙ ap gate_of split ∙ ap (λ (g : ℕ). gate_of (g ∷ drop (at + 1) file)) is

pub reads_unfit : (file : List ℕ) (at n : ℕ) (head : List ℕ) → 2 ≤ length file → at < length file → 1 ∷ [] ≡ take 1 (drop at file) → head ≡ take 4 (drop (at + 1) file) → n ≡ from_be_bytes w32 head → ((1 ≤ n) → (n ≤ LONGEST_BODY) → length file - at < n + 6) → gate_at file at ≡ NoGate
reads_unfit file at n head long lt gate head_is n_is unfit =
    let rest = drop (at + 1) file in
    let n_at : from_be_bytes w32 (take 4 rest) ≡ n = ap (λ (l : List ℕ). from_be_bytes w32 l) (sym head_is) ∙ sym n_is in
    open_at file at long lt gate ∙ ap (λ (m : ℕ). behind_length m rest) n_at ∙ ap (λ (b : Bool). cond b (Open (take n (drop 4 rest)) (drop (4 + n) rest)) NoGate) (no_fit n rest (λ low high. omega (arith, unfit low high, length-drop (at + 1) file, lt)))
  where
    no_fit : (m : ℕ) (xs : List ℕ) → ((1 ≤ m) → (m ≤ LONGEST_BODY) → length xs < m + 5) → fits m xs ≡ false
    no_fit m xs short = grind (arith, nat_tests)

pub reads_short : (file : List ℕ) (at : ℕ) → 2 ≤ length file → at < length file → 1 ∷ [] ≡ take 1 (drop at file) → length file - at < 6 → gate_at file at ≡ NoGate
reads_short file at long lt gate short =
    reads_unfit file at (from_be_bytes w32 (take 4 (drop (at + 1) file))) (take 4 (drop (at + 1) file)) long lt gate refl refl (λ low high. omega (arith, low, short))

-- the gate that was read
gate_byte : (buf front : List ℕ) → get_or buf 0 0 ≡ 1 → buf ≡ take 1 front → 1 ∷ [] ≡ take 1 front
gate_byte buf [] is read = absurd (cc (is, ap (λ (l : List ℕ). get_or l 0 0) read))
gate_byte buf (x ∷ front) is read = ap (λ (y : ℕ). y ∷ []) (sym is ∙ ap (λ (l : List ℕ). get_or l 0 0) read)

-- what a file's reader knows of it
pub record WasRead (file at size : ℕ) (gate : List ℕ) (files : Files) : Type 0 where
  pub whole : size ≡ length (files file)
  pub byte : gate ≡ take 1 (drop at (files file))

pub was_short : (file : List ℕ) (at size : ℕ) (gate : List ℕ) → 2 ≤ size → size ≡ length file → at < size → gate ≡ take 1 (drop at file) → get_or gate 0 0 ≡ 1 → size - at < 6 → gate_at file at ≡ NoGate
was_short file at size gate long size_is inside gate_is opened short =
    reads_short file at (omega (arith, long, size_is)) (omega (arith, inside, size_is)) (gate_byte gate (drop at file) opened gate_is) (omega (arith, short, size_is))

pub was_unfit : (file : List ℕ) (at size n : ℕ) (gate head : List ℕ) → 2 ≤ size → size ≡ length file → at < size → gate ≡ take 1 (drop at file) → get_or gate 0 0 ≡ 1 → head ≡ take 4 (drop (at + 1) file) → n ≡ from_be_bytes w32 head
    → (1 ≤ n → n ≤ LONGEST_BODY → size - at < n + 6) → gate_at file at ≡ NoGate
was_unfit file at size n gate head long size_is inside gate_is opened head_is n_is unfit =
    reads_unfit file at n head (omega (arith, long, size_is)) (omega (arith, inside, size_is)) (gate_byte gate (drop at file) opened gate_is) head_is n_is (λ low high. omega (arith, unfit low high, size_is))

pub was_open : (file : List ℕ) (at size n : ℕ) (gate head : List ℕ) → size ≡ length file → gate ≡ take 1 (drop at file) → get_or gate 0 0 ≡ 1 → head ≡ take 4 (drop (at + 1) file) → to_be_bytes w32 n ≡ head → n ≢ 0 → n ≤ LONGEST_BODY → n + 6 ≤ size - at
    → HasBody file at n
was_open file at size n gate head size_is gate_is opened head_is spelled not_zero high next = record {
  gate = sym (gate_byte gate (drop at file) opened gate_is);
  head = sym (spelled ∙ head_is);
  not_empty = omega (arith, not_zero);
  not_long = high;
  inside = omega (arith, next, size_is);
}

-- a body behind its gate
pub body_opens : (file : List ℕ) (at n : ℕ) → HasBody file at n → gate_at file at ≡ Open (take n (drop (at + 5) file)) (drop (at + 5 + n) file)
body_opens file at n has =
    let rest = drop (at + 1) file in
    let n_at : from_be_bytes w32 (take 4 rest) ≡ n = ap (λ (l : List ℕ). from_be_bytes w32 l) has.head ∙ from_be_bytes-to_be_bytes_4 n (omega (arith, has.not_long)) in
    let fit = fits_is n rest has.not_empty has.not_long (omega (arith, has.inside, length-drop (at + 1) file)) in
    let five : at + 1 + 4 ≡ at + 5 = omega arith in
    let all : at + 1 + (4 + n) ≡ at + 5 + n = omega arith in
    open_at file at (omega (arith, has.inside)) (omega (arith, has.inside)) (sym has.gate) ∙ behind_is rest n n_at fit
    ∙ ap (λ (b : Body). Open b (drop (4 + n) rest)) (ap (λ (l : List ℕ). take n l) (drop-drop 4 (at + 1) file ∙ ap (λ (k : ℕ). drop k file) five))
    ∙ ap (λ (l : List ℕ). Open (take n (drop (at + 5) file)) l) (drop-drop (4 + n) (at + 1) file ∙ ap (λ (k : ℕ). drop k file) all)

length_body : (file : List ℕ) (at n : ℕ) → HasBody file at n → length (take n (drop (at + 5) file)) ≡ n
length_body file at n has = omega (arith, length-take n (drop (at + 5) file), length-drop (at + 5) file, has.inside)

-- what is read there
pub body_found : (file : List ℕ) (at n : ℕ) (old new body : List ℕ) → HasBody file at n → body ≡ take n (drop (at + 5) file) → new ≡ old ++ body → Finds file at (Some (at + 5 + n)) old new
body_found file at n old new body has body_is new_is = (
  take n (drop (at + 5) file),
  body_opens file at n has,
  omega (arith, length_body file at n has),
  new_is ∙ ap (λ (l : List ℕ). old ++ l) body_is,
)
