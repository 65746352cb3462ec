-- A body behind an open gate of a file of bytes stands there.
use Rattle.std.proofs.Common.{◌≡◌, ◌≢◌, inl, inr, ℕ, ◌+◌, ◌<◌, ◌≤◌, ◌&&◌, nat_le, Bool, true, false, cond, List, [], ◌∷◌, length, take, drop, get_or, Some, refl, ap, sym, ◌∙◌, subst, arith, length-take, length-drop}
use Rattle.std.proofs.lemmas.Bool.{cases_eq, cases_lt}
use Rattle.std.proofs.lemmas.Bool.Decides.{nat_tests}
use Rattle.std.proofs.lemmas.List.{drop-drop, get_or-take, get_or-drop, get_or_past}
use Rattle.std.proofs.lemmas.Nat.{be_bytes_4}
use Rattle.std.specs.Int.{from_be_bytes, w32}
use Rattle.global_defs.specs.declared.limits.TheConstants.{LONGEST_BODY}
use Rattle.disk_defs.specs.Gates.{Body, Shut, Open, NoGate, fits, behind, gate_of, gate_at}
use Rattle.disk_defs.proofs.Walks.{gate_in}
use Rattle.journal_defs.specs.Journal.{IsJournalBody}
use Rattle.jnl_record.specs.Values.{record_value}
use Rattle.jnl_record.specs.declared.record.JnlRecord.{JnlRecord}
use Rattle.jnl_file.specs.Reading.{FindsRecord}
use Rattle.entry_index.specs.Places.{StandsAt, HasLength}
use Rattle.entry_index.proofs.Stands.{five_on, placed_body}

-- what stands behind an open gate
pub record Behind (r : List ℕ) (body : Body) (rest : List ℕ) : Type 0 where
  pub n : ℕ
  pub n_is : n ≡ from_be_bytes w32 (take 4 r)
  pub low : 1 ≤ n
  pub high : n ≤ LONGEST_BODY
  pub long : n + 5 ≤ length r
  pub body_is : body ≡ take n (drop 4 r)
  pub rest_is : rest ≡ drop (4 + n) r

chosen : (b : Bool) (n : ℕ) (r : List ℕ) (body : Body) (rest : List ℕ) → cond b (Open (take n (drop 4 r)) (drop (4 + n) r)) NoGate ≡ Open body rest → (b ≡ true) × (body ≡ take n (drop 4 r)) × (rest ≡ drop (4 + n) r)
chosen true n r body rest is = (refl, cc is, cc is)
chosen false n r body rest is = absurd (cc is)

both_true : (a b : Bool) → (a && b) ≡ true → (a ≡ true) × (b ≡ true)
both_true true b is = (refl, is)
both_true false b is = absurd (cc is)

at_most : (m n : ℕ) → nat_le m n ≡ true → m ≤ n
at_most m n is = grind (arith, nat_tests)

behind_is : (r : List ℕ) (body : Body) (rest : List ℕ) → behind r ≡ Open body rest → Behind r body rest
behind_is r body rest is =
    let n = from_be_bytes w32 (take 4 r) in
    let c = chosen (fits n r) n r body rest is in
    let last = both_true (nat_le 1 n && nat_le n 1048576) (nat_le (n + 5) (length r)) c.0 in
    let ends = both_true (nat_le 1 n) (nat_le n 1048576) last.0 in
    record { n = n; n_is = refl; low = at_most 1 n ends.0; high = at_most n 1048576 ends.1; long = at_most (n + 5) (length r) last.1; body_is = c.1; rest_is = c.2 }

pub first_open : (list : List ℕ) (body : Body) (rest : List ℕ) → gate_of list ≡ Open body rest → Behind (drop 1 list) body rest
first_open [] body rest is = absurd (cc is)
first_open (gate ∷ r) body rest is = elim (cases_eq gate 1) [
  | inl opened ↦ behind_is r body rest (ap (λ (g : ℕ). gate_of (g ∷ r)) (sym opened) ∙ is)
  | inr shut ↦ absurd (closed_opens (sym (is_shut gate r shut) ∙ is))
]
  where
    is_shut : (gate : ℕ) (r : List ℕ) → gate ≢ 1 → gate_of (gate ∷ r) ≡ Shut
    is_shut gate r ne = grind (arith, nat_tests)

    closed_opens : Shut ≡ Open body rest → ⊥
    closed_opens is = cc is

opened_at : (file : List ℕ) (at : ℕ) (body : Body) (rest : List ℕ) → gate_at file at ≡ Open body rest → Behind (drop (at + 1) file) body rest
opened_at file at body rest is = elim (cases_lt (length file) 2) [
  | inl short ↦ absurd (closed_opens (sym (short_shut file at short) ∙ is))
  | inr long ↦ subst (λ (l : List ℕ). Behind l body rest) (drop-drop 1 at file) (first_open (drop at file) body rest (sym (gate_in file at long) ∙ is))
]
  where
    short_shut : (file : List ℕ) (at : ℕ) → length file < 2 → gate_at file at ≡ Shut
    short_shut file at short = grind (arith, nat_tests)

    closed_opens : Shut ≡ Open body rest → ⊥
    closed_opens is = cc is

small_head : (file : List ℕ) (k i : ℕ) → ((j : ℕ) → get_or file j 0 < 256) → get_or (take 4 (drop k file)) i 0 < 256
small_head file k i small = elim (cases_lt i 4) [
  | inl inside ↦ subst (λ (n : ℕ). n < 256) (sym (get_or-take 4 (drop k file) i 0 inside ∙ get_or-drop k file i 0)) (small (k + i))
  | inr outside ↦ subst (λ (n : ℕ). n < 256) (sym (get_or_past (take 4 (drop k file)) i 0 (omega (arith, outside, length-take 4 (drop k file))))) (omega arith)
]

pub open_stands : (file : List ℕ) (at next : ℕ) (r : JnlRecord) → ((i : ℕ) → get_or file i 0 < 256) → FindsRecord file at (Some (r, next)) → StandsAt file at (record_value r)
open_stands file at next r small found =
    let b = opened_at file at found.0 (drop next file) found.1 in
    let four : length (take 4 (drop (at + 1) file)) ≡ 4 = omega (arith, length-take 4 (drop (at + 1) file), b.long) in
    let has : HasLength file at b.n = record {
      head = sym (be_bytes_4 (take 4 (drop (at + 1) file)) b.n four (λ i. small_head file (at + 1) i small) b.n_is);
      not_empty = b.low;
      not_long = b.high;
      inside = omega (arith, b.long, length-drop (at + 1) file);
    } in
    placed_body file at b.n has (record_value r) (subst (λ (l : Body). IsJournalBody l (record_value r)) (b.body_is ∙ ap (λ (l : List ℕ). take b.n l) (five_on file at)) found.3)
