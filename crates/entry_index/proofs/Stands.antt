-- Records by their places.
use Rattle.std.proofs.Common.{◌≡◌, inr, ℕ, ◌+◌, ◌<◌, ◌≤◌, List, length, take, drop, Some, refl, ap, sym, ◌∙◌, subst, arith, length-take, length-drop}
use Rattle.std.proofs.lemmas.List.{drop-drop}
use Rattle.std.proofs.lemmas.Nat.{from_be_bytes-to_be_bytes_4}
use Rattle.std.specs.Int.{from_be_bytes, w32}
use Rattle.global_defs.specs.declared.limits.TheConstants.{LONGEST_BODY}
use Rattle.disk_defs.specs.Gates.{Body}
use Rattle.gated_file.specs.Reading.{HasBody}
use Rattle.gated_file.proofs.Gates.{body_opens}
use Rattle.journal_defs.specs.Journal.{JournalRecord, Pini, Epoch, Pblk, Tcom, IsJournalBody}
use Rattle.journal_laws.proofs.Readings.{journal_body}
use Rattle.jnl_record.specs.Values.{record_value}
use Rattle.jnl_record.specs.declared.record.JnlRecord.{JnlRecord}
use Rattle.jnl_record.specs.declared.record.JnlRecord.TheVariants as code
use Rattle.jnl_file.specs.Reading.{IsNoRecord}
use Rattle.entry_index.specs.RecordSigns.{sign_of}
use Rattle.entry_index.specs.Places.{StandsAt, HasLength}
use Rattle.entry_index.specs.Pieces.{FindsSign}
use Rattle.entry_index.specs.declared.sign.Sign.{Sign}

pub five_on : (file : List ℕ) (at : ℕ) → drop 4 (drop (at + 1) file) ≡ drop (at + 5) file
five_on file at = let four : at + 1 + 4 ≡ at + 5 = omega arith in drop-drop 4 (at + 1) file ∙ ap (λ (k : ℕ). drop k file) four

-- what stands there, by its length
module _ (file : List ℕ) (at n : ℕ) (has : HasLength file at n) where
  body_size : length (take n (drop (at + 5) file)) ≡ n
  body_size = omega (arith, length-take n (drop (at + 5) file), length-drop (at + 5) file, has.inside)

  pub placed_body : (r : JournalRecord) → IsJournalBody (take n (drop (at + 5) file)) r → StandsAt file at r
  placed_body r is = record {
    body = take n (drop (at + 5) file);
    spelled = is;
    size = record { not_empty = omega (arith, has.not_empty, body_size); not_long = omega (arith, has.not_long, body_size) };
    length_is = ap (λ (l : List ℕ). from_be_bytes w32 l) has.head ∙ from_be_bytes-to_be_bytes_4 n (omega (arith, has.not_long)) ∙ sym body_size;
    there = ap (λ (k : ℕ). take k (drop (at + 5) file)) body_size;
  }

-- where the bytes from there on are the same
pub same_from : (old new : List ℕ) (at next : ℕ) (r : JournalRecord) → ((k : ℕ) → drop (next + k) new ≡ drop (at + k) old) → StandsAt old at r → StandsAt new next r
same_from old new at next r same s = record {
  body = s.body;
  spelled = s.spelled;
  size = s.size;
  length_is = ap (λ (l : List ℕ). from_be_bytes w32 (take 4 l)) (same 1) ∙ s.length_is;
  there = ap (take (length s.body)) (same 5) ∙ s.there;
}

-- a record that stands there
module _ (file : List ℕ) (at : ℕ) (r : JournalRecord) (s : StandsAt file at r) where
  stands_inside : at + 5 + length s.body ≤ length file
  stands_inside = omega (arith, s.size.not_empty, ap length s.there, length-take (length s.body) (drop (at + 5) file), length-drop (at + 5) file)

  pub stands_size : length s.body ≡ from_be_bytes w32 (take 4 (drop (at + 1) file))
  stands_size = sym s.length_is

  -- it has the body of this length
  pub stands_placed : (n : ℕ) → HasLength file at n → IsJournalBody (take n (drop (at + 5) file)) r
  stands_placed n has =
      let same : length s.body ≡ n = stands_size ∙ ap (λ (l : List ℕ). from_be_bytes w32 l) has.head ∙ from_be_bytes-to_be_bytes_4 n (omega (arith, has.not_long)) in
      subst (λ (b : Body). IsJournalBody b r) (sym s.there ∙ ap (λ (k : ℕ). take k (drop (at + 5) file)) same) s.spelled

  pub stands_outside : (n : ℕ) → n ≡ from_be_bytes w32 (take 4 (drop (at + 1) file)) → (1 ≤ n → n ≤ LONGEST_BODY → length file < at + 5 + n) → ⊥
  stands_outside n is out = omega (arith, out (omega (arith, is, stands_size, s.size.not_empty)) (omega (arith, is, stands_size, s.size.not_long)), is, stands_size, stands_inside)

pub one_stands : (file : List ℕ) (at : ℕ) (r q : JournalRecord) → StandsAt file at r → StandsAt file at q → r ≡ q
one_stands file at r q s t =
    let same : length s.body ≡ length t.body = stands_size file at r s ∙ sym (stands_size file at q t) in
    let body : s.body ≡ t.body = sym s.there ∙ ap (λ (k : ℕ). take k (drop (at + 5) file)) same ∙ t.there in
    journal_body t.body r q (subst (λ (b : Body). IsJournalBody b r) body s.spelled) t.spelled

-- each record is one of the code
pub code_of : (r : JournalRecord) → (x : JnlRecord) × (record_value x ≡ r)
code_of (Pini s) = (code.Pini 1 s.region s.before s.generation s.previous, refl)
code_of (Epoch m) = (code.Epoch m.closing m.number m.blocks, refl)
code_of (Pblk b) = (code.Pblk b.block b.bytes, refl)
code_of (Tcom p) = (code.Tcom p.number p.mask (record { updater = p.origin.updater; serial = p.origin.serial }) p.count p.items, refl)

-- a body behind its open gate, and what it tells
module _ (file : List ℕ) (at n : ℕ) (has : HasBody file at n) (shown : List ℕ) (is : shown ≡ take n (drop (at + 5) file)) where
  has_length : HasLength file at n
  has_length = record { head = has.head; not_empty = has.not_empty; not_long = has.not_long; inside = omega (arith, has.inside) }

  pub sign_found : (s : Sign) → (r : JournalRecord) × IsJournalBody shown r × (s ≡ sign_of r) → FindsSign file at (Some (s, at + 5 + n))
  sign_found s told =
      let x = code_of told.0 in
      let body : IsJournalBody (take n (drop (at + 5) file)) (record_value x.0) = subst (λ (b : Body). IsJournalBody b (record_value x.0)) is (subst (λ (r : JournalRecord). IsJournalBody shown r) (sym x.1) told.1) in (
        x.0,
        (take n (drop (at + 5) file), body_opens file at n has, omega (arith, body_size file at n has_length), body),
        told.2 ∙ ap sign_of (sym x.1),
        placed_body file at n has_length (record_value x.0) body,
      )

  pub no_sign_found : ((r : JournalRecord) → IsJournalBody shown r → ⊥) → IsNoRecord file at
  no_sign_found none = inr (take n (drop (at + 5) file), at + 5 + n, body_opens file at n has, λ r body. none r (subst (λ (b : Body). IsJournalBody b r) (sym is) body))
