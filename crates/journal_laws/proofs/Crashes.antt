-- Journals of which a crash leaves the first of the records that were appended.
use Rattle.std.proofs.Common.{◌≡◌, ◌⊎◌, inl, inr, ℕ, ◌≤◌, List, ◌++◌, length, take, None, refl, sym, ◌∙◌, ap, arith, take_all}
use Rattle.std.proofs.lemmas.Bool.{cases_lt}
use Rattle.global_defs.specs.Entry.{Sequence}
use Rattle.journal_defs.specs.Sequence.{Placed, Records, parts, part_of, IsSequence}
use Rattle.journal_defs.specs.Growth.{with_more, NonePast, TidyPast, NumbersRise}
use Rattle.journal_laws.proofs.Fewer as fewer
use Rattle.journal_laws.proofs.Prefixes as prefixes

pub crash : (s : Records) (more : ℕ → List Placed) (kept : ℕ → ℕ) (seq : Sequence) (n : ℕ)
    → IsSequence (with_more s more) seq → TidyPast n (with_more s more) → NonePast n s → ((r : ℕ) → NumbersRise n (more r)) → n ≤ length seq
    → (j : ℕ) × (n ≤ j) × (j ≤ length seq) × IsSequence (with_more s (λ r. take (kept r) (more r))) (take j seq)
crash s more kept seq n h tidy none rise few = fewer.front (with_more s (λ r. take (kept r) (more r))) (with_more s more) seq n h tidy refl each few within
  where
    within : (k r : ℕ) → k ≤ n → parts (with_more s (λ r. take (kept r) (more r))) k r ≡ parts (with_more s more) k r
    within k r low =
        let all : take (length (more r)) (more r) ≡ more r = take_all (length (more r)) (more r) (omega arith) in
        prefixes.earlier s.instance (s.journal r) (more r) n (kept r) k (rise r) low
        ∙ sym (prefixes.earlier s.instance (s.journal r) (more r) n (length (more r)) k (rise r) low)
        ∙ ap (λ (ps : List Placed). part_of s.instance k (s.journal r ++ ps)) all

    each : (k r : ℕ) → (parts (with_more s (λ r. take (kept r) (more r))) k r ≡ None) ⊎ (parts (with_more s (λ r. take (kept r) (more r))) k r ≡ parts (with_more s more) k r)
    each k r = elim (cases_lt n k) [
      | inr low ↦ inr (within k r low)
      | inl past ↦ prefixes.fewer s.instance (s.journal r) (more r) n (kept r) k (rise r) (none k r past)
    ]
