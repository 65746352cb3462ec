-- Files that are no journals of their generations.
use Rattle.std.proofs.Common.{◌≡◌, ◌≢◌, ◌⊎◌, inl, inr, ℕ, zero, suc, ◌≤◌, ◌<◌, List, [], ◌∷◌, ◌++◌, length, drop, Option, Some, None, IfSome, refl, sym, ◌∙◌, ap, subst, arith}
use Rattle.std.proofs.lemmas.Bool.{cases_eq, cases_lt}
use Rattle.std.proofs.lemmas.Bool.Decides.{nat_tests}
use Rattle.std.specs.Option.{option_map}
use Rattle.std.specs.List.{AllZip}
use Rattle.disk_defs.specs.Disk.{Files}
use Rattle.disk_defs.specs.Gates.{Body, Shut, Open, NoGate, gate_at, bodies_at, records, spelled}
use Rattle.disk_defs.proofs.Told.{weaker_told, both_weak}
use Rattle.disk_defs.proofs.Walks.{at_none, at_open}
use Rattle.disk_defs.specs.OutsideGates.{IsOutside}
use Rattle.gated_file.proofs.Walking.{outside_none}
use Rattle.journal_defs.specs.Numbers.{journal_file}
use Rattle.journal_defs.specs.Journal.{JournalRecord, Start, Pini, Epoch, Pblk, Tcom, IsJournalBody, BeginsWithPini}
use Rattle.journal_defs.specs.FileGrowth.{MayFollow}
use Rattle.journal_defs.specs.Sequence.{Placed}
use Rattle.journal_defs.specs.Stands.{Holds, IsJournal}
use Rattle.journal_laws.proofs.Readings.{journal_body, journals_one}
use Rattle.jnl_file.specs.Reading.{IsNoRecord}
use Rattle.site_defs.specs.OutsideJournal.{HasWrongRecord, NamesAnother, IsOutsideAfter, IsOutsideGenerations}
use Rattle.jnl_file.specs.Generations.{IsRefused, StopsAt}
use Rattle.jnl_file.proofs.Walk.{wrong_is_none}

no_gate_long : (file : List ℕ) (at : ℕ) → gate_at file at ≡ NoGate → 2 ≤ length file
no_gate_long file at none = elim (cases_lt (length file) 2) [ inl short ↦ absurd (apart (sym (shut file at short) ∙ none)) | inr long ↦ long ]
  where
    shut : (file : List ℕ) (at : ℕ) → length file < 2 → gate_at file at ≡ Shut
    shut file at short = grind (arith, nat_tests)

    apart : Shut ≡ NoGate → ⊥
    apart is = cc is

split_list : (done : List Body) (body : Body) (o : Option (List Body)) (bodies : List Body) → option_map (λ rest. done ++ rest) (option_map (λ bs. body ∷ bs) o) ≡ Some bodies → (after : List Body) × (bodies ≡ done ++ body ∷ after)
split_list done body None bodies is = absurd (cc is)
split_list done body (Some after) bodies is = (after, cc is)

none_before : (before : List Body) (earlier : List JournalRecord) → AllZip IsJournalBody before earlier → earlier ≡ [] → before ≡ []
none_before [] earlier zip none = refl
none_before (b ∷ bs) [] zip none = absurd zip
none_before (b ∷ bs) (x ∷ xs) zip none = absurd (cc none)

-- the record can't follow whatever generation is the one before, or it's the PINI with another one
record OtherStart (region generation previous : ℕ) (earlier : List JournalRecord) (x : JournalRecord) : Type 0 where
  first : earlier ≡ []
  start : Start
  is : x ≡ Pini start
  region_is : start.region ≡ region
  generation_is : start.generation ≡ generation
  other : start.previous ≢ previous

decide : (region generation previous : ℕ) (earlier : List JournalRecord) (x : JournalRecord) → (MayFollow region generation previous earlier (x ∷ []) → ⊥)
    → ((q : ℕ) → MayFollow region generation q earlier (x ∷ []) → ⊥) ⊎ OtherStart region generation previous earlier x
decide region generation previous [] (Pini s) refused = elim (cases_eq s.region region) [
  | inl same ↦
      elim (cases_eq s.generation generation) [
        | inl drawn ↦ inr (record { first = refl; start = s; is = refl; region_is = same; generation_is = drawn; other = λ before. refused (same, drawn, before, tt) })
        | inr differs ↦ inl (λ q follows. differs follows.1)
      ]
  | inr differs ↦ inl (λ q follows. differs follows.0)
]
decide region generation previous [] (Epoch m) refused = inl (λ q follows. follows)
decide region generation previous [] (Pblk b) refused = inl (λ q follows. follows)
decide region generation previous [] (Tcom p) refused = inl (λ q follows. follows)
decide region generation previous (y ∷ ys) x refused = inl (λ q follows. refused follows)

-- what a file that stops there is, where its gates are in the format
module _ (region generation previous : ℕ) (file : List ℕ) (offset : ℕ) (bodies : List Body) (w : StopsAt region generation previous file offset) (list : records file ≡ Some bodies) where
  after_body : (body : Body) (next : ℕ) → gate_at file offset ≡ Open body (drop next file) → (after : List Body) × (records file ≡ Some (w.before ++ body ∷ after))
  after_body body next gate =
      let split = split_list w.before body (bodies_at file next) bodies (sym (w.list ∙ ap (option_map (λ rest. w.before ++ rest)) (at_open file offset body next gate)) ∙ list) in
      (split.0, list ∙ ap (λ (l : List Body). Some l) split.1)

  wrong_of : (body : Body) (next : ℕ) → gate_at file offset ≡ Open body (drop next file) → ((r : JournalRecord) (q : ℕ) → IsJournalBody body r → MayFollow region generation q w.earlier (r ∷ []) → ⊥) → HasWrongRecord region generation file offset
  wrong_of body next gate wrong =
      let split = after_body body next gate in
      record { before = w.before; body = body; after = split.0; list = split.1; place = w.place; earlier = w.earlier; spelled_before = w.spelled_before; wrong = wrong }

  names_of : (r : IsRefused region generation previous w.earlier file offset) → OtherStart region generation previous w.earlier r.what → (offset ≡ 0) × NamesAnother region generation previous file
  names_of r other =
      let split = after_body r.body r.next r.gate in
      let none = none_before w.before w.earlier w.spelled_before other.first in (
        w.place ∙ ap (λ (l : List Body). length (spelled 1 l)) none,
        record {
          body = r.body;
          after = split.0;
          list = split.1 ∙ ap (λ (l : List Body). Some (l ++ r.body ∷ split.0)) none;
          start = other.start;
          spelled_start = subst (IsJournalBody r.body) other.is r.spelled_what;
          region_is = other.region_is;
          generation_is = other.generation_is;
          other = other.other;
        },
      )

  refused_is : (r : IsRefused region generation previous w.earlier file offset) → ((q : ℕ) → MayFollow region generation q w.earlier (r.what ∷ []) → ⊥) ⊎ OtherStart region generation previous w.earlier r.what → IsOutsideAfter region generation previous file offset
  refused_is r cases = elim cases [
    | inl never ↦
        inl (inr (wrong_of r.body r.next r.gate (λ x q is follows. never q (subst (λ (y : JournalRecord). MayFollow region generation q w.earlier (y ∷ [])) (journal_body r.body x r.what is r.spelled_what) follows))))
    | inr other ↦ inr (names_of r other)
  ]

  none_is : IsNoRecord file offset → IsOutsideAfter region generation previous file offset
  none_is none = elim none [
    | inl no_gate ↦ absurd (no_list (sym list ∙ w.list ∙ ap (option_map (λ rest. w.before ++ rest)) (at_none file offset no_gate)))
    | inr found ↦ inl (inr (wrong_of found.0 found.1 found.2 (λ r q is follows. found.3 r is)))
  ]
    where
      no_list : Some bodies ≡ None → ⊥
      no_list is = cc is

  pub stops_outside : IsOutsideAfter region generation previous file offset
  stops_outside = elim w.here [ inl none ↦ none_is none | inr r ↦ refused_is r (decide region generation previous w.earlier r.what r.refused) ]

-- such a file leaves no journal
named_none : (region generation previous : ℕ) (file : List ℕ) → NamesAnother region generation previous file → (rs : List JournalRecord) → Holds IsJournalBody file rs → BeginsWithPini region generation previous rs → ⊥
named_none region generation previous file names rs held begins =
    let same : Some held.0 ≡ Some (names.body ∷ names.after) = sym held.1 ∙ names.list in
    let bodies_are : held.0 ≡ names.body ∷ names.after = cc same in
    first rs (subst (λ (l : List Body). AllZip IsJournalBody l rs) bodies_are held.2) begins
  where
    first : (rs : List JournalRecord) → AllZip IsJournalBody (names.body ∷ names.after) rs → BeginsWithPini region generation previous rs → ⊥
    first [] zip begins = zip
    first (x ∷ xs) zip begins =
        let is : x ≡ Pini names.start = journal_body names.body x (Pini names.start) zip.0 names.spelled_start in
        names.other (subst (λ (y : JournalRecord). BeginsWithPini region generation previous (y ∷ xs)) is begins).2

outside_none_after : (region generation previous : ℕ) (file : List ℕ) (offset : ℕ) → IsOutsideAfter region generation previous file offset → (rs : List JournalRecord) → Holds IsJournalBody file rs → BeginsWithPini region generation previous rs → ⊥
outside_none_after region generation previous file offset outside rs held begins = elim outside [
  | inl wrong ↦
      elim wrong [
        | inl no_text ↦ no_list held.0 (sym held.1 ∙ outside_none file offset (no_gate_long file offset no_text.here) no_text)
        | inr no_record ↦ wrong_is_none region generation file offset no_record rs (record { held = held; previous = previous; begins = begins })
      ]
  | inr names ↦ named_none region generation previous file names.1 rs held begins
]
  where
    no_list : (bodies : List Body) → Some bodies ≡ None → ⊥
    no_list bodies is = cc is

module _ (files : Files) (region began : ℕ) (older : List Placed) (offset : ℕ) where
  next_none : (g : ℕ) → IsJournal files region g began older → IsOutsideAfter region (suc g) began (files (journal_file (suc g) region)) offset → (last : ℕ) (journal : List Placed) → IsJournal files region (suc g) last journal → ⊥
  next_none g is outside last journal h =
      let same = journals_one files region g began h.0 older h.1 is h.3 in
      outside_none_after region (suc g) began (files (journal_file (suc g) region)) offset outside h.2 h.4 (subst (λ (p : ℕ). BeginsWithPini region (suc g) p h.2) (sym same.0) h.5)

  later_none : (inside last : ℕ) → suc inside ≤ last → IsJournal files region inside began older → IsOutsideAfter region (suc inside) began (files (journal_file (suc inside) region)) offset → (last_began : ℕ) (journal : List Placed)
      → IsJournal files region last last_began journal → ⊥
  later_none inside zero low is outside last_began journal h = absurd (omega arith)
  later_none inside (suc g) low is outside last_began journal h = elim (cases_lt inside g) [
    | inl less ↦ later_none inside g (omega (arith, less)) is outside h.0 h.1 h.3
    | inr most ↦
        let same : inside ≡ g = omega (arith, low, most) in
        next_none g (subst (λ (n : ℕ). IsJournal files region n began older) same is) (subst (λ (n : ℕ). IsOutsideAfter region (suc n) began (files (journal_file (suc n) region)) offset) same outside) last_began journal h
  ]

pub no_journal : (files : Files) (region last file offset : ℕ) → IsOutsideGenerations files region last file offset → (began : ℕ) (journal : List Placed) → IsJournal files region last began journal → ⊥
no_journal files region last file offset o began journal h =
    later_none files region o.began o.older offset o.inside last o.no_later o.older_is (subst (λ (f : ℕ). IsOutsideAfter region (suc o.inside) o.began (files f) offset) o.file_is o.outside) began journal h

-- the same of a file that the disk tells, or doesn't
pub told_stops : (o : Option Files) (file region generation previous offset : ℕ) → IfSome o (λ files. StopsAt region generation previous (files file) offset) → IfSome o (λ files. (bodies : List Body) × (records (files file) ≡ Some bodies))
    → IfSome o (λ files. IsOutsideAfter region generation previous (files file) offset)
told_stops o file region generation previous offset stops listed =
    both_weak o (λ files. StopsAt region generation previous (files file) offset) (λ files. (bodies : List Body) × (records (files file) ≡ Some bodies)) (λ files. IsOutsideAfter region generation previous (files file) offset) stops listed
    (λ files s l. stops_outside region generation previous (files file) offset l.0 s l.1)

pub told_outside : (o : Option Files) (file region generation previous offset : ℕ) → IfSome o (λ files. IsOutside (files file) offset) → IfSome o (λ files. IsOutsideAfter region generation previous (files file) offset)
told_outside o file region generation previous offset outside = weaker_told o (λ files. IsOutside (files file) offset) (λ files. IsOutsideAfter region generation previous (files file) offset) outside (λ files out. inl (inl out))

pub told_no_journal : (o : Option Files) (region last file offset : ℕ) → IfSome o (λ files. IsOutsideGenerations files region last file offset) → IfSome o (λ files. (began : ℕ) (journal : List Placed) → IsJournal files region last began journal → ⊥)
told_no_journal o region last file offset outside =
    weaker_told o (λ files. IsOutsideGenerations files region last file offset) (λ files. (began : ℕ) (journal : List Placed) → IsJournal files region last began journal → ⊥) outside (λ files out. no_journal files region last file offset out)
