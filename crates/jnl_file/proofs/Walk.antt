-- Reading a journal from record to record.
use Rattle.std.proofs.Common.{◌≡◌, inl, inr, ℕ, suc, nat_eq, Bool, true, false, List, [], ◌∷◌, ◌++◌, length, drop, Option, Some, None, IfSome, refl, sym, ◌∙◌, ap, subst, arith, append-nil}
use Rattle.std.proofs.lemmas.Bool.Decides.{nat_tests}
use Rattle.std.specs.List.{AllByRecursion, AllZip}
use Rattle.disk_defs.specs.Gates.{Body, Open, gate_at, bodies_at, records, framed, spelled}
use Rattle.disk_defs.specs.Disk.{Files}
use Rattle.disk_defs.proofs.Told.{both_weak}
use Rattle.disk_defs.proofs.Walks.{at_shut, at_open, at_none}
use Rattle.journal_defs.specs.Journal.{JournalRecord, Pini, Epoch, Pblk, Tcom, IsJournalBody, IsNoPini, BeginsWithPini}
use Rattle.journal_defs.specs.FileGrowth.{MayFollow}
use Rattle.journal_defs.specs.Stands.{Holds}
use Rattle.journal_laws.proofs.Readings.{journal_body}
use Rattle.jnl_record.specs.Values.{record_value}
use Rattle.jnl_record.specs.declared.record.JnlRecord.{JnlRecord}
use Rattle.jnl_file.specs.Reading.{FindsRecord, IsNoRecord, HoldsFrom, IsPiniOf, MayStand, IsJournalFile}
use Rattle.site_defs.specs.OutsideJournal.{HasWrongRecord}
use Rattle.jnl_file.proofs.Zips.{Split, zip_append, zip_split}
use Rattle.gated_file.proofs.Listed.{begun, list_after, next_place}

-- Up to this place stand records of a journal of this region and generation.
pub record Walked (region generation : ℕ) (file : List ℕ) (at : ℕ) : Type 0 where
  pub done : List Body
  pub rest : List Body
  pub list : records file ≡ Some (done ++ rest)
  pub here : bodies_at file at ≡ Some rest
  pub place : at ≡ length (spelled 1 done)
  pub earlier : List JournalRecord
  pub spelled_done : AllZip IsJournalBody done earlier
  pub previous : ℕ
  pub begins : BeginsWithPini region generation previous earlier

pub walked_start : (region generation : ℕ) (file : List ℕ) (bodies : List Body) → records file ≡ Some bodies → Walked region generation file 0
walked_start region generation file bodies list = record {
  done = [];
  rest = bodies;
  list = list;
  here = list;
  place = refl;
  earlier = [];
  spelled_done = tt;
  previous = 0;
  begins = tt;
}

pub at_start : (at : ℕ) → at ≡ 0 → nat_eq at 0 ≡ true
at_start at is = grind (arith, nat_tests)

pub past_start : (at n : ℕ) → at ≡ suc n → nat_eq at 0 ≡ false
past_start at n is = grind (arith, nat_tests)

pini_begins : (region generation : ℕ) (x : JournalRecord) → IsPiniOf region generation x → (previous : ℕ) × BeginsWithPini region generation previous (x ∷ [])
pini_begins region generation (Pini s) is = (s.previous, (is.0, is.1, refl, tt))
pini_begins region generation (Epoch m) is = absurd is
pini_begins region generation (Pblk b) is = absurd is
pini_begins region generation (Tcom p) is = absurd is

begins_pini : (region generation previous : ℕ) (x : JournalRecord) (rs : List JournalRecord) → BeginsWithPini region generation previous (x ∷ rs) → IsPiniOf region generation x
begins_pini region generation previous (Pini s) rs is = (is.0, is.1)
begins_pini region generation previous (Epoch m) rs is = absurd is
begins_pini region generation previous (Pblk b) rs is = absurd is
begins_pini region generation previous (Tcom p) rs is = absurd is

begins_alone : (region generation previous : ℕ) (x : JournalRecord) (rs : List JournalRecord) → BeginsWithPini region generation previous (x ∷ rs) → BeginsWithPini region generation previous (x ∷ [])
begins_alone region generation previous (Pini s) rs is = (is.0, is.1, is.2, tt)
begins_alone region generation previous (Epoch m) rs is = absurd is
begins_alone region generation previous (Pblk b) rs is = absurd is
begins_alone region generation previous (Tcom p) rs is = absurd is

pub no_more_pinis : (rs : List JournalRecord) (x : JournalRecord) → AllByRecursion IsNoPini rs → IsNoPini x → AllByRecursion IsNoPini (rs ++ x ∷ [])
no_more_pinis [] x all is = (is, tt)
no_more_pinis (r ∷ rs) x all is = (all.0, no_more_pinis rs x all.1 is)

behind_pinis : (rs : List JournalRecord) (x : JournalRecord) (others : List JournalRecord) → AllByRecursion IsNoPini (rs ++ x ∷ others) → IsNoPini x
behind_pinis [] x others all = all.0
behind_pinis (r ∷ rs) x others all = behind_pinis rs x others all.1

begins_more : (done : List Body) (earlier : List JournalRecord) → AllZip IsJournalBody done earlier → (x : JournalRecord) (region generation at previous : ℕ) → at ≡ length (spelled 1 done) → MayStand (nat_eq at 0) region generation x
    → BeginsWithPini region generation previous earlier → (q : ℕ) × BeginsWithPini region generation q (earlier ++ x ∷ [])
begins_more [] [] zip x region generation at previous place may begins = pini_begins region generation x (subst (λ (b : Bool). MayStand b region generation x) (at_start at place) may)
begins_more [] (y ∷ ys) zip x region generation at previous place may begins = absurd zip
begins_more (b ∷ done) [] zip x region generation at previous place may begins = absurd zip
begins_more (b ∷ done) (Pini s ∷ rs) zip x region generation at previous place may begins =
    (previous, (begins.0, begins.1, begins.2, no_more_pinis rs x begins.3 (subst (λ (b : Bool). MayStand b region generation x) (past_start at (length (framed b ++ spelled 1 done)) place) may)))
begins_more (b ∷ done) (Epoch m ∷ rs) zip x region generation at previous place may begins = absurd begins
begins_more (b ∷ done) (Pblk i ∷ rs) zip x region generation at previous place may begins = absurd begins
begins_more (b ∷ done) (Tcom p ∷ rs) zip x region generation at previous place may begins = absurd begins

follows_stands : (done : List Body) (earlier : List JournalRecord) → AllZip IsJournalBody done earlier → (x : JournalRecord) (region generation at previous : ℕ) → at ≡ length (spelled 1 done) → MayFollow region generation previous earlier (x ∷ [])
    → MayStand (nat_eq at 0) region generation x
follows_stands [] [] zip x region generation at previous place follows = subst (λ (b : Bool). MayStand b region generation x) (sym (at_start at place)) (begins_pini region generation previous x [] follows)
follows_stands [] (y ∷ ys) zip x region generation at previous place follows = absurd zip
follows_stands (b ∷ done) [] zip x region generation at previous place follows = absurd zip
follows_stands (b ∷ done) (y ∷ ys) zip x region generation at previous place follows = subst (λ (b : Bool). MayStand b region generation x) (sym (past_start at (length (framed b ++ spelled 1 done)) place)) follows.0

module _ (region generation : ℕ) (file : List ℕ) (at : ℕ) (w : Walked region generation file at) where
  pub walked_next : (x : JnlRecord) (next : ℕ) → FindsRecord file at (Some (x, next)) → MayStand (nat_eq at 0) region generation (record_value x) → Walked region generation file next
  walked_next x next found may =
      let b = begun found.0 (bodies_at file next) w.rest (sym (at_open file at found.0 next found.1) ∙ w.here) in
      let begins = begins_more w.done w.earlier w.spelled_done (record_value x) region generation at w.previous w.place may w.begins in
      record {
        done = w.done ++ found.0 ∷ [];
        rest = b.more;
        list = list_after file w.done w.rest b.more found.0 w.list b.is;
        here = b.rest;
        place = next_place w.done found.0 at next w.place found.2;
        earlier = w.earlier ++ record_value x ∷ [];
        spelled_done = zip_append IsJournalBody w.done (found.0 ∷ []) w.earlier (record_value x ∷ []) w.spelled_done (found.3, tt);
        previous = begins.0;
        begins = begins.1;
      }

  pub walked_end : FindsRecord file at None → (rs : List JournalRecord) × IsJournalFile region generation file rs
  walked_end shut =
      let rest : Some w.rest ≡ Some [] = sym w.here ∙ at_shut file at shut in
      let none : w.rest ≡ [] = cc rest in (
        w.earlier,
        record {
          held = (w.done, w.list ∙ ap Some (ap (λ (l : List Body). w.done ++ l) none ∙ append-nil w.done), w.spelled_done);
          previous = w.previous;
          begins = w.begins;
        },
      )

  wrong_here : (body : Body) (next : ℕ) → gate_at file at ≡ Open body (drop next file)
      → ((r : JournalRecord) (previous : ℕ) → IsJournalBody body r → MayFollow region generation previous w.earlier (r ∷ []) → ⊥) → HasWrongRecord region generation file at
  wrong_here body next gate wrong =
      let b = begun body (bodies_at file next) w.rest (sym (at_open file at body next gate) ∙ w.here) in
      record {
        before = w.done;
        body = body;
        after = b.more;
        list = w.list ∙ ap Some (ap (λ (l : List Body). w.done ++ l) b.is);
        place = w.place;
        earlier = w.earlier;
        spelled_before = w.spelled_done;
        wrong = wrong;
      }

  pub walked_wrong : (x : JnlRecord) (next : ℕ) → FindsRecord file at (Some (x, next)) → (MayStand (nat_eq at 0) region generation (record_value x) → ⊥) → HasWrongRecord region generation file at
  walked_wrong x next found refused = wrong_here found.0 next found.1 (λ r previous is follows.
      refused (follows_stands w.done w.earlier w.spelled_done (record_value x) region generation at previous w.place
      (subst (λ (y : JournalRecord). MayFollow region generation previous w.earlier (y ∷ [])) (journal_body found.0 r (record_value x) is found.3) follows)))

  pub walked_none : IsNoRecord file at → HasWrongRecord region generation file at
  walked_none none = elim none [
    | inl no_gate ↦ absurd (no_list (sym w.here ∙ at_none file at no_gate))
    | inr found ↦ wrong_here found.0 found.1 found.2 (λ r previous is follows. found.3 r is)
  ]
    where
      no_list : Some w.rest ≡ None → ⊥
      no_list is = cc is

-- a record that can't stand there leaves no journal
follow_split : (before : List Body) (earlier left : List JournalRecord) (x : JournalRecord) (right : List JournalRecord) (region generation previous : ℕ) → AllZip IsJournalBody before earlier → AllZip IsJournalBody before left
    → BeginsWithPini region generation previous (left ++ x ∷ right) → MayFollow region generation previous earlier (x ∷ [])
follow_split [] [] [] x right region generation previous zip other begins = begins_alone region generation previous x right begins
follow_split [] [] (l ∷ ls) x right region generation previous zip other begins = absurd other
follow_split [] (y ∷ ys) left x right region generation previous zip other begins = absurd zip
follow_split (b ∷ bs) [] left x right region generation previous zip other begins = absurd zip
follow_split (b ∷ bs) (y ∷ ys) [] x right region generation previous zip other begins = absurd other
follow_split (b ∷ bs) (y ∷ ys) (Pini s ∷ ls) x right region generation previous zip other begins = (behind_pinis ls x right begins.3, tt)
follow_split (b ∷ bs) (y ∷ ys) (Epoch m ∷ ls) x right region generation previous zip other begins = absurd begins
follow_split (b ∷ bs) (y ∷ ys) (Pblk i ∷ ls) x right region generation previous zip other begins = absurd begins
follow_split (b ∷ bs) (y ∷ ys) (Tcom p ∷ ls) x right region generation previous zip other begins = absurd begins

split_is_none : (region generation : ℕ) (file : List ℕ) (offset : ℕ) (wrong : HasWrongRecord region generation file offset) (rs : List JournalRecord) (previous : ℕ) → BeginsWithPini region generation previous rs
    → Split IsJournalBody wrong.before wrong.after wrong.body rs → ⊥
split_is_none region generation file offset wrong rs previous begins s =
    wrong.wrong s.here previous s.here_is
    (follow_split wrong.before wrong.earlier s.left s.here s.right region generation previous wrong.spelled_before s.left_zip
    (subst (λ (l : List JournalRecord). BeginsWithPini region generation previous l) s.is begins))

pub wrong_is_none : (region generation : ℕ) (file : List ℕ) (offset : ℕ) → HasWrongRecord region generation file offset → (rs : List JournalRecord) → IsJournalFile region generation file rs → ⊥
wrong_is_none region generation file offset wrong rs is =
    let same : Some is.held.0 ≡ Some (wrong.before ++ wrong.body ∷ wrong.after) = sym is.held.1 ∙ wrong.list in
    let bodies_are : is.held.0 ≡ wrong.before ++ wrong.body ∷ wrong.after = cc same in
    split_is_none region generation file offset wrong rs is.previous is.begins
    (zip_split IsJournalBody wrong.before wrong.after wrong.body rs (subst (λ (l : List Body). AllZip IsJournalBody l rs) bodies_are is.held.2))

-- a file that stands for the same records
pub wrong_as : (region generation : ℕ) (old new : List ℕ) (offset : ℕ) → records old ≡ records new → HasWrongRecord region generation new offset → HasWrongRecord region generation old offset
wrong_as region generation old new offset same wrong = record {
  before = wrong.before;
  body = wrong.body;
  after = wrong.after;
  list = same ∙ wrong.list;
  place = wrong.place;
  earlier = wrong.earlier;
  spelled_before = wrong.spelled_before;
  wrong = wrong.wrong;
}

pub journal_as : (region generation : ℕ) (old new : List ℕ) (rs : List JournalRecord) → records old ≡ records new → IsJournalFile region generation new rs → IsJournalFile region generation old rs
journal_as region generation old new rs same is = record { held = (is.held.0, same ∙ is.held.1, is.held.2); previous = is.previous; begins = is.begins }

-- a loop over a file that the disk tells, or doesn't
pub told_next : (o : Option Files) (file region generation at next : ℕ) (x : JnlRecord) → IfSome o (λ files. Walked region generation (files file) at) → IfSome o (λ files. FindsRecord (files file) at (Some (x, next)))
    → MayStand (nat_eq at 0) region generation (record_value x) → IfSome o (λ files. Walked region generation (files file) next)
told_next o file region generation at next x walked found may =
    both_weak o (λ files. Walked region generation (files file) at) (λ files. FindsRecord (files file) at (Some (x, next))) (λ files. Walked region generation (files file) next) walked found
    (λ files w is. walked_next region generation (files file) at w x next is may)

pub told_wrong : (o : Option Files) (file region generation at next : ℕ) (x : JnlRecord) → IfSome o (λ files. Walked region generation (files file) at) → IfSome o (λ files. FindsRecord (files file) at (Some (x, next)))
    → (MayStand (nat_eq at 0) region generation (record_value x) → ⊥) → IfSome o (λ files. HasWrongRecord region generation (files file) at)
told_wrong o file region generation at next x walked found refused =
    both_weak o (λ files. Walked region generation (files file) at) (λ files. FindsRecord (files file) at (Some (x, next))) (λ files. HasWrongRecord region generation (files file) at) walked found
    (λ files w is. walked_wrong region generation (files file) at w x next is refused)

pub told_none : (o : Option Files) (file region generation at : ℕ) → IfSome o (λ files. Walked region generation (files file) at) → IfSome o (λ files. IsNoRecord (files file) at) → IfSome o (λ files. HasWrongRecord region generation (files file) at)
told_none o file region generation at walked none =
    both_weak o (λ files. Walked region generation (files file) at) (λ files. IsNoRecord (files file) at) (λ files. HasWrongRecord region generation (files file) at) walked none
    (λ files w is. walked_none region generation (files file) at w is)

pub told_end : (o : Option Files) (file region generation at : ℕ) → IfSome o (λ files. Walked region generation (files file) at) → IfSome o (λ files. FindsRecord (files file) at None)
    → IfSome o (λ files. (rs : List JournalRecord) × IsJournalFile region generation (files file) rs)
told_end o file region generation at walked shut =
    both_weak o (λ files. Walked region generation (files file) at) (λ files. FindsRecord (files file) at None) (λ files. (rs : List JournalRecord) × IsJournalFile region generation (files file) rs) walked shut
    (λ files w is. walked_end region generation (files file) at w is)

-- reading on gives the records
pub from_start : (file : List ℕ) (rs : List JournalRecord) → Holds IsJournalBody file rs → HoldsFrom file 0 rs
from_start file rs held = held

head_is : (body : Body) (bodies : List Body) (r : JournalRecord) (rs : List JournalRecord) → IsJournalBody body r → AllZip IsJournalBody (body ∷ bodies) rs → (more : List JournalRecord) × (rs ≡ r ∷ more) × AllZip IsJournalBody bodies more
head_is body bodies r [] is zip = absurd zip
head_is body bodies r (x ∷ rs) is zip = (rs, ap (λ (y : JournalRecord). y ∷ rs) (journal_body body x r zip.0 is), zip.1)

pub from_next : (file : List ℕ) (at place : ℕ) (r : JnlRecord) (rs : List JournalRecord) → FindsRecord file at (Some (r, place)) → HoldsFrom file at rs → (more : List JournalRecord) × (rs ≡ record_value r ∷ more) × HoldsFrom file place more
from_next file at place r rs found held =
    let b = begun found.0 (bodies_at file place) held.0 (sym (at_open file at found.0 place found.1) ∙ held.1) in
    let head = head_is found.0 b.more (record_value r) rs found.3 (subst (λ (l : List Body). AllZip IsJournalBody l rs) b.is held.2) in
    (head.0, head.1, (b.more, b.rest, head.2))

none_left : (bodies : List Body) (rs : List JournalRecord) → bodies ≡ [] → AllZip IsJournalBody bodies rs → rs ≡ []
none_left bodies [] is zip = refl
none_left [] (r ∷ rs) is zip = absurd zip
none_left (b ∷ bodies) (r ∷ rs) is zip = absurd (cc is)

pub from_last : (file : List ℕ) (at : ℕ) (rs : List JournalRecord) → FindsRecord file at None → HoldsFrom file at rs → rs ≡ []
from_last file at rs shut held =
    let same : Some held.0 ≡ Some [] = sym held.1 ∙ at_shut file at shut in
    let none : held.0 ≡ [] = cc same in
    none_left held.0 rs none held.2

pub from_inside : (file : List ℕ) (at : ℕ) (rs : List JournalRecord) → IsNoRecord file at → HoldsFrom file at rs → ⊥
from_inside file at rs none held = elim none [
  | inl no_gate ↦ no_list (sym held.1 ∙ at_none file at no_gate)
  | inr found ↦
      let b = begun found.0 (bodies_at file found.1) held.0 (sym (at_open file at found.0 found.1 found.2) ∙ held.1) in
      first_body found.0 b.more rs found.3 (subst (λ (l : List Body). AllZip IsJournalBody l rs) b.is held.2)
]
  where
    no_list : Some held.0 ≡ None → ⊥
    no_list is = cc is

    first_body : (body : Body) (bodies : List Body) (rs : List JournalRecord) → ((r : JournalRecord) → IsJournalBody body r → ⊥) → AllZip IsJournalBody (body ∷ bodies) rs → ⊥
    first_body body bodies [] never zip = absurd zip
    first_body body bodies (r ∷ rs) never zip = never r zip.0
