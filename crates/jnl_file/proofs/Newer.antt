-- Reading the journal of one generation, with another one before it.
use Rattle.std.proofs.Common.{◌≡◌, inl, inr, ℕ, nat_eq, Bool, List, [], ◌∷◌, ◌++◌, length, map, Option, Some, None, IfSome, refl, sym, ◌∙◌, ap, subst, append_assoc, append-nil}
use Rattle.std.proofs.lemmas.List.{map-append}
use Rattle.std.specs.Option.{option_map}
use Rattle.std.specs.List.{AllZip}
use Rattle.disk_defs.specs.Disk.{Files}
use Rattle.disk_defs.specs.Gates.{Body, bodies_at, records, framed, spelled}
use Rattle.disk_defs.proofs.Told.{both_weak}
use Rattle.disk_defs.proofs.Walks.{at_shut, at_open}
use Rattle.journal_defs.specs.Journal.{JournalRecord, Pini, Epoch, Pblk, Tcom, IsJournalBody, BeginsWithPini}
use Rattle.journal_defs.specs.FileGrowth.{MayFollow}
use Rattle.journal_defs.specs.Sequence.{Placed}
use Rattle.journal_defs.specs.Stands.{last_began, in_generation}
use Rattle.jnl_record.specs.Values.{record_value}
use Rattle.jnl_record.specs.declared.record.JnlRecord.{JnlRecord}
use Rattle.jnl_file.specs.Reading.{FindsRecord, IsNoRecord}
use Rattle.jnl_file.specs.Generations.{MayJoin, HasNewer, StopsAt}
use Rattle.jnl_file.specs.Newer.{Reached}
use Rattle.jnl_file.proofs.Zips.{zip_append}
use Rattle.jnl_file.proofs.Walk.{at_start, past_start, no_more_pinis}
use Rattle.gated_file.proofs.Listed.{next_place}

map_same : (o : Option (List Body)) → o ≡ option_map (λ rest. [] ++ rest) o
map_same None = refl
map_same (Some rest) = refl

pub reached_start : (region generation previous : ℕ) (file : List ℕ) (old : List Placed) → Reached region generation previous file 0 old old previous
reached_start region generation previous file old = record {
  done = [];
  list = map_same (records file);
  place = refl;
  earlier = [];
  spelled_done = tt;
  begins = tt;
  began_is = refl;
  whole = sym (append-nil old);
}

begins_join : (done : List Body) (earlier : List JournalRecord) → AllZip IsJournalBody done earlier → (x : JournalRecord) (region generation previous at : ℕ) → at ≡ length (spelled 1 done) → MayJoin (nat_eq at 0) region generation previous x
    → BeginsWithPini region generation previous earlier → BeginsWithPini region generation previous (earlier ++ x ∷ [])
begins_join [] [] zip x region generation previous at place may begins = subst (λ (b : Bool). MayJoin b region generation previous x) (at_start at place) may
begins_join [] (y ∷ ys) zip x region generation previous at place may begins = absurd zip
begins_join (b ∷ done) [] zip x region generation previous at place may begins = absurd zip
begins_join (b ∷ done) (Pini s ∷ rs) zip x region generation previous at place may begins =
    (begins.0, begins.1, begins.2, no_more_pinis rs x begins.3 (subst (λ (b : Bool). MayJoin b region generation previous x) (past_start at (length (framed b ++ spelled 1 done)) place) may))
begins_join (b ∷ done) (Epoch m ∷ rs) zip x region generation previous at place may begins = absurd begins
begins_join (b ∷ done) (Pblk i ∷ rs) zip x region generation previous at place may begins = absurd begins
begins_join (b ∷ done) (Tcom p ∷ rs) zip x region generation previous at place may begins = absurd begins

follow_joins : (done : List Body) (earlier : List JournalRecord) → AllZip IsJournalBody done earlier → (x : JournalRecord) (region generation previous at : ℕ) → at ≡ length (spelled 1 done) → MayFollow region generation previous earlier (x ∷ [])
    → MayJoin (nat_eq at 0) region generation previous x
follow_joins [] [] zip x region generation previous at place follows = subst (λ (b : Bool). MayJoin b region generation previous x) (sym (at_start at place)) follows
follow_joins [] (y ∷ ys) zip x region generation previous at place follows = absurd zip
follow_joins (b ∷ done) [] zip x region generation previous at place follows = absurd zip
follow_joins (b ∷ done) (y ∷ ys) zip x region generation previous at place follows = subst (λ (b : Bool). MayJoin b region generation previous x) (sym (past_start at (length (framed b ++ spelled 1 done)) place)) follows.0

map_more : (done : List Body) (body : Body) (o : Option (List Body)) → option_map (λ rest. done ++ rest) (option_map (λ bs. body ∷ bs) o) ≡ option_map (λ rest. (done ++ body ∷ []) ++ rest) o
map_more done body None = refl
map_more done body (Some rest) = ap Some (sym (append_assoc done (body ∷ []) rest))

began_more : (previous generation : ℕ) (earlier : List JournalRecord) (x : JournalRecord) → generation ≡ last_began previous generation (earlier ++ x ∷ [])
began_more previous generation [] x = refl
began_more previous generation (y ∷ ys) x = refl

module _ (region generation previous : ℕ) (file : List ℕ) (at : ℕ) (old new : List Placed) (began : ℕ) (w : Reached region generation previous file at old new began) where
  pub reached_next : (x : JnlRecord) (next : ℕ) → FindsRecord file at (Some (x, next)) → MayJoin (nat_eq at 0) region generation previous (record_value x)
      → Reached region generation previous file next old (new ++ in_generation generation (record_value x) ∷ []) generation
  reached_next x next found may = record {
    done = w.done ++ found.0 ∷ [];
    list = w.list ∙ ap (option_map (λ rest. w.done ++ rest)) (at_open file at found.0 next found.1) ∙ map_more w.done found.0 (bodies_at file next);
    place = next_place w.done found.0 at next w.place found.2;
    earlier = w.earlier ++ record_value x ∷ [];
    spelled_done = zip_append IsJournalBody w.done (found.0 ∷ []) w.earlier (record_value x ∷ []) w.spelled_done (found.3, tt);
    begins = begins_join w.done w.earlier w.spelled_done (record_value x) region generation previous at w.place may w.begins;
    began_is = began_more previous generation w.earlier (record_value x);
    whole = ap (λ (l : List Placed). l ++ in_generation generation (record_value x) ∷ []) w.whole
        ∙ append_assoc old (map (in_generation generation) w.earlier) (in_generation generation (record_value x) ∷ [])
        ∙ ap (λ (l : List Placed). old ++ l) (sym (map-append (in_generation generation) w.earlier (record_value x ∷ [])));
  }

  pub reached_end : FindsRecord file at None → HasNewer region generation previous file old new began
  reached_end shut = record {
    newer = w.earlier;
    newer_is = (w.done, w.list ∙ ap (option_map (λ rest. w.done ++ rest)) (at_shut file at shut) ∙ ap Some (append-nil w.done), w.spelled_done);
    begins = w.begins;
    began_is = w.began_is;
    whole = w.whole;
  }

  pub reached_none : IsNoRecord file at → StopsAt region generation previous file at
  reached_none none = record { before = w.done; list = w.list; place = w.place; earlier = w.earlier; spelled_before = w.spelled_done; here = inl none }

  pub reached_refused : (x : JnlRecord) (next : ℕ) → FindsRecord file at (Some (x, next)) → (MayJoin (nat_eq at 0) region generation previous (record_value x) → ⊥) → StopsAt region generation previous file at
  reached_refused x next found refused = record {
    before = w.done;
    list = w.list;
    place = w.place;
    earlier = w.earlier;
    spelled_before = w.spelled_done;
    here = inr (record {
      body = found.0;
      next = next;
      gate = found.1;
      what = record_value x;
      spelled_what = found.3;
      refused = λ follows. refused (follow_joins w.done w.earlier w.spelled_done (record_value x) region generation previous at w.place follows);
    });
  }

-- what holds whatever the disk tells
pub all_told : (o : Option Files) (P : Files → Type 0) → ((files : Files) → P files) → IfSome o P
all_told None P all = tt
all_told (Some files) P all = all files

-- a loop over a file that the disk tells, or doesn't
module _ (o : Option Files) (file region generation previous at : ℕ) (old new : List Placed) (began : ℕ) (reached : IfSome o (λ files. Reached region generation previous (files file) at old new began)) where
  pub told_reached : (x : JnlRecord) (next : ℕ) → IfSome o (λ files. FindsRecord (files file) at (Some (x, next))) → MayJoin (nat_eq at 0) region generation previous (record_value x)
      → IfSome o (λ files. Reached region generation previous (files file) next old (new ++ in_generation generation (record_value x) ∷ []) generation)
  told_reached x next found may =
      both_weak o (λ files. Reached region generation previous (files file) at old new began) (λ files. FindsRecord (files file) at (Some (x, next)))
      (λ files. Reached region generation previous (files file) next old (new ++ in_generation generation (record_value x) ∷ []) generation) reached found
      (λ files w is. reached_next region generation previous (files file) at old new began w x next is may)

  pub told_ended : IfSome o (λ files. FindsRecord (files file) at None) → IfSome o (λ files. HasNewer region generation previous (files file) old new began)
  told_ended shut =
      both_weak o (λ files. Reached region generation previous (files file) at old new began) (λ files. FindsRecord (files file) at None) (λ files. HasNewer region generation previous (files file) old new began) reached shut
      (λ files w is. reached_end region generation previous (files file) at old new began w is)

  pub told_no_record : IfSome o (λ files. IsNoRecord (files file) at) → IfSome o (λ files. StopsAt region generation previous (files file) at)
  told_no_record none =
      both_weak o (λ files. Reached region generation previous (files file) at old new began) (λ files. IsNoRecord (files file) at) (λ files. StopsAt region generation previous (files file) at) reached none
      (λ files w is. reached_none region generation previous (files file) at old new began w is)

  pub told_refused : (x : JnlRecord) (next : ℕ) → IfSome o (λ files. FindsRecord (files file) at (Some (x, next))) → (MayJoin (nat_eq at 0) region generation previous (record_value x) → ⊥)
      → IfSome o (λ files. StopsAt region generation previous (files file) at)
  told_refused x next found refused =
      both_weak o (λ files. Reached region generation previous (files file) at old new began) (λ files. FindsRecord (files file) at (Some (x, next))) (λ files. StopsAt region generation previous (files file) at) reached found
      (λ files w is. reached_refused region generation previous (files file) at old new began w x next is refused)
