-- Signs of a journal's records, gathered from gate to gate and from generation to generation.
use Rattle.std.proofs.Common.{◌≡◌, ℕ, suc, ◌≤◌, nat_eq, Bool, true, false, List, [], ◌∷◌, ◌++◌, take, slice_get, Option, Some, None, IfSome, refl, sym, ◌∙◌, ap, subst, arith, append_assoc, append-nil}
use Rattle.disk_defs.specs.Disk.{Files, View}
use Rattle.disk_defs.proofs.Told.{told_at, both_weak}
use Rattle.journal_defs.specs.Numbers.{journal_file}
use Rattle.journal_defs.specs.Journal.{JournalRecord, Pini, Epoch, Pblk, Tcom}
use Rattle.journal_defs.specs.Sequence.{Placed}
use Rattle.journal_defs.specs.Stands.{IsJournal, in_generation}
use Rattle.jnl_record.specs.Values.{record_value}
use Rattle.jnl_file.specs.Reading.{IsNoRecord}
use Rattle.jnl_file.specs.Generations.{HasNewer, StopsAt, MayJoin as RecordJoins}
use Rattle.jnl_file.specs.Newer.{Reached}
use Rattle.jnl_file.proofs.Newer.{reached_start, reached_next, reached_end, reached_none, reached_refused}
use Rattle.jnl_file.proofs.Zips.{zip_append, zip_length}
use Rattle.site_defs.specs.OutsideJournal.{IsOutsideAfter, IsOutsideGenerations}
use Rattle.entry_index.specs.RecordSigns.{sign_of}
use Rattle.entry_index.specs.Places.{IsSignOf, AreSignsOf}
use Rattle.entry_index.specs.Order.{bytes_in, AreInOrder, AreNewer}
use Rattle.entry_index.proofs.Order.{bytes_append, bytes_own, body_size, older_bytes, newer_more, order_append}
use Rattle.entry_index.specs.Pieces.{FindsSign}
use Rattle.entry_index.specs.Generations.{MayJoin, HasNewerSigns}
use Rattle.entry_index.specs.declared.placed.PlacedSign.{PlacedSign}
use Rattle.entry_index.specs.declared.sign.Sign.{Sign}

-- a sign joins where its record does
pub join_of : (first : Bool) (region generation previous : ℕ) (r : JournalRecord) → MayJoin first region generation previous (sign_of r) → RecordJoins first region generation previous r
join_of true region generation previous (Pini s) may = (may.0, may.1, may.2, tt)
join_of true region generation previous (Epoch m) may = may
join_of true region generation previous (Pblk b) may = may
join_of true region generation previous (Tcom p) may = may
join_of false region generation previous (Pini s) may = may
join_of false region generation previous (Epoch m) may = may
join_of false region generation previous (Pblk b) may = may
join_of false region generation previous (Tcom p) may = may

joins_sign : (first : Bool) (region generation previous : ℕ) (r : JournalRecord) → RecordJoins first region generation previous r → MayJoin first region generation previous (sign_of r)
joins_sign true region generation previous (Pini s) may = (may.0, may.1, may.2)
joins_sign true region generation previous (Epoch m) may = may
joins_sign true region generation previous (Pblk b) may = may
joins_sign true region generation previous (Tcom p) may = may
joins_sign false region generation previous (Pini s) may = may
joins_sign false region generation previous (Epoch m) may = may
joins_sign false region generation previous (Pblk b) may = may
joins_sign false region generation previous (Tcom p) may = may

-- Up to this place stand records of such a journal, whose signs were added to a list.
pub record Indexed (files : Files) (region generation previous at : ℕ) (old new : List PlacedSign) (began : ℕ) : Type 0 where
  pub placed : List Placed
  pub reached : Reached region generation previous (files (journal_file generation region)) at [] placed began
  pub signs : List PlacedSign
  pub whole : new ≡ old ++ signs
  pub are : AreSignsOf files region signs placed
  pub place : at ≡ bytes_in generation placed
  pub in_order : AreNewer generation signs placed

indexed_start : (files : Files) (region generation previous : ℕ) (old : List PlacedSign) → Indexed files region generation previous 0 old old previous
indexed_start files region generation previous old = record {
  placed = [];
  reached = reached_start region generation previous (files (journal_file generation region)) [];
  signs = [];
  whole = sym (append-nil old);
  are = tt;
  place = refl;
  in_order = λ i s there. absurd (cc there);
}

module _ (files : Files) (region generation previous at : ℕ) (old new : List PlacedSign) (began : ℕ) (w : Indexed files region generation previous at old new began) where
  indexed_next : (s : Sign) (next : ℕ) → FindsSign (files (journal_file generation region)) at (Some (s, next)) → MayJoin (nat_eq at 0) region generation previous s
      → Indexed files region generation previous next old (new ++ record { generation = generation; offset = at; sign = s } ∷ []) generation
  indexed_next s next found may =
      let file = files (journal_file generation region) in
      let p : PlacedSign = record { generation = generation; offset = at; sign = s } in
      let r : JournalRecord = record_value found.0 in
      let joins = join_of (nat_eq at 0) region generation previous r (subst (λ (x : Sign). MayJoin (nat_eq at 0) region generation previous x) found.2 may) in
      record {
        placed = w.placed ++ in_generation generation r ∷ [];
        reached = reached_next region generation previous file at [] w.placed began w.reached found.0 next found.1 joins;
        signs = w.signs ++ p ∷ [];
        whole = ap (λ (l : List PlacedSign). l ++ p ∷ []) w.whole ∙ append_assoc old w.signs (p ∷ []);
        are = zip_append (IsSignOf files region) w.signs (p ∷ []) w.placed (in_generation generation r ∷ []) w.are (record { generation = refl; says = found.2; stands = found.3 }, tt);
        place = omega (arith, found.1.2, w.place, body_size found.1.0 r found.1.3, bytes_append generation w.placed (in_generation generation r ∷ []), bytes_own generation (r ∷ []));
        in_order = newer_more generation w.signs w.placed p (in_generation generation r) (zip_length (IsSignOf files region) w.signs w.placed w.are) refl w.place w.in_order;
      }

  indexed_end : FindsSign (files (journal_file generation region)) at None → HasNewerSigns files region generation previous old new began
  indexed_end shut = record {
    placed = w.placed;
    newer = reached_end region generation previous (files (journal_file generation region)) at [] w.placed began w.reached shut;
    signs = w.signs;
    whole = w.whole;
    are = w.are;
    in_order = w.in_order;
  }

  indexed_none : IsNoRecord (files (journal_file generation region)) at → StopsAt region generation previous (files (journal_file generation region)) at
  indexed_none none = reached_none region generation previous (files (journal_file generation region)) at [] w.placed began w.reached none

  indexed_refused : (s : Sign) (next : ℕ) → FindsSign (files (journal_file generation region)) at (Some (s, next)) → (MayJoin (nat_eq at 0) region generation previous s → ⊥)
      → StopsAt region generation previous (files (journal_file generation region)) at
  indexed_refused s next found refused =
      reached_refused region generation previous (files (journal_file generation region)) at [] w.placed began w.reached found.0 next found.1
      (λ may. refused (subst (λ (x : Sign). MayJoin (nat_eq at 0) region generation previous x) (sym found.2) (joins_sign (nat_eq at 0) region generation previous (record_value found.0) may)))

-- the same of files that the disk tells, or doesn't
pub told_start : (o : Option Files) (region generation previous : ℕ) (old : List PlacedSign) → IfSome o (λ files. Indexed files region generation previous 0 old old previous)
told_start None region generation previous old = tt
told_start (Some files) region generation previous old = indexed_start files region generation previous old

module _ (o : Option Files) (region generation previous at : ℕ) (old new : List PlacedSign) (began : ℕ) (w : IfSome o (λ files. Indexed files region generation previous at old new began)) where
  abbrev so_far : Files → Type 0
  so_far files = Indexed files region generation previous at old new began

  abbrev here : Files → List ℕ
  here files = files (journal_file generation region)

  pub told_next : (s : Sign) (next : ℕ) → IfSome o (λ files. FindsSign (files (journal_file generation region)) at (Some (s, next))) → MayJoin (nat_eq at 0) region generation previous s
      → IfSome o (λ files. Indexed files region generation previous next old (new ++ record { generation = generation; offset = at; sign = s } ∷ []) generation)
  told_next s next found may =
      both_weak o so_far (λ files. FindsSign (here files) at (Some (s, next))) (λ files. Indexed files region generation previous next old (new ++ record { generation = generation; offset = at; sign = s } ∷ []) generation) w found
      (λ files i is. indexed_next files region generation previous at old new began i s next is may)

  pub told_end : IfSome o (λ files. FindsSign (files (journal_file generation region)) at None) → IfSome o (λ files. HasNewerSigns files region generation previous old new began)
  told_end shut = both_weak o so_far (λ files. FindsSign (here files) at None) (λ files. HasNewerSigns files region generation previous old new began) w shut (λ files i is. indexed_end files region generation previous at old new began i is)

  pub told_none : IfSome o (λ files. IsNoRecord (files (journal_file generation region)) at) → IfSome o (λ files. StopsAt region generation previous (files (journal_file generation region)) at)
  told_none none = both_weak o so_far (λ files. IsNoRecord (here files) at) (λ files. StopsAt region generation previous (here files) at) w none (λ files i is. indexed_none files region generation previous at old new began i is)

  pub told_refused : (s : Sign) (next : ℕ) → IfSome o (λ files. FindsSign (files (journal_file generation region)) at (Some (s, next))) → (MayJoin (nat_eq at 0) region generation previous s → ⊥)
      → IfSome o (λ files. StopsAt region generation previous (files (journal_file generation region)) at)
  told_refused s next found refused =
      both_weak o so_far (λ files. FindsSign (here files) at (Some (s, next))) (λ files. StopsAt region generation previous (here files) at) w found
      (λ files i is. indexed_refused files region generation previous at old new began i s next is refused)

-- the signs of a region's journals up to a generation
abbrev pub HasSigns : Files → ℕ → ℕ → ℕ → List PlacedSign → Type 0
HasSigns files region g last signs = (journal : List Placed) × IsJournal files region g last journal × AreSignsOf files region signs journal × AreInOrder signs journal

signs_join : (files : Files) (region g n last began : ℕ) (old new : List PlacedSign) → n ≡ suc g → HasSigns files region g last old → HasNewerSigns files region n last old new began → HasSigns files region n began new
signs_join files region g n last began old new next so_far more =
    let whole = so_far.0 ++ more.placed in
    let joined : HasNewer region n last (files (journal_file n region)) so_far.0 whole began = record {
      newer = more.newer.newer;
      newer_is = more.newer.newer_is;
      begins = more.newer.begins;
      began_is = more.newer.began_is;
      whole = ap (λ (l : List Placed). so_far.0 ++ l) more.newer.whole;
    } in
    let here = subst (λ (k : ℕ). HasNewer region k last (files (journal_file k region)) so_far.0 whole began) next joined in
    let journal : IsJournal files region (suc g) began whole = (last, so_far.0, here.newer, so_far.1, here.newer_is, here.begins, here.began_is, here.whole) in (
      whole,
      subst (λ (k : ℕ). IsJournal files region k began whole) (sym next) journal,
      subst (λ (l : List PlacedSign). AreSignsOf files region l whole) (sym more.whole) (zip_append (IsSignOf files region) old more.signs so_far.0 more.placed so_far.2 more.are),
      subst (λ (l : List PlacedSign). AreInOrder l whole) (sym more.whole) (order_append old more.signs so_far.0 more.placed (zip_length (IsSignOf files region) old so_far.0 so_far.2) so_far.3 placed),
    )
  where
    none_before : bytes_in n so_far.0 ≡ 0
    none_before = older_bytes files region g last n so_far.0 so_far.1 (omega (arith, next))

    placed : (k : ℕ) (s : PlacedSign) → slice_get more.signs k ≡ Some s → s.offset ≡ bytes_in s.generation (so_far.0 ++ take k more.placed)
    placed k s there =
        let here = more.in_order k s there in
        here.1 ∙ omega (arith, none_before, bytes_append n so_far.0 (take k more.placed)) ∙ ap (λ (h : ℕ). bytes_in h (so_far.0 ++ take k more.placed)) (sym here.0)

outside_here : (files : Files) (region last g n began offset : ℕ) (signs : List PlacedSign) → n ≡ suc g → n ≤ last → HasSigns files region g began signs → IsOutsideAfter region n began (files (journal_file n region)) offset
    → IsOutsideGenerations files region last (journal_file n region) offset
outside_here files region last g n began offset signs next most has outside = record {
  inside = g;
  began = began;
  older = has.0;
  older_is = has.1;
  no_later = subst (λ (k : ℕ). k ≤ last) next most;
  file_is = let same : n ≡ suc g = next in omega (arith, same);
  outside = subst (λ (k : ℕ). IsOutsideAfter region k began (files (journal_file n region)) offset) next outside;
}

pub told_none_yet : (o : Option Files) (region : ℕ) → IfSome o (λ files. HasSigns files region 0 0 [])
told_none_yet None region = tt
told_none_yet (Some files) region = ([], (refl, refl), tt, λ i s there. absurd (cc there))

module _ (u v : View) (region g n : ℕ) (next : n ≡ suc g) (content : v.content ≡ u.content) where
  pub told_joins : (last began : ℕ) (old new : List PlacedSign) → IfSome u.content (λ files. HasSigns files region g last old) → IfSome v.content (λ files. HasNewerSigns files region n last old new began)
      → IfSome u.content (λ files. HasSigns files region n began new)
  told_joins last began old new so_far more =
      both_weak u.content (λ files. HasSigns files region g last old) (λ files. HasNewerSigns files region n last old new began) (λ files. HasSigns files region n began new) so_far
      (told_at u.content v.content (λ files. HasNewerSigns files region n last old new began) content more) (λ files has is. signs_join files region g n last began old new next has is)

  pub told_wrong : (last began offset : ℕ) (signs : List PlacedSign) → n ≤ last → IfSome u.content (λ files. HasSigns files region g began signs) → IfSome v.content (λ files. IsOutsideAfter region n began (files (journal_file n region)) offset)
      → IfSome u.content (λ files. IsOutsideGenerations files region last (journal_file n region) offset)
  told_wrong last began offset signs most so_far outside =
      both_weak u.content (λ files. HasSigns files region g began signs) (λ files. IsOutsideAfter region n began (files (journal_file n region)) offset) (λ files. IsOutsideGenerations files region last (journal_file n region) offset) so_far
      (told_at u.content v.content (λ files. IsOutsideAfter region n began (files (journal_file n region)) offset) content outside) (λ files has out. outside_here files region last g n began offset signs next most has out)

-- the same of a file by another name, on a disk that tells the same
pub told_file : (o n : Option Files) (f h : ℕ) (P : List ℕ → Type 0) → n ≡ o → f ≡ h → IfSome n (λ files. P (files f)) → IfSome o (λ files. P (files h))
told_file o n f h P content same told = told_at o n (λ files. P (files h)) content (subst (λ (k : ℕ). IfSome n (λ files. P (files k))) same told)
