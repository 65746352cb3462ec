-- A region's journals, read on record by record.
use Rattle.std.proofs.Common.{◌≡◌, ℕ, ◌+◌, ◌≤◌, ◌<◌, ◌==◌, nat_le, ◌&&◌, Bool, true, false, List, [], ◌∷◌, ◌++◌, Option, Some, None, refl, sym, ◌∙◌, ap, subst, arith, append_assoc, append-nil, if◌then◌else◌}
use Rattle.std.proofs.lemmas.Bool.Decides.{nat_tests}
use Rattle.std.specs.Option.{option_or}
use Rattle.std.specs.Prelude.{is_some}
use Rattle.global_defs.specs.declared.limits.TheConstants.{MOST_GENERATIONS}
use Rattle.disk_defs.specs.Disk.{Files}
use Rattle.journal_defs.specs.Instance.{InstanceRecord}
use Rattle.journal_defs.specs.Journal.{Part}
use Rattle.journal_defs.specs.Sequence.{Placed, part_in, part_of}
use Rattle.journal_defs.specs.Surviving.{survives}
use Rattle.entry_index.specs.Cursors.{placed_by, IsDrawn, IsAt, IsNextRecord, Keeps, IsWaiting, Waits, IsOnWay, IsTold, IsPast, Grows, Takes, ReadsOn, ReadsOut, Settles, IsReady}
use Rattle.entry_index.specs.Order.{bytes_in}
use Rattle.entry_index.specs.Places.{IsSignOf}
use Rattle.entry_index.specs.Signs.{part_said, part_sign_in, if_numbered, if_surviving, IsSign}
use Rattle.entry_index.specs.declared.cursor.Cursor.{Cursor}
use Rattle.entry_index.specs.declared.kept.Kept.{Kept}
use Rattle.entry_index.specs.declared.reader.Reader.{Reader}
use Rattle.entry_index.specs.declared.placed.PlacedSign.{PlacedSign}
use Rattle.entry_index.specs.declared.sign.Sign.{Sign}
use Rattle.entry_index.specs.declared.sign.Sign.TheVariants.{Pini, Epoch, Pblk, Tcom}
use Rattle.entry_index.specs.declared.signed_part.PartSign.{PartSign}
use Rattle.entry_index.proofs.Signed.{tells_in}
use Rattle.entry_index.proofs.Thinning.{keeps_later}
use Rattle.block_laws.proofs.Unions.{or_none}
use Rattle.entry_index.proofs.AmongLaws.{chosen}

or_or : {X : Type 0} (a b c : Option X) → option_or (option_or a b) c ≡ option_or a (option_or b c)
or_or None b c = refl
or_or (Some x) b c = refl

-- the part of an entry among records, with others behind them
pub part_append : (instance : List InstanceRecord) (m : ℕ) (xs ys : List Placed) → part_of instance m (xs ++ ys) ≡ option_or (part_of instance m ys) (part_of instance m xs)
part_append instance m [] ys = sym (or_none (part_of instance m ys))
part_append instance m (x ∷ xs) ys =
    ap (λ (o : Option Part). option_or o (part_in instance m x.generation x.what)) (part_append instance m xs ys) ∙ or_or (part_of instance m ys) (part_of instance m xs) (part_in instance m x.generation x.what)

pub grows_none : (instance : List InstanceRecord) (low : ℕ) (js : List Placed) → Grows instance low js js
grows_none instance low js = record { rest = []; whole = sym (append-nil js); none = λ m least. refl }

pub grows_one : (instance : List InstanceRecord) (low : ℕ) (js : List Placed) (x : Placed) → IsPast instance low x → Grows instance low js (js ++ x ∷ [])
grows_one instance low js x past = record { rest = x ∷ []; whole = refl; none = past }

pub grows_then : (instance : List InstanceRecord) (low : ℕ) (a b c : List Placed) → Grows instance low a b → Grows instance low b c → Grows instance low a c
grows_then instance low a b c first second = record {
  rest = first.rest ++ second.rest;
  whole = second.whole ∙ ap (λ (l : List Placed). l ++ second.rest) first.whole ∙ append_assoc a first.rest second.rest;
  none = λ m least.
      part_append instance m first.rest second.rest ∙ ap (λ (o : Option Part). option_or o (part_of instance m first.rest)) (second.none m least) ∙ first.none m least;
}

-- the parts of entries up to there stay
pub grows_part : (instance : List InstanceRecord) (low : ℕ) (a b : List Placed) (m : ℕ) → m ≤ low → Grows instance low a b → part_of instance m b ≡ part_of instance m a
grows_part instance low a b m least grows =
    ap (part_of instance m) grows.whole ∙ part_append instance m a grows.rest ∙ ap (λ (o : Option Part). option_or o (part_of instance m a)) (grows.none m least)

pub no_head : (files : Files) (r n : ℕ) (x : Option Part) → IsSign files r n None x → x ≡ None
no_head files r n None is = refl
no_head files r n (Some p) is = absurd is

-- what waits, where that is nothing
abbrev waits_of : Files → ℕ → ℕ → List Placed → List Placed → Option PartSign → Type 0
waits_of files region n before journal o = Waits files region n o before journal

pub all_kept : (files : Files) (instance : List InstanceRecord) (lowest n : ℕ) (c : Cursor) (journal : List Placed) → c.waiting ≡ None → IsOnWay files instance lowest n c journal → Keeps files instance lowest c.reader.region n c.kept journal
all_kept files instance lowest n c journal none is =
    let same : journal ≡ is.before = subst (waits_of files c.reader.region n is.before journal) none is.waits in
    subst (λ (l : List Placed). Keeps files instance lowest c.reader.region n c.kept l) (sym same) is.keeps

pub nothing_waits : (o : Option PartSign) → is_some o ≡ false → o ≡ None
nothing_waits None none = refl
nothing_waits (Some s) none = absurd (cc none)

-- where nothing waits, no surviving part past the settled entries was read
pub none_past : (files : Files) (instance : List InstanceRecord) (n : ℕ) (c : Cursor) (before journal : List Placed) → c.waiting ≡ None → Waits files c.reader.region n c.waiting before journal → IsTold files instance n c journal → (m : ℕ) → n < m → part_of instance m before ≡ None
none_past files instance n c before journal none waits told m later =
    let same : journal ≡ before = subst (waits_of files c.reader.region n before journal) none waits in
    ap (part_of instance m) (sym same) ∙ no_head files c.reader.region m (part_of instance m journal) (subst (λ (o : Option PartSign). IsSign files c.reader.region m (if_numbered m o) (part_of instance m journal)) none (told m later))

-- before all records
pub begun : (files : Files) (instance : List InstanceRecord) (lowest n : ℕ) (c : Cursor) → c.waiting ≡ None → IsAt files c.reader [] → Keeps files instance lowest c.reader.region n c.kept [] → IsOnWay files instance lowest n c []
begun files instance lowest n c none at keeps = record { at = at; before = []; waits = subst (waits_of files c.reader.region n [] []) (sym none) refl; keeps = keeps }

module _ (files : Files) (instance : List InstanceRecord) (lowest n low : ℕ) where
  -- a record more
  pub step_read : (old new : Cursor) (journal : List Placed) (placed : PlacedSign) → old.waiting ≡ None → new.reader.region ≡ old.reader.region → (next : IsNextRecord files old.reader.region new.reader journal placed)
      → Takes files instance lowest n low new journal next.what → ReadsOn files instance lowest n low old new journal
  step_read old new journal placed none region next takes = record {
    now = journal ++ next.what ∷ [];
    on_way = record { at = next.at; before = takes.before; waits = takes.waits; keeps = takes.keeps };
    grows = grows_one instance low journal next.what takes.past;
    told = λ told m later.
        let gone : part_of instance m journal ≡ None = no_head files old.reader.region m (part_of instance m journal) (subst (λ (o : Option PartSign). IsSign files old.reader.region m (if_numbered m o) (part_of instance m journal)) none (told m later)) in
        let there : part_of instance m (journal ++ next.what ∷ []) ≡ part_in instance m next.what.generation next.what.what =
        part_append instance m journal (next.what ∷ []) ∙ ap (λ (o : Option Part). option_or (part_in instance m next.what.generation next.what.what) o) gone ∙ or_none (part_in instance m next.what.generation next.what.what) in
        subst (λ (o : Option Part). IsSign files new.reader.region m (if_numbered m new.waiting) o) (sym there) (takes.told m);
  }

  -- the next journal
  pub step_turned : (old new : Cursor) (journal : List Placed) → new.kept ≡ old.kept → new.waiting ≡ old.waiting → new.reader.region ≡ old.reader.region → IsAt files new.reader journal → IsOnWay files instance lowest n old journal
      → ReadsOn files instance lowest n low old new journal
  step_turned old new journal kept waiting region at is = record {
    now = journal;
    on_way = record {
      at = at;
      before = is.before;
      waits = subst (λ (o : Option PartSign). Waits files new.reader.region n o is.before journal) (sym waiting) (subst (λ (r : ℕ). Waits files r n old.waiting is.before journal) (sym region) is.waits);
      keeps = subst (λ (k : Kept). Keeps files instance lowest new.reader.region n k is.before) (sym kept) (subst (λ (r : ℕ). Keeps files instance lowest r n old.kept is.before) (sym region) is.keeps);
    };
    grows = grows_none instance low journal;
    told = λ told m later.
        subst (λ (o : Option PartSign). IsSign files new.reader.region m (if_numbered m o) (part_of instance m journal)) (sym waiting)
        (subst (λ (r : ℕ). IsSign files r m (if_numbered m old.waiting) (part_of instance m journal)) (sym region) (told m later));
  }

  -- none of what is kept is read anew
  pub reads_kept : (old new : Cursor) (journal : List Placed) → new.waiting ≡ old.waiting → new.reader ≡ old.reader → ((before : List Placed) → Waits files old.reader.region n old.waiting before journal → Keeps files instance lowest old.reader.region n old.kept before → Keeps files instance lowest old.reader.region n new.kept before)
      → IsOnWay files instance lowest n old journal → ReadsOn files instance lowest n low old new journal
  reads_kept old new journal waiting reader keeps is = record {
    now = journal;
    on_way = record {
      at = subst (λ (p : Reader). IsAt files p journal) (sym reader) is.at;
      before = is.before;
      waits = subst (λ (p : Reader). Waits files p.region n new.waiting is.before journal) (sym reader) (subst (λ (o : Option PartSign). Waits files old.reader.region n o is.before journal) (sym waiting) is.waits);
      keeps = subst (λ (p : Reader). Keeps files instance lowest p.region n new.kept is.before) (sym reader) (keeps is.before is.waits is.keeps);
    };
    grows = grows_none instance low journal;
    told = λ told m later.
        subst (λ (p : Reader). IsSign files p.region m (if_numbered m new.waiting) (part_of instance m journal)) (sym reader)
        (subst (λ (o : Option PartSign). IsSign files old.reader.region m (if_numbered m o) (part_of instance m journal)) (sym waiting) (told m later));
  }

  -- no step, and one behind another
  pub reads_none : (c : Cursor) (journal : List Placed) → IsOnWay files instance lowest n c journal → ReadsOn files instance lowest n low c c journal
  reads_none c journal is = record { now = journal; on_way = is; grows = grows_none instance low journal; told = λ told. told }

  pub reads_both : (old mid new : Cursor) (journal : List Placed) (first : ReadsOn files instance lowest n low old mid journal) → ReadsOn files instance lowest n low mid new first.now → ReadsOn files instance lowest n low old new journal
  reads_both old mid new journal first second =
      record { now = second.now; on_way = second.on_way; grows = grows_then instance low journal first.now second.now first.grows second.grows; told = λ told. second.told (first.told told) }

  pub outs_none : (c : Cursor) (journal : List Placed) → IsOnWay files instance lowest n c journal → ReadsOut files instance lowest n low c journal
  outs_none c journal is = record { now = journal; on_way = is; grows = grows_none instance low journal }

  pub outs_then : (old mid new : Cursor) (journal : List Placed) → ReadsOut files instance lowest n low old journal → ((more : List Placed) → IsOnWay files instance lowest n old more → ReadsOn files instance lowest n low old mid more) → ((more : List Placed) → IsOnWay files instance lowest n mid more → IsOnWay files instance lowest n new more)
      → ReadsOut files instance lowest n low new journal
  outs_then old mid new journal first later last =
      let second = later first.now first.on_way in
      record { now = second.now; on_way = last second.now second.on_way; grows = grows_then instance low journal first.now second.now first.grows second.grows }

-- what waited is kept
pub released : (files : Files) (instance : List InstanceRecord) (lowest n : ℕ) (old new : Cursor) (s : PartSign) (journal : List Placed) → old.waiting ≡ Some s → new.waiting ≡ None → new.reader ≡ old.reader
    → ((before : List Placed) (x : Placed) → IsDrawn x → IsSignOf files old.reader.region (placed_by s) x → Keeps files instance lowest old.reader.region n old.kept before → Keeps files instance lowest old.reader.region n new.kept (before ++ x ∷ []))
    → IsOnWay files instance lowest n old journal → IsOnWay files instance lowest n new journal
released files instance lowest n old new s journal some none reader keeps is =
    let w : IsWaiting files old.reader.region n s is.before journal = subst (waits_of files old.reader.region n is.before journal) some is.waits in
    record {
      at = subst (λ (p : Reader). IsAt files p journal) (sym reader) is.at;
      before = journal;
      waits = subst (waits_of files new.reader.region n journal journal) (sym none) refl;
      keeps = subst (λ (p : Reader). Keeps files instance lowest p.region n new.kept journal) (sym reader)
          (subst (λ (l : List Placed). Keeps files instance lowest old.reader.region n new.kept l) (sym w.whole) (keeps is.before w.what w.drawn w.sign is.keeps));
    }

not_numbered : (m k : ℕ) (s : PartSign) → s.number ≡ k → (k ≡ m → ⊥) → if_numbered m (Some s) ≡ None
not_numbered m k s is other = let no_match : (s.number == m) ≡ false = grind (arith, nat_tests, is, other) in ap (λ (b : Bool). if b then Some s else None) no_match

numbered_other : (m : ℕ) (s : PartSign) → if_numbered m (Some s) ≡ None → s.number ≡ m → ⊥
numbered_other m s gone is = let here : (s.number == m) ≡ true = grind (arith, nat_tests, is) in let some : Some s ≡ None = sym (ap (λ (b : Bool). if b then Some s else None) here) ∙ gone in cc some

-- what waits of another entry
pub other_waits : (m : ℕ) (o : Option PartSign) (s : PartSign) → o ≡ Some s → (s.number ≡ m → ⊥) → if_numbered m o ≡ None
other_waits m o s is differs = let other : (s.number == m) ≡ false = grind (arith, nat_tests, differs) in ap (if_numbered m) is ∙ rw other refl

-- a part of entry n + 1 is settled
pub settled_part : (files : Files) (n : ℕ) (old new : Cursor) (s : PartSign) → old.waiting ≡ Some s → s.number ≡ n + 1 → new.waiting ≡ None → new.reader ≡ old.reader
    → ((instance : List InstanceRecord) (lowest : ℕ) (before : List Placed) (x : Placed) → IsDrawn x → IsSignOf files old.reader.region (placed_by s) x → Keeps files instance lowest old.reader.region (n + 1) old.kept before → Keeps files instance lowest old.reader.region (n + 1) new.kept (before ++ x ∷ []))
    → Settles files n old new
settled_part files n old new s some number none reader keeps = record {
  on_way = λ instance lowest journal is.
      let w : IsWaiting files old.reader.region n s is.before journal = subst (waits_of files old.reader.region n is.before journal) some is.waits in
      record {
        at = subst (λ (p : Reader). IsAt files p journal) (sym reader) is.at;
        before = journal;
        waits = subst (waits_of files new.reader.region (n + 1) journal journal) (sym none) refl;
        keeps = subst (λ (p : Reader). Keeps files instance lowest p.region (n + 1) new.kept journal) (sym reader)
            (subst (λ (l : List Placed). Keeps files instance lowest old.reader.region (n + 1) new.kept l) (sym w.whole)
            (keeps instance lowest is.before w.what w.drawn w.sign (keeps_later files instance lowest old.reader.region n (n + 1) old.kept is.before (omega arith) is.keeps)));
      };
  told = λ instance journal told m later.
      let gone : if_numbered m old.waiting ≡ None = ap (if_numbered m) some ∙ not_numbered m (n + 1) s number (λ same. omega (arith, same, later)) in
      subst (λ (o : Option PartSign). IsSign files new.reader.region m (if_numbered m o) (part_of instance m journal)) (sym none)
      (subst (λ (p : Reader). IsSign files p.region m None (part_of instance m journal)) (sym reader)
      (subst (λ (o : Option PartSign). IsSign files old.reader.region m o (part_of instance m journal)) gone (told m (omega (arith, later)))));
}

waits_later : (files : Files) (region n : ℕ) (o : Option PartSign) (before journal : List Placed) → if_numbered (n + 1) o ≡ None → Waits files region n o before journal → Waits files region (n + 1) o before journal
waits_later files region n None before journal gone is = is
waits_later files region n (Some s) before journal gone is =
    let other : s.number ≡ n + 1 → ⊥ = numbered_other (n + 1) s gone in
    record { what = is.what; drawn = is.drawn; whole = is.whole; sign = is.sign; offset = is.offset; late = later (elim_late is.late) other }
  where
    elim_late : n < s.number → n < s.number
    elim_late h = h

    later : n < s.number → (s.number ≡ n + 1 → ⊥) → n + 1 < s.number
    later h other = grind (arith, h, other)

-- no part of it waits
pub settled_none : (files : Files) (n : ℕ) (c : Cursor) → if_numbered (n + 1) c.waiting ≡ None → Settles files n c c
settled_none files n c gone = record {
  on_way = λ instance lowest journal is. record {
    at = is.at;
    before = is.before;
    waits = waits_later files c.reader.region n c.waiting is.before journal gone is.waits;
    keeps = keeps_later files instance lowest c.reader.region n (n + 1) c.kept is.before (omega arith) is.keeps;
  };
  told = λ instance journal told m later. told m (omega (arith, later));
}

-- the sign of a part, by the part that it says
placed_said : (g at : ℕ) (x : Sign) (s : PartSign) → part_said g at x ≡ Some s → placed_by s ≡ record { generation = g; offset = at; sign = x }
placed_said g at (Tcom number mask origin count span) s is =
    let same : record { number = number; mask = mask; origin = origin; count = count; span = span; place = record { generation = g; offset = at } } ≡ s = cc is in
    ap placed_by (sym same)
placed_said g at (Pini region before generation previous) s is = absurd (cc is)
placed_said g at (Epoch closing number blocks) s is = absurd (cc is)
placed_said g at (Pblk block) s is = absurd (cc is)

pub placed_is : (p : PlacedSign) (s : PartSign) → part_sign_in p ≡ Some s → placed_by s ≡ p
placed_is p s is = placed_said p.generation p.offset p.sign s (chosen (nat_le 1 p.generation && nat_le p.generation MOST_GENERATIONS) (part_said p.generation p.offset p.sign) s is)

-- what the sign of a drawn part says is that part
pub said_part : (files : Files) (region : ℕ) (s : PartSign) (x : Placed) → IsDrawn x → IsSignOf files region (placed_by s) x → Some s ≡ part_sign_in (placed_by s)
said_part files region s x (least, most) sign =
    let yes : (nat_le 1 s.place.generation && nat_le s.place.generation MOST_GENERATIONS) ≡ true = grind (arith, nat_tests, sign.generation, least, most) in
    sym (ap (λ (b : Bool). if b then Some s else None) yes)

-- a record more is taken in
module _ (files : Files) (instance : List InstanceRecord) (lowest n low : ℕ) (new : Cursor) (journal : List Placed) (placed : PlacedSign) (x : Placed) (drawn : IsDrawn x) (sign : IsSignOf files new.reader.region placed x) where
  tells_this : (o : Option PartSign) → part_sign_in placed ≡ o → (m : ℕ) → IsSign files new.reader.region m (if_numbered m (if_surviving instance placed.generation o)) (part_in instance m x.generation x.what)
  tells_this o is m =
      subst (λ (s : Option PartSign). IsSign files new.reader.region m (if_numbered m (if_surviving instance placed.generation s)) (part_in instance m x.generation x.what)) is
      (tells_in files new.reader.region m instance placed x sign drawn)

  -- what says nothing of a surviving part is kept or dropped
  gone_past : (o : Option PartSign) → part_sign_in placed ≡ o → if_surviving instance placed.generation o ≡ None → new.waiting ≡ None → Keeps files instance lowest new.reader.region n new.kept (journal ++ x ∷ [])
      → Takes files instance lowest n low new journal x
  gone_past o is gone none keeps =
      let told : (m : ℕ) → IsSign files new.reader.region m None (part_in instance m x.generation x.what) =
      λ m. subst (λ (s : Option PartSign). IsSign files new.reader.region m (if_numbered m s) (part_in instance m x.generation x.what)) gone (tells_this o is m) in
      record {
        before = journal ++ x ∷ [];
        waits = subst (waits_of files new.reader.region n (journal ++ x ∷ []) (journal ++ x ∷ [])) (sym none) refl;
        keeps = keeps;
        past = λ m least. no_head files new.reader.region m (part_in instance m x.generation x.what) (told m);
        told = λ m. subst (λ (s : Option PartSign). IsSign files new.reader.region m (if_numbered m s) (part_in instance m x.generation x.what)) (sym none) (told m);
      }

  pub takes_none : None ≡ part_sign_in placed → new.waiting ≡ None → Keeps files instance lowest new.reader.region n new.kept (journal ++ x ∷ []) → Takes files instance lowest n low new journal x
  takes_none is none keeps = gone_past None (sym is) refl none keeps

  pub takes_lost : (s : PartSign) → Some s ≡ part_sign_in placed → survives instance placed.generation s.number ≡ false → new.waiting ≡ None → Keeps files instance lowest new.reader.region n new.kept (journal ++ x ∷ [])
      → Takes files instance lowest n low new journal x
  takes_lost s is lost none keeps = gone_past (Some s) (sym is) (ap (λ (b : Bool). if b then Some s else None) lost) none keeps

  pub takes_part : (s : PartSign) → Some s ≡ part_sign_in placed → survives instance placed.generation s.number ≡ true → new.waiting ≡ Some s → n ≤ low → low < s.number
      → placed.offset ≡ bytes_in placed.generation journal → Keeps files instance lowest new.reader.region n new.kept journal → Takes files instance lowest n low new journal x
  takes_part s is lives some least late offset keeps =
      let told : (m : ℕ) → IsSign files new.reader.region m (if_numbered m (Some s)) (part_in instance m x.generation x.what) =
      λ m. subst (λ (b : Bool). IsSign files new.reader.region m (if_numbered m (if b then Some s else None)) (part_in instance m x.generation x.what)) lives (tells_this (Some s) (sym is) m) in
      let same : placed_by s ≡ placed = placed_is placed s (sym is) in
      record {
        before = journal;
        waits = subst (waits_of files new.reader.region n journal (journal ++ x ∷ [])) (sym some) (record {
          what = x;
          drawn = drawn;
          whole = refl;
          sign = subst (λ (p : PlacedSign). IsSignOf files new.reader.region p x) (sym same) sign;
          offset = subst (λ (p : PlacedSign). p.offset ≡ bytes_in p.generation journal) (sym same) offset;
          late = omega (arith, least, late);
        });
        keeps = keeps;
        past = λ m below.
            no_head files new.reader.region m (part_in instance m x.generation x.what)
            (subst (λ (o : Option PartSign). IsSign files new.reader.region m o (part_in instance m x.generation x.what)) (not_numbered m s.number s refl (λ here. omega (arith, here, below, late))) (told m));
        told = λ m. subst (λ (o : Option PartSign). IsSign files new.reader.region m (if_numbered m o) (part_in instance m x.generation x.what)) (sym some) (told m);
      }

-- what a call needs of a reader, by how it was before
pub ready_on : (new old : Option Files) (region last : ℕ) (p q : Reader) → IsReady old region last p → IsReady new p.region p.last q → IsReady new region last q
ready_on new old region last p q was is = record { sound = is.sound; region_is = is.region_is ∙ was.region_is; last_is = is.last_is ∙ was.last_is; told = is.told }
