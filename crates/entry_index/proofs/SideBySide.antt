-- The journals of all regions, read on side by side.
use Rattle.std.proofs.Common.{◌≡◌, inl, inr, ℕ, ◌+◌, ◌-◌, ◌≤◌, ◌<◌, ◌==◌, Bool, true, false, List, [], ◌∷◌, ◌++◌, length, map, take, set, get_or, slice_get, Option, Some, None, refl, sym, ◌∙◌, ap, subst, arith, if◌then◌else◌, length-append}
use Rattle.std.proofs.Math.ListN.{get_or-append}
use Rattle.std.proofs.Math.Seq.{take-append_seam}
use Rattle.std.proofs.lemmas.Bool.{cases_lt, cases_eq}
use Rattle.std.proofs.lemmas.Bool.Decides.{nat_tests}
use Rattle.std.proofs.lemmas.List.{length-set, get_or-set_same, get_or-set_other, get_or-map, get_or_past, get_or_default, get_or-append_right, length-map}
use Rattle.disk_defs.specs.Disk.{Files}
use Rattle.journal_defs.specs.Instance.{InstanceRecord}
use Rattle.journal_defs.specs.Journal.{Tcom, Part}
use Rattle.journal_defs.specs.Numbers.{journal_file}
use Rattle.journal_defs.specs.Sequence.{Placed, part_of}
use Rattle.entry_index.specs.Completing.{place_told}
use Rattle.entry_index.specs.Cursors.{IsWaiting, Waits, IsOnWay, IsTold, Grows, ReadsOn, ReadsOut, Settles, IsReady, IsDone, AreReady, AreOnWay, AreTold, AllReadOn, AllReadOut, AllSettle}
use Rattle.entry_index.specs.Order.{bytes_in}
use Rattle.entry_index.specs.Parts.{NOWHERE, InJournals, IsPartAt, AreParts}
use Rattle.entry_index.specs.Places.{StandsAt}
use Rattle.entry_index.specs.Signs.{if_numbered, IsSign, Tells}
use Rattle.entry_index.specs.Table.{row_sign, AreSigned}
use Rattle.entry_index.specs.declared.cursor.Cursor.{Cursor}
use Rattle.entry_index.specs.declared.place.PartPlace.{PartPlace}
use Rattle.entry_index.specs.declared.reader.Reader.{Reader}
use Rattle.entry_index.specs.declared.signed_part.PartSign.{PartSign}
use Rattle.entry_index.proofs.Cursors.{grows_none, grows_then}
use Rattle.entry_index.proofs.Stands.{one_stands}
use Rattle.entry_index.proofs.AmongLaws.{placed_is as placed_same}

-- what holds of each cursor, after one has changed
pub all_set : (P : ℕ → Cursor → Type 0) (cs : List Cursor) (i : ℕ) (x : Cursor) → ((r : ℕ) (d : Cursor) → r < length cs → (r ≡ i → ⊥) → P r (get_or cs r d)) → P i x → (r : ℕ) (d : Cursor) → r < length (set cs i x) → P r (get_or (set cs i x) r d)
all_set P cs i x all here r d low =
    let within : r < length cs = omega (arith, low, length-set cs i x) in
    elim (cases_eq r i) [
      | inl same ↦
          let inside : i < length cs = omega (arith, within, same) in
          subst (λ (k : ℕ). P k (get_or (set cs i x) k d)) (sym same) (subst (P i) (sym (get_or-set_same cs i x d inside)) here)
      | inr other ↦ subst (P r) (sym (get_or-set_other cs i r x d other)) (all r d within other)
    ]

-- the journals of all regions, after one has changed
abbrev pub put : (ℕ → List Placed) → ℕ → List Placed → ℕ → List Placed
put journal i js r = if r == i then js else journal r

put_same : (journal : ℕ → List Placed) (i : ℕ) (js : List Placed) → put journal i js i ≡ js
put_same journal i js = let here : (i == i) ≡ true = grind (arith, nat_tests) in ap (λ (b : Bool). if b then js else journal i) here

put_other : (journal : ℕ → List Placed) (i : ℕ) (js : List Placed) (r : ℕ) → (r ≡ i → ⊥) → put journal i js r ≡ journal r
put_other journal i js r other = let there : (r == i) ≡ false = grind (arith, nat_tests, other) in ap (λ (b : Bool). if b then js else journal r) there

pub ready_set : (o n : Option Files) (last : ℕ) (cs : List Cursor) (i : ℕ) (x : Cursor) → n ≡ o → AreReady o last cs → IsReady n i last x.reader → AreReady n last (set cs i x)
ready_set o n last cs i x content ready here =
    all_set (λ r c. IsReady n r last c.reader) cs i x (λ r d low other. subst (λ (z : Option Files). IsReady z r last (get_or cs r d).reader) (sym content) (ready r d low)) here

module _ (files : Files) (instance : List InstanceRecord) (lowest n : ℕ) (cs : List Cursor) (journal : ℕ → List Placed) (way : AreOnWay files instance lowest n cs journal) (i : ℕ) (x : Cursor) (inside : i < length cs) where
  way_set : (js : List Placed) → IsOnWay files instance lowest n x js → AreOnWay files instance lowest n (set cs i x) (put journal i js)
  way_set js here = record {
    each = all_set (λ r c. IsOnWay files instance lowest n c (put journal i js r)) cs i x (λ r d low other. subst (λ (l : List Placed). IsOnWay files instance lowest n (get_or cs r d) l) (sym (put_other journal i js r other)) (way.each r d low))
        (subst (λ (l : List Placed). IsOnWay files instance lowest n x l) (sym (put_same journal i js)) here);
    no_more = λ r past.
        let high : length cs ≤ r = omega (arith, past, length-set cs i x) in
        put_other journal i js r (λ same. omega (arith, same, high, inside)) ∙ way.no_more r high;
  }

  grows_set : (low : ℕ) (js : List Placed) → Grows instance low (journal i) js → (r : ℕ) → Grows instance low (journal r) (put journal i js r)
  grows_set low js grows r = elim (cases_eq r i) [
    | inl same ↦ subst (λ (k : ℕ). Grows instance low (journal k) (put journal i js k)) (sym same) (subst (λ (l : List Placed). Grows instance low (journal i) l) (sym (put_same journal i js)) grows)
    | inr other ↦ subst (λ (l : List Placed). Grows instance low (journal r) l) (sym (put_other journal i js r other)) (grows_none instance low (journal r))
  ]

  pub on_one : (low : ℕ) (d : Cursor) → ReadsOn files instance lowest n low (get_or cs i d) x (journal i) → AllReadOn files instance lowest n low cs (set cs i x) journal
  on_one low d reads = record {
    now = put journal i reads.now;
    on_way = way_set reads.now reads.on_way;
    grows = grows_set low reads.now reads.grows;
    told = λ told.
        all_set (λ r c. IsTold files instance n c (put journal i reads.now r)) cs i x
        (λ r e low other. subst (λ (l : List Placed). IsTold files instance n (get_or cs r e) l) (sym (put_other journal i reads.now r other)) (told r e low))
        (subst (λ (l : List Placed). IsTold files instance n x l) (sym (put_same journal i reads.now)) (reads.told (told i d inside)));
  }

  pub out_one : (low : ℕ) → ReadsOut files instance lowest n low x (journal i) → AllReadOut files instance lowest n low (set cs i x) journal
  out_one low reads = record { now = put journal i reads.now; on_way = way_set reads.now reads.on_way; grows = grows_set low reads.now reads.grows }

module _ (files : Files) (instance : List InstanceRecord) (lowest n low : ℕ) where
  pub on_none : (cs : List Cursor) (journal : ℕ → List Placed) → AreOnWay files instance lowest n cs journal → AllReadOn files instance lowest n low cs cs journal
  on_none cs journal way = record { now = journal; on_way = way; grows = λ r. grows_none instance low (journal r); told = λ told. told }

  pub on_both : (old mid new : List Cursor) (journal : ℕ → List Placed) (first : AllReadOn files instance lowest n low old mid journal) → AllReadOn files instance lowest n low mid new first.now → AllReadOn files instance lowest n low old new journal
  on_both old mid new journal first second = record {
    now = second.now;
    on_way = second.on_way;
    grows = λ r. grows_then instance low (journal r) (first.now r) (second.now r) (first.grows r) (second.grows r);
    told = λ told. second.told (first.told told);
  }

  pub out_none : (cs : List Cursor) (journal : ℕ → List Placed) → AreOnWay files instance lowest n cs journal → AllReadOut files instance lowest n low cs journal
  out_none cs journal way = record { now = journal; on_way = way; grows = λ r. grows_none instance low (journal r) }

  pub out_then : (mid new : List Cursor) (journal : ℕ → List Placed) → AllReadOut files instance lowest n low mid journal → ((more : ℕ → List Placed) → AreOnWay files instance lowest n mid more → AllReadOut files instance lowest n low new more) → AllReadOut files instance lowest n low new journal
  out_then mid new journal first later =
      let second = later first.now first.on_way in
      record { now = second.now; on_way = second.on_way; grows = λ r. grows_then instance low (journal r) (first.now r) (second.now r) (first.grows r) (second.grows r) }

-- all are settled
pub all_settled : (files : Files) (n : ℕ) (old new : List Cursor) → length new ≡ length old → ((r : ℕ) (d : Cursor) → r < length old → Settles files n (get_or old r d) (get_or new r d)) → AllSettle files n old new
all_settled files n old new many settles = record {
  on_way = λ instance lowest journal way. record {
    each = λ r d low. let within : r < length old = omega (arith, low, many) in (settles r d within).on_way instance lowest (journal r) (way.each r d within);
    no_more = λ r past. way.no_more r (omega (arith, past, many));
  };
  told = λ instance journal told r d low. let within : r < length old = omega (arith, low, many) in (settles r d within).told instance (journal r) (told r d within);
}

-- some cursor of a list
pub some_in : (cs : List Cursor) (r : ℕ) → r < length cs → Cursor
some_in [] r low = absurd (omega (arith, low))
some_in (c ∷ cs) r low = c

-- the row of what waits of an entry
abbrev pub row_of : ℕ → List Cursor → List (Option PartSign)
row_of m cs = map (λ c. if_numbered m c.waiting) cs

pub row_at : (m : ℕ) (cs : List Cursor) (r : ℕ) (d : Cursor) → r < length cs → row_sign (row_of m cs) r ≡ if_numbered m (get_or cs r d).waiting
row_at m cs r d low = get_or-map (λ (c : Cursor). if_numbered m c.waiting) cs r d None low

row_past : (m : ℕ) (cs : List Cursor) (r : ℕ) → length cs ≤ r → row_sign (row_of m cs) r ≡ None
row_past m cs r past = get_or_past (row_of m cs) r None (omega (arith, past, length-map cs (λ (c : Cursor). if_numbered m c.waiting)))

got_last : {X : Type 0} (xs : List X) (x : X) → slice_get (xs ++ x ∷ []) (length xs) ≡ Some x
got_last [] x = refl
got_last (y ∷ xs) x = got_last xs x

-- what waits of an entry is among the records
module _ (files : Files) (journal : ℕ → List Placed) (r n m : ℕ) (before : List Placed) where
  tells_among : (s : PartSign) (p : Part) → IsWaiting files r n s before (journal r) → Tells files r m s p → IsPartAt (InJournals journal) r m s.place (Some p)
  tells_among s p w t =
      let at = t.stands in
      let drawn : w.what.generation ≡ s.place.generation = sym w.sign.generation in
      let here : StandsAt (files (journal_file s.place.generation r)) s.place.offset w.what.what = subst (λ (g : ℕ). StandsAt (files (journal_file g r)) s.place.offset w.what.what) drawn w.sign.stands in
      let what : w.what.what ≡ Tcom p = one_stands (files (journal_file s.place.generation r)) s.place.offset w.what.what (Tcom p) here at.3 in (
        at.0,
        at.1,
        at.2,
        record {
          place = length before;
          there = ap (λ (l : List Placed). slice_get l (length before)) w.whole ∙ got_last before w.what ∙ ap Some (placed_same w.what s.place.generation (Tcom p) drawn what);
          offset_is = w.offset ∙ ap (bytes_in s.place.generation) (sym (take-append_seam before (w.what ∷ [])) ∙ ap (take (length before)) (sym w.whole));
        },
      )

  sign_among : (s : PartSign) (b : Bool) (x : Option Part) → IsWaiting files r n s before (journal r) → IsSign files r m (if b then Some s else None) x → IsPartAt (InJournals journal) r m (place_told (if b then Some s else None)) x
  sign_among s true None w is = absurd is
  sign_among s true (Some p) w is = tells_among s p w is
  sign_among s false None w is = refl
  sign_among s false (Some p) w is = absurd is

  waiting_among : (o : Option PartSign) (x : Option Part) → Waits files r n o before (journal r) → IsSign files r m (if_numbered m o) x → IsPartAt (InJournals journal) r m (place_told (if_numbered m o)) x
  waiting_among None None w is = refl
  waiting_among None (Some p) w is = absurd is
  waiting_among (Some s) x w is = sign_among s (s.number == m) x w is

module _ (files : Files) (instance : List InstanceRecord) (lowest n m : ℕ) (next : n < m) (cs : List Cursor) (journal : ℕ → List Placed) (regions : (r : ℕ) (d : Cursor) → r < length cs → (get_or cs r d).reader.region ≡ r)
    (way : AreOnWay files instance lowest n cs journal) (told : AreTold files instance n cs journal) where
  told_at : (r : ℕ) (d : Cursor) → r < length cs → IsSign files r m (if_numbered m (get_or cs r d).waiting) (part_of instance m (journal r))
  told_at r d low = subst (λ (k : ℕ). IsSign files k m (if_numbered m (get_or cs r d).waiting) (part_of instance m (journal r))) (regions r d low) (told r d low m next)

  pub none_past : (r : ℕ) → length cs ≤ r → part_of instance m (journal r) ≡ None
  none_past r past = ap (part_of instance m) (way.no_more r past)

  -- the row has the signs of the entry's parts
  pub row_signed : AreSigned files (row_of m cs) m (λ r. part_of instance m (journal r))
  row_signed r = elim (cases_lt r (length cs)) [
    | inl low ↦ let d = some_in cs r low in subst (λ (o : Option PartSign). IsSign files r m o (part_of instance m (journal r))) (sym (row_at m cs r d low)) (told_at r d low)
    | inr past ↦ subst (λ (o : Option PartSign). IsSign files r m o (part_of instance m (journal r))) (sym (row_past m cs r past)) (subst (λ (o : Option Part). IsSign files r m None o) (sym (none_past r past)) tt)
  ]

  -- and the places that they tell are those among the records
  pub row_among : (places : List PartPlace) → length places ≡ length cs → ((r : ℕ) → r < length cs → get_or places r NOWHERE ≡ place_told (row_sign (row_of m cs) r)) → AreParts (InJournals journal) m places (λ r. part_of instance m (journal r))
  row_among places many each = record {
    each = λ r low.
        let within : r < length cs = omega (arith, low, many) in
        let d = some_in cs r within in
        let c = get_or cs r d in
        let on_way = way.each r d within in
        let waits = subst (λ (k : ℕ). Waits files k n c.waiting on_way.before (journal r)) (regions r d within) on_way.waits in
        subst (λ (p : PartPlace). IsPartAt (InJournals journal) r m p (part_of instance m (journal r))) (sym (each r within ∙ ap place_told (row_at m cs r d within)))
        (waiting_among files journal r n m on_way.before c.waiting (part_of instance m (journal r)) waits (told_at r d within));
    no_more = λ r past. none_past r (omega (arith, past, many));
  }

-- what holds of each cursor, with one more
pub all_pushed : (P : ℕ → Cursor → Type 0) (cs new : List Cursor) (x : Cursor) → new ≡ cs ++ x ∷ [] → ((r : ℕ) (d : Cursor) → r < length cs → P r (get_or cs r d)) → P (length cs) x → (r : ℕ) (d : Cursor) → r < length new → P r (get_or new r d)
all_pushed P cs new x more all here r d low = elim (cases_lt r (length cs)) [
  | inl inside ↦ subst (P r) (sym (ap (λ (l : List Cursor). get_or l r d) more ∙ get_or-append cs (x ∷ []) d r inside)) (all r d inside)
  | inr past ↦
      let same : length cs ≡ r = omega (arith, past, low, ap length more, length-append cs (x ∷ [])) in
      let first : r - length cs ≡ 0 = omega (arith, same) in
      let got : get_or new r d ≡ x = ap (λ (l : List Cursor). get_or l r d) more ∙ get_or-append_right cs (x ∷ []) (length cs) r d refl past ∙ ap (λ (k : ℕ). get_or (x ∷ []) k d) first in
      subst (P r) (sym got) (subst (λ (k : ℕ). P k x) same here)
]

pub none_begun : (files : Files) (instance : List InstanceRecord) (lowest : ℕ) → AreOnWay files instance lowest 0 [] (λ r. [])
none_begun files instance lowest = record { each = λ r d low. absurd (omega (arith, low)); no_more = λ r past. refl }

module _ (cs new : List Cursor) (x : Cursor) (more : new ≡ cs ++ x ∷ []) where
  pub ready_pushed : (o n : Option Files) (last : ℕ) → n ≡ o → AreReady o last cs → IsReady n (length cs) last x.reader → AreReady n last new
  ready_pushed o n last content ready here =
      all_pushed (λ r c. IsReady n r last c.reader) cs new x more (λ r d low. subst (λ (z : Option Files). IsReady z r last (get_or cs r d).reader) (sym content) (ready r d low)) here

  pub begun_pushed : (files : Files) (instance : List InstanceRecord) (lowest : ℕ) → AreOnWay files instance lowest 0 cs (λ r. []) → IsOnWay files instance lowest 0 x [] → AreOnWay files instance lowest 0 new (λ r. [])
  begun_pushed files instance lowest way here = record { each = all_pushed (λ r c. IsOnWay files instance lowest 0 c []) cs new x more way.each here; no_more = λ r past. refl }

  pub told_pushed : (files : Files) (instance : List InstanceRecord) → AreTold files instance 0 cs (λ r. []) → IsTold files instance 0 x [] → AreTold files instance 0 new (λ r. [])
  told_pushed files instance told here = all_pushed (λ r c. IsTold files instance 0 c []) cs new x more told here

-- a cursor of those that are ready
pub ready_at : (content : Option Files) (last i : ℕ) (cs : List Cursor) (x : Cursor) → i < length cs → x ≡ get_or cs i x → AreReady content last cs → IsReady content i last x.reader
ready_at content last i cs x inside is ready = subst (λ (c : Cursor). IsReady content i last c.reader) (sym is) (ready i x inside)

-- by its own names
pub ready_own : (content : Option Files) (last i : ℕ) (p : Reader) → IsReady content i last p → IsReady content p.region p.last p
ready_own content last i p is = record { sound = is.sound; region_is = refl; last_is = refl; told = is.told }

-- cursors below a place have read all, and so has the one at it
pub done_set : (cs : List Cursor) (i : ℕ) (x : Cursor) → i < length cs → ((r : ℕ) (d : Cursor) → r < i → IsDone (get_or cs r d)) → IsDone x → (r : ℕ) (d : Cursor) → r < i + 1 → IsDone (get_or (set cs i x) r d)
done_set cs i x inside done here r d low = elim (cases_eq r i) [
  | inl same ↦ subst (λ (k : ℕ). IsDone (get_or (set cs i x) k d)) (sym same) (subst IsDone (sym (get_or-set_same cs i x d inside)) here)
  | inr other ↦ subst IsDone (sym (get_or-set_other cs i r x d other)) (done r d (lower low other))
]
  where
    lower : r < i + 1 → (r ≡ i → ⊥) → r < i
    lower low other = grind (arith, low, other)

-- one more is settled
pub settled_set : (files : Files) (n : ℕ) (old cs : List Cursor) (i : ℕ) (y : Cursor) → i < length cs → ((r : ℕ) (d : Cursor) → r < i → Settles files n (get_or old r d) (get_or cs r d)) → ((d : Cursor) → Settles files n (get_or old i d) y)
    → (r : ℕ) (d : Cursor) → r < i + 1 → Settles files n (get_or old r d) (get_or (set cs i y) r d)
settled_set files n old cs i y inside before here r d low = elim (cases_eq r i) [
  | inl same ↦ subst (λ (k : ℕ). Settles files n (get_or old k d) (get_or (set cs i y) k d)) (sym same) (subst (λ (c : Cursor). Settles files n (get_or old i d) c) (sym (get_or-set_same cs i y d inside)) (here d))
  | inr other ↦ subst (λ (c : Cursor). Settles files n (get_or old r d) c) (sym (get_or-set_other cs i r y d other)) (before r d (lower low other))
]
  where
    lower : r < i + 1 → (r ≡ i → ⊥) → r < i
    lower low other = grind (arith, low, other)

pub later_set : (old cs : List Cursor) (i : ℕ) (y : Cursor) (r : ℕ) (d : Cursor) → i + 1 ≤ r → get_or cs r d ≡ get_or old r d → get_or (set cs i y) r d ≡ get_or old r d
later_set old cs i y r d high same = get_or-set_other cs i r y d (λ here. omega (arith, high, here)) ∙ same

-- what stands at a place, whatever stands past the end
pub own_at : (cs old : List Cursor) (i : ℕ) (x d : Cursor) → i < length cs → x ≡ get_or cs i x → get_or cs i d ≡ get_or old i d → x ≡ get_or old i d
own_at cs old i x d inside is same = is ∙ get_or_default cs i x d inside ∙ same

-- on a disk that tells the same
pub ready_still : (o n : Option Files) (last : ℕ) (cs : List Cursor) → n ≡ o → AreReady o last cs → AreReady n last cs
ready_still o n last cs content ready = subst (λ (z : Option Files). AreReady z last cs) (sym content) ready
