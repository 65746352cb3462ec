-- Where records stand in their files.
use Rattle.std.proofs.Common.{◌≡◌, inl, inr, ℕ, zero, suc, ◌+◌, ◌-◌, ◌==◌, ◌<◌, Bool, true, false, List, [], ◌∷◌, ◌++◌, length, map, take, drop, slice_get, sum_by, Option, Some, None, refl, sym, ◌∙◌, ap, subst, arith, if◌then◌else◌, append_assoc, append-nil, length-append}
use Rattle.std.proofs.lemmas.Bool.Decides.{nat_tests}
use Rattle.std.proofs.lemmas.List.{drop-drop, take-map, take-append-le}
use Rattle.std.proofs.lemmas.Bool.{cases_lt}
use Rattle.std.proofs.lemmas.List.Sums.{sum_by-cons}
use Rattle.std.proofs.lemmas.Option.{slice_get-map}
use Rattle.std.specs.Option.{option_map}
use Rattle.std.proofs.lemmas.Nat.{from_be_bytes-to_be_bytes_4}
use Rattle.std.specs.Int.{from_be_bytes, w32}
use Rattle.std.proofs.Math.Seq.{take-append_seam, drop-append_seam, take-append-add}
use Rattle.std.specs.List.{AllZip, AllByRecursion}
use Rattle.disk_defs.specs.Disk.{Files}
use Rattle.disk_defs.specs.Gates.{Body, IsBody, framed, spelled}
use Rattle.disk_defs.proofs.Texts.{length-framed}
use Rattle.journal_defs.specs.Journal.{JournalRecord, IsJournalBody}
use Rattle.journal_defs.specs.Sequence.{Placed}
use Rattle.journal_defs.specs.Stands.{IsJournal, in_generation}
use Rattle.gated_file.specs.State.{shut}
use Rattle.entry_index.specs.Places.{StandsAt}
use Rattle.entry_index.specs.Order.{size_of, bytes_in, IsAmong, AreInOrder, AreNewer, AreLaid}
use Rattle.entry_index.specs.declared.placed.PlacedSign.{PlacedSign}
use Rattle.entry_index.proofs.Stands.{same_from}

-- how many bytes records take, together
pub bytes_append : (g : ℕ) (xs ys : List Placed) → bytes_in g (xs ++ ys) ≡ bytes_in g xs + bytes_in g ys
bytes_append g [] ys = omega arith
bytes_append g (x ∷ xs) ys = omega (arith, bytes_append g xs ys)

pub bytes_own : (g : ℕ) (rs : List JournalRecord) → bytes_in g (map (in_generation g) rs) ≡ sum_by size_of rs
bytes_own g [] = refl
bytes_own g (r ∷ rs) =
    let own : (g == g) ≡ true = grind (arith, nat_tests) in
    ap (λ (b : Bool). (if b then size_of r else 0) + bytes_in g (map (in_generation g) rs)) own ∙ ap (λ (n : ℕ). size_of r + n) (bytes_own g rs) ∙ sym (sum_by-cons size_of r rs)

pub bytes_other : (h g : ℕ) (rs : List JournalRecord) → h < g → bytes_in g (map (in_generation h) rs) ≡ 0
bytes_other h g [] less = refl
bytes_other h g (r ∷ rs) less =
    let other : (h == g) ≡ false = grind (arith, nat_tests, less) in
    let rest : 0 + bytes_in g (map (in_generation h) rs) ≡ 0 = omega (arith, bytes_other h g rs less) in
    ap (λ (b : Bool). (if b then size_of r else 0) + bytes_in g (map (in_generation h) rs)) other ∙ rest

-- a later generation has none of them
pub older_bytes : (files : Files) (r h last g : ℕ) (js : List Placed) → IsJournal files r h last js → h < g → bytes_in g js ≡ 0
older_bytes files r zero last g js is late = ap (bytes_in g) is.1
older_bytes files r (suc h) last g js is late =
    let older = older_bytes files r h is.0 g is.1 is.3 (omega (arith, late)) in
    let newer = bytes_other (suc h) g is.2 late in
    ap (bytes_in g) is.7 ∙ bytes_append g is.1 (map (in_generation (suc h)) is.2) ∙ omega (arith, older, newer)

-- bodies behind gates
pub body_size : (body : Body) (r : JournalRecord) → IsJournalBody body r → 5 + length body ≡ size_of r
body_size body r is = ap (λ (b : Body). 5 + length b) is.spelled

pub spelled_size : (bodies : List Body) (rs : List JournalRecord) → AllZip IsJournalBody bodies rs → length (spelled 1 bodies) ≡ sum_by size_of rs
spelled_size [] [] all = refl
spelled_size [] (r ∷ rs) all = absurd all
spelled_size (body ∷ bodies) [] all = absurd all
spelled_size (body ∷ bodies) (r ∷ rs) all = omega (arith, length-append (framed body) (spelled 1 bodies), length-framed body, body_size body r all.0, sum_by-cons size_of r rs, spelled_size bodies rs all.1)

-- a record of those that are laid one behind another
pub laid_stands : (file : List ℕ) (rs : List JournalRecord) (k : ℕ) (r : JournalRecord) → AreLaid file rs → slice_get rs k ≡ Some r → StandsAt file (sum_by size_of (take k rs)) r
laid_stands file [] k r laid there = absurd (cc there)
laid_stands file (q ∷ rs) zero r laid there =
    let same : q ≡ r = cc there in
    record {
      body = laid.1;
      spelled = subst (IsJournalBody laid.1) same laid.5;
      size = laid.4;
      length_is = ap (λ (l : List ℕ). from_be_bytes w32 (take 4 (drop 1 l))) laid.3 ∙ from_be_bytes-to_be_bytes_4 (length laid.1) (omega (arith, laid.4.not_long));
      there = ap (λ (l : List ℕ). take (length laid.1) (drop 5 l)) laid.3 ∙ take-append_seam laid.1 laid.2;
    }
laid_stands file (q ∷ rs) (suc k) r laid there =
    let later = laid_stands laid.2 rs k r laid.6 there in
    let at = sum_by size_of (take k rs) in
    let five : 5 + length laid.1 ≡ suc (4 + length laid.1) = omega arith in
    let past_gate : drop (5 + length laid.1) (laid.0 ∷ framed laid.1 ++ laid.2) ≡ drop (4 + length laid.1) (framed laid.1 ++ laid.2) = ap (λ (n : ℕ). drop n (laid.0 ∷ framed laid.1 ++ laid.2)) five in
    let behind : drop (5 + length laid.1) file ≡ laid.2 =
    ap (drop (5 + length laid.1)) laid.3 ∙ past_gate ∙ ap (λ (n : ℕ). drop n (framed laid.1 ++ laid.2)) (sym (length-framed laid.1)) ∙ drop-append_seam (framed laid.1) laid.2 in
    let sum : sum_by size_of (q ∷ take k rs) ≡ 5 + length laid.1 + at = omega (arith, sum_by-cons size_of q (take k rs), body_size laid.1 q laid.5) in
    same_from laid.2 file at (sum_by size_of (q ∷ take k rs)) r
    (λ j.
    let place : sum_by size_of (q ∷ take k rs) + j ≡ 5 + length laid.1 + (at + j) = omega (arith, sum) in
    ap (λ (n : ℕ). drop n file) place ∙ sym (drop-drop (at + j) (5 + length laid.1) file) ∙ ap (drop (at + j)) behind)
    later

-- records behind open gates, and others behind them
pub laid_open : (bodies : List Body) (rs more : List JournalRecord) (rest : List ℕ) → AllByRecursion IsBody bodies → AllZip IsJournalBody bodies rs → AreLaid rest more → AreLaid (spelled 1 bodies ++ rest) (rs ++ more)
laid_open [] [] more rest sizes all laid = laid
laid_open [] (r ∷ rs) more rest sizes all laid = absurd all
laid_open (body ∷ bodies) [] more rest sizes all laid = absurd all
laid_open (body ∷ bodies) (r ∷ rs) more rest sizes all laid =
    (1, body, spelled 1 bodies ++ rest, ap (λ (l : List ℕ). 1 ∷ l) (append_assoc (framed body) (spelled 1 bodies) rest), sizes.0, all.0, laid_open bodies rs more rest sizes.1 all.1 laid)

got_left : {X : Type 0} (xs ys : List X) (k : ℕ) → k < length xs → slice_get (xs ++ ys) k ≡ slice_get xs k
got_left [] ys k low = absurd (omega (arith, low))
got_left (x ∷ xs) ys zero low = refl
got_left (x ∷ xs) ys (suc k) low = got_left xs ys k (omega (arith, low))

got_right : {X : Type 0} (xs ys : List X) (k n : ℕ) → k ≡ length xs + n → slice_get (xs ++ ys) k ≡ slice_get ys n
got_right [] ys k n is = ap (slice_get ys) (omega (arith, is))
got_right (x ∷ xs) ys zero n is = absurd (omega (arith, is))
got_right (x ∷ xs) ys (suc k) n is = got_right xs ys k n (omega (arith, is))

-- and behind closed gates
pub laid_shut : (gate : ℕ) (bodies : List Body) (rs : List JournalRecord) (tail : List ℕ) → AllByRecursion IsBody bodies → AllZip IsJournalBody bodies rs → AreLaid (shut gate bodies tail) rs
laid_shut gate [] [] tail sizes all = tt
laid_shut gate [] (r ∷ rs) tail sizes all = absurd all
laid_shut gate (body ∷ bodies) [] tail sizes all = absurd all
laid_shut gate (body ∷ bodies) (r ∷ rs) tail sizes all = (gate, body, shut 0 bodies tail, refl, sizes.0, all.0, laid_shut 0 bodies rs tail sizes.1 all.1)

-- signs in order, and others behind them
module _ (old new : List PlacedSign) (older newer : List Placed) (same : length old ≡ length older) where
  pub order_append : AreInOrder old older → ((k : ℕ) (s : PlacedSign) → slice_get new k ≡ Some s → s.offset ≡ bytes_in s.generation (older ++ take k newer)) → AreInOrder (old ++ new) (older ++ newer)
  order_append first later i s at = elim (cases_lt i (length old)) [
    | inl low ↦ first i s (sym (got_left old new i low) ∙ at) ∙ ap (bytes_in s.generation) (sym (take-append-le i older newer (omega (arith, low, same))))
    | inr past ↦
        let k = i - length old in
        let place : i ≡ length old + k = omega (arith, past) in
        let here : i ≡ length older + k = omega (arith, past, same) in
        later k s (sym (got_right old new i k place) ∙ at) ∙ ap (bytes_in s.generation) (sym (ap (λ (n : ℕ). take n (older ++ newer)) here ∙ take-append-add older newer k))
  ]

-- a sign more of one generation
pub newer_more : (g : ℕ) (signs : List PlacedSign) (placed : List Placed) (s : PlacedSign) (p : Placed) → length signs ≡ length placed → s.generation ≡ g → s.offset ≡ bytes_in g placed → AreNewer g signs placed
    → AreNewer g (signs ++ s ∷ []) (placed ++ p ∷ [])
newer_more g signs placed s p same drawn here before i t at = elim (cases_lt i (length signs)) [
  | inl low ↦
      let b = before i t (sym (got_left signs (s ∷ []) i low) ∙ at) in
      (b.0, b.1 ∙ ap (bytes_in g) (sym (take-append-le i placed (p ∷ []) (omega (arith, low, same)))))
  | inr past ↦
      let k = i - length signs in
      let place : i ≡ length signs + k = omega (arith, past) in
      let whole : take i (placed ++ p ∷ []) ≡ placed ++ take k (p ∷ []) = ap (λ (n : ℕ). take n (placed ++ p ∷ [])) (omega (arith, past, same)) ∙ take-append-add placed (p ∷ []) k in
      let last = only k (sym (got_right signs (s ∷ []) i k place) ∙ at) in
      (last.0, last.1 ∙ ap (bytes_in g) (sym whole))
]
  where
    none : (k : ℕ) → slice_get [] k ≡ Some t → ⊥
    none k e = cc e

    only : (k : ℕ) → slice_get (s ∷ []) k ≡ Some t → (t.generation ≡ g) × (t.offset ≡ bytes_in g (placed ++ take k (p ∷ [])))
    only zero at =
        let same_sign : s ≡ t = cc at in
        subst (λ (x : PlacedSign). (x.generation ≡ g) × (x.offset ≡ bytes_in g (placed ++ []))) same_sign (drawn, here ∙ ap (bytes_in g) (sym (append-nil placed)))
    only (suc k) at = absurd (none k at)

-- a record that came with a generation, or one from before
got_newer : (h : ℕ) (rs : List JournalRecord) (k : ℕ) (p : Placed) → option_map (in_generation h) (slice_get rs k) ≡ Some p → (r : JournalRecord) × (slice_get rs k ≡ Some r) × (p ≡ in_generation h r)
got_newer h rs k p is = by_cases (slice_get rs k) refl is
  where
    by_cases : (o : Option JournalRecord) → slice_get rs k ≡ o → option_map (in_generation h) o ≡ Some p → (r : JournalRecord) × (slice_get rs k ≡ Some r) × (p ≡ in_generation h r)
    by_cases None at is = absurd (cc is)
    by_cases (Some r) at is = (r, at, cc is)

pub data IsOlderOrNewer (older : List Placed) (h : ℕ) (newer : List JournalRecord) (g o : ℕ) (r : JournalRecord) : Type 0 where
  Older : IsAmong older g o r → IsOlderOrNewer older h newer g o r
  Newer : (k : ℕ) → slice_get newer k ≡ Some r → g ≡ h → o ≡ sum_by size_of (take k newer) → IsOlderOrNewer older h newer g o r

pub older_or_newer : (older : List Placed) (h : ℕ) (newer : List JournalRecord) (g o : ℕ) (r : JournalRecord) → bytes_in h older ≡ 0 → IsAmong (older ++ map (in_generation h) newer) g o r → IsOlderOrNewer older h newer g o r
older_or_newer older h newer g o r none a = elim (cases_lt a.place (length older)) [
  | inl low ↦ Older (record {
    place = a.place;
    there = sym (got_left older (map (in_generation h) newer) a.place low) ∙ a.there;
    offset_is = a.offset_is ∙ ap (bytes_in g) (take-append-le a.place older (map (in_generation h) newer) (omega (arith, low)));
  })
  | inr past ↦
      let k = a.place - length older in
      let place : a.place ≡ length older + k = omega (arith, past) in
      let at : option_map (in_generation h) (slice_get newer k) ≡ Some (record { generation = g; what = r }) =
      sym (slice_get-map (in_generation h) newer k) ∙ sym (got_right older (map (in_generation h) newer) a.place k place) ∙ a.there in
      let found = got_newer h newer k (record { generation = g; what = r }) at in
      let drawn : g ≡ h = ap (λ (p : Placed). p.generation) found.2 in
      let what : r ≡ found.0 = ap (λ (p : Placed). p.what) found.2 in
      let own : bytes_in h older + bytes_in h (take k (map (in_generation h) newer)) ≡ sum_by size_of (take k newer) = omega (arith, none, ap (bytes_in h) (take-map (in_generation h) k newer), bytes_own h (take k newer)) in
      Newer k (found.1 ∙ ap Some (sym what)) drawn (
      a.offset_is
      ∙ ap (λ (n : ℕ). bytes_in g (take n (older ++ map (in_generation h) newer))) place
      ∙ ap (bytes_in g) (take-append-add older (map (in_generation h) newer) k)
      ∙ ap (λ (j : ℕ). bytes_in j (older ++ take k (map (in_generation h) newer))) drawn
      ∙ bytes_append h older (take k (map (in_generation h) newer))
      ∙ own
      )
]
