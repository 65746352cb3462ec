-- Each kind of step keeps the rule.
use Rattle.std.proofs.Common.{◌≡◌, ◌≢◌, ◌⊎◌, ℕ, zero, suc, ◌+◌, ◌%◌, ◌<◌, ◌≤◌, List, [], ◌∷◌, ◌++◌, length, set, replicate, Bool, true, false, refl, sym, ap, ◌∙◌, subst, ⊎_elim, inl, inr, arith, length-set, get_or-set_same, get_or-set_other, lt_of_not-le, append_assoc, append-nil, add-zero}
use Rattle.std.specs.Prelude.{slice_index, ◌==◌, if◌then◌else◌, map, max}
use Rattle.std.proofs.Math.Nat.{mod-eq_of_lt}
use Rattle.std.proofs.lemmas.Grind.{get_or-set_at}
use Rattle.std.proofs.lemmas.List.{set-get_or, get_or-replicate, length-replicate}
use Rattle.std.proofs.lemmas.Bool.Decides.{eqb_tells}
use mathlib.Core.Logic.{dite}
use mathlib.Core.Option.{none, some, some-ne-none, some-injective}
use native.Mathlib.Decide.{dec_le, ℕ_discrete}
use lib.ListN.{get_elem?}
use Rattle.atomic_table.specs.Table.{State, Me, step, keeps, stepped, Allows, Splits, Joins, opening}
use Rattle.atomic_table.proofs.Lists.{at_set, set_again, one_turn}
use Rattle.pool_rule.specs.declared.views.View.{View}
use Rattle.wire_defs.specs.PoolWords.{bytes_in, words_from, word_count, count_before, AreBytes, StartsWith, IsBoundary, IsAt}
use Rattle.wire_defs.proofs.PoolWords.{grows, stays, boundary_stays, at_stays, starts_stays, starts_same, length_word, past_entry, entry_at, length-claimed, number_is, boundary_number}
use Rattle.pool_rule.specs.Rule.{IsEntryBelow, Each, IsHeld, Agrees, Knows, Owns, Pooled, Within, blank, writer, reader, end_of, is_entry, moved, number_at, word_in, Claimed, Stored, Hardened, SawHard, SawWord, SawClaim, Placed, Settled}
use Rattle.pool_rule.proofs.Each.{each_set, each_snoc, each_map, each_snoc_one}
use Rattle.pool_rule.proofs.Whole.{Stands, is_got, below_stays, off}

module _ (n first : ℕ) where
  abbrev St : Type 0
  St = State (Unit {0}) View

  got_stay : (log now : List (List ℕ)) (h h' : ℕ) → StartsWith now log → h ≤ h' → (xs : List (ℕ × List ℕ)) → Each (IsEntryBelow first log h) xs → Each (IsEntryBelow first now h') xs
  got_stay log now h h' longer up xs = each_map (IsEntryBelow first log h) (IsEntryBelow first now h') (below_stays first log now h h' longer up) xs

  notes_stay : (log now : List (List ℕ)) → StartsWith now log → (xs : List (List (List ℕ))) → Each (StartsWith log) xs → Each (StartsWith now) xs
  notes_stay log now longer xs = each_map (StartsWith log) (StartsWith now) (starts_stays first log now longer) xs

  held_stay : (log now : List (List ℕ)) → StartsWith now log → (hard : ℕ) → hard ≤ length (words_from first log) → (xs : List (ℕ × ℕ)) → Each (IsHeld n first log hard) xs → Each (IsHeld n first now hard) xs
  held_stay log now longer hard below xs =
      each_map (IsHeld n first log hard) (IsHeld n first now hard)
      (λ x s.
      let g = grows first log now longer in let l = s.0 in
      (s.0, ⊎_elim (λ (e : x.1 ≡ slice_index (words_from first log) x.0). inl (e ∙ sym (stays first log now longer x.0 (omega arith)))) (λ (past : x.0 + n < length (words_from first log)). inr (omega arith)) s.1))
      xs

  -- what a seat knows stays true while the list and the hardened count grow
  knows_on : (log now : List (List ℕ)) (h h' : ℕ) (v : View) → StartsWith now log → h ≤ h' → h ≤ length (words_from first log) → Knows n first log h v → Knows n first now h' v
  knows_on log now h h' v longer up below k = record {
    same = k.same;
    note_first = k.note_first;
    list = starts_stays first log now longer v.entries k.list;
    place = at_stays first log now longer v.place v.next k.place;
    hard = (let l = k.hard.0 in omega arith, boundary_stays first log now longer v.hard k.hard.1);
    claim = let g = grows first log now longer in let l = k.claim in omega arith;
    held = held_stay log now longer v.hard (let l = k.hard.0 in omega arith) v.held k.held;
    got = got_stay log now h h' longer up v.got k.got;
    notes = notes_stay log now longer v.notes k.notes;
    told_got = got_stay log now h h' longer up v.told_got k.told_got;
    told_notes = notes_stay log now longer v.told_notes k.told_notes;
    told = let l = k.told in omega arith;
    told_counts = (let l = k.told_counts.0 in omega arith, let g = grows first log now longer in let l = k.told_counts.1 in omega arith);
  }

  -- what the rule says of one seat
  abbrev Fits : ℕ → List (List ℕ) → ℕ → ℕ → ℕ → View → Type 0
  Fits seat log w h by v = v.live ≡ true → Owns seat log w h by v × Knows n first log h v

  -- the other seats, after a step of the writer's seat
  others : (s : St) (r : Pooled n first s) (now : List (List ℕ)) (w h : ℕ) (id : ℕ) → id ≡ r.seat → StartsWith now r.log → r.hardened ≤ h → (j : ℕ) (u : View) → j ≢ id → get_elem? s.views j ≡ some u → Fits r.seat now w h j u
  others s r now w h id mine longer up j u apart e live =
      let f = r.each j u e live in
      let o = r.order in
      ((λ wr. absurd (apart ((f.0 wr).0 ∙ sym mine))), knows_on r.log now r.hardened h u longer up (omega arith) f.1)

  -- a step that changes a view alone
  reviewed : (s : St) (r : Pooled n first s) (views : List View) → ((by : ℕ) (v : View) → get_elem? views by ≡ some v → Fits r.seat r.log r.written r.hardened by v) → Pooled n first record { words = s.words; homes = s.homes; views = views }
  reviewed s r views each = record {
    seat = r.seat;
    log = r.log;
    written = r.written;
    hardened = r.hardened;
    some_words = r.some_words;
    wide = r.wide;
    bytes = r.bytes;
    claim_is = r.claim_is;
    hard_is = r.hard_is;
    order = r.order;
    last_words = r.last_words;
    unwritten = r.unwritten;
    whole = r.whole;
    each = each;
  }

  -- a load, after which the seat's view is w
  looked : (s : St) (r : Pooled n first s) (i id : ℕ) (me : Me (Unit {0}) View) (w : View) → Fits r.seat r.log r.written r.hardened id w → Pooled n first (stepped s i (slice_index s.words i) id me.1 w keeps)
  looked s r i id me w fits =
      subst (λ ws. Pooled n first record { words = ws; homes = s.homes; views = set s.views id w }) (sym (set-get_or s.words i 0))
      (reviewed s r (set s.views id w) (each_set (Fits r.seat r.log r.written r.hardened) s.views id w (λ j u _ e. r.each j u e) fits))

  pub claims : (slots id : ℕ) (me : Me (Unit {0}) View) (bytes : List ℕ) (c : ℕ) → me.0.live ≡ true → me.0.writes ≡ true → AreBytes bytes → c ≡ length (words_from me.0.first (me.0.entries ++ bytes ∷ []))
      → Allows (Pooled n first) slots id me 0 (λ _. c) (λ _. Claimed bytes (step slots 0 c 0 none) me c)
  claims slots id me bytes c live wr fit is s r _ at _ =
      let f = r.each id me.0 at live in
      let own = f.0 wr in
      let now = r.log ++ bytes ∷ [] in
      let longer : StartsWith now r.log = (bytes ∷ [], refl) in
      let entries : me.0.entries ++ bytes ∷ [] ≡ now = ap (λ l. l ++ bytes ∷ []) own.1 in
      let k = knows_on r.log now r.hardened r.hardened me.0 longer (omega arith) (let o = r.order in omega arith) f.1 in
      let g = grows first r.log now longer in
      let o = r.order in
      let size = r.wide in
      let w : View = record me.0 { entries = me.0.entries ++ bytes ∷ [] } in (
        w,
        keeps,
        tt,
        record {
          seat = r.seat;
          log = now;
          written = r.written;
          hardened = r.hardened;
          some_words = r.some_words;
          wide = length-set s.words 0 c ∙ r.wide;
          bytes = each_snoc_one AreBytes r.log bytes r.bytes fit;
          claim_is = get_or-set_same s.words 0 c 0 (omega arith) ∙ (is ∙ (λ i. length (words_from (f.1.same.1 i) (entries i))));
          hard_is = get_or-set_other s.words 0 1 c 0 (λ e. omega arith) ∙ r.hard_is;
          order = (o.0, omega arith);
          last_words = λ a lt le. get_or-set_other s.words 0 (a % n + 2) c 0 (λ e. omega arith) ∙ r.last_words a lt le ∙ sym (stays first r.log now longer a (omega arith));
          unwritten = λ j le lt. get_or-set_other s.words 0 (j + 2) c 0 (λ e. omega arith) ∙ r.unwritten j le lt;
          whole = boundary_stays first r.log now longer r.hardened r.whole;
          each = each_set (Fits r.seat now r.written r.hardened) s.views id w
              (others s r now r.written r.hardened id own.0 longer (omega arith))
              (λ _. ((λ _. (own.0, entries, own.2, own.3)), record { same = k.same; note_first = k.note_first; list = ([], sym entries ∙ sym (append-nil (me.0.entries ++ bytes ∷ []))); place = k.place; hard = k.hard; claim = k.claim; held = k.held; got = k.got; notes = k.notes; told_got = k.told_got; told_notes = k.told_notes; told = k.told; told_counts = k.told_counts }));
        },
        refl,
      )

  pub stores : (slots id : ℕ) (me : Me (Unit {0}) View) (i at x : ℕ) → me.0.live ≡ true → me.0.writes ≡ true → at ≡ me.0.written → at < length (words_from me.0.first me.0.entries) → x ≡ slice_index (words_from me.0.first me.0.entries) at → i ≡ at % n + 2
      → Allows (Pooled n first) slots id me i (λ _. x) (λ _. Stored (step slots i x 0 none) me x)
  stores slots id me i at x live wr next below is place s r _ there _ =
      let f = r.each id me.0 there live in
      let own = f.0 wr in
      let words : words_from me.0.first me.0.entries ≡ words_from first r.log = λ k. words_from (f.1.same.1 k) (own.1 k) in
      let here : at ≡ r.written = next ∙ own.2 in
      let o = r.order in
      let size = r.wide in
      let pos = r.some_words in
      let inside : i < length s.words = omega arith in
      let below' : at < length (words_from first r.log) = subst (λ (l : List ℕ). at < length l) words below in
      let is' : x ≡ slice_index (words_from first r.log) at = is ∙ ap (λ l. slice_index l at) words in
      let w : View = record me.0 { written = me.0.written + 1 } in (
        w,
        keeps,
        tt,
        record {
          seat = r.seat;
          log = r.log;
          written = r.written + 1;
          hardened = r.hardened;
          some_words = r.some_words;
          wide = length-set s.words i x ∙ r.wide;
          bytes = r.bytes;
          claim_is = get_or-set_other s.words i 0 x 0 (λ e. omega arith) ∙ r.claim_is;
          hard_is = get_or-set_other s.words i 1 x 0 (λ e. omega arith) ∙ r.hard_is;
          order = (omega arith, omega arith);
          last_words = λ a lt le. dite (ℕ_discrete a at)
              (λ (e : a ≡ at). get_or-set_at s.words i (a % n + 2) x 0 (ap (λ (k : ℕ). k % n + 2) e ∙ sym place) inside ∙ (is' ∙ ap (slice_index (words_from first r.log)) (sym e)))
              (λ (ne : a ≢ at). get_or-set_other s.words i (a % n + 2) x 0 (λ e. ne (one_turn a at n (omega arith) (omega arith) (omega arith))) ∙ r.last_words a (let ne' : a ≢ at = ne in omega arith) (omega arith));
          unwritten = λ j le lt. get_or-set_other s.words i (j + 2) x 0 (λ e. let m : at % n ≡ at = mod-eq_of_lt (omega arith) in omega arith) ∙ r.unwritten j (omega arith) lt;
          whole = r.whole;
          each = each_set (Fits r.seat r.log (r.written + 1) r.hardened) s.views id w
              (others s r r.log (r.written + 1) r.hardened id own.0 (starts_same r.log) (omega arith))
              (λ _. ((λ _. (own.0, own.1, ap (λ (k : ℕ). k + 1) own.2, own.3)), record { same = f.1.same; note_first = f.1.note_first; list = f.1.list; place = f.1.place; hard = f.1.hard; claim = f.1.claim; held = f.1.held; got = f.1.got; notes = f.1.notes; told_got = f.1.told_got; told_notes = f.1.told_notes; told = f.1.told; told_counts = f.1.told_counts }));
        },
        refl,
      )

  pub hardens : (slots id : ℕ) (me : Me (Unit {0}) View) (to : ℕ) → me.0.live ≡ true → me.0.writes ≡ true → me.0.hardened ≤ to → to ≤ me.0.written → IsBoundary me.0.first me.0.entries to
      → Allows (Pooled n first) slots id me 1 (λ _. to) (λ _. Hardened (step slots 1 to 0 none) me to)
  hardens slots id me to live wr up below whole s r _ there _ =
      let f = r.each id me.0 there live in
      let own = f.0 wr in
      let o = r.order in
      let size = r.wide in
      let pos = r.some_words in
      let was = own.3 in
      let done = own.2 in
      let rises : r.hardened ≤ to = omega arith in
      let k = knows_on r.log r.log r.hardened to me.0 (starts_same r.log) rises (omega arith) f.1 in
      let w : View = record me.0 { hardened = to } in (
        w,
        keeps,
        tt,
        record {
          seat = r.seat;
          log = r.log;
          written = r.written;
          hardened = to;
          some_words = r.some_words;
          wide = length-set s.words 1 to ∙ r.wide;
          bytes = r.bytes;
          claim_is = get_or-set_other s.words 1 0 to 0 (λ e. omega arith) ∙ r.claim_is;
          hard_is = get_or-set_same s.words 1 to 0 (omega arith);
          order = (omega arith, o.1);
          last_words = λ a lt le. get_or-set_other s.words 1 (a % n + 2) to 0 (λ e. omega arith) ∙ r.last_words a lt le;
          unwritten = λ j le lt. get_or-set_other s.words 1 (j + 2) to 0 (λ e. omega arith) ∙ r.unwritten j le lt;
          whole = subst (λ (z : ℕ × List (List ℕ)). IsBoundary z.0 z.1 to) (λ i. (f.1.same.1 i, own.1 i)) whole;
          each = each_set (Fits r.seat r.log r.written to) s.views id w
              (others s r r.log r.written to id own.0 (starts_same r.log) rises)
              (λ _. ((λ _. (own.0, own.1, own.2, refl)), record { same = k.same; note_first = k.note_first; list = k.list; place = k.place; hard = k.hard; claim = k.claim; held = k.held; got = k.got; notes = k.notes; told_got = k.told_got; told_notes = k.told_notes; told = omega arith; told_counts = k.told_counts }));
        },
        refl,
      )

  pub loads_hard : (slots id : ℕ) (me : Me (Unit {0}) View) → me.0.live ≡ true → Allows (Pooled n first) slots id me 1 (λ x. x) (SawHard (step slots 1 0 0 none) me)
  loads_hard slots id me live s r _ there _ =
      let f = r.each id me.0 there live in
      let k = f.1 in
      let found : ℕ = slice_index s.words 1 in
      let is : found ≡ r.hardened = r.hard_is in
      let before = k.hard.0 in
      let later : me.0.hard ≤ found = omega arith in
      let before' = k.told in
      let told : me.0.hardened ≤ found = omega arith in
      let o = r.order in
      let b = k.place in
      let bp = b.3 in
      let wp = r.whole.3 in
      let gap : (found ≤ me.0.place) ⊎ (me.0.place + 2 ≤ found) =
      dite (dec_le found me.0.place)
      (λ (le : found ≤ me.0.place). inl le)
      (λ (nle : ¬ (found ≤ me.0.place)).
      let lt : me.0.place < found = lt_of_not-le nle in
      let entry = entry_at first r.log b.0 b.1 b.2 (omega arith) in
      let cut : r.log ≡ b.0 ++ entry.0 ∷ entry.1 = b.2 ∙ ap (λ l. b.0 ++ l) entry.2 in
      let past = past_entry first b.0 entry.0 entry.1 r.whole.0 r.whole.1 (sym cut ∙ r.whole.2) (omega arith) in
      inr (omega arith)) in
      let w : View = record me.0 { hard = found; hard_loads = me.0.hard_loads + 1 } in (
        w,
        keeps,
        tt,
        looked s r 1 id me w (λ _. (
          f.0,
          record {
            same = k.same;
            note_first = k.note_first;
            list = k.list;
            place = k.place;
            hard = (omega arith, subst (IsBoundary first r.log) (sym is) r.whole);
            claim = k.claim;
            held = each_map (IsHeld n first r.log me.0.hard) (IsHeld n first r.log found) (λ x p. ((let l = p.0 in omega arith), p.1)) me.0.held k.held;
            got = k.got;
            notes = k.notes;
            told_got = k.told_got;
            told_notes = k.told_notes;
            told = k.told;
            told_counts = k.told_counts;
          },
        )),
        (refl, later, gap, told),
      )

  pub loads_word : (slots id : ℕ) (me : Me (Unit {0}) View) (i at : ℕ) → me.0.live ≡ true → at < me.0.hard → i ≡ at % n + 2 → Allows (Pooled n first) slots id me i (λ x. x) (SawWord at (step slots i 0 0 none) me)
  loads_word slots id me i at live below place s r _ there _ =
      let f = r.each id me.0 there live in
      let k = f.1 in
      let o = r.order in
      let hard = k.hard.0 in
      let found : ℕ = slice_index s.words i in
      let known : (found ≡ slice_index (words_from first r.log) at) ⊎ (at + n < length (words_from first r.log)) =
      dite (dec_le r.written (at + n))
      (λ (le : r.written ≤ at + n). inl (ap (slice_index s.words) place ∙ r.last_words at (omega arith) le))
      (λ (nle : ¬ (r.written ≤ at + n)). let lt : at + n < r.written = lt_of_not-le nle in inr (omega arith)) in
      let w : View = record me.0 { held = me.0.held ++ (at, found) ∷ [] } in (
        w,
        keeps,
        tt,
        looked s r i id me w (λ _. (
          f.0,
          record {
            same = k.same;
            note_first = k.note_first;
            list = k.list;
            place = k.place;
            hard = k.hard;
            claim = k.claim;
            held = each_snoc_one (IsHeld n first r.log me.0.hard) me.0.held (at, found) k.held (below, known);
            got = k.got;
            notes = k.notes;
            told_got = k.told_got;
            told_notes = k.told_notes;
            told = k.told;
            told_counts = k.told_counts;
          },
        )),
        refl,
      )

  -- the end of the entry at a boundary, by words that all stand
  moves : (log : List (List ℕ)) (place hard : ℕ) → IsBoundary first log place → IsBoundary first log hard → (xs : List (ℕ × ℕ)) → Each (λ x. x.0 < hard) xs → Each (Stands (words_from first log) place) xs
      → IsBoundary first log (end_of place xs) × ((end_of place xs ≡ place) ⊎ (end_of place xs ≤ hard))
  moves log place hard b h [] lt st = (b, inl refl)
  moves log place hard b h (x ∷ []) lt st = (b, inl refl)
  moves log place hard b h (x ∷ y ∷ rest) lt st =
      let test : Bool = y.0 == place + 1 in
      ⊎_elim
      (λ (t : (test ≡ true) × (y.0 ≡ place + 1)).
      let below = lt.1.0 in
      let stands = st.1.0 (let e = t.1 in omega arith) in
      let p = b.3 in
      let hp = h.3 in
      let entry = entry_at first log b.0 b.1 b.2 (omega arith) in
      let cut : log ≡ b.0 ++ entry.0 ∷ entry.1 = b.2 ∙ ap (λ l. b.0 ++ l) entry.2 in
      let len : y.1 ≡ length entry.0 = stands.1 ∙ (λ i. slice_index (words_from first (cut i)) ((t.1 ∙ ap (λ (k : ℕ). k + 1) p) i)) ∙ length_word first b.0 entry.0 entry.1 in
      let past = past_entry first b.0 entry.0 entry.1 h.0 h.1 (sym cut ∙ h.2) (omega arith) in
      let end : place + word_count y.1 ≡ length (words_from first (b.0 ++ entry.0 ∷ [])) = (λ i. p i + word_count (len i)) ∙ sym (length-claimed first b.0 entry.0) in
      let whole : IsBoundary first log (place + word_count y.1) = (b.0 ++ entry.0 ∷ [], entry.1, cut ∙ sym (append_assoc b.0 (entry.0 ∷ []) entry.1), end) in
      let same : word_count y.1 ≡ word_count (length entry.0) = ap word_count len in
      let le : place + word_count y.1 ≤ hard = omega arith in
      subst (λ (c : Bool). IsBoundary first log (if c then place + word_count y.1 else place) × (((if c then place + word_count y.1 else place) ≡ place) ⊎ ((if c then place + word_count y.1 else place) ≤ hard))) (sym t.0) (whole, inr le))
      (λ (f : (test ≡ false) × (y.0 ≢ place + 1)).
      subst (λ (c : Bool). IsBoundary first log (if c then place + word_count y.1 else place) × (((if c then place + word_count y.1 else place) ≡ place) ⊎ ((if c then place + word_count y.1 else place) ≤ hard))) (sym f.0) (b, inl refl))
      (eqb_tells y.0 (place + 1))

  -- what the reader knows after a check that found its words not overwritten
  checked : (s : St) (r : Pooled n first s) (id : ℕ) (v : View) (found : ℕ) → Owns r.seat r.log r.written r.hardened id v → Knows n first r.log r.hardened v → found ≤ length (words_from first r.log)
      → Each (λ x. x.0 < v.hard) v.held → Each (Stands (words_from first r.log) v.place) v.held → (b : Bool) → is_entry v.place v.held ≡ b → Owns r.seat r.log r.written r.hardened id (moved b found v) × Knows n first r.log r.hardened (moved b found v)
  checked s r id v found own k below lt stand true e =
      let got = is_got first r.log v.place v.next v.hard k.place k.hard.1 r.bytes v.held e lt stand in (
        own,
        record {
          same = k.same;
          note_first = k.note_first;
          list = k.list;
          place = got.1;
          hard = k.hard;
          claim = below;
          held = tt;
          got = each_snoc_one (IsEntryBelow first r.log r.hardened) v.got (v.next, bytes_in (map word_in v.held)) k.got (below_stays first r.log r.log v.hard r.hardened (starts_same r.log) k.hard.0 (v.next, bytes_in (map word_in v.held)) got.0);
          notes = k.notes;
          told_got = k.told_got;
          told_notes = k.told_notes;
          told = k.told;
          told_counts = k.told_counts;
        },
      )
  checked s r id v found own k below lt stand false e = (own, record { same = k.same; note_first = k.note_first; list = k.list; place = k.place; hard = k.hard; claim = below; held = tt; got = k.got; notes = k.notes; told_got = k.told_got; told_notes = k.told_notes; told = k.told; told_counts = k.told_counts })

  pub loads_claim : (slots id : ℕ) (me : Me (Unit {0}) View) → me.0.live ≡ true → Allows (Pooled n first) slots id me 0 (λ x. x) (SawClaim (step slots 0 0 0 none) me)
  loads_claim slots id me live s r _ there _ =
      let f = r.each id me.0 there live in
      let k = f.1 in
      let o = r.order in
      let hard = k.hard.0 in
      let size = k.same.0 in
      let found : ℕ = slice_index s.words 0 in
      let is : found ≡ length (words_from first r.log) = r.claim_is in
      let before = k.claim in
      dite (dec_le found (me.0.place + me.0.size))
      (λ (le : found ≤ me.0.place + me.0.size).
      let stand : Each (Stands (words_from first r.log) me.0.place) me.0.held =
      each_map (IsHeld n first r.log me.0.hard) (Stands (words_from first r.log) me.0.place)
      (λ x p from. let p0 = p.0 in (omega arith, ⊎_elim (λ (e : x.1 ≡ slice_index (words_from first r.log) x.0). e) (λ (past : x.0 + n < length (words_from first r.log)). absurd (omega arith)) p.1)) me.0.held k.held in
      let at : IsBoundary first r.log me.0.place = (k.place.0, k.place.1, k.place.2, k.place.3) in
      let low : Each (λ x. x.0 < me.0.hard) me.0.held = each_map (IsHeld n first r.log me.0.hard) (λ x. x.0 < me.0.hard) (λ x p. p.0) me.0.held k.held in
      let m = moves r.log me.0.place me.0.hard at k.hard.1 me.0.held low stand in
      let end : ℕ = end_of me.0.place me.0.held in
      let within : Within me.0.place me.0.size me.0.hard end = ⊎_elim (λ (e : end ≡ me.0.place). inl e) (λ (l : end ≤ me.0.hard). inr (l, omega arith)) m.1 in
      let below : found ≤ length (words_from first r.log) = omega arith in
      let later : me.0.claim ≤ found = omega arith in
      let b : Bool = is_entry me.0.place me.0.held in
      let w : View = moved b found me.0 in (
        w,
        keeps,
        tt,
        looked s r 0 id me w (λ _. checked s r id me.0 found f.0 k below low stand b refl),
        (later, (λ _. (refl, within)), (λ gt. absurd (omega arith))),
      ))
      (λ (nle : ¬ (found ≤ me.0.place + me.0.size)).
      let w : View = record me.0 { claim = found; claim_loads = me.0.claim_loads + 1; held = [] } in (
        w,
        keeps,
        tt,
        looked s r 0 id me w (λ _. (f.0, record { same = k.same; note_first = k.note_first; list = k.list; place = k.place; hard = k.hard; claim = omega arith; held = tt; got = k.got; notes = k.notes; told_got = k.told_got; told_notes = k.told_notes; told = k.told; told_counts = k.told_counts })),
        (omega arith, (λ le. absurd (nle le)), (λ _. refl)),
      ))

  pub settles : (slots id : ℕ) (me : Me (Unit {0}) View) → me.0.live ≡ true → me.0.writes ≡ true → Allows (Pooled n first) slots id me 0 (λ x. x) (Settled (step slots 0 0 0 none) me)
  settles slots id me live wr s r _ there _ =
      let f = r.each id me.0 there live in
      let own = f.0 wr in
      let k = f.1 in
      let w : View = record me.0 { told_got = []; told_notes = []; told_hard = 0; told_claim = 0 } in (
        w,
        keeps,
        tt,
        looked s r 0 id me w (λ _. (f.0, record { same = k.same; note_first = k.note_first; list = k.list; place = k.place; hard = k.hard; claim = k.claim; held = k.held; got = k.got; notes = k.notes; told_got = tt; told_notes = tt; told = k.told; told_counts = (omega arith, omega arith) })),
        (
          refl,
          subst (λ (z : ℕ × List (List ℕ) × ℕ). Each (IsEntryBelow z.0 z.1 z.2) me.0.told_got) (λ i. (sym k.same.1 i, sym own.1 i, sym own.3 i)) k.told_got,
          subst (λ (z : List (List ℕ)). Each (StartsWith z) me.0.told_notes) (sym own.1) k.told_notes,
          subst (λ (z : ℕ). me.0.told_hard ≤ z) (sym own.3) k.told_counts.0,
          subst (λ (z : ℕ × List (List ℕ)). me.0.told_claim ≤ length (words_from z.0 z.1)) (λ i. (sym k.same.1 i, sym own.1 i)) k.told_counts.1,
        ),
      )

  -- a place has one number, in the list and in each beginning of it
  agrees : (log : List (List ℕ)) (h : ℕ) (v : View) → Knows n first log h v → (xs : List (List (List ℕ))) → Each (StartsWith log) xs → Each (Agrees v) xs
  agrees log h v k xs notes =
      each_map (StartsWith log) (Agrees v)
      (λ note longer number at.
      let is : IsAt first note v.place number = subst (λ (z : ℕ). IsAt z note v.place number) k.note_first at in
      number_is first log v.place v.next k.place ∙ sym (number_is first log v.place number (at_stays first note log longer v.place number is)))
      xs notes

  pub places : (slots id : ℕ) (me : Me (Unit {0}) View) → me.0.live ≡ true → Allows (Pooled n first) slots id me 0 (λ x. x) (Placed (step slots 0 0 0 none) me)
  places slots id me live s r _ there _ =
      let f = r.each id me.0 there live in (
        me.0,
        keeps,
        tt,
        looked s r 0 id me me.0 (λ _. f),
        (refl, agrees r.log r.hardened me.0 f.1 me.0.notes f.1.notes),
      )

  pub splits : (id : ℕ) (v : View) → v.live ≡ true → Splits (Pooled n first) id v v (reader v)
  splits id v live s r there =
      let k = (r.each id v there live).1 in
      let zero_is : IsBoundary first r.log 0 = ([], r.log, refl, refl) in
      reviewed s r (set s.views id v ++ reader v ∷ [])
      (each_snoc (Fits r.seat r.log r.written r.hardened) (set s.views id v) (reader v)
      (λ j u e. r.each j u (subst (λ l. get_elem? l j ≡ some u) (set_again s.views id v there) e))
      (λ j _. ((λ w. absurd (off w)), record { same = k.same; note_first = k.same.1; list = k.list; place = ([], r.log, refl, refl, k.same.1 ∙ sym (add-zero first)); hard = (omega arith, zero_is); claim = omega arith; held = tt; got = tt; notes = (k.list, tt); told_got = tt; told_notes = tt; told = k.told; told_counts = (omega arith, omega arith) })))

  -- the first seat's view becomes `both`, which the rule allows, and the second is spent
  joins : (id : ℕ) (v : View) (other : ℕ) (u both : View) → u.live ≡ true
      → ((seat : ℕ) (log : List (List ℕ)) (w h : ℕ) → Fits seat log w h id v → Knows n first log h u → Fits seat log w h id both) → Joins (Pooled n first) id v other u both blank
  joins id v other u both live ok s r there apart there' =
      let theirs : Knows n first r.log r.hardened u =
      ⊎_elim (λ (t : (other ≡ id) × (both ≡ u)). absurd (apart t.0)) (λ (t : (other ≢ id) × (get_elem? s.views other ≡ some u)). (r.each other u t.1 live).1) (at_set s.views id other both u there') in
      reviewed s r (set (set s.views id both) other blank)
      (each_set (Fits r.seat r.log r.written r.hardened) (set s.views id both) other blank
      (λ j x _ e. each_set (Fits r.seat r.log r.written r.hardened) s.views id both (λ i y _ e'. r.each i y e') (ok r.seat r.log r.written r.hardened (r.each id v there) theirs) j x e)
      (λ l. absurd (off l)))

  pub takes_reader : (id : ℕ) (v : View) (other : ℕ) (u : View) → v.live ≡ true → u.live ≡ true → Joins (Pooled n first) id v other u (record v { told_got = u.got; told_notes = u.notes; told_hard = max u.hardened u.hard; told_claim = u.claim }) blank
  takes_reader id v other u live live' =
      joins id v other u (record v { told_got = u.got; told_notes = u.notes; told_hard = max u.hardened u.hard; told_claim = u.claim }) live'
      (λ seat log w h f theirs l. let k = (f l).1 in ((f l).0, record { same = k.same; note_first = k.note_first; list = k.list; place = k.place; hard = k.hard; claim = k.claim; held = k.held; got = k.got; notes = k.notes; told_got = theirs.got; told_notes = theirs.notes; told = k.told; told_counts = ((let a = theirs.told in let b = theirs.hard.0 in omega arith), theirs.claim) }))

  -- where a reader stands that moves by a note
  stands_at : (log : List (List ℕ)) (h : ℕ) (v u : View) (place : ℕ) → Knows n first log h v → Knows n first log h u → (place ≡ v.place) ⊎ IsBoundary u.first u.entries place → IsAt first log place (number_at v u place)
  stands_at log h v u place k theirs ok =
      ⊎_elim
      (λ (t : ((place == v.place) ≡ true) × (place ≡ v.place)).
      subst (λ (c : Bool). IsAt first log place (if c then v.next else u.first + count_before u.entries place)) (sym t.0) (subst (λ (z : ℕ). IsAt first log z v.next) (sym t.1) k.place))
      (λ (f : ((place == v.place) ≡ false) × (place ≢ v.place)).
      let b : IsBoundary u.first u.entries place = ⊎_elim (λ (e : place ≡ v.place). absurd (f.1 e)) (λ (b : IsBoundary u.first u.entries place). b) ok in
      let at : IsAt u.first u.entries place (u.first + count_before u.entries place) = boundary_number u.first u.entries place b in
      let here : IsAt first u.entries place (u.first + count_before u.entries place) = subst (λ (z : ℕ). IsAt z u.entries place (u.first + count_before u.entries place)) theirs.same.1 at in
      subst (λ (c : Bool). IsAt first log place (if c then v.next else u.first + count_before u.entries place)) (sym f.0) (at_stays first u.entries log theirs.list place (u.first + count_before u.entries place) here))
      (eqb_tells place v.place)

  pub takes_note : (id : ℕ) (v : View) (other : ℕ) (u : View) (place : ℕ) → u.live ≡ true → v.writes ≡ false → (place ≡ v.place) ⊎ IsBoundary u.first u.entries place
      → Joins (Pooled n first) id v other u (record v { hardened = max v.hardened u.hardened; place = place; next = number_at v u place; note_first = u.first; notes = v.notes ++ u.entries ∷ [] }) blank
  takes_note id v other u place live' reads ok =
      joins id v other u (record v { hardened = max v.hardened u.hardened; place = place; next = number_at v u place; note_first = u.first; notes = v.notes ++ u.entries ∷ [] }) live'
      (λ seat log w h f theirs l.
      let k = (f l).1 in
      ((λ wr. absurd (off (sym reads ∙ wr))), record { same = k.same; note_first = theirs.same.1; list = k.list; place = stands_at log h v u place k theirs ok; hard = k.hard; claim = k.claim; held = k.held; got = k.got; notes = each_snoc_one (StartsWith log) v.notes u.entries k.notes theirs.list; told_got = k.told_got; told_notes = k.told_notes; told = (let a = k.told in let b = theirs.told in omega arith); told_counts = k.told_counts }))

  -- the table at the start
  pub begins : (ws : List ℕ) → 0 < n → ws ≡ replicate (n + 2) 0 → Pooled n first (opening ws [] (writer n first))
  begins ws pos are =
      let zero_is : IsBoundary first [] 0 = ([], [], refl, refl) in
      let at : (i : ℕ) → i < n + 2 → slice_index ws i ≡ 0 = λ i h. ap (λ l. slice_index l i) are ∙ get_or-replicate (n + 2) i 0 0 h in
      record {
        seat = 0;
        log = [];
        written = 0;
        hardened = 0;
        some_words = pos;
        wide = ap length are ∙ length-replicate (n + 2) 0;
        bytes = tt;
        claim_is = at 0 (omega arith);
        hard_is = at 1 (omega arith);
        order = (omega arith, omega arith);
        last_words = λ a lt le. absurd (omega arith);
        unwritten = λ j le lt. at (j + 2) (omega arith);
        whole = zero_is;
        each = one;
      }
    where
      one : (by : ℕ) (v : View) → get_elem? (writer n first ∷ []) by ≡ some v → Fits 0 [] 0 0 by v
      one zero v e = subst (Fits 0 [] 0 0 0) (some-injective (writer n first) v e) (λ _. ((λ _. (refl, refl, refl, refl)), record { same = (refl, refl); note_first = refl; list = ([], refl); place = ([], [], refl, refl, sym (add-zero first)); hard = (omega arith, ([], [], refl, refl)); claim = omega arith; held = tt; got = tt; notes = tt; told_got = tt; told_notes = tt; told = omega arith; told_counts = (omega arith, omega arith) }))
      one (suc by) v e = absurd (some-ne-none v (sym e))
