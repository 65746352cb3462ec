-- What the words that a reader holds say, where none of them was overwritten.
use Rattle.std.proofs.Common.{◌≡◌, ℕ, zero, suc, ◌+◌, ◌/◌, ◌<◌, ◌≤◌, List, [], ◌∷◌, ◌++◌, length, get_or, Bool, true, false, true≢false, refl, sym, ap, ◌∙◌, subst, arith, append_assoc, add-zero, length-append}
use Rattle.std.specs.Prelude.{slice_index, ◌==◌, ◌&&◌, map}
use Rattle.std.proofs.lemmas.Bool.{eqb-true}
use Rattle.std.proofs.lemmas.List.{length-map}
use Rattle.std.proofs.lemmas.Grind.{same_number_lists}
use Rattle.wire_defs.specs.PoolWords.{entry_words, words_from, bytes_in, AreBytes, StartsWith, IsBoundary, IsAt}
use Rattle.wire_defs.proofs.PoolWords.{length-entry, length-claimed, length_word, past_entry, entry_at, entry_word, bytes_in-entry}
use Rattle.pool_rule.specs.Rule.{IsEntryBelow, Each, in_turn, is_whole, is_entry, word_in}
use Rattle.pool_rule.proofs.Each.{each_within}

-- an address from this one on has its word, as it stands in these words
abbrev pub Stands : List ℕ → ℕ → ℕ × ℕ → Type 0
Stands words from x = from ≤ x.0 → (x.0 < length words) × (x.1 ≡ slice_index words x.0)

-- an entry stays one as the list and the count grow
pub below_stays : (first : ℕ) (log now : List (List ℕ)) (h h' : ℕ) → StartsWith now log → h ≤ h' → (g : ℕ × List ℕ) → IsEntryBelow first log h g → IsEntryBelow first now h' g
below_stays first log now h h' longer up g w = (w.0, w.1 ++ longer.0, longer.1 ∙ ap (λ l. l ++ longer.0) w.2 ∙ append_assoc w.0 (g.1 ∷ w.1) longer.0, w.3, (let l = w.4 in omega arith))

pub off : false ≡ true → ⊥
off e = true≢false (sym e)

and_left : (a b : Bool) → (a && b) ≡ true → a ≡ true
and_left true b h = refl
and_left false b h = absurd (off h)

and_right : (a b : Bool) → (a && b) ≡ true → b ≡ true
and_right true b h = h
and_right false b h = absurd (off h)

-- words that follow one another from p on, and stand, are the list's from p on
word_at : (words : List ℕ) (from p : ℕ) (held : List (ℕ × ℕ)) → from ≤ p → in_turn p held ≡ true → Each (Stands words from) held → (i : ℕ) → i < length held → get_or (map word_in held) i 0 ≡ slice_index words (p + i)
word_at words from p [] le turn st i h = absurd (omega arith)
word_at words from p (x ∷ xs) le turn st zero h =
    let is : x.0 ≡ p = eqb-true x.0 p (and_left (x.0 == p) (in_turn (p + 1) xs) turn) in
    (st.0 (omega arith)).1 ∙ ap (slice_index words) (is ∙ sym (add-zero p))
word_at words from p (x ∷ xs) le turn st (suc i) h =
    let e : p + 1 + i ≡ p + suc i = omega arith in
    word_at words from (p + 1) xs (omega arith) (and_right (x.0 == p) (in_turn (p + 1) xs) turn) st.1 i (omega arith) ∙ ap (slice_index words) e

-- a whole entry that stands at a place is the list's there, and ends at a boundary that is past the place
pub is_got : (first : ℕ) (log : List (List ℕ)) (place next hard : ℕ) → IsAt first log place next → IsBoundary first log hard → Each AreBytes log → (held : List (ℕ × ℕ)) → is_entry place held ≡ true → Each (λ x. x.0 < hard) held → Each (Stands (words_from first log) place) held
    → IsEntryBelow first log hard (next, bytes_in (map word_in held)) × IsAt first log (place + length held) (next + 1)
is_got first log place next hard b hb fit [] whole lt st = absurd (off whole)
is_got first log place next hard b hb fit (x ∷ []) whole lt st = absurd (off (and_right (in_turn place (x ∷ [])) false whole))
is_got first log place next hard b hb fit (x ∷ y ∷ rest) whole lt st =
    let turn : in_turn place (x ∷ y ∷ rest) ≡ true = and_left (in_turn place (x ∷ y ∷ rest)) (is_whole (map word_in (x ∷ y ∷ rest))) whole in
    let size : (length (map word_in rest) == (y.1 + 7) / 8) ≡ true = and_right (in_turn place (x ∷ y ∷ rest)) (is_whole (map word_in (x ∷ y ∷ rest))) whole in
    let count : length (map word_in rest) ≡ (y.1 + 7) / 8 = eqb-true (length (map word_in rest)) ((y.1 + 7) / 8) size in
    let body : length (map word_in rest) ≡ length rest = length-map rest word_in in
    let xs : List (ℕ × ℕ) = x ∷ y ∷ rest in
    let here : x.0 ≡ place = eqb-true x.0 place (and_left (x.0 == place) (in_turn (place + 1) (y ∷ rest)) turn) in
    let there : y.0 ≡ place + 1 = eqb-true y.0 (place + 1) (and_left (y.0 == place + 1) (in_turn (place + 1 + 1) rest) (and_right (x.0 == place) (in_turn (place + 1) (y ∷ rest)) turn)) in
    let from : place ≤ x.0 = omega arith in
    let from' : place ≤ y.0 = omega arith in
    let below = (st.0 from).0 in
    let p = b.3 in
    let entry = entry_at first log b.0 b.1 b.2 (omega arith) in
    let e : List ℕ = entry.0 in
    let n : ℕ = first + length b.0 in
    let cut : log ≡ b.0 ++ e ∷ entry.1 = b.2 ∙ ap (λ l. b.0 ++ l) entry.2 in
    let len : y.1 ≡ length e = (st.1.0 from').1 ∙ (λ i. slice_index (words_from first (cut i)) ((there ∙ ap (λ (k : ℕ). k + 1) p) i)) ∙ length_word first b.0 e entry.1 in
    let wc = length-entry n e in
    let parts : (length (map word_in rest) ≡ (length e + 7) / 8) = count ∙ ap (λ (k : ℕ). (k + 7) / 8) len in
    let long : length (map word_in xs) ≡ length (entry_words n e) = omega arith in
    let words : map word_in xs ≡ entry_words n e =
    same_number_lists (map word_in xs) (entry_words n e) long
    (λ k h. word_at (words_from first log) place place xs (omega arith) turn st k (omega arith) ∙ (λ i. slice_index (words_from first (cut i)) (p i + k)) ∙ entry_word first b.0 e entry.1 k (omega arith)) in
    let are : AreBytes e = each_within AreBytes b.0 e entry.1 (subst (Each AreBytes) cut fit) in
    let bytes : bytes_in (map word_in xs) ≡ e = ap bytes_in words ∙ bytes_in-entry n e are in
    let c = length-claimed first b.0 e in
    let end : place + length xs ≡ length (words_from first (b.0 ++ e ∷ [])) = omega arith in
    let more = length-append b.0 (e ∷ []) in
    let number = b.4 in
    let hp = hb.3 in
    let low = lt.0 in
    let past = past_entry first b.0 e entry.1 hb.0 hb.1 (sym cut ∙ hb.2) (omega arith) in
    let ends : length (words_from first (b.0 ++ e ∷ [])) ≤ hard = omega arith in (
      (b.0, entry.1, cut ∙ ap (λ l. b.0 ++ l ∷ entry.1) (sym bytes), b.4, subst (λ l. length (words_from first (b.0 ++ l ∷ [])) ≤ hard) (sym bytes) ends),
      (b.0 ++ e ∷ [], entry.1, cut ∙ sym (append_assoc b.0 (e ∷ []) entry.1), end, omega arith),
    )
