-- The rule of the pool's table, and what each kind of step tells. (GT.M: updaters fill the journal pool without waiting for a reader, which sees by the early write address whether what it copied was overwritten.)
-- Word 0 is the claimed count, word 1 the hardened count, and word 2 + j the data word j, of n.
use Rattle.std.specs.Prelude.{◌≡◌, ◌⊎◌, ℕ, ◌+◌, ◌/◌, ◌%◌, ◌<◌, ◌≤◌, List, [], ◌∷◌, ◌++◌, length, slice_index, Bool, true, false, ◌&&◌, ◌==◌, if◌then◌else◌, map}
use mathlib.Core.Option.{some}
use lib.ListN.{get_elem?}
use Rattle.atomic_table.specs.Table.{State, Me, Step}
use Rattle.pool_rule.specs.declared.views.View.{View}
use Rattle.wire_defs.specs.PoolWords.{bytes_in, words_from, word_count, AreBytes, StartsWith, IsBoundary, IsAt, count_before}

-- this is an entry of the list, by its number, and it ends at this count of words or before
abbrev pub IsEntryBelow : ℕ → List (List ℕ) → ℕ → ℕ × List ℕ → Type 0
IsEntryBelow first entries count g = (front : List (List ℕ)) × (back : List (List ℕ)) × (entries ≡ front ++ g.1 ∷ back) × (g.0 ≡ first + length front) × (length (words_from first (front ++ g.1 ∷ [])) ≤ count)

-- each member of the list
abbrev pub Each : {A : Type 0} → (A → Type 0) → List A → Type 0
Each P [] = Unit {0}
Each P (x ∷ xs) = P x × Each P xs

abbrev pub blank : View
blank = record { live = false; writes = false; size = 0; first = 0; entries = []; written = 0; hardened = 0; place = 0; next = 0; hard = 0; claim = 0; hard_loads = 0; claim_loads = 0; held = []; got = []; note_first = 0; notes = []; told_got = []; told_notes = []; told_hard = 0; told_claim = 0 }

-- the writer of a new pool of n data words
abbrev pub writer : ℕ → ℕ → View
writer n first = record blank { live = true; writes = true; size = n; first = first; next = first; note_first = first }

-- a new reader, or a note, beside the writer's view: it begins with a copy of the writer's list and of its hardened count
abbrev pub reader : View → View
reader v = record blank { live = v.live; size = v.size; first = v.first; entries = v.entries; hardened = v.hardened; next = v.first; note_first = v.first; notes = v.entries ∷ [] }

-- an address with its word: it was loaded below this hardened count, and it's the word of that address, or the claimed count is more than n past it
abbrev pub IsHeld : ℕ → ℕ → List (List ℕ) → ℕ → ℕ × ℕ → Type 0
IsHeld n first log hard x = (x.0 < hard) × ((x.1 ≡ slice_index (words_from first log) x.0) ⊎ (x.0 + n < length (words_from first log)))

-- what the rule says of any view that isn't spent, beside the writer's list and hardened count
pub record Knows (n first : ℕ) (log : List (List ℕ)) (hardened : ℕ) (v : View) : Type 0 where
  pub same : (v.size ≡ n) × (v.first ≡ first)
  pub note_first : v.note_first ≡ first
  pub list : StartsWith log v.entries
  pub told : v.hardened ≤ hardened
  pub place : IsAt first log v.place v.next
  pub hard : (v.hard ≤ hardened) × IsBoundary first log v.hard
  pub claim : v.claim ≤ length (words_from first log)
  pub held : Each (IsHeld n first log v.hard) v.held
  pub got : Each (IsEntryBelow first log hardened) v.got
  pub notes : Each (StartsWith log) v.notes
  pub told_got : Each (IsEntryBelow first log hardened) v.told_got
  pub told_notes : Each (StartsWith log) v.told_notes
  pub told_counts : (v.told_hard ≤ hardened) × (v.told_claim ≤ length (words_from first log))

-- the writer's view, beside the writer's seat, list and counts
abbrev pub Owns : ℕ → List (List ℕ) → ℕ → ℕ → ℕ → View → Type 0
Owns seat log written hardened by v = v.writes ≡ true → (by ≡ seat) × (v.entries ≡ log) × (v.written ≡ written) × (v.hardened ≡ hardened)

-- The rule, over the words and over all views that aren't spent:
--  1. the words CLAIM and HARD are the writer's claimed and hardened counts, and hardened is at most written, which is at most claimed (claim_is, hard_is, order);
--  2. data word j is the word of the greatest written address a with a mod n = j, or 0 where there is none (last_words, unwritten);
--  3. the words below the hardened count are whole entries of consecutive numbers from the first (whole);
--  4. a reader's place is 0, or the start or the end of an entry in the writer's list, and the counts that it loaded are at most the writer's (Knows: place, hard, claim);
--  5. a word that a reader holds for an address was loaded below the hardened count that it had loaded, and is the word of that address, or the claimed count is greater than the address plus n (Knows: held);
--  6. what a reader has got is the entry of that number, a note is the beginning of the writer's list, and the hardened count that came with it is at most the writer's (Knows: got, list, told, notes).
pub record Pooled (n first : ℕ) (s : State (Unit {0}) View) : Type 0 where
  pub seat : ℕ
  pub log : List (List ℕ)
  pub written : ℕ
  pub hardened : ℕ
  pub some_words : 0 < n
  pub wide : length s.words ≡ n + 2
  pub bytes : Each AreBytes log
  pub claim_is : slice_index s.words 0 ≡ length (words_from first log)
  pub hard_is : slice_index s.words 1 ≡ hardened
  pub order : (hardened ≤ written) × (written ≤ length (words_from first log))
  pub last_words : (a : ℕ) → a < written → written ≤ a + n → slice_index s.words (a % n + 2) ≡ slice_index (words_from first log) a
  pub unwritten : (j : ℕ) → written ≤ j → j < n → slice_index s.words (j + 2) ≡ 0
  pub whole : IsBoundary first log hardened
  pub each : (by : ℕ) (v : View) → get_elem? s.views by ≡ some v → v.live ≡ true → Owns seat log written hardened by v × Knows n first log hardened v

abbrev M : Type 0
M = Me (Unit {0}) View

-- kind 1, the writer claims the words of an entry with these bytes
abbrev pub Claimed : List ℕ → Step (Unit {0}) → M → ℕ → M → Type 0
Claimed bytes st m r m' = m' ≡ (record m.0 { entries = m.0.entries ++ bytes ∷ [] }, m.1)

-- kind 2, the writer stores a data word
abbrev pub Stored : Step (Unit {0}) → M → ℕ → M → Type 0
Stored st m r m' = m' ≡ (record m.0 { written = m.0.written + 1 }, m.1)

-- kind 3, the writer stores the hardened count r
abbrev pub Hardened : Step (Unit {0}) → M → ℕ → M → Type 0
Hardened st m r m' = m' ≡ (record m.0 { hardened = r }, m.1)

-- kind 4, a reader loads the hardened count: where it's past the reader's place, at least the two first words of an entry stand below it, and it's never less than what the reader was told
abbrev pub SawHard : Step (Unit {0}) → M → ℕ → M → Type 0
SawHard st m r m' = (m' ≡ (record m.0 { hard = r; hard_loads = m.0.hard_loads + 1 }, m.1)) × (m.0.hard ≤ r) × ((r ≤ m.0.place) ⊎ (m.0.place + 2 ≤ r)) × (m.0.hardened ≤ r)

-- kind 5, a reader loads the data word of this address
abbrev pub SawWord : ℕ → Step (Unit {0}) → M → ℕ → M → Type 0
SawWord at st m r m' = m' ≡ (record m.0 { held = m.0.held ++ (at, r) ∷ [] }, m.1)

-- where the entry at p ends by the words held from p on; p where they don't say
abbrev pub end_of : ℕ → List (ℕ × ℕ) → ℕ
end_of p [] = p
end_of p (x ∷ []) = p
end_of p (x ∷ y ∷ rest) = if y.0 == p + 1 then p + word_count y.1 else p

-- this end is the reader's place, or lies below the hardened count that it loaded, past at most the words that there are
abbrev pub Within : ℕ → ℕ → ℕ → ℕ → Type 0
Within place size hard end = (end ≡ place) ⊎ ((end ≤ hard) × (end ≤ place + size))

-- the addresses follow one another from p on
abbrev pub in_turn : ℕ → List (ℕ × ℕ) → Bool
in_turn p [] = true
in_turn p (x ∷ xs) = (x.0 == p) && in_turn (p + 1) xs

-- these words are as many as an entry's of the length that the second one says
abbrev pub is_whole : List ℕ → Bool
is_whole [] = false
is_whole (number ∷ []) = false
is_whole (number ∷ len ∷ body) = length body == (len + 7) / 8

abbrev pub word_in : ℕ × ℕ → ℕ
word_in x = x.1

-- the words that are held are a whole entry's, from p on
abbrev pub is_entry : ℕ → List (ℕ × ℕ) → Bool
is_entry p held = in_turn p held && is_whole (map word_in held)

-- what the reader has after a check that found no word from its place on overwritten: it got the entry that it holds, and moved on, or it holds none
abbrev pub moved : Bool → ℕ → View → View
moved true claim v = record v { claim = claim; claim_loads = v.claim_loads + 1; held = []; got = v.got ++ (v.next, bytes_in (map word_in v.held)) ∷ []; place = v.place + length v.held; next = v.next + 1 }
moved false claim v = record v { claim = claim; claim_loads = v.claim_loads + 1; held = [] }

-- kind 6, a reader loads the claimed count, the check: where no word from the place on was overwritten, a whole entry that is held is got, and the reader moves on
abbrev pub SawClaim : Step (Unit {0}) → M → ℕ → M → Type 0
SawClaim st m r m' =
    (m.0.claim ≤ r)
    × (r ≤ m.0.place + m.0.size → (m' ≡ (moved (is_entry m.0.place m.0.held) r m.0, m.1)) × Within m.0.place m.0.size m.0.hard (end_of m.0.place m.0.held))
    × (m.0.place + m.0.size < r → m' ≡ (record m.0 { claim = r; claim_loads = m.0.claim_loads + 1; held = [] }, m.1))

-- the number at a place to which a reader moves by a note, where it doesn't stay
abbrev pub number_at : View → View → ℕ → ℕ
number_at v note place = if place == v.place then v.next else note.first + count_before note.entries place

-- the reader's next number is the one that the note has at its place
abbrev pub Agrees : View → List (List ℕ) → Type 0
Agrees v note = (number : ℕ) → IsAt v.note_first note v.place number → v.next ≡ number

-- the end of kind 8, a reader's: its place and number agree with each note
abbrev pub Placed : Step (Unit {0}) → M → ℕ → M → Type 0
Placed st m r m' = (m' ≡ m) × Each (Agrees m.0) m.0.notes

-- the end of kind 8, the writer's: what it was told are hardened entries of its list, beginnings of it, and counts that are at most its own
abbrev pub Settled : Step (Unit {0}) → M → ℕ → M → Type 0
Settled st m r m' =
    (m' ≡ (record m.0 { told_got = []; told_notes = []; told_hard = 0; told_claim = 0 }, m.1))
    × Each (IsEntryBelow m.0.first m.0.entries m.0.hardened) m.0.told_got
    × Each (StartsWith m.0.entries) m.0.told_notes
    × (m.0.told_hard ≤ m.0.hardened)
    × (m.0.told_claim ≤ length (words_from m.0.first m.0.entries))
