-- What contracts see of a pool's writer and of its readers.
use Rattle.std.specs.Prelude.{◌≡◌, ◌⊎◌, ℕ, ◌+◌, ◌-◌, ◌<◌, ◌≤◌, max, List, [], ◌∷◌, ◌++◌, length, Some, slice_get}
use Rattle.atomic_table.specs.Seated.{TableId}
use Rattle.wire_defs.specs.PoolWords.{words_from, word_count, place_of, IsWhole}
use Rattle.pool_rule.specs.Seats.{Held}
use Rattle.jnl_pool.specs.declared.answer.ReadAnswer.{ReadAnswer}
use Rattle.jnl_pool.specs.declared.answer.ReadAnswer.TheVariants.{Got, NotYet, Overwritten}

-- the writer: its pool, the pool's count of words and first number, the bytes of each entry that was put, and how many of these are hardened
pub record Writing : Type 0 where
  pub table : TableId
  pub size : ℕ
  pub first : ℕ
  pub entries : List (List ℕ)
  pub hardened : ℕ

-- a reader: its pool, the place and the number of its next entry, the counts that it loaded last and how often it loaded each, the greatest hardened count that the writer told it, the entries that it got, each with its number, the notes that it was given, and the bytes that it has
pub record Reading : Type 0 where
  pub table : TableId
  pub size : ℕ
  pub place : ℕ
  pub next : ℕ
  pub hard : ℕ
  pub claim : ℕ
  pub hard_loads : ℕ
  pub claim_loads : ℕ
  pub told : ℕ
  pub got : List (ℕ × List ℕ)
  pub notes : List (List (List ℕ))
  pub bytes : List ℕ

-- the writer of a new pool
abbrev pub new_writer : Held → Writing
new_writer pool = record { table = pool.table; size = pool.size; first = pool.first; entries = []; hardened = 0 }

-- the hardened count: the words of the entries that are hardened
abbrev pub hard_count : Writing → ℕ
hard_count w = place_of w.first w.entries w.hardened

-- a new reader stands at the pool's first entry, and begins with a note of the writer's list and with its hardened count
abbrev pub new_reader : Writing → Reading
new_reader w = record { table = w.table; size = w.size; place = 0; next = w.first; hard = 0; claim = 0; hard_loads = 0; claim_loads = 0; told = hard_count w; got = []; notes = w.entries ∷ []; bytes = [] }

-- the number of the next entry to be put
abbrev pub next_number : Writing → ℕ
next_number w = w.first + length w.entries

-- the claimed count: all words that were put
abbrev pub claimed : Writing → ℕ
claimed w = length (words_from w.first w.entries)

-- the place of the entry of this number, or of the next to be put
abbrev pub place_at : Writing → ℕ → ℕ
place_at w number = place_of w.first w.entries (number - w.first)

-- this number is the next one to be put, or its entry is whole in the pool
abbrev pub CanAnchor : Writing → ℕ → Type 0
CanAnchor w number = (number ≡ next_number w) ⊎ ((w.first ≤ number) × (number < next_number w) × IsWhole w.size (claimed w) (place_at w number))

-- a reader after `anchor` moved it to this number, and told it the hardened count
abbrev pub anchored : Writing → ℕ → Reading → Reading
anchored w number r = record r { place = place_at w number; next = number; told = max r.told (hard_count w); notes = r.notes ++ w.entries ∷ [] }

-- the reader before a read and after it, by the answer: exactly one of the three can be, by the counts that this read loaded
abbrev pub After : Reading → Reading → ReadAnswer → Type 0
After v w NotYet = (w.hard ≤ v.place) × (w ≡ record v { hard = w.hard; hard_loads = v.hard_loads + 1 })
After v w Overwritten = (v.place < w.hard) × (v.place + v.size < w.claim) × (w ≡ record v { hard = w.hard; claim = w.claim; hard_loads = v.hard_loads + 1; claim_loads = v.claim_loads + 1; bytes = [] })
After v w Got = (v.place < w.hard) × (w.claim ≤ v.place + v.size) × (w ≡ record v { hard = w.hard; claim = w.claim; hard_loads = v.hard_loads + 1; claim_loads = v.claim_loads + 1; got = v.got ++ (v.next, w.bytes) ∷ []; place = v.place + word_count (length w.bytes); next = v.next + 1; bytes = w.bytes })

-- this is a hardened entry of the writer's, by its number
abbrev pub IsHardenedEntry : Writing → ℕ × List ℕ → Type 0
IsHardenedEntry w g = (w.first ≤ g.0) × (g.0 < w.first + w.hardened) × (slice_get w.entries (g.0 - w.first) ≡ Some g.1)

-- each entry that a note has is the writer's entry of that number
abbrev pub IsNoteOf : Writing → List (List ℕ) → Type 0
IsNoteOf w note = (k : ℕ) (e : List ℕ) → slice_get note k ≡ Some e → slice_get w.entries k ≡ Some e
