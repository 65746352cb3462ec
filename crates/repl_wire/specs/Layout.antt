-- The layout of frames as what may come next, byte after byte.
use Rattle.std.specs.Prelude.{◌≡◌, ℕ, zero, suc, ◌+◌, ◌-◌, ◌*◌, ◌^◌, ◌<◌, ◌≤◌, Bool, true, false, IsTrue, List, [], ◌∷◌, ◌++◌, length, nat_eq}
use Rattle.std.specs.Char.{is_ascii_alphabetic, is_ascii_alphanumeric}
use Rattle.global_defs.specs.declared.limits.TheConstants.{LONGEST_BODY, LONGEST_VALUE, NUMBERS_END}
use Rattle.gvn_key.specs.Codes.{IsCode}
use Rattle.repl_wire.specs.declared.field.Kind.{Kind}
use Rattle.repl_wire.specs.declared.field.Kind.TheVariants.{Hello, Resume, RollbackFirst, History, Entry, Bye}
use Rattle.repl_wire.specs.Kinds.{type_of}

-- the bytes that may follow
abbrev pub Rest : Type 1
Rest = List ℕ → Type 0

abbrev pub Ended : Rest
Ended w = w ≡ []

-- bytes of this length
abbrev pub Sized : Rest → ℕ → Rest
Sized K len w = K w × (length w ≡ len)

-- a byte
abbrev pub One : (ℕ → Rest) → Rest
One K [] = ⊥
One K (b ∷ w) = K b w

-- so many more bytes of a number whose bytes so far are this number
abbrev pub Numbered : ℕ → ℕ → (ℕ → Rest) → Rest
Numbered zero n K w = K n w
Numbered (suc missing) n K [] = ⊥
Numbered (suc missing) n K (b ∷ w) = (b < 256) × Numbered missing (n * 256 + b) K w

-- a number from low to high
abbrev pub Within : ℕ → ℕ → (ℕ → Rest) → ℕ → Rest
Within low high K n w = (low ≤ n) × (n ≤ high) × K n w

-- what a name's first byte may be, and what the others may be
abbrev pub names : Bool → ℕ → Bool
names true b = is_ascii_alphabetic b
names false b = is_ascii_alphanumeric b

-- so many more bytes of a name, all of it or not
abbrev pub Named : Bool → ℕ → Rest → Rest
Named first zero K w = K w
Named first (suc missing) K [] = ⊥
Named first (suc missing) K (b ∷ w) = (IsTrue (names first b)) × Named false missing K w

-- any bytes, so many
abbrev pub Skipped : ℕ → Rest → Rest
Skipped zero K w = K w
Skipped (suc missing) K [] = ⊥
Skipped (suc missing) K (b ∷ w) = Skipped missing K w

-- bytes of a kind
pub record Then (A K : Rest) (w : List ℕ) : Type 0 where
  pub front : List ℕ
  pub back : List ℕ
  pub is : w ≡ front ++ back
  pub here : A front
  pub there : K back

-- a start, then K
abbrev pub Starting : Rest → Rest
Starting K = Numbered 8 0 (Within 1 NUMBERS_END (λ _. K))

abbrev pub Cycling : Rest → Rest
Cycling K = Numbered 4 0 (Within 1 (2 ^ 32 - 1) (λ _. Starting K))

-- a root's name of that length, and the rest of its reign
abbrev pub Rooted : Rest → ℕ → Rest
Rooted K = Within 1 15 (λ n. Named true n (Cycling K))

-- so many reigns
abbrev pub Reigned : ℕ → Rest
Reigned zero = Ended
Reigned (suc count) = One (Rooted (Reigned count))

-- a value behind its length
abbrev pub Valued : Rest → Rest
Valued K = Numbered 2 0 (Within 0 LONGEST_VALUE (λ n. Skipped n K))

-- what stands behind the key of a SET, or of another update
abbrev pub BehindKey : Bool → Rest → Rest
BehindKey true K = Valued K
BehindKey false K = K

-- a key of that length
abbrev pub Keyed : Bool → Rest → ℕ → Rest
Keyed set K n = Then (IsCode n) (BehindKey set K)

-- what an update does, and the rest of it
abbrev pub Tagged : Rest → ℕ → Rest
Tagged K = Within 1 3 (λ tag. One (Keyed (nat_eq tag 1) K))

-- so many updates
abbrev pub Updated : ℕ → Rest
Updated zero = Ended
Updated (suc count) = One (Tagged (Updated count))

abbrev pub UpdateCount : Rest
UpdateCount = Numbered 2 0 (Within 1 256 Updated)

abbrev pub Serial : Rest
Serial = Numbered 4 0 (Within 1 (2 ^ 32 - 1) (λ _. UpdateCount))

abbrev pub Updater : ℕ → Rest
Updater = Within 1 64 (λ _. Serial)

abbrev pub ReignCount : Rest
ReignCount = Numbered 4 0 Reigned

abbrev pub Lengthed : Rest
Lengthed = Numbered 8 0 (Within 0 (NUMBERS_END - 1) (λ _. ReignCount))

-- a site's name of that length, and the rest of a HELLO
abbrev pub Sited : ℕ → Rest
Sited = Within 1 15 (λ n. Named true n Lengthed)

abbrev pub Versioned : ℕ → Rest
Versioned = Within 1 1 (λ _. One Sited)

abbrev pub Alone : ℕ → ℕ → Rest
Alone low high = Numbered 8 0 (Within low high (λ _. Ended))

-- a body of that type
abbrev pub Body : Kind → Rest
Body Hello = One Versioned
Body Resume = Alone 1 NUMBERS_END
Body RollbackFirst = Alone 1 (NUMBERS_END - 1)
Body History = Reigned 1
Body Entry = Numbered 8 0 (Within 1 (NUMBERS_END - 1) (λ _. One Updater))
Body Bye = Alone 0 (NUMBERS_END - 1)

-- a body's length and the body
abbrev pub Bodied : Kind → Rest
Bodied kind = Numbered 4 0 (Within 0 LONGEST_BODY (λ n. Sized (Body kind) n))

-- the rest of a frame behind its type
pub record Typed (b : ℕ) (w : List ℕ) : Type 0 where
  pub kind : Kind
  pub is : type_of kind ≡ b
  pub body : Bodied kind w

-- a frame
abbrev pub Framed : Rest
Framed = One Typed
