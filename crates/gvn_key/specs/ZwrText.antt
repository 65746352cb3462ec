-- Text in ZWR form read from the front: any pieces of both kinds, joined with underscores.
use Rattle.std.specs.Prelude.{take, ◌≤◌, ◌≡◌, ℕ, ◌+◌, ◌-◌, ◌*◌, ◌&&◌, ◌==◌, Bool, true, false, not, min, List, [], ◌∷◌, ◌++◌, length, map, nat_lt, get_or, ◌<◌, codes, if◌then◌else◌}
use Rattle.std.specs.List.{list_all, flat_map, join_with_byte}
use Rattle.std.specs.Char.{is_ascii_digit}
use Rattle.std.specs.Fmt.{decimal}
use Rattle.global_defs.specs.Zwr.{is_plain, quoted_byte}
use Rattle.std.specs.declared.result.Result.{Result}
use Rattle.std.specs.declared.result.Result.TheVariants.{Ok, Err}
use Rattle.gvn_key.specs.declared.reader.State.{State}
use Rattle.gvn_key.specs.declared.reader.State.TheVariants.{Start, Quotes, Closed, Dollar, Paren, First, Number, Done}
use Rattle.gvn_key.specs.declared.reader.Effect.{Effect}
use Rattle.gvn_key.specs.declared.reader.Effect.TheVariants.{Stop, Silent, Emit}
use Rattle.gvn_key.specs.declared.reader.ZwrError.{ZwrError}
use Rattle.gvn_key.specs.declared.reader.ZwrError.TheVariants.{BadQuote, BadChar, NoMemory}

-- each number is a byte
abbrev pub IsBytes : List ℕ → Type 0
IsBytes bs = (i : ℕ) → get_or bs i 0 < 256

-- a piece: printable bytes in quotes with each quote doubled, or bytes by their codes
pub data IsPiece : (text value : List ℕ) → Type 0 where
  quoted : (bs : List ℕ) → list_all is_plain bs ≡ true → IsPiece (34 ∷ flat_map quoted_byte bs ++ 34 ∷ []) bs
  coded : (b : ℕ) (bs : List ℕ) → list_all (λ c. nat_lt c 256) (b ∷ bs) ≡ true → IsPiece (codes "$C(" ++ join_with_byte 44 (map decimal (b ∷ bs)) ++ 41 ∷ []) (b ∷ bs)

-- pieces, one at least, with underscores between them
pub data IsZwr : (text value : List ℕ) → Type 0 where
  one : {t v : List ℕ} → IsPiece t v → IsZwr t v
  more : {t v u w : List ℕ} → IsPiece t v → IsZwr u w → IsZwr (t ++ 95 ∷ u) (v ++ w)

-- what a byte does where a piece begins
abbrev pub at_start : ℕ → Effect
at_start b = if b == 34 then Silent Quotes else if b == 36 then Silent Dollar else Stop

abbrev pub in_quotes : ℕ → Effect
in_quotes b = if b == 34 then Silent Closed else if is_plain b then Emit Quotes b else Stop

-- behind a quote that ends a piece, unless a second one follows
abbrev pub behind_quote : ℕ → Effect
behind_quote b = if b == 34 then Emit Quotes 34 else if b == 95 then Silent Start else Stop

abbrev pub expecting : ℕ → State → ℕ → Effect
expecting wanted next b = if b == wanted then Silent next else Stop

abbrev pub first_digit : ℕ → Effect
first_digit b = if is_ascii_digit b then Silent (Number (b - 48)) else Stop

-- a digit more: a number has no leading zero and is below 256
abbrev pub digit_more : ℕ → ℕ → Effect
digit_more n b = if is_ascii_digit b && not (n == 0) && nat_lt (n * 10 + (b - 48)) 256 then Silent (Number (n * 10 + (b - 48))) else Stop

abbrev pub in_number : ℕ → ℕ → Effect
in_number n b = if b == 44 then Emit First n else if b == 41 then Emit Done n else digit_more n b

abbrev pub step : State → ℕ → Effect
step Start b = at_start b
step Quotes b = in_quotes b
step Closed b = behind_quote b
step Dollar b = expecting 67 Paren b
step Paren b = expecting 40 First b
step First b = first_digit b
step (Number n) b = in_number n b
step Done b = expecting 95 Start b

-- how far the bytes could go on: the value so far, the state, and the bytes that are left
pub record Scanned : Type 0 where
  pub value : List ℕ
  pub state : State
  pub left : List ℕ

abbrev pub emitted : ℕ → Scanned → Scanned
emitted b s = record s { value = b ∷ s.value }

abbrev pub onward : Effect → Scanned → (State → Scanned) → Scanned
onward Stop stopped next = stopped
onward (Silent s) stopped next = next s
onward (Emit s b) stopped next = emitted b (next s)

abbrev pub scan : State → List ℕ → Scanned
scan s [] = record { value = []; state = s; left = [] }
scan s (b ∷ bs) = onward (step s b) (record { value = []; state = s; left = b ∷ bs }) (λ t. scan t bs)

-- where a text may end
abbrev pub is_whole : State → Bool
is_whole Closed = true
is_whole Done = true
is_whole s = false

-- a place in a text, told in 32 bits
abbrev pub told : ℕ → ℕ
told at = min at 4294967295

-- where a piece is missing, or a quoted one isn't closed
abbrev pub lacks_piece : State → List ℕ → Bool
lacks_piece Start [] = true
lacks_piece Start (b ∷ bs) = b == 95
lacks_piece Quotes [] = true
lacks_piece s left = false

abbrev pub fault_at : ℕ → Bool → ZwrError
fault_at at lacking = if lacking then BadQuote (told at) else BadChar (told at)

abbrev pub read_whole : ℕ → Scanned → Result (List ℕ) ZwrError
read_whole len s = if is_whole s.state && length s.left == 0 then Ok s.value else Err (fault_at (len - length s.left) (lacks_piece s.state s.left))

-- the value of a text, or the first byte from which on it can't be one
abbrev pub zwr_reading : List ℕ → Result (List ℕ) ZwrError
zwr_reading text = read_whole (length text) (scan Start text)

-- what was answered is this reading, unless memory ran out
abbrev pub ReadsZwr : Result (List ℕ) ZwrError → Result (List ℕ) ZwrError → Type 0
ReadsZwr reading (Ok value) = reading ≡ Ok value
ReadsZwr reading (Err NoMemory) = Unit {0}
ReadsZwr reading (Err e) = reading ≡ Err e

-- some text in ZWR form begins so
pub record IsFront (front : List ℕ) : Type 0 where
  pub rest : List ℕ
  pub value : List ℕ
  pub is : IsZwr (front ++ rest) value

-- the first fault's place: some text in ZWR form begins with all that stands before it, and none with more of the text
pub record IsFirstFault (text : List ℕ) (at : ℕ) : Type 0 where
  pub begins : IsFront (take at text)
  pub no_more : (n : ℕ) → at < n → n ≤ length text → IsFront (take n text) → ⊥

abbrev pub TellsPlace : List ℕ → ZwrError → Type 0
TellsPlace text (BadQuote at) = IsFirstFault text at
TellsPlace text (BadChar at) = IsFirstFault text at
TellsPlace text NoMemory = Unit {0}
