-- What answers of links carry.
use Rattle.std.specs.Prelude.{ℕ, Bool, true, false, Result, Ok, Err, ⊤}
use Rattle.repl_link.specs.declared.traits.Received.{Received}
use Rattle.repl_link.specs.declared.traits.Received.TheVariants.{Bytes, NotYet, Ended}
use Rattle.repl_link.specs.declared.traits.ConnectError.{ConnectError}
use Rattle.repl_link.specs.declared.traits.ConnectError.TheVariants.{Cut, NoMemory}

module _ {E : Type 0} where
  -- how many bytes one call of `receive` gave
  abbrev pub bytes_got : Result Received E → ℕ
  bytes_got (Ok (Bytes n)) = n
  bytes_got (Ok NotYet) = 0
  bytes_got (Ok Ended) = 0
  bytes_got (Err e) = 0

  -- a fact of the number of bytes given, where some were
  abbrev pub IfBytes : Result Received E → (ℕ → Type 0) → Type 0
  IfBytes (Ok (Bytes n)) P = P n
  IfBytes (Ok NotYet) P = ⊤
  IfBytes (Ok Ended) P = ⊤
  IfBytes (Err e) P = ⊤

  -- a fact where nothing came yet
  abbrev pub OnNotYet : Result Received E → Type 0 → Type 0
  OnNotYet (Ok (Bytes n)) P = ⊤
  OnNotYet (Ok NotYet) P = P
  OnNotYet (Ok Ended) P = ⊤
  OnNotYet (Err e) P = ⊤

  -- a fact where nothing comes any more
  abbrev pub OnEnded : Result Received E → Type 0 → Type 0
  OnEnded (Ok (Bytes n)) P = ⊤
  OnEnded (Ok NotYet) P = ⊤
  OnEnded (Ok Ended) P = P
  OnEnded (Err e) P = ⊤

  -- whether the answer is that nothing comes any more
  abbrev pub is_ended : Result Received E → Bool
  is_ended (Ok (Bytes n)) = false
  is_ended (Ok NotYet) = false
  is_ended (Ok Ended) = true
  is_ended (Err e) = false

  -- how much patience an answer of `receive` costs
  abbrev pub patience_cost : Result Received E → ℕ
  patience_cost (Ok (Bytes n)) = 0
  patience_cost (Ok NotYet) = 1
  patience_cost (Ok Ended) = 0
  patience_cost (Err e) = 0

module _ {T : Type 0} where
  -- a fact where a connection was cut as it was made
  abbrev pub OnCut : Result T ConnectError → Type 0 → Type 0
  OnCut (Ok x) P = ⊤
  OnCut (Err Cut) P = P
  OnCut (Err NoMemory) P = ⊤

  -- a fact where memory for a connection was refused
  abbrev pub OnNoMemory : Result T ConnectError → Type 0 → Type 0
  OnNoMemory (Ok x) P = ⊤
  OnNoMemory (Err Cut) P = ⊤
  OnNoMemory (Err NoMemory) P = P
