-- Numbers of which the first bytes have come.
use Rattle.std.specs.Prelude.{ℕ, zero, suc, ◌+◌, ◌-◌, ◌*◌, ◌^◌, ◌<◌, ◌≤◌}
use Rattle.global_defs.specs.declared.limits.TheConstants.{NUMBERS_END}
use Rattle.repl_wire.specs.declared.front.Front.{Front}

-- how many numbers are spelled in so many bytes
abbrev pub unit : ℕ → ℕ
unit zero = 1
unit (suc missing) = 256 * unit missing

-- Some number between the bounds begins so.
pub record IsMet (f : Front) : Type 0 where
  pub not_past : f.value * unit f.missing ≤ f.high
  pub reaches : f.low < (f.value + 1) * unit f.missing
  pub bounds : f.low ≤ f.high
  pub small : f.high ≤ NUMBERS_END

-- Such a number of which a byte is missing.
pub record IsOpen (f : Front) : Type 0 where
  pub met : IsMet f
  pub some : 1 ≤ f.missing
  pub few : f.missing ≤ 8

-- the number with one byte more
abbrev pub taken : Front → ℕ → Front
taken f byte = record { value = f.value * 256 + byte; missing = f.missing - 1; low = f.low; high = f.high }
