-- What a primary's answer tells a site that is rolled back to what the two share.
use Rattle.std.specs.Prelude.{ℕ}
use Rattle.receiver_server.specs.declared.step.Handshake.{Handshake}
use Rattle.receiver_server.specs.declared.step.Handshake.TheVariants.{Resume, RollbackFirst}

-- the number of the first entry that isn't shared
abbrev pub answer_number : Handshake → ℕ
answer_number (Resume n) = n
answer_number (RollbackFirst n) = n
