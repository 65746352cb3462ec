-- What a disk shows that tells nothing.
use Rattle.std.specs.Prelude.{ℕ, None, false}
use Rattle.std.proofs.lemmas.Bool.{false≢true}
use Rattle.disk_defs.specs.Disk.{View, IsLawful}

abbrev pub blind_view : ℕ → View
blind_view faults = record { content = None; moment = 0; since = λ t c. ⊥; faults = faults; simulated = false; has_room = λ file calls bytes. Unit {0} }

pub blind_lawful : (faults : ℕ) → IsLawful (blind_view faults)
blind_lawful faults = record { told = λ is. absurd (false≢true is); as_read = tt; counts_now = λ t c le now. now; no_room = λ file. tt; less_room = λ file m n k l le lf room. tt }
