-- A journal stays as it is while other files change.
use Rattle.std.proofs.Common.{ℕ}
use Rattle.disk_defs.specs.Disk.{View}
use Rattle.disk_defs.specs.Frames.{OthersStay}
use Rattle.gated_file.proofs.Others as gates
use Rattle.jnl_file.specs.Records.{Recorded}
use Rattle.jnl_file.specs.Journal.{HasRecords, IsReady}
use Rattle.jnl_file.specs.declared.journal.Journal.{Journal}
use Rattle.jnl_file.proofs.Steps.{step, ready_step}

module _ (v w : View) (F : ℕ → Type 0) (j : Journal) (stays : OthersStay F v w) (ne : F j.gated.file → ⊥) where
  pub records_stay : (s : Recorded) → HasRecords v j s → HasRecords w j s
  records_stay s has = step v w j j s s (λ b. b) (gates.state_stays v w F j.gated stays ne) (λ b are. are) has

  pub ready_stays : IsReady v j → IsReady w j
  ready_stays ready = ready_step v w j j F stays ready.file (gates.ready_stays v w F j.gated stays ne ready.gated) (λ s has. (s, records_stay s has)) ready
