use Rattle.std.proofs.Common.{◌≡◌, arith}
use Rattle.journal_defs.specs.Journal.{IsStart}
use Rattle.repl_fields.proofs.Chains.{byte, word, truth, front, behind, joined}
use Rattle.jnl_record.proofs.Records.{generations, mode_on, region_on, no_start, some_start}
use Rattle.jnl_record.proofs.kinds.read_start.Goals as goal

pub returns-in_err-region-clause-read : goal.returns-in_err-region-clause-read
returns-in_err-region-clause-read c = rw c.from_residual-in_err-region.ensures (no_start _ (behind byte region_on _ _ _ c.in_ok-version.ensures (front byte mode_on _ c.in_err-region.ensures)))

pub returns-in_err-generation-clause-read : goal.returns-in_err-generation-clause-read
returns-in_err-generation-clause-read c = rw c.from_residual-in_err-generation.ensures (no_start _ (behind byte region_on _ _ _ c.in_ok-version.ensures (behind byte mode_on _ _ _ c.in_ok-region.ensures
    (behind truth generations _ _ _ c.in_ok-before.ensures (front word word _ c.in_err-generation.ensures)))))

pub returns-in_err-previous-clause-read : goal.returns-in_err-previous-clause-read
returns-in_err-previous-clause-read c = rw c.from_residual-in_err-previous.ensures (no_start _ (behind byte region_on _ _ _ c.in_ok-version.ensures (behind byte mode_on _ _ _ c.in_ok-region.ensures
    (behind truth generations _ _ _ c.in_ok-before.ensures (behind word word _ _ _ c.in_ok-generation.ensures c.in_err-previous.ensures)))))

pub returns-in_err-before-clause-read : goal.returns-in_err-before-clause-read
returns-in_err-before-clause-read c = rw c.from_residual-in_err-before.ensures (no_start _ (behind byte region_on _ _ _ c.in_ok-version.ensures (behind byte mode_on _ _ _ c.in_ok-region.ensures
    (front truth generations _ c.in_err-before.ensures))))

pub returns-clause-read : goal.returns-clause-read
returns-clause-read c =
    let version : c.in_ok-version.version ≡ 1 = omega arith in
    let good : IsStart (record { region = c.in_ok-region.region; before = c.in_ok-before.before; generation = c.in_ok-generation.generation; previous = c.in_ok-previous.previous }) =
    record { region = omega arith; generation = (omega arith, omega arith); previous = omega arith } in
    some_start _ _ _ (rw version at (joined byte region_on _ _ _ _ _ c.in_ok-version.ensures (joined byte mode_on _ _ _ _ _ c.in_ok-region.ensures
    (joined truth generations _ _ _ _ _ c.in_ok-before.ensures (joined word word _ _ _ _ _ c.in_ok-generation.ensures c.in_ok-previous.ensures))))) good
