use Rattle.pool_rule.proofs.table.PoolTable.claim.Given as goal

abbrev pub ghosts-claim_as : goal.ghosts-claim_as
ghosts-claim_as a = record { bytes = a._bytes.now; at = 0 }
