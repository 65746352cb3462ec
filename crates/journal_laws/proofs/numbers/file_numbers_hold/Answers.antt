use Rattle.std.proofs.Common.{arith}
use Rattle.journal_laws.proofs.numbers.file_numbers_hold.Goals as goal

pub returns : goal.returns
returns c = record {
  databases_after_instance = λ r. omega arith;
  kept_free_from = λ r low. omega arith;
  kept_free_up_to = λ g r. omega arith;
  lost_after_journals = λ g h r few low. omega arith;
  broken_after_lost = λ g h few. omega arith;
  one_database = λ r q same. omega arith;
  one_journal = λ g h r q low also same. (omega arith, omega arith);
  one_lost = λ g h same. omega arith;
  one_broken = λ g h same. omega arith;
}
