use Rattle.std.proofs.Common.{◌≡◌, ◌++◌, drop}
use Rattle.gvn_key.specs.ZwrText.{scan}
use Rattle.gvn_key.specs.declared.reader.State.TheVariants.{Start}
use Rattle.gvn_key.proofs.reader.scan.Given as goal

-- what is read and what is still to be read make the whole
abbrev pub invariant-loop-byte : goal.invariant-loop-byte
invariant-loop-byte l = record {
  place : l.at ≡ l.byte-index;
  state : (scan l.state (drop l.byte-index l.text)).state ≡ (scan Start l.text).state;
  left : (scan l.state (drop l.byte-index l.text)).left ≡ (scan Start l.text).left;
  value : l.value ++ (scan l.state (drop l.byte-index l.text)).value ≡ l.fn.value ++ (scan Start l.text).value;
}
