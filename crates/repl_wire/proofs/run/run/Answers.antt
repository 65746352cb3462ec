use Rattle.std.proofs.Common.{◌+◌, arith, refl}
use Rattle.std.proofs.lemmas.Bool.{iff_false}
use Rattle.repl_wire.specs.Scans.{Completing}
use Rattle.repl_wire.specs.Feeds.{Running}
use Rattle.repl_wire.proofs.Runs.{running_begun, running_on, running_whole, running_bad, running_ended, passes_on}
use Rattle.repl_wire.proofs.run.run.Goals.{After-pass-passed}
use Rattle.repl_wire.proofs.run.run.Goals as goal

-- behind what was passed over of a value
passed : (c : After-pass-passed) → Running c.pass-passed.result.0 (Completing c.args.scan) c.args.bytes.now (c.loop-i.i + c.pass-passed.result.1)
passed c =
    passes_on c.loop-i.scan c.pass-passed.result.0 (Completing c.args.scan) c.args.bytes.now c.loop-i.i c.pass-passed.result.1 c.loop-i.invariant
    (let few = c.pass-passed.ensures.few in omega (arith, few)) c.pass-passed.ensures.passes

pub loop-i-init : goal.loop-i-init
loop-i-init c = running_begun c.args.scan c.args.bytes.now c.requires.sound c.requires.begun

pub take-requires : goal.take-requires
take-requires c = (passed (goal.at.take-requires c).After-pass-passed).awaits.sound

pub returns-in-None : goal.returns-in-None
returns-in-None c = running_bad c.pass-passed.result.0 (Completing c.args.scan) c.args.bytes.now (c.loop-i.i + c.pass-passed.result.1) (passed (goal.at.returns-in-None c).After-pass-passed) (omega arith) c.in-None.ensures

pub returns-then-is_whole : goal.returns-then-is_whole
returns-then-is_whole c = (
  omega arith,
  omega arith,
  running_whole c.pass-passed.result.0 c.in-Some.next (Completing c.args.scan) c.args.bytes.now (c.loop-i.i + c.pass-passed.result.1) (passed (goal.at.returns-then-is_whole c).After-pass-passed) (omega arith) c.in-Some.ensures (c.if-is_whole.ensures.0 refl),
)

pub loop-i-preserved-in-Some : goal.loop-i-preserved-in-Some
loop-i-preserved-in-Some c =
    running_on c.pass-passed.result.0 c.in-Some.next (Completing c.args.scan) c.args.bytes.now (c.loop-i.i + c.pass-passed.result.1) (passed (goal.at.loop-i-preserved-in-Some c).After-pass-passed) (omega arith) c.in-Some.ensures (iff_false c.is_whole.ensures c.if-is_whole.false)

pub loop-i-preserved : goal.loop-i-preserved
loop-i-preserved c = passed (goal.at.loop-i-preserved c).After-pass-passed

pub returns : goal.returns
returns c = running_ended c.loop-i.scan (Completing c.args.scan) c.args.bytes.now c.loop-i.i c.loop-i.invariant (omega arith)
