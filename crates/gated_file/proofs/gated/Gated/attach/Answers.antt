use Rattle.std.proofs.Common.{rules, ◌≡◌, List, Some, IfSome, arith}
use Rattle.disk_defs.specs.Gates.{Body, records}
use Rattle.gated_file.specs.State.{settled}
use Rattle.gated_file.specs.Gated.{IsStanding, HasState, IsReady}
use Rattle.gated_file.proofs.Begins.{settle_then, if_ok, begun_ready}
use Rattle.gated_file.proofs.Attaching.{short_state, found_of, found_state, found_ready, read_keeps, found_outside}
use Rattle.gated_file.proofs.gated.Gated.attach.Goals as goal

pub returns-then-size-lt2-clause-any_moment : goal.returns-then-size-lt2-clause-any_moment
returns-then-size-lt2-clause-any_moment g c =
    let view = g.D.Disk.disk in
    settle_then (view c.args.disk.now) (view c.settle.new.disk) (view c.begin.new.disk) c.args.file (g.met.D.Disk.lawful c.settle.new.disk) c.settle.ensures.content c.settle.ensures.any_moment c.begin.ensures.any_moment

pub returns-then-size-lt2-clause-ready : goal.returns-then-size-lt2-clause-ready
returns-then-size-lt2-clause-ready g c =
    let view = g.D.Disk.disk in
    let w = view c.begin.new.disk in
    if_ok c.standing.result (λ made. IsStanding made c.args.file 0) (λ made. IsReady w made) c.standing.ensures.made (λ made standing. begun_ready w made c.args.file (g.met.D.Disk.lawful c.begin.new.disk) standing c.in_ok-begin.ensures.begun)

pub returns-then-size-lt2-clause-state : goal.returns-then-size-lt2-clause-state
returns-then-size-lt2-clause-state g c =
    let view = g.D.Disk.disk in
    let v = view c.args.disk.now in
    let w = view c.begin.new.disk in
    if_ok c.standing.result (λ made. IsStanding made c.args.file 0) (λ made. IfSome v.content (λ files. (bodies : List Body) × (records (files c.args.file) ≡ Some bodies) × HasState w made (settled bodies))) c.standing.ensures.made
    (λ made standing. short_state v (view c.settle.new.disk) w made c.args.file c.in_ok-size.size standing c.settle.ensures.content c.begin.ensures.frame c.in_ok-begin.ensures.begun c.in_ok-size.ensures.size c.if-size-lt2.true)

pub returns-in_err-end-clause-no_list : goal.returns-in_err-end-clause-no_list
returns-in_err-end-clause-no_list g c offset is =
    let view = g.D.Disk.disk in
    found_outside (view c.args.disk.now) (view c.settle.new.disk) c.args.file offset c.in_ok-size.size c.settle.ensures.content (c.find_end.ensures.outside offset (search (rules, is))) c.in_ok-size.ensures.size (omega (arith, c.if-size-lt2.false))

pub returns-clause-any_moment : goal.returns-clause-any_moment
returns-clause-any_moment g c =
    let view = g.D.Disk.disk in
    read_keeps (view c.args.disk.now) (view c.settle.new.disk) (view c.find_end.new.disk) c.args.file (g.met.D.Disk.lawful c.settle.new.disk) c.settle.ensures.any_moment c.find_end.ensures.reads

pub returns-clause-ready : goal.returns-clause-ready
returns-clause-ready g c =
    let view = g.D.Disk.disk in
    let u = view c.args.disk.now in
    let v = view c.settle.new.disk in
    let w = view c.find_end.new.disk in
    let found = found_of u v w c.args.file c.in_ok-end.end c.in_ok-size.size c.settle.ensures.content c.find_end.ensures.reads c.in_ok-end.ensures.end c.in_ok-size.ensures.durable c.in_ok-size.ensures.size (omega (arith, c.if-size-lt2.false)) in
    if_ok c.standing-2.result (λ made. IsStanding made c.args.file c.in_ok-end.end) (λ made. IsReady w made) c.standing-2.ensures.made
    (λ made standing. found_ready u v w made c.args.file c.in_ok-end.end (g.met.D.Disk.lawful c.find_end.new.disk) c.settle.ensures.content c.find_end.ensures.reads standing c.in_ok-end.ensures.near found)

pub returns-clause-state : goal.returns-clause-state
returns-clause-state g c =
    let view = g.D.Disk.disk in
    let u = view c.args.disk.now in
    let v = view c.settle.new.disk in
    let w = view c.find_end.new.disk in
    let found = found_of u v w c.args.file c.in_ok-end.end c.in_ok-size.size c.settle.ensures.content c.find_end.ensures.reads c.in_ok-end.ensures.end c.in_ok-size.ensures.durable c.in_ok-size.ensures.size (omega (arith, c.if-size-lt2.false)) in
    if_ok c.standing-2.result (λ made. IsStanding made c.args.file c.in_ok-end.end) (λ made. IfSome u.content (λ files. (bodies : List Body) × (records (files c.args.file) ≡ Some bodies) × HasState w made (settled bodies))) c.standing-2.ensures.made
    (λ made standing. found_state u v w made c.args.file c.in_ok-end.end c.settle.ensures.content c.find_end.ensures.reads standing found)
