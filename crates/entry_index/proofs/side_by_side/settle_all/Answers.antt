use Rattle.std.proofs.Common.{◌≡◌, ◌<◌, ◌∙◌, length, get_or, refl, sym, subst, arith}
use Rattle.std.proofs.lemmas.List.{length-set}
use Rattle.entry_index.specs.Cursors.{IsReady, Settles}
use Rattle.entry_index.specs.declared.cursor.Cursor.{Cursor}
use Rattle.entry_index.specs.declared.reader.Reader.{Reader}
use Rattle.entry_index.proofs.SideBySide.{ready_at, ready_set, settled_set, later_set, own_at, all_settled}
use Rattle.entry_index.proofs.side_by_side.settle_all.Goals as goal

pub loop-place-preserved : goal.loop-place-preserved
loop-place-preserved c =
    let l = c.loop-place in
    let inv = l.invariant in
    let old = c.args.cursors.now.items in
    let cs = l.cursors.items in
    let i = l.place in
    let x = c.index_mut.result.now in
    let y = c.settle.new.self in
    let inside : i < length cs = omega (arith, inv.many) in
    let is : x ≡ get_or cs i x = c.index_mut.ensures.value in
    record {
      many = length-set cs i y ∙ inv.many;
      ready = λ content last start.
          let ready = inv.ready content last start in
          ready_set content content last cs i y refl ready (subst (λ (p : Reader). IsReady content i last p) (sym c.settle.ensures.same) (ready_at content last i cs x inside is ready));
      settled = λ files n number. settled_set files n old cs i y inside (inv.settled files n number) (λ d.
          subst (λ (z : Cursor). Settles files n z y) (own_at cs old i x d inside is (inv.later i d (omega arith))) (c.in_ok-settle.ensures.settled files n number));
      later = λ r d high. later_set old cs i y r d high (inv.later r d (omega (arith, high)));
    }

pub returns-clause-settled : goal.returns-clause-settled
returns-clause-settled c files n number =
    let l = c.loop-place in
    let inv = l.invariant in
    let all : l.place ≡ length c.args.cursors.now.items = omega arith in
    all_settled files n c.args.cursors.now.items l.cursors.items inv.many (λ r d low. inv.settled files n number r d (omega (arith, low, all)))
