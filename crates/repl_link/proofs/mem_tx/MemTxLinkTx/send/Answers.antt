use Rattle.std.proofs.Common.{◌≡◌, ◌+◌, refl, ap, sym, ◌∙◌, length, option_map, ◌++◌, take, arith, le_trans}
use Rattle.std.proofs.lemmas.List.{with_items_is, length-take-le}
use Rattle.rtrb.specs.Ring.{sent}
use Rattle.repl_link.specs.Items.{bytes_of}
use Rattle.repl_link.proofs.ItemLists.{each_plain}
use Rattle.repl_link.proofs.Moves.{order_stays, pushed, fits_left}
use Rattle.repl_link.proofs.mem_tx.MemTxLinkTx.send.Goals as goal

pub push_partial_slice-requires : goal.push_partial_slice-requires
push_partial_slice-requires c = λ i d below.
    let open_end = c.room_for-count.new.self.ends ∙ c.room_for-count.ensures.counts.2 ∙ c.if-self.false in
    let sized : length c.fill.new.items ≡ length c.deref_mut.result.now = omega (arith, c.fill.auto.items) in
    let size : length c.deref_mut.result.now ≡ length c.room_for-count.new.self.items.items = ap length c.deref_mut.ensures.value in
    let same : c.deref.result.now ≡ c.fill.new.items = c.deref.ensures.value ∙ with_items_is c.room_for-count.new.self.items c.fill.new.items (omega (arith, sized, size, c.room_for-count.new.self.items.ok.0)) in
    let filled = ap (take (length (take c.room_for-count.result c.args.bytes.now))) same ∙ c.fill.ensures in
    let len : length (take c.room_for-count.result c.args.bytes.now) ≡ c.room_for-count.result = length-take-le c.room_for-count.result c.args.bytes.now (omega arith) in
    each_plain (sent c.room_for-count.new.self.ring) (take c.room_for-count.result c.deref.result.now) (take c.room_for-count.result c.args.bytes.now) open_end (ap (λ n. take n c.deref.result.now) (sym len) ∙ filled) i

pub invariant_of-self-2-clause-ends : goal.invariant_of-self-2-clause-ends
invariant_of-self-2-clause-ends c =
    let open_end = c.room_for-count.new.self.ends ∙ c.room_for-count.ensures.counts.2 ∙ c.if-self.false in
    let sized : length c.fill.new.items ≡ length c.deref_mut.result.now = omega (arith, c.fill.auto.items) in
    let size : length c.deref_mut.result.now ≡ length c.room_for-count.new.self.items.items = ap length c.deref_mut.ensures.value in
    let same : c.deref.result.now ≡ c.fill.new.items = c.deref.ensures.value ∙ with_items_is c.room_for-count.new.self.items c.fill.new.items (omega (arith, sized, size, c.room_for-count.new.self.items.ok.0)) in
    let filled = ap (take (length (take c.room_for-count.result c.args.bytes.now))) same ∙ c.fill.ensures in
    let p = pushed (sent c.room_for-count.new.self.ring) (sent c.push_partial_slice.new.self) c.push_partial_slice.result.0.now c.push_partial_slice.result.1.now c.deref.result.now c.args.bytes.now c.room_for-count.result open_end c.push_partial_slice.ensures.sent (omega arith) c.push_partial_slice.ensures.parts filled in
    p.ends ∙ sym (c.room_for-count.ensures.counts.2 ∙ c.if-self.false)

pub returns-clause-same : goal.returns-clause-same
returns-clause-same c =
    let open_end = c.room_for-count.new.self.ends ∙ c.room_for-count.ensures.counts.2 ∙ c.if-self.false in
    let sized : length c.fill.new.items ≡ length c.deref_mut.result.now = omega (arith, c.fill.auto.items) in
    let size : length c.deref_mut.result.now ≡ length c.room_for-count.new.self.items.items = ap length c.deref_mut.ensures.value in
    let same : c.deref.result.now ≡ c.fill.new.items = c.deref.ensures.value ∙ with_items_is c.room_for-count.new.self.items c.fill.new.items (omega (arith, sized, size, c.room_for-count.new.self.items.ok.0)) in
    let filled = ap (take (length (take c.room_for-count.result c.args.bytes.now))) same ∙ c.fill.ensures in
    let p = pushed (sent c.room_for-count.new.self.ring) (sent c.push_partial_slice.new.self) c.push_partial_slice.result.0.now c.push_partial_slice.result.1.now c.deref.result.now c.args.bytes.now c.room_for-count.result open_end c.push_partial_slice.ensures.sent (omega arith) c.push_partial_slice.ensures.parts filled in
    record {
      session = c.room_for-count.ensures.same.0;
      connection = c.room_for-count.ensures.same.1;
      told = refl;
      places = refl;
      order = ap (λ left. option_map (λ l. l + length (bytes_of (sent c.push_partial_slice.new.self))) left) c.less-self.ensures
          ∙ order_stays c.room_for-count.new.self.left (length (bytes_of (sent c.args.self.now.ring))) (length (bytes_of (sent c.push_partial_slice.new.self))) (length c.push_partial_slice.result.0.now)
          (p.length_is ∙ ap (λ items. length (bytes_of items) + length c.push_partial_slice.result.0.now) c.room_for-count.ensures.sent)
          (λ x is. fits_left c.args.self.now.left (length c.push_partial_slice.result.0.now) c.at_most-wanted.result c.at_most-wanted.ensures.left (le_trans p.fits c.room_for-count.ensures.fits.0) x (sym c.room_for-count.ensures.counts.0 ∙ is))
          ∙ ap (λ left. option_map (λ l. l + length (bytes_of (sent c.args.self.now.ring))) left) c.room_for-count.ensures.counts.0;
    }

pub returns-clause-sent : goal.returns-clause-sent
returns-clause-sent c told =
    let open_end = c.room_for-count.new.self.ends ∙ c.room_for-count.ensures.counts.2 ∙ c.if-self.false in
    let sized : length c.fill.new.items ≡ length c.deref_mut.result.now = omega (arith, c.fill.auto.items) in
    let size : length c.deref_mut.result.now ≡ length c.room_for-count.new.self.items.items = ap length c.deref_mut.ensures.value in
    let same : c.deref.result.now ≡ c.fill.new.items = c.deref.ensures.value ∙ with_items_is c.room_for-count.new.self.items c.fill.new.items (omega (arith, sized, size, c.room_for-count.new.self.items.ok.0)) in
    let filled = ap (take (length (take c.room_for-count.result c.args.bytes.now))) same ∙ c.fill.ensures in
    let p = pushed (sent c.room_for-count.new.self.ring) (sent c.push_partial_slice.new.self) c.push_partial_slice.result.0.now c.push_partial_slice.result.1.now c.deref.result.now c.args.bytes.now c.room_for-count.result open_end c.push_partial_slice.ensures.sent (omega arith) c.push_partial_slice.ensures.parts filled in
    p.sent ∙ ap (λ items. bytes_of items ++ take (length c.push_partial_slice.result.0.now) c.args.bytes.now) c.room_for-count.ensures.sent
