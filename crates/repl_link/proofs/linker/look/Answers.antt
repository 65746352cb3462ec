use Rattle.std.proofs.Common.{◌≡◌, ◌≤◌, ◌+◌, ◌∙◌, refl, ap, ◌++◌, length, option_map}
use Rattle.rtrb.specs.Ring.{sent, received, known_items, known_free}
use Rattle.repl_link.specs.Items.{bytes_of, has_end}
use Rattle.repl_link.proofs.Looks.{unread_more, ended_more, unread_whole, all_unread, all_places, begins_twice, room_kept}
use Rattle.repl_link.proofs.linker.look.Goals as goal

pub returns-clause-rx : goal.returns-clause-rx
returns-clause-rx c =
    let same : received c.slots_beside-2.new.self ≡ received c.args.rx.now.ring = c.slots_beside-2.ensures.looked.1 ∙ c.slots_beside.ensures.consumer.1 in
    let more = begins_twice _ _ _ c.slots_beside.ensures.consumer.2 c.slots_beside-2.ensures.looked.2 in
    record {
      same = record { session = refl; connection = refl; told = refl; shown = refl; order = ap (λ items. option_map (λ left. left + length (bytes_of items)) c.args.rx.now.left) same };
      cuts = refl;
      patience = refl;
      received = ap bytes_of same;
      unread = unread_more c.args.rx.now.ended _ _ more;
      whole = unread_whole (received c.args.rx.now.ring) _ _ c.args.rx.now.ended more c.args.rx.now.ends;
      ended = λ e. ap (λ items. has_end (items ++ known_items c.slots_beside-2.new.self)) same ∙ ended_more (received c.args.rx.now.ring) _ _ more e;
      closed = refl;
    }

pub returns-clause-all : goal.returns-clause-all
returns-clause-all c =
    let got = ap has_end (c.slots_beside-2.ensures.looked.1 ∙ c.slots_beside.ensures.consumer.1) ∙ c.args.rx.now.ends in
    let gone = ap has_end (c.slots_beside-2.ensures.producer.1 ∙ c.slots_beside.ensures.looked.1) ∙ c.args.tx.now.ends in
    let got_length : length (received c.slots_beside-2.new.self) ≡ length (received c.slots_beside.new.consumer) = ap length c.slots_beside-2.ensures.looked.1 in
    let gone_length : length (sent c.slots_beside-2.new.producer) ≡ length (sent c.slots_beside.new.self) = ap length c.slots_beside-2.ensures.producer.1 in
    let room : 4097 + length (received c.slots_beside-2.new.self) ≤ known_free c.slots_beside-2.new.producer + length (sent c.slots_beside-2.new.producer) =
    room_kept _ _ _ _ _ _ _ _ c.slots_beside.ensures.all_free (c.slots_beside.ensures.looked.0.1 ∙ c.args.tx.now.places) c.slots_beside.ensures.value got_length gone_length c.slots_beside-2.ensures.producer.2 in
    record {
      unread = all_unread _ _ _ c.args.rx.now.ended got c.slots_beside-2.ensures.fifo;
      ended = ap has_end c.slots_beside-2.ensures.fifo ∙ gone;
      free = all_places (received c.slots_beside-2.new.self) (known_items c.slots_beside-2.new.self) (sent c.slots_beside-2.new.producer) c.args.rx.now.ended c.args.tx.now.finished (known_free c.slots_beside-2.new.producer) got gone c.slots_beside-2.ensures.fifo room;
    }
