use Rattle.std.proofs.Common.{List, ap, subst, ◌∙◌, sym, arith, nat_lt, length, take}
use Rattle.std.proofs.lemmas.List.{length-take-le}
use Rattle.repl_link.specs.Items.{Symbol, bytes_of, has_end, EndsLast}
use Rattle.repl_link.proofs.mem_rx.drain.Goals as goal

pub copy_bytes-count-requires-clause-last : goal.copy_bytes-count-requires-clause-last
copy_bytes-count-requires-clause-last c =
    let p = c.replace_with-items in
    subst (λ (l : List Symbol). EndsLast (take p.result.1 l)) (sym c.deref.ensures.value) p.ensures.1.1.1.1.1.1

pub returns-clause-drained : goal.returns-clause-drained
returns-clause-drained c =
    let p = c.replace_with-items in
    let copied = c.copy_bytes-count in
    record {
      taken = take p.result.1 p.result.0.items;
      after_is = p.ensures.1.1.1.0;
      known_first = p.ensures.1.1.1.1.0;
      bytes_are = copied.ensures.bytes ∙ ap (λ l. bytes_of (take p.result.1 l)) c.deref.ensures.value;
      ended_is = ap (λ l. has_end (take p.result.1 l)) (sym c.deref.ensures.value) ∙ (copied.ensures.end ∙ ap (λ n. nat_lt copied.result n) (length-take-le p.result.1 c.deref.result.now (omega (arith, p.ensures.1.1.0, p.ensures.1.0, c.requires, c.deref.ensures.len))));
    }
