use Rattle.std.proofs.Common.{subst}
use Rattle.wire_defs.specs.Frames.{IsFrame}
use Rattle.gvn_model.specs.Entries.{transaction_value}
use Rattle.repl_wire.specs.declared.frame.Frame.{Frame}
use Rattle.repl_wire.specs.Values.{frame_value}
use Rattle.recv_pool.specs.Pools.{reign_of}
use Rattle.receiver_server.specs.Hearings.{MayCome}
use Rattle.receiver_server.proofs.Knows.{arrives}
use Rattle.receiver_server.proofs.hearer.Hearer.hear.Goals as goal

pub returns-clause-form : goal.returns-clause-form
returns-clause-form c = arrives c.args.self.now c.args.at c.in-Entry.number (transaction_value c.in-Entry.transaction) (reign_of c.args.reign) c.enter.ensures.knew
    (subst (λ (f : Frame). IsFrame (frame_value f)) c.in-Entry.is c.requires.form) (subst (λ (f : Frame). MayCome c.args.self.now (frame_value f)) c.in-Entry.is c.requires.may) c.requires.told
