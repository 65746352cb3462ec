-- What frames of the code stand for.
use Rattle.wire_defs.specs.Frames as defs
use Rattle.gvn_model.specs.Entries.{history_value, transaction_value}
use Rattle.gvn_model.specs.Reigns.{reign_value}
use Rattle.repl_wire.specs.declared.frame.Frame.{Frame}
use Rattle.repl_wire.specs.declared.frame.Frame.TheVariants as frames

abbrev pub frame_value : Frame → defs.Frame
frame_value (frames.Hello version name history) = defs.Hello version name (history_value history)
frame_value (frames.Resume n) = defs.Resume n
frame_value (frames.RollbackFirst n) = defs.RollbackFirst n
frame_value (frames.History reign) = defs.History (reign_value reign)
frame_value (frames.Entry n transaction) = defs.Entry n (transaction_value transaction)
frame_value (frames.Bye n) = defs.Bye n
