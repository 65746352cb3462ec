-- What the ends of a connection have counted of cuts.
use Rattle.std.specs.Prelude.{◌≡◌, ◌+◌, Bool, if◌then◌else◌}
use Rattle.wire_defs.specs.Links.{Sending, Receiving}
use Rattle.session_turns.specs.declared.machines.Turned.{Turned}
use Rattle.session_turns.specs.declared.machines.Turned.TheVariants.{On, Cut, Over, Short, Bad}

-- The sending end has counted one cut, where it was found cut, and the receiving end none.
pub record HasCuts (cut : Bool) (s : Sending) (r : Receiving) : Type 0 where
  pub sending : s.cuts ≡ (if cut then 1 else 0)
  pub receiving : r.cuts ≡ 0

-- How a turn's answer tells the cuts that were counted, whether or not the sending end was found cut: one where the connection is cut, and none
-- where it has ended otherwise.
abbrev pub TellsCuts : Turned → (cut : Bool) → Sending → Receiving → Type 0
TellsCuts On cut s r = HasCuts cut s r
TellsCuts Cut cut s r = s.cuts + r.cuts ≡ 1
TellsCuts Over cut s r = s.cuts + r.cuts ≡ 0
TellsCuts (Short offset) cut s r = s.cuts + r.cuts ≡ 0
TellsCuts (Bad offset) cut s r = s.cuts + r.cuts ≡ 0
