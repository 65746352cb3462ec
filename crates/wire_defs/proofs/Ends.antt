-- The ends of a connection over several looks, one after another.
use Rattle.std.proofs.Common.{ℕ, List, [], ◌++◌, refl, sym, ap, ◌∙◌, arith, append_assoc, append-nil}
use Rattle.wire_defs.specs.Links.{Sending, Receiving, SameSending, SameReceiving, SendingLooked, ReceivingLooked}

pub sending_on : (a b c : Sending) → SameSending a b → SameSending b c → SameSending a c
sending_on a b c x y = record { session = y.session ∙ x.session; connection = y.connection ∙ x.connection; told = y.told ∙ x.told; order = y.order ∙ x.order; places = y.places ∙ x.places }

pub receiving_on : (a b c : Receiving) → SameReceiving a b → SameReceiving b c → SameReceiving a c
receiving_on a b c x y = record { session = y.session ∙ x.session; connection = y.connection ∙ x.connection; told = y.told ∙ x.told; shown = y.shown ∙ x.shown; order = y.order ∙ x.order }

pub looked_on : (a b c : Sending) → SendingLooked a b → SendingLooked b c → SendingLooked a c
looked_on a b c x y = record {
  same = sending_on a b c x.same y.same;
  cuts = y.cuts ∙ x.cuts;
  patience = y.patience ∙ x.patience;
  sent = y.sent ∙ x.sent;
  free = omega (arith, x.free, y.free);
  finished = y.finished ∙ x.finished;
}

pub saw_on : (a b c : Receiving) → ReceivingLooked a b → ReceivingLooked b c → ReceivingLooked a c
saw_on a b c x y = record {
  same = receiving_on a b c x.same y.same;
  cuts = y.cuts ∙ x.cuts;
  patience = y.patience ∙ x.patience;
  received = y.received ∙ x.received;
  unread = (x.unread.0 ++ y.unread.0, y.unread.1 ∙ (ap (λ (l : List ℕ). l ++ y.unread.0) x.unread.1 ∙ append_assoc a.unread x.unread.0 y.unread.0));
  ended = λ e. y.ended (x.ended e);
  whole = λ e. y.whole (x.ended e) ∙ x.whole e;
  closed = y.closed ∙ x.closed;
}

pub not_sent : (a : Sending) → SameSending a a
not_sent a = record { session = refl; connection = refl; told = refl; order = refl; places = refl }

pub not_received : (a : Receiving) → SameReceiving a a
not_received a = record { session = refl; connection = refl; told = refl; shown = refl; order = refl }

pub not_looked : (a : Sending) → SendingLooked a a
not_looked a = record { same = not_sent a; cuts = refl; patience = refl; sent = refl; free = omega arith; finished = refl }

pub not_seen : (a : Receiving) → ReceivingLooked a a
not_seen a = record {
  same = not_received a;
  cuts = refl;
  patience = refl;
  received = refl;
  unread = ([], sym (append-nil a.unread));
  ended = λ e. e;
  whole = λ _. refl;
  closed = refl;
}
