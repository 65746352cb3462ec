use Rattle.std.proofs.Common.{◌≡◌, ◌≢◌, ℕ, true, false, List, [], ◌∷◌, length, refl, ap, arith}
use Rattle.global_defs.specs.Entry.{Globals}
use Rattle.wire_defs.specs.Frames.{Resume, IsFrame, BeginsFrame, frame_type}
use Rattle.ship_defs.specs.Directions.{behind_last, too_short}
use Rattle.ship_defs.specs.Hearing.{Last, Over, Resumed, Hearing, unbegun}
use Rattle.ship_defs.proofs.cases.connections_end.Goals as goal

resume : IsFrame (Resume 1)
resume = record { fields = (omega arith, omega arith); short = omega arith }

begins : BeginsFrame []
begins = (Resume 1, frame_type (Resume 1), _, resume, refl)

-- a secondary without entries behind its first frame
abbrev behind : Last → Globals → Hearing
behind last g = record { heard = record (unbegun (record { length = 0; reigns = [] })) { last = last }; globals = g }

some : (b : ℕ) → ◌≢◌ {A = List ℕ} (b ∷ []) []
some b is = let lengths : ◌≡◌ {A = ℕ} 1 0 = ap length is in omega arith

pub returns-clause-answered : goal.returns-clause-answered
returns-clause-answered c = λ g. record {
  frames = [];
  now = behind Over g;
  come = record { are = record { whole = refl; each = (resume, tt) }; admitted = (behind Over g, ((tt, refl, refl), tt, refl), refl) };
  over = tt;
}

pub returns-clause-behind : goal.returns-clause-behind
returns-clause-behind c = λ g. record {
  frames = Resume 1 ∷ [];
  rest = 4 ∷ [];
  now = behind Over g;
  come = record { are = record { whole = refl; each = (resume, tt) }; admitted = (behind Over g, ((tt, refl, refl), tt, refl), refl) };
  lacks = behind_last tt (some 4);
  at = refl;
}

pub returns-clause-early : goal.returns-clause-early
returns-clause-early c = λ g. record {
  frames = Resume 1 ∷ [];
  rest = [];
  now = behind Resumed g;
  come = record { are = record { whole = refl; each = (resume, tt) }; admitted = (behind Resumed g, ((tt, refl, refl), tt, refl), refl) };
  lacks = too_short refl (λ over. over) begins;
  at = refl;
}

pub returns-clause-silent : goal.returns-clause-silent
returns-clause-silent c = record {
  frames = [];
  rest = [];
  now = false;
  come = record { are = record { whole = refl; each = tt }; admitted = refl };
  lacks = too_short refl (λ greeted. absurd (cc)) begins;
  at = refl;
}
