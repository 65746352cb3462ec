-- What a job does on globals: its updates and answers, or the cause of the first statement that has one
-- (GT.M: TSTART to TCOMMIT; a job sees its own earlier updates).
use Rattle.std.specs.Prelude.{◌+◌, ◌+ℤ◌, ℕ, ℤ, pos, ◌&&◌, Bool, true, false, not, List, [], ◌∷◌, ◌++◌, Option, Some, None, int_le, nat_lt, nat_eq, if◌then◌else◌, filter_map, drop, length}
use Rattle.std.specs.List.{find, list_any}
use Rattle.std.specs.Ordering.{eq_by_cmp, is_lt}
use Rattle.std.specs.Cmp.Lexicographic.{pointwise}
use Rattle.std.specs.Fmt.{decimal}
use Rattle.std.specs.FinMap as globals
use Rattle.global_defs.specs.declared.limits.TheConstants.{MOST_NODES}
use Rattle.global_defs.specs.Numeral.{integer_of, integer_text, is_counted}
use Rattle.global_defs.specs.Key.{Key, Sub, key_cmp, sub_cmp, sub_of}
use Rattle.global_defs.specs.Zwr.{zwr}
use Rattle.global_defs.specs.NodeText.{sub_text}
use Rattle.global_defs.specs.Entry.{Update, Globals, is_under, apply}
use Rattle.global_defs.specs.Entry as update
use Rattle.global_defs.specs.Jobs.{Statement, Set, Kill, ZKill, Incr, Get, Defined, Order, CheckIs, CheckAtLeast, Job, Cause, Check, NotNum, Full, Answers}

-- how far a job has come
pub record Progress : Type 0 where
  pub globals : Globals
  pub updates : List Update
  pub answers : Answers

pub data Evaluated : Type 0 where
  Done : List Update → Answers → Evaluated
  RolledBack : Cause → Evaluated

-- what one statement leads to
pub data Outcome : Type 0 where
  Goes : Progress → Outcome
  Stops : Cause → Outcome

abbrev pub answering : Progress → List ℕ → Progress
answering p text = record p { answers = p.answers ++ text ∷ [] }

abbrev pub fitting : Progress → Update → Globals → Outcome
fitting p u g = if nat_lt MOST_NODES (globals.len g) then Stops Full else Goes (record p { globals = g; updates = p.updates ++ u ∷ [] })

abbrev pub updating : Progress → Update → Outcome
updating p u = fitting p u (apply p.globals u)

-- $GET in ZWR form, or a minus sign where there is no value
abbrev pub value_text : Option (List ℕ) → List ℕ
value_text None = 45 ∷ []
value_text (Some value) = zwr value

-- the key extends the top one
abbrev pub is_below : Key → Key → Bool
is_below top key = is_under top key && not (eq_by_cmp key_cmp top key)

-- $DATA: 1 for a value, and 10 for descendants
abbrev pub defined : Globals → Key → ℕ
defined g key = (if globals.contains_key g key then 1 else 0) + (if list_any (is_below key) (globals.keys g) then 10 else 0)

abbrev pub first_sub : List Sub → Option Sub
first_sub [] = None
first_sub (s ∷ more) = Some s

-- the subscript of a node at the level below another
abbrev pub sub_at : Key → Key → Option Sub
sub_at top key = if is_below top key then first_sub (drop (length top.subs) key.subs) else None

abbrev pub is_past : List ℕ → Sub → Bool
is_past [] s = true
is_past (b ∷ bs) s = is_lt (sub_cmp (sub_of (b ∷ bs)) s)

-- $ORDER: the next subscript at the level below a node, past the last one; an empty last one comes before all
abbrev pub order : Globals → Key → List ℕ → Option Sub
order g top last = find (is_past last) (filter_map (sub_at top) (globals.keys g))

abbrev pub order_text : Option Sub → List ℕ
order_text None = 34 ∷ 34 ∷ []
order_text (Some s) = sub_text s

-- what a node counts as: nothing where its value is no integer
abbrev pub counted : Option (List ℕ) → Option ℤ
counted None = Some (pos 0)
counted (Some value) = integer_of value

abbrev pub incrementing : Progress → Key → ℤ → Outcome
incrementing p key sum = if is_counted sum
    then updating (answering p (integer_text sum)) (update.Set key (integer_text sum))
    else Stops NotNum

-- the operand, the old value and the sum have at most 18 digits each
abbrev pub incremented : Progress → Key → ℤ → Option ℤ → Outcome
incremented p key n None = Stops NotNum
incremented p key n (Some old) = if is_counted n then incrementing p key (old +ℤ n) else Stops NotNum

abbrev pub passing : Progress → Bool → Outcome
passing p holds = if holds then Goes p else Stops Check

abbrev pub has_value : Option (List ℕ) → List ℕ → Bool
has_value None value = false
has_value (Some old) value = pointwise nat_eq old value

abbrev pub comparing : Progress → ℤ → Option ℤ → Outcome
comparing p n None = Stops NotNum
comparing p n (Some value) = passing p (int_le n value)

abbrev pub stepping : Progress → Statement → Outcome
stepping p (Set key value) = updating p (update.Set key value)
stepping p (Kill key) = updating p (update.Kill key)
stepping p (ZKill key) = updating p (update.ZKill key)
stepping p (Incr key n) = incremented p key n (counted (globals.get p.globals key))
stepping p (Get key) = Goes (answering p (value_text (globals.get p.globals key)))
stepping p (Defined key) = Goes (answering p (decimal (defined p.globals key)))
stepping p (Order top last) = Goes (answering p (order_text (order p.globals top last)))
stepping p (CheckIs key value) = passing p (has_value (globals.get p.globals key) value)
stepping p (CheckAtLeast key n) = comparing p n (counted (globals.get p.globals key))

-- the statements in order; the first with a cause rolls the whole job back
abbrev pub going : Outcome → Job → Evaluated
going (Stops cause) job = RolledBack cause
going (Goes p) [] = Done p.updates p.answers
going (Goes p) (s ∷ job) = going (stepping p s) job

abbrev pub eval : Job → Globals → Evaluated
eval job g = going (Goes (record { globals = g; updates = []; answers = [] })) job
