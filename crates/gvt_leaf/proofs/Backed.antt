-- Cells of their form with rising keys are those of the globals that they hold.
use Rattle.std.proofs.Common.{◌≡◌, ℕ, Bool, true, false, List, [], ◌∷◌, map, length, Some, option_map, IsTrue, if◌then◌else◌, refl, sym, ap, subst, ◌∙◌}
use Rattle.std.proofs.lemmas.List.{length-map}
use Rattle.std.specs.List.{AllByRecursion, find}
use Rattle.std.specs.FinMap as globals
use Rattle.global_defs.specs.Key.{Key}
use Rattle.global_defs.specs.Valid.{is_key}
use Rattle.global_defs.specs.Encoded.{encoded}
use Rattle.global_defs.specs.Entry.{Update, apply}
use Rattle.global_defs.specs.Fields.{IsUpdate}
use Rattle.journal_defs.specs.Leaves.{Cell, IsCell, KeysRise, cells_of}
use Rattle.block_laws.specs.Nodes.{HaveKeys, HaveShortValues}
use Rattle.block_laws.specs.Cells.{changed}
use Rattle.block_laws.proofs.Found.{cells_some}
use Rattle.block_laws.proofs.Parts.{step_keys}
use Rattle.block_laws.proofs.Following as following
use Rattle.gvt_leaf.specs.Nodes.{key_in, globals_in}
use Rattle.gvt_leaf.specs.Order.{Rise}
use Rattle.gvt_leaf.proofs.Bytes.{above_flips}
use Rattle.gvt_leaf.proofs.KeysBack.{key_back, globals_back}
use Rattle.global_defs.proofs.Basics.{bytes_cmp}

pub keys_rise : (cs : List Cell) → Rise cs → KeysRise cs
keys_rise [] h = tt
keys_rise (c ∷ []) h = tt
keys_rise (c ∷ d ∷ cs) h = (above_flips d.0 c.0 h.0.0, keys_rise (d ∷ cs) h.1)

-- the cells are those of the globals that they hold
pub record IsBacked (cells : List Cell) : Type 0 where
  pub keys : HaveKeys (globals_in cells)
  pub values : HaveShortValues (globals_in cells)
  pub are : cells_of (globals_in cells) ≡ cells

pub backed : (cells : List Cell) → AllByRecursion IsCell cells → Rise cells → IsBacked cells
backed cells all rise =
    let held = cells_some cells all (keys_rise cells rise) in
    let same : globals_in cells ≡ held.0 = ap globals_in held.3 ∙ globals_back held.0 held.1 in
    record {
      keys = subst HaveKeys (sym same) held.1;
      values = subst HaveShortValues (sym same) held.2;
      are = ap cells_of same ∙ sym held.3;
    }

-- cells after an update are those of the globals after it
pub updated : (old new : List Cell) (u : Update) → IsBacked old → IsUpdate u → new ≡ changed u old → globals_in new ≡ apply (globals_in old) u
updated old new u b form is =
    ap globals_in (is ∙ sym (following.step (globals_in old) u b.keys form ∙ ap (changed u) b.are))
    ∙ globals_back (apply (globals_in old) u) (step_keys (globals_in old) u form b.keys)

pub value_there : (cells : List Cell) (k : Key) → IsBacked cells → is_key k ≡ true → globals.get (globals_in cells) k ≡ globals.find bytes_cmp (encoded k) cells
value_there cells k b key = following.get (globals_in cells) k b.keys key ∙ ap (globals.find bytes_cmp (encoded k)) b.are

pub as_many : (cells : List Cell) → IsBacked cells → globals.len (globals_in cells) ≡ length cells
as_many cells b =
    globals.len-entries (globals_in cells) ∙ sym (length-map (globals.entries (globals_in cells)) (λ (e : Key × List ℕ). (encoded e.0, e.1))) ∙ ap length b.are

-- the first cell whose bytes pass has the first key that passes
first_node : (t : List ℕ → Bool) (p : Key → Bool) (es : List (Key × List ℕ)) → ((k : Key) → is_key k ≡ true → t (encoded k) ≡ p k) → AllByRecursion (λ e. IsTrue (is_key e.0)) es
    → option_map (λ (c : Cell). key_in c.0) (find (λ (c : Cell). t c.0) (map (λ (e : Key × List ℕ). (encoded e.0, e.1)) es)) ≡ find p (map (λ (e : Key × List ℕ). e.0) es)
first_node t p [] same all = refl
first_node t p (e ∷ es) same all = by (t (encoded e.0)) (sym (same e.0 all.0)) (first_node t p es same all.1)
  where
    by : (b : Bool) → p e.0 ≡ b
        → option_map (λ (c : Cell). key_in c.0) (find (λ (c : Cell). t c.0) (map (λ (e : Key × List ℕ). (encoded e.0, e.1)) es)) ≡ find p (map (λ (e : Key × List ℕ). e.0) es)
        → option_map (λ (c : Cell). key_in c.0) (if b then Some (encoded e.0, e.1) else find (λ (c : Cell). t c.0) (map (λ (e : Key × List ℕ). (encoded e.0, e.1)) es)) ≡ (if p e.0 then Some e.0 else find p (map (λ (e : Key × List ℕ). e.0) es))
    by true s n = ap Some (key_back e.0 all.0) ∙ ap (λ b. if b then Some e.0 else find p (map (λ (e : Key × List ℕ). e.0) es)) (sym s)
    by false s n = n ∙ ap (λ b. if b then Some e.0 else find p (map (λ (e : Key × List ℕ). e.0) es)) (sym s)

pub first_key : (t : List ℕ → Bool) (p : Key → Bool) (cells : List Cell) → ((k : Key) → is_key k ≡ true → t (encoded k) ≡ p k) → IsBacked cells
    → option_map (λ (c : Cell). key_in c.0) (find (λ (c : Cell). t c.0) cells) ≡ find p (globals.keys (globals_in cells))
first_key t p cells same b =
    ap (λ (cs : List Cell). option_map (λ (c : Cell). key_in c.0) (find (λ (c : Cell). t c.0) cs)) (sym b.are) ∙ first_node t p (globals.entries (globals_in cells)) same b.keys
