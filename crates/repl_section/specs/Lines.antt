-- Replies as the lines of a text.
use Rattle.std.specs.Prelude.{◌≡◌, ℕ, List, [], ◌++◌}
use Rattle.std.specs.List.{flat_map}
use Rattle.std.proofs.Common.{ap, sym, ◌∙◌, append_assoc, append-nil}
use Rattle.std.proofs.lemmas.List.Concat.{flat_map-append}
use Rattle.global_defs.specs.Serial.{Replied}
use Rattle.site_defs.specs.Texts.{reply_line}

-- from the first of two texts to the second these replies were added, each as a line
abbrev pub GaveLines : (before now : List ℕ) → List Replied → Type 0
GaveLines before now replies = now ≡ before ++ flat_map reply_line replies

pub no_line : (text : List ℕ) → GaveLines text text []
no_line text = sym (append-nil text)

-- lines behind lines
pub lines_further : (a b c : List ℕ) (first more : List Replied) → GaveLines a b first → GaveLines b c more → GaveLines a c (first ++ more)
lines_further a b c first more to_b to_c =
    to_c ∙ ap (λ (x : List ℕ). x ++ flat_map reply_line more) to_b ∙ append_assoc a (flat_map reply_line first) (flat_map reply_line more)
    ∙ ap (λ (x : List ℕ). a ++ x) (sym (flat_map-append reply_line first more))
