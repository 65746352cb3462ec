-- What a statement's canonical text says of its update.
use Rattle.std.proofs.Common.{◌≡◌, ℕ, List, Option, Some, None, IfSome, ap, ◌∙◌, subst, sym, refl}
use Rattle.std.specs.Prelude.{Result, Ok}
use Rattle.gvn_text.specs.Reads.{TellsError, error_value}
use Rattle.script_defs.specs.Parts.{Fault}
use Rattle.gvn_text.specs.declared.fault.TextError.{TextError}
use Rattle.gvn_text.specs.declared.fault.TextError.TheVariants.{BadQuote, BadChar, ValueTooLong, NoMemory}
use Rattle.global_defs.specs.Jobs.{Statement}
use Rattle.std.specs.Option.{option_map}
use Rattle.gvn_key.specs.Terms.{update_value, statement_value}
use Rattle.gvn_key.specs.declared.terms.Statement as code
use Rattle.gvn_key.specs.declared.terms.Update.{Update}
use Rattle.script_defs.specs.Statements.{statement_text, SpellsStatement}
use Rattle.jnl_extract.specs.Updates.{statement_of}
use Rattle.jnl_extract.specs.Extracts.{IsSpelled}

pub some_text : (o : Option Update) (s : Statement) (text : List ℕ) → text ≡ statement_text s → IfSome o (λ u. s ≡ statement_of (update_value u))
    → IfSome o (λ u. text ≡ statement_text (statement_of (update_value u)))
some_text None s text e h = tt
some_text (Some u) s text e h = e ∙ ap statement_text h

pub some_spelled : (o : Option Update) (s : Statement) (text : List ℕ) → text ≡ statement_text s → SpellsStatement text s → IfSome o (λ u. s ≡ statement_of (update_value u))
    → IfSome o (λ u. IsSpelled (update_value u))
some_spelled None s text e p h = tt
some_spelled (Some u) s text e p h = subst (λ (x : Statement). SpellsStatement (statement_text x) x) h (subst (λ (t : List ℕ). SpellsStatement t s) e p)

somes : {A : Type 0} (a b : A) → Some a ≡ Some b → a ≡ b
somes a b e = cc

pub nothing_found : (o : Option code.Statement) (s : Statement) → o ≡ None → option_map statement_value o ≡ Some s → ⊥
nothing_found o s e f = let g : None ≡ Some s = sym (ap (option_map statement_value) e) ∙ f in cc

pub statement_found : (o : Option code.Statement) (x : code.Statement) (s : Statement) → o ≡ Some x → option_map statement_value o ≡ Some s → statement_value x ≡ s
statement_found o x s e f = somes (statement_value x) s (sym (ap (option_map statement_value) e) ∙ f)

pub told : {E : Type 0} (a b : Statement) → (let x : Result Statement E = Ok a in x) ≡ Ok b → Some b ≡ Some a
told a b e = cc

pub no_error : (e : TextError) (s : Statement) → (e ≡ NoMemory → ⊥) → TellsError (error_value e) (let x : Result Statement Fault = Ok s in x) → ⊥
no_error (BadQuote at) s n h = cc
no_error (BadChar at) s n h = cc
no_error (ValueTooLong at) s n h = cc
no_error NoMemory s n h = n refl
