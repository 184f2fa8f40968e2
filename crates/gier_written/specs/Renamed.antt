-- Where hoisting renames identifiers, text 4 writes the numbers with which they were written.
use Rattle.std.specs.Prelude.{◌≡◌, ◌+◌, ℕ, true, nat_lt, List}
use Rattle.gier_symbol.specs.declared.symbol.Symbol.{Symbol}
use Rattle.gier_tree.specs.Hoist.{first_fresh, hoist_statement}
use Rattle.gier_tree.specs.OwnCount.{owns_of_statement}
use Rattle.gier_tree.specs.Places.{Places}
use Rattle.gier_tree.specs.Rename.{Renaming}
use Rattle.gier_tree.specs.Texts.{Where, text_statement}
use Rattle.gier_tree.specs.TextsOf.{names_of_owns}
use Rattle.gier_tree.specs.Trees.{Name, Declaration, Statement}
use Rattle.gier_tree.specs.Written.{Text, Collected, number_written, own_name}

-- text 4 of a program with these own quantities
abbrev pub collected_text : List Name → Text
collected_text os = record { stage = Collected; owns = os }

-- what is renamed is written with the number that it had
abbrev pub IsUndone : List Name → Renaming → Type 0
IsUndone os f = (y : ℕ) → number_written os (f y) ≡ number_written os y

-- the numbers of own quantities are below the fresh ones
abbrev pub AreSmall : List Name → Type 0
AreSmall os = (j : ℕ) → nat_lt (own_name os j) first_fresh ≡ true

-- the own quantities from i on are those of these declarations
abbrev pub AreNumbered : List Name → (i : ℕ) → List Declaration → Type 0
AreNumbered os i ds = (j : ℕ) → own_name os (i + j) ≡ own_name (names_of_owns ds) j

-- Text 4 of a hoisted statement is that of the written one; places and levels don't count there, and the own quantities before the
-- statement are as many.
abbrev pub StatementsAreUndone : Type 0
StatementsAreUndone = (os : List Name) (f : Renaming) (p q : Places) (w v : Where) (next : ℕ) (s : Statement) (r : List Declaration)
    (k : List Symbol) → AreSmall os → IsUndone os f → v.owns ≡ w.owns → AreNumbered os w.owns (owns_of_statement s r)
    → text_statement (collected_text os) p w next (hoist_statement s w.owns f) k ≡ text_statement (collected_text os) q v next s k
