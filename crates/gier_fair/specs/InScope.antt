-- Programs whose scopes are right (Report 2.4.3, 5): the identifiers of a scope are distinct, each use is of a declared identifier,
-- a bound uses none of its own block, headings specify each formal once, and levels go up to the greatest one. An own declaration
-- in its place declares nothing. What kinds and types the uses have isn't told here.
use Rattle.std.specs.Prelude.{◌≡◌, ◌≢◌, ◌≤◌, ◌++◌, suc, true, false, List, [], ◌∷◌, map, ⊤}
use Rattle.std.specs.List.{AllByRecursion}
use Rattle.gier_tree.specs.declared.kind.Kind.TheVariants.{Undeclared}
use Rattle.gier_tree.specs.Declaring.{formals_of}
use Rattle.gier_tree.specs.Described.{kind_in}
use Rattle.gier_tree.specs.Entries.{Entry, entries_numbers, block_entries, procedure_entries, turn_entries, program_entries}
use Rattle.gier_tree.specs.Entries.{numbers_unconditional}
use Rattle.gier_tree.specs.OwnCount.{owns_in_unconditional}
use Rattle.gier_tree.specs.Places.{Places, block_places, procedure_places, turn_places, program_places}
use Rattle.gier_tree.specs.Texts.{Where, further, behind_statement, behind_declaration, behind_declarations, inner}
use Rattle.gier_tree.specs.Trees.{Name, Segment, MkSegment, Heading}
use Rattle.gier_tree.specs.Trees.{Declaration}
use Rattle.gier_tree.specs.Trees.{DeclareType, DeclareOwn, DeclareArrays, DeclareOwnArrays, DeclareSwitch, DeclareProcedure}
use Rattle.gier_tree.specs.Trees.{Declarations, NoDeclarations, MoreDeclarations, Group, MkBlock, MkCompound, Statements}
use Rattle.gier_tree.specs.Trees.{NoStatements, MoreStatements, Statement, OneUnconditional, OneConditional, OneLoop}
use Rattle.gier_tree.specs.Trees.{Unconditional, MkUnconditional, Basic, OneGroup, Assign, Jump, CallStatement, Dummy}
use Rattle.gier_tree.specs.Trees.{Conditional, IfThen, IfElse, IfLoop, Loop, MkLoop, Program, MkProgram}
use Rattle.gier_scope.specs.Places.{greatest_level, specified_places, value_places}
use Rattle.gier_scope.specs.Scopes.{Scope, scope_of, declares}
use Rattle.gier_scope.specs.Uses.{uses_expr, uses_exprs, uses_call, uses_pairs, uses_parts, uses_list}
use Rattle.gier_fair.specs.Described.{AreDeclared}

-- no identifier stands in it twice
abbrev pub AreDistinct : Scope → Type 0
AreDistinct [] = ⊤
AreDistinct (x ∷ xs) = (declares xs x ≡ false) × AreDistinct xs

abbrev pub identifiers : List Entry → Scope
identifiers es = map (λ e. e.name.number) es

-- places in a part of a heading: each has another formal's identifier
abbrev pub AreFormals : Heading → List Name → Type 0
AreFormals h xs =
    AreDistinct (scope_of xs) × AllByRecursion (λ x. declares (scope_of (formals_of h)) x.number ≡ true) xs

-- each formal is specified, and once
pub record HasFormals (h : Heading) : Type 0 where
  pub every : AllByRecursion (λ x. kind_in h x.number ≢ Undeclared) (formals_of h)
  pub specified : AreFormals h (specified_places h)
  pub by_value : AreFormals h (value_places h)

-- the bounds of a block that declares these identifiers
abbrev pub InScopeSegment : Places → Scope → Segment → Type 0
InScopeSegment p own (MkSegment ns l b bs m) =
    AreDeclared p (uses_pairs b bs) × AllByRecursion (λ x. declares own x.number ≡ false) (uses_pairs b bs)

abbrev mutual
  pub InScopeDeclaration : Places → Scope → Where → Declaration → Type 0
  InScopeDeclaration p own w (DeclareType t ns) = ⊤
  InScopeDeclaration p own w (DeclareOwn l t ns) = ⊤
  InScopeDeclaration p own w (DeclareArrays t l s ss) =
      InScopeSegment p own s × AllByRecursion (λ next. InScopeSegment p own next.segment) ss
  InScopeDeclaration p own w (DeclareOwnArrays k t l s ss) = ⊤
  InScopeDeclaration p own w (DeclareSwitch l x m e es) = AreDeclared p (uses_expr e ++ uses_exprs es)
  InScopeDeclaration p own w (DeclareProcedure h s) =
      let es = procedure_entries h s in
      (suc w.level ≤ greatest_level) × HasFormals h × AreDistinct (identifiers es)
      × InScopeStatement (procedure_places (suc w.level) w.numbers h s p) (inner w es) s

  pub InScopeDeclarations : Places → Scope → Where → Declarations → Type 0
  InScopeDeclarations p own w NoDeclarations = ⊤
  InScopeDeclarations p own w (MoreDeclarations d l ds) =
      InScopeDeclaration p own w d × InScopeDeclarations p own (behind_declaration w d) ds

  pub InScopeGroup : Places → Where → Group → Type 0
  InScopeGroup p w (MkBlock l d m ds s ss n) =
      let q = block_places (suc w.level) w.numbers d ds s ss p in
      let es = block_entries d ds s ss in
      let w1 = inner w es in
      let w2 = behind_declaration w1 d in
      let w3 = behind_declarations w2 ds in
      (suc w.level ≤ greatest_level) × AreDistinct (identifiers es) × InScopeDeclaration q (identifiers es) w1 d
      × InScopeDeclarations q (identifiers es) w2 ds × InScopeStatement q w3 s × InScopeStatements q (behind_statement w3 s) ss
  InScopeGroup p w (MkCompound l s ss m) = InScopeStatement p w s × InScopeStatements p (behind_statement w s) ss

  pub InScopeStatements : Places → Where → Statements → Type 0
  InScopeStatements p w NoStatements = ⊤
  InScopeStatements p w (MoreStatements l s ss) = InScopeStatement p w s × InScopeStatements p (behind_statement w s) ss

  pub InScopeStatement : Places → Where → Statement → Type 0
  InScopeStatement p w (OneUnconditional u) = InScopeUnconditional p w u
  InScopeStatement p w (OneConditional c) = InScopeConditional p w c
  InScopeStatement p w (OneLoop f) = InScopeLoop p w f

  pub InScopeUnconditional : Places → Where → Unconditional → Type 0
  InScopeUnconditional p w (MkUnconditional ls b) = InScopeBasic p w b

  pub InScopeBasic : Places → Where → Basic → Type 0
  InScopeBasic p w (OneGroup g) = InScopeGroup p w g
  InScopeBasic p w (Assign q qs e) = AreDeclared p (uses_parts q qs ++ uses_expr e)
  InScopeBasic p w (Jump l e) = AreDeclared p (uses_expr e)
  InScopeBasic p w (CallStatement c) = AreDeclared p (uses_call c)
  InScopeBasic p w Dummy = ⊤

  pub InScopeConditional : Places → Where → Conditional → Type 0
  InScopeConditional p w (IfThen ls l e m u) = AreDeclared p (uses_expr e) × InScopeUnconditional p w u
  InScopeConditional p w (IfElse ls l e m u n s) =
      AreDeclared p (uses_expr e) × InScopeUnconditional p w u
      × InScopeStatement p (further w (numbers_unconditional u) (owns_in_unconditional u)) s
  InScopeConditional p w (IfLoop ls l e m f) = AreDeclared p (uses_expr e) × InScopeLoop p w f

  pub InScopeLoop : Places → Where → Loop → Type 0
  InScopeLoop p w (MkLoop ls l x m t ts n s) =
      let es = turn_entries s in
      AreDeclared p (x ∷ uses_list t ts) × AreDistinct (identifiers es)
      × InScopeStatement (turn_places w.level w.numbers s p) (further w (entries_numbers es) 0) s

-- where a program's group stands
abbrev pub in_program : Program → Where
in_program t = record { level = 1; numbers = entries_numbers (program_entries t); owns = 0 }

abbrev pub IsInScope : (hoisted : Program) → Type 0
IsInScope (MkProgram ls g l) =
    let t = MkProgram ls g l in
    AreDistinct (identifiers (program_entries t)) × InScopeGroup (program_places t) (in_program t) g
