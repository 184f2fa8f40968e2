-- The words that an activation takes when it is entered: its header, its quantities, and what it needs. Elements of arrays
-- are taken later, one word each.
use Rattle.std.specs.Prelude.{ℕ, suc, ◌+◌, ◌*◌, List, [], ◌∷◌, length, Option, None, Some}
use Rattle.gier_tree.specs.Declaring.{list_of, formals_of}
use Rattle.gier_tree.specs.Described.{Scopes, block_scopes, procedure_scopes, program_scopes}
use Rattle.gier_tree.specs.Need.{need_expr, need_statement, need_group, need_block}
use Rattle.gier_tree.specs.Trees.{Expr, TypeWord, Segment, MkSegment, NextSegment, Heading, MkHeading, Declaration, DeclareType}
use Rattle.gier_tree.specs.Trees.{DeclareArrays, Declarations, NoDeclarations, MoreDeclarations, Statement, Statements, Program}
use Rattle.gier_tree.specs.Trees.{MkProgram}

-- the words of a program's and a block's header, and of a procedure's and an evaluation's
abbrev pub block_header : ℕ
block_header = 3

abbrev pub call_header : ℕ
call_header = 5

-- an array's descriptor has two words, and two for each of its subscripts
abbrev pub descriptor : (count : ℕ) → ℕ
descriptor count = 2 + 2 * count

abbrev pub segment_words : Segment → ℕ
segment_words (MkSegment ns l p ps m) = length (list_of ns) * descriptor (suc (length ps))

abbrev pub segments_words : List NextSegment → ℕ
segments_words [] = 0
segments_words (s ∷ ss) = segment_words s.segment + segments_words ss

-- the words of what is declared; an own declaration declares nothing in its place
abbrev pub declared_words : Declaration → ℕ
declared_words (DeclareType t ns) = length (list_of ns)
declared_words (DeclareArrays t l s ss) = segment_words s + segments_words ss
declared_words d = 0

abbrev pub all_declared_words : Declarations → ℕ
all_declared_words NoDeclarations = 0
all_declared_words (MoreDeclarations d l ds) = declared_words d + all_declared_words ds

-- a block, in the scopes around it
abbrev pub block_words : Declaration → Declarations → ℕ
block_words d ds = block_header + declared_words d + all_declared_words ds

abbrev pub room_block : Scopes → Declaration → Declarations → Statement → Statements → ℕ
room_block scopes d ds s ss = block_words d ds + need_block (block_scopes d ds s ss scopes) d ds s ss

-- a procedure, in the scopes around it: two words for each formal, and one for a function's value
abbrev pub result_words : Option TypeWord → ℕ
result_words None = 0
result_words (Some t) = 1

abbrev pub procedure_words : Heading → ℕ
procedure_words (MkHeading t l x fs m vs ss) = call_header + 2 * length (formals_of (MkHeading t l x fs m vs ss)) + result_words t

abbrev pub room_procedure : Scopes → Heading → Statement → ℕ
room_procedure scopes h s = procedure_words h + need_statement (procedure_scopes h s scopes) s

-- the evaluation of a name actual or of an element of a switch
abbrev pub room_evaluation : Scopes → Expr → ℕ
room_evaluation scopes e = call_header + need_expr scopes e

-- the program, which is hoisted
abbrev pub room_program : Program → ℕ
room_program (MkProgram ls g l) = block_header + need_group (program_scopes (MkProgram ls g l)) g
