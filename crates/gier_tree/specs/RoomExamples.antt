-- The rooms of programs.
use Rattle.std.specs.Prelude.{◌≡◌, ℕ, List, [], ◌∷◌, None, Some}
use Rattle.gier_tree.specs.Trees.{Add, Subtract, Multiply, LessThan, EqualTo, OneSimple, IfExpr, OneImplication, OneDisjunction}
use Rattle.gier_tree.specs.Trees.{OneConjunction, OneNegation, Both, OneRelation, OneArithmetic, Compared, OneTerm, Signed}
use Rattle.gier_tree.specs.Trees.{Summed, OneFactor, Multiplied, OnePrimary, Raised, Numeral, Bracketed, OneCall, OneElement}
use Rattle.gier_tree.specs.Trees.{Alone, WithActuals, Subscripted, OneExpr, AString, NoActuals, MoreActuals, NoExprs, MoreExprs}
use Rattle.gier_tree.specs.Trees.{only, MkNames, IntegerType, BooleanType, MkPair, MkSegment, Unsigned, MkFixedPair, NoFurther}
use Rattle.gier_tree.specs.Trees.{MkFixed, NoFormals, FormalList, NoValues, ValueList, ValueSpec, LabelSpec, SwitchSpec}
use Rattle.gier_tree.specs.Trees.{ProcedureSpec, MkHeading, OneName, LeftElement, OneValue, StepUntil, WhileTrue, Declaration}
use Rattle.gier_tree.specs.Trees.{DeclareType, DeclareOwn, DeclareArrays, DeclareOwnArrays, DeclareSwitch, DeclareProcedure}
use Rattle.gier_tree.specs.Trees.{Declarations, NoDeclarations, MoreDeclarations, Group, MkBlock, MkCompound, Statements}
use Rattle.gier_tree.specs.Trees.{NoStatements, MoreStatements, Statement, OneUnconditional, OneConditional, OneLoop}
use Rattle.gier_tree.specs.Trees.{Unconditional, MkUnconditional, Basic, OneGroup, Assign, Jump, CallStatement, Dummy}
use Rattle.gier_tree.specs.Trees.{Conditional, IfThen, IfElse, IfLoop, Loop, MkLoop, Program, MkProgram}
use Rattle.gier_tree.specs.SpellExamples.{at}
use Rattle.gier_tree.specs.Described.{Scopes, block_scopes, procedure_scopes, turn_scopes, program_scopes}
use Rattle.gier_tree.specs.Hoist.{hoist}
use Rattle.gier_tree.specs.Room.{room_block, room_procedure, room_program}

-- the rooms of a program, its blocks and its procedures, in the order of the text
abbrev mutual
  pub rooms_of_declaration : Scopes → Declaration → List ℕ → List ℕ
  rooms_of_declaration scopes (DeclareType t ns) rest = rest
  rooms_of_declaration scopes (DeclareOwn l t ns) rest = rest
  rooms_of_declaration scopes (DeclareArrays t l s ss) rest = rest
  rooms_of_declaration scopes (DeclareOwnArrays k t l s ss) rest = rest
  rooms_of_declaration scopes (DeclareSwitch l x m e es) rest = rest
  rooms_of_declaration scopes (DeclareProcedure h s) rest =
      room_procedure scopes h s ∷ rooms_of_statement (procedure_scopes h s scopes) s rest

  pub rooms_of_declarations : Scopes → Declarations → List ℕ → List ℕ
  rooms_of_declarations scopes NoDeclarations rest = rest
  rooms_of_declarations scopes (MoreDeclarations d l ds) rest = rooms_of_declaration scopes d (rooms_of_declarations scopes ds rest)

  pub rooms_of_group : Scopes → Group → List ℕ → List ℕ
  rooms_of_group scopes (MkBlock l d m ds s ss n) rest =
      let inner = block_scopes d ds s ss scopes in
      room_block scopes d ds s ss
      ∷ rooms_of_declaration inner d
      (rooms_of_declarations inner ds (rooms_of_statement inner s (rooms_of_statements inner ss rest)))
  rooms_of_group scopes (MkCompound l s ss m) rest = rooms_of_statement scopes s (rooms_of_statements scopes ss rest)

  pub rooms_of_statements : Scopes → Statements → List ℕ → List ℕ
  rooms_of_statements scopes NoStatements rest = rest
  rooms_of_statements scopes (MoreStatements l s ss) rest = rooms_of_statement scopes s (rooms_of_statements scopes ss rest)

  pub rooms_of_statement : Scopes → Statement → List ℕ → List ℕ
  rooms_of_statement scopes (OneUnconditional u) rest = rooms_of_unconditional scopes u rest
  rooms_of_statement scopes (OneConditional c) rest = rooms_of_conditional scopes c rest
  rooms_of_statement scopes (OneLoop f) rest = rooms_of_loop scopes f rest

  pub rooms_of_unconditional : Scopes → Unconditional → List ℕ → List ℕ
  rooms_of_unconditional scopes (MkUnconditional ls b) rest = rooms_of_basic scopes b rest

  pub rooms_of_basic : Scopes → Basic → List ℕ → List ℕ
  rooms_of_basic scopes (OneGroup g) rest = rooms_of_group scopes g rest
  rooms_of_basic scopes (Assign p ps e) rest = rest
  rooms_of_basic scopes (Jump l e) rest = rest
  rooms_of_basic scopes (CallStatement c) rest = rest
  rooms_of_basic scopes Dummy rest = rest

  pub rooms_of_conditional : Scopes → Conditional → List ℕ → List ℕ
  rooms_of_conditional scopes (IfThen ls l e m u) rest = rooms_of_unconditional scopes u rest
  rooms_of_conditional scopes (IfElse ls l e m u n s) rest = rooms_of_unconditional scopes u (rooms_of_statement scopes s rest)
  rooms_of_conditional scopes (IfLoop ls l e m f) rest = rooms_of_loop scopes f rest

  pub rooms_of_loop : Scopes → Loop → List ℕ → List ℕ
  rooms_of_loop scopes (MkLoop ls l x m t ts n s) rest = rooms_of_statement (turn_scopes s scopes) s rest

abbrev pub rooms_of : Program → List ℕ
rooms_of (MkProgram ls g l) = room_program (MkProgram ls g l) ∷ rooms_of_group (program_scopes (MkProgram ls g l)) g []

-- blocks and their quantities
abbrev pub rooms_simple : Program
rooms_simple =
    MkProgram ([])
    (MkBlock 1 (DeclareType (record { type = IntegerType; line = 1 }) (MkNames (at 8 1) (record { comma = 1; name = (at 9 1) }
    ∷ []))) 1 (MoreDeclarations (DeclareType (record { type = BooleanType; line = 1 }) (MkNames (at 10 1) ([]))) 1
    (MoreDeclarations
    (DeclareArrays (record { type = IntegerType; line = 1 }) 1
    (MkSegment (MkNames (at 11 1) (record { comma = 1; name = (at 12 1) } ∷ [])) 1
    (MkPair (only (Numeral 1 1)) 1 (only (Numeral 2 1)))
    (record { comma = 1; pair = (MkPair (only (Numeral 0 1)) 1 (only (Numeral 3 1))) } ∷ []) 1) ([])) 1 NoDeclarations))
    (OneUnconditional (MkUnconditional ([]) (Assign (record { left = OneName (at 8 1); becomes = 1 }) ([]) (only
    (Numeral 1 1)))))
    (MoreStatements 1
    (OneUnconditional (MkUnconditional ([]) (OneGroup (MkBlock 1
    (DeclareArrays (record { type = BooleanType; line = 1 }) 1
    (MkSegment (MkNames (at 13 1) ([])) 1
    (MkPair (only (OneCall (Alone (at 8 1)))) 1 (OneSimple (OneImplication (OneDisjunction (OneConjunction
    (OneNegation (OneRelation (OneArithmetic (Summed (OneTerm (OneFactor (OnePrimary (OneCall (Alone (at 9 1)))))) Add
    1 (Multiplied (OneFactor (OnePrimary (OneCall (Alone (at 8 1))))) Multiply 1 (OnePrimary (Numeral 2 1))))))))))))
    (record {
      comma = 1;
      pair =
          (MkPair
          (only (Bracketed 1 (OneSimple (OneImplication (OneDisjunction (OneConjunction (OneNegation (OneRelation
          (OneArithmetic (Summed (OneTerm (OneFactor (OnePrimary (OneCall (Alone (at 8 1)))))) Subtract 1 (OneFactor
          (OnePrimary (OneCall (Alone (at 9 1))))))))))))) 1)) 1 (only (Numeral 4 1)));
    } ∷ []) 1) ([])) 1 NoDeclarations
    (OneUnconditional (MkUnconditional ([]) (Assign
    (record {
      left = LeftElement
          (Subscripted (at 13 1) 1 (only (Numeral 1 1)) (MoreExprs 1 (only (Numeral 2 1)) NoExprs) 1);
      becomes = 1;
    }) ([])
    (only (OneCall (Alone (at 10 1))))))) NoStatements 1)))) NoStatements) 1) 1

-- procedures, with a word for a function
abbrev pub rooms_procedures : Program
rooms_procedures =
    MkProgram ([])
    (MkBlock 1 (DeclareProcedure (MkHeading None 1 (at 8 1) NoFormals 1 NoValues ([])) (OneUnconditional (MkUnconditional
    ([]) Dummy))) 1
    (MoreDeclarations
    (DeclareProcedure
    (MkHeading (Some (record { type = IntegerType; line = 1 })) 1 (at 9 1)
    (FormalList 1 (MkNames (at 10 1) (record { comma = 1; name = (at 11 1) } ∷ [])) 1) 1
    (ValueList 1 (MkNames (at 10 1) ([])) 1) (record {
      specifier = ValueSpec (record { type = IntegerType; line = 1 });
      names = (MkNames (at 10 1) ([]));
      semicolon = 1;
    }
    ∷ record { specifier = LabelSpec 1; names = (MkNames (at 11 1) ([])); semicolon = 1 } ∷ [])) (OneUnconditional
    (MkUnconditional ([]) (Assign (record { left = OneName (at 9 1); becomes = 1 }) ([]) (OneSimple (OneImplication
    (OneDisjunction (OneConjunction (OneNegation (OneRelation (OneArithmetic (Summed
    (OneTerm (OneFactor (OnePrimary (OneCall (Alone (at 10 1)))))) Add 1 (OneFactor (OnePrimary
    (Numeral 1 1))))))))))))))) 1 (MoreDeclarations
    (DeclareProcedure
    (MkHeading None 1 (at 12 1)
    (FormalList 1 (MkNames (at 13 1) (record { comma = 1; name = (at 14 1) } ∷ record { comma = 1; name = (at 15 1) }
    ∷ [])) 1) 1 NoValues (record {
      specifier = ValueSpec (record { type = IntegerType; line = 1 });
      names = (MkNames (at 13 1) (record { comma = 1; name = (at 14 1) } ∷ record { comma = 1; name = (at 15 1) }
          ∷ []));
      semicolon = 1;
    } ∷ [])) (OneUnconditional (MkUnconditional ([]) (OneGroup (MkBlock 1
    (DeclareType (record { type = IntegerType; line = 1 }) (MkNames (at 16 1) ([]))) 1 NoDeclarations
    (OneUnconditional (MkUnconditional ([]) (Assign (record { left = OneName (at 16 1); becomes = 1 }) ([]) (only (OneCall
    (WithActuals (at 9 1) 1 (OneExpr (only (OneCall (Alone (at 13 1)))))
    (MoreActuals 1 (OneExpr (only (OneCall (Alone (at 17 1))))) NoActuals) 1))))))
    (MoreStatements 1 (OneUnconditional (MkUnconditional (record { name = (at 17 1); colon = 1 } ∷ []) Dummy))
    NoStatements) 1))))) 1 NoDeclarations))
    (OneUnconditional (MkUnconditional ([]) (CallStatement (Alone (at 8 1))))) NoStatements 1) 1

-- each row of the table
abbrev pub rooms_expressions : Program
rooms_expressions = MkProgram ([]) (MkBlock 1 (DeclareType (record { type = IntegerType; line = 1 }) (MkNames (at 8 1) ([]))) 1
    (MoreDeclarations
    (DeclareArrays (record { type = IntegerType; line = 1 }) 1
    (MkSegment (MkNames (at 9 1) ([])) 1 (MkPair (only (Numeral 1 1)) 1 (only (Numeral 2 1)))
    (record { comma = 1; pair = (MkPair (only (Numeral 1 1)) 1 (only (Numeral 2 1))) } ∷ []) 1) ([])) 1 (MoreDeclarations
    (DeclareSwitch 1 (at 10 1) 1 (only (OneCall (Alone (at 11 1)))) (MoreExprs 1 (only (OneCall (Alone (at 11 1)))) NoExprs))
    1 (MoreDeclarations
    (DeclareProcedure (MkHeading (Some (record { type = IntegerType; line = 2 })) 2 (at 12 2)
    (FormalList 2 (MkNames (at 13 2) (record { comma = 2; name = (at 14 2) } ∷ record { comma = 2; name = (at 15 2) }
    ∷ [])) 2) 2 (ValueList 2 (MkNames (at 13 2) (record { comma = 2; name = (at 15 2) } ∷ [])) 2) (record {
      specifier = ValueSpec (record { type = IntegerType; line = 2 });
      names = (MkNames (at 13 2) (record { comma = 2; name = (at 14 2) } ∷ record { comma = 2; name = (at 15 2) } ∷ []));
      semicolon = 2;
    } ∷ [])) (OneUnconditional (MkUnconditional ([]) (Assign (record {
      left = OneName (at 12 2);
      becomes = 2;
    }) ([]) (only (Numeral 1 2)))))) 2 (MoreDeclarations
    (DeclareProcedure (MkHeading None 3 (at 16 3) (FormalList 3 (MkNames (at 17 3) ([])) 3) 3 NoValues (record
    { specifier = ProcedureSpec 3; names = (MkNames (at 17 3) ([])); semicolon = 3 } ∷ [])) (OneUnconditional
    (MkUnconditional ([]) (CallStatement (WithActuals (at 17 3) 3 (OneExpr (only (Numeral 1 3)))
    (MoreActuals 3 (OneExpr (only (OneCall (Alone (at 8 3))))) (MoreActuals 3
    (OneExpr (OneSimple (OneImplication (OneDisjunction (OneConjunction (OneNegation (OneRelation (OneArithmetic (Summed
    (OneTerm (OneFactor (OnePrimary (OneCall (Alone (at 8 3)))))) Add 3 (OneFactor (OnePrimary (Numeral 1 3))))))))))))
    NoActuals)) 3))))) 3 (MoreDeclarations (DeclareProcedure (MkHeading None 4 (at 18 4) NoFormals 4 NoValues ([]))
    (OneUnconditional (MkUnconditional ([]) (Assign (record { left = OneName (at 8 4); becomes = 4 }) ([]) (only
    (Numeral 1 4)))))) 4 (MoreDeclarations (DeclareProcedure (MkHeading None 5 (at 19 5) NoFormals 5 NoValues ([]))
    (OneUnconditional (MkUnconditional ([]) (Assign (record { left = OneName (at 8 5); becomes = 5 }) ([]) (OneSimple
    (OneImplication (OneDisjunction (OneConjunction (OneNegation (OneRelation (OneArithmetic (Signed Subtract 5 (OneFactor
    (OnePrimary (Bracketed 5 (OneSimple (OneImplication (OneDisjunction (OneConjunction (OneNegation (OneRelation
    (OneArithmetic (Summed (OneTerm (OneFactor (OnePrimary (Numeral 1 5)))) Add 5 (OneFactor (OnePrimary (OneCall (Alone
    (at 8 5))))))))))))) 5))))))))))))))) 5 (MoreDeclarations
    (DeclareProcedure (MkHeading None 6 (at 20 6) NoFormals 6 NoValues ([])) (OneUnconditional (MkUnconditional ([]) (Assign
    (record { left = OneName (at 8 6); becomes = 6 }) ([]) (OneSimple (OneImplication (OneDisjunction (OneConjunction
    (OneNegation (OneRelation (OneArithmetic (Summed (OneTerm (OneFactor (OnePrimary (Numeral 1 6)))) Add 6 (Multiplied
    (OneFactor (OnePrimary (Numeral 2 6))) Multiply 6 (OnePrimary (Numeral 3 6))))))))))))))) 6 (MoreDeclarations
    (DeclareProcedure (MkHeading None 7 (at 21 7) NoFormals 7 NoValues ([])) (OneUnconditional (MkUnconditional ([]) (Assign
    (record { left = OneName (at 8 7); becomes = 7 }) ([]) (OneSimple (OneImplication (OneDisjunction (OneConjunction
    (OneNegation (OneRelation (OneArithmetic (Summed
    (OneTerm (Multiplied (OneFactor (OnePrimary (Numeral 1 7))) Multiply 7 (OnePrimary (Numeral 2 7)))) Add 7 (Multiplied
    (OneFactor (OnePrimary (Numeral 3 7))) Multiply 7 (OnePrimary (Bracketed 7
    (OneSimple (OneImplication (OneDisjunction (OneConjunction (OneNegation (OneRelation (OneArithmetic (Summed
    (OneTerm (OneFactor (OnePrimary (Numeral 4 7)))) Add 7 (OneFactor (OnePrimary (Numeral 5 7))))))))))) 7)))))))))))))))
    7 (MoreDeclarations (DeclareProcedure (MkHeading None 8 (at 22 8) NoFormals 8 NoValues ([])) (OneUnconditional
    (MkUnconditional ([]) (Assign (record { left = OneName (at 8 8); becomes = 8 }) ([]) (IfExpr 8
    (OneSimple (OneImplication (OneDisjunction (OneConjunction (OneNegation (OneRelation (Compared
    (OneTerm (OneFactor (OnePrimary (OneCall (Alone (at 8 8)))))) LessThan 8 (OneTerm (OneFactor (OnePrimary
    (Numeral 1 8))))))))))) 8 (OneImplication (OneDisjunction (OneConjunction (OneNegation (OneRelation (OneArithmetic
    (Summed (OneTerm (OneFactor (OnePrimary (OneCall (Alone (at 8 8)))))) Add 8 (OneFactor (OnePrimary
    (Numeral 1 8)))))))))) 8 (OneSimple (OneImplication (OneDisjunction (OneConjunction (OneNegation (OneRelation
    (OneArithmetic (Summed (OneTerm (OneFactor (OnePrimary (OneCall (Alone (at 8 8)))))) Add 8 (OneFactor (OnePrimary
    (Bracketed 8 (OneSimple (OneImplication (OneDisjunction (OneConjunction (OneNegation (OneRelation (OneArithmetic (Summed
    (OneTerm (OneFactor (OnePrimary (OneCall (Alone (at 8 8)))))) Add 8 (OneFactor (OnePrimary (Numeral 1 8)))))))))))
    8)))))))))))))))) 8 (MoreDeclarations (DeclareProcedure (MkHeading None 9 (at 23 9) NoFormals 9 NoValues ([]))
    (OneUnconditional (MkUnconditional ([]) (Assign
    (record {
      left = LeftElement
          (Subscripted (at 9 9) 9 (only (OneCall (Alone (at 8 9))))
          (MoreExprs 9 (OneSimple (OneImplication (OneDisjunction (OneConjunction (OneNegation (OneRelation (OneArithmetic
          (Summed (OneTerm (OneFactor (OnePrimary (OneCall (Alone (at 8 9)))))) Add 9 (OneFactor (OnePrimary
          (Numeral 1 9))))))))))) NoExprs) 9);
      becomes = 9;
    }) (record { left = OneName (at 8 9); becomes = 9 } ∷ []) (only
    (Numeral 2 9)))))) 9 (MoreDeclarations (DeclareProcedure (MkHeading None 10 (at 24 10) NoFormals 10 NoValues ([]))
    (OneUnconditional (MkUnconditional ([]) (Assign (record { left = OneName (at 8 10); becomes = 10 }) ([]) (only
    (OneElement (Subscripted (at 9 10) 10 (only (Numeral 1 10))
    (MoreExprs 10
    (only (OneElement (Subscripted (at 9 10) 10 (only (Numeral 2 10)) (MoreExprs 10 (only (Numeral 1 10)) NoExprs) 10)))
    NoExprs) 10))))))) 10 (MoreDeclarations (DeclareProcedure (MkHeading None 11 (at 25 11) NoFormals 11 NoValues ([]))
    (OneUnconditional (MkUnconditional ([]) (Assign (record { left = OneName (at 8 11); becomes = 11 }) ([]) (only (OneCall
    (WithActuals (at 12 11) 11 (OneExpr (OneSimple (OneImplication (OneDisjunction (OneConjunction (OneNegation (OneRelation
    (OneArithmetic (Summed (OneTerm (OneFactor (OnePrimary (OneCall (Alone (at 8 11)))))) Add 11 (OneFactor (OnePrimary
    (Numeral 1 11))))))))))))
    (MoreActuals 11 (OneExpr (OneSimple (OneImplication (OneDisjunction (OneConjunction (OneNegation (OneRelation
    (OneArithmetic (Summed (Summed (OneTerm (OneFactor (OnePrimary (OneCall (Alone (at 8 11)))))) Add 11 (OneFactor
    (OnePrimary (Numeral 1 11)))) Add 11 (OneFactor (OnePrimary (Bracketed 11
    (OneSimple (OneImplication (OneDisjunction (OneConjunction (OneNegation (OneRelation (OneArithmetic (OneTerm
    (Multiplied (OneFactor (OnePrimary (OneCall (Alone (at 8 11))))) Multiply 11 (OnePrimary (Bracketed 11
    (OneSimple (OneImplication (OneDisjunction (OneConjunction (OneNegation (OneRelation (OneArithmetic (Summed
    (OneTerm (OneFactor (OnePrimary (OneCall (Alone (at 8 11)))))) Add 11 (OneFactor (OnePrimary
    (Numeral 1 11))))))))))) 11))))))))))) 11)))))))))))) (MoreActuals 11
    (OneExpr (OneSimple (OneImplication (OneDisjunction (OneConjunction (OneNegation (OneRelation (OneArithmetic (OneTerm
    (Multiplied (OneFactor (OnePrimary (Numeral 3 11))) Multiply 11 (OnePrimary (Bracketed 11
    (OneSimple (OneImplication (OneDisjunction (OneConjunction (OneNegation (OneRelation (OneArithmetic (Summed
    (OneTerm (OneFactor (OnePrimary (OneCall (Alone (at 8 11)))))) Add 11 (OneFactor (OnePrimary
    (Numeral 2 11))))))))))) 11)))))))))))) NoActuals)) 11))))))) 11 (MoreDeclarations
    (DeclareProcedure (MkHeading None 12 (at 26 12) NoFormals 12 NoValues ([])) (OneUnconditional (MkUnconditional ([])
    (Jump 12 (only (OneElement (Subscripted (at 10 12) 12
    (OneSimple (OneImplication (OneDisjunction (OneConjunction (OneNegation (OneRelation (OneArithmetic (Summed
    (OneTerm (OneFactor (OnePrimary (OneCall (Alone (at 8 12)))))) Add 12 (OneFactor (OnePrimary (Numeral 1 12)))))))))))
    NoExprs 12))))))) 12 (MoreDeclarations (DeclareProcedure (MkHeading None 13 (at 27 13) NoFormals 13 NoValues ([]))
    (OneUnconditional (MkUnconditional ([]) (Assign (record { left = OneName (at 8 13); becomes = 13 }) ([]) (only (OneCall
    (WithActuals (at 6 13) 13 (OneExpr (OneSimple (OneImplication (OneDisjunction (OneConjunction (OneNegation (OneRelation
    (OneArithmetic (Summed (OneTerm (OneFactor (OnePrimary (OneCall (Alone (at 8 13)))))) Add 13 (OneFactor (OnePrimary
    (Bracketed 13 (OneSimple (OneImplication (OneDisjunction (OneConjunction (OneNegation (OneRelation (OneArithmetic
    (Summed (OneTerm (OneFactor (OnePrimary (Numeral 1 13)))) Add 13 (OneFactor (OnePrimary (OneCall (Alone
    (at 8 13))))))))))))) 13)))))))))))) NoActuals 13))))))) 13 (MoreDeclarations
    (DeclareProcedure (MkHeading None 14 (at 28 14) NoFormals 14 NoValues ([])) (OneLoop (MkLoop ([]) 14 (at 8 14) 14
    (OneValue (only (Numeral 1 14)))
    (record {
      comma = 14;
      turns = (OneValue (OneSimple (OneImplication (OneDisjunction (OneConjunction (OneNegation (OneRelation
          (OneArithmetic (Summed (OneTerm (OneFactor (OnePrimary (OneCall (Alone (at 8 14)))))) Add 14 (OneFactor (OnePrimary
          (Numeral 1 14))))))))))));
    } ∷ []) 14 (OneUnconditional (MkUnconditional ([]) (Assign
    (record {
      left = LeftElement
          (Subscripted (at 9 14) 14 (only (Numeral 1 14)) (MoreExprs 14 (only (Numeral 1 14)) NoExprs) 14);
      becomes = 14;
    }) ([])
    (only (OneCall (Alone (at 8 14)))))))))) 14 (MoreDeclarations
    (DeclareProcedure (MkHeading None 15 (at 29 15) NoFormals 15 NoValues ([])) (OneLoop (MkLoop ([]) 15 (at 8 15) 15
    (StepUntil (only (Numeral 1 15)) 15 (OneSimple (OneImplication (OneDisjunction (OneConjunction (OneNegation (OneRelation
    (OneArithmetic (Summed (OneTerm (OneFactor (OnePrimary (OneCall (Alone (at 8 15)))))) Add 15 (Multiplied
    (OneFactor (OnePrimary (Numeral 2 15))) Multiply 15 (OnePrimary (OneCall (Alone (at 8 15))))))))))))) 15 (only
    (Numeral 3 15))) ([]) 15 (OneUnconditional (MkUnconditional ([]) Dummy))))) 15 (MoreDeclarations
    (DeclareProcedure (MkHeading None 16 (at 30 16) NoFormals 16 NoValues ([])) (OneLoop (MkLoop ([]) 16 (at 8 16) 16
    (StepUntil (only (Numeral 1 16)) 16 (only (Numeral 2 16)) 16 (OneSimple (OneImplication (OneDisjunction (OneConjunction
    (OneNegation (OneRelation (OneArithmetic (Summed (OneTerm (OneFactor (OnePrimary (OneCall (Alone (at 8 16)))))) Add 16
    (Multiplied (OneFactor (OnePrimary (Numeral 3 16))) Multiply 16 (OnePrimary (OneCall (Alone (at 8 16))))))))))))))
    ([]) 16 (OneUnconditional (MkUnconditional ([]) Dummy))))) 16 (MoreDeclarations
    (DeclareProcedure (MkHeading None 17 (at 31 17) NoFormals 17 NoValues ([])) (OneLoop (MkLoop ([]) 17 (at 8 17) 17
    (WhileTrue (OneSimple (OneImplication (OneDisjunction (OneConjunction (OneNegation (OneRelation (OneArithmetic (OneTerm
    (Multiplied (OneFactor (OnePrimary (OneCall (Alone (at 8 17))))) Multiply 17 (OnePrimary (Numeral 2 17))))))))))) 17
    (OneSimple (OneImplication (OneDisjunction (OneConjunction (Both
    (OneNegation (OneRelation (Compared (OneTerm (OneFactor (OnePrimary (OneCall (Alone (at 8 17)))))) EqualTo 17 (OneTerm
    (OneFactor (OnePrimary (Numeral 1 17))))))) 17 (OneRelation (OneArithmetic (OneTerm (OneFactor (OnePrimary
    (Bracketed 17 (OneSimple (OneImplication (OneDisjunction (OneConjunction (OneNegation (OneRelation (Compared
    (OneTerm (OneFactor (OnePrimary (OneCall (Alone (at 8 17)))))) LessThan 17 (OneTerm (OneFactor (OnePrimary
    (Numeral 2 17))))))))))) 17)))))))))))) ([]) 17 (OneUnconditional (MkUnconditional ([]) Dummy))))) 17
    (MoreDeclarations (DeclareProcedure (MkHeading None 18 (at 32 18) NoFormals 18 NoValues ([])) (OneLoop (MkLoop ([]) 18
    (at 8 18) 18 (OneValue (only (Numeral 1 18))) ([]) 18 (OneLoop (MkLoop ([]) 18 (at 8 18) 18
    (OneValue (only (Numeral 2 18))) ([]) 18 (OneUnconditional (MkUnconditional ([]) (Assign
    (record { left = OneName (at 8 18); becomes = 18 }) ([]) (only (OneCall (WithActuals (at 12 18) 18
    (OneExpr (only (Numeral 1 18)))
    (MoreActuals 18 (OneExpr (only (Numeral 2 18))) (MoreActuals 18 (OneExpr (only (Numeral 3 18))) NoActuals))
    18))))))))))) 18 (MoreDeclarations (DeclareProcedure (MkHeading None 19 (at 33 19) NoFormals 19 NoValues ([]))
    (OneUnconditional (MkUnconditional ([]) (OneGroup (MkCompound 19
    (OneUnconditional (MkUnconditional ([]) (Assign (record { left = OneName (at 8 19); becomes = 19 }) ([]) (only
    (Numeral 1 19)))))
    (MoreStatements 19
    (OneConditional (IfElse ([]) 19 (OneSimple (OneImplication (OneDisjunction (OneConjunction (OneNegation (OneRelation
    (Compared (OneTerm (OneFactor (OnePrimary (OneCall (Alone (at 8 19)))))) EqualTo 19 (OneTerm (OneFactor (OnePrimary
    (Numeral 2 19))))))))))) 19 (MkUnconditional ([]) (Assign (record { left = OneName (at 8 19); becomes = 19 }) ([])
    (only (OneElement (Subscripted (at 9 19) 19 (only (Numeral 1 19))
    (MoreExprs 19 (only (Numeral 2 19)) NoExprs) 19))))) 19 (OneUnconditional (MkUnconditional ([]) (Assign
    (record { left = OneName (at 8 19); becomes = 19 }) ([]) (OneSimple (OneImplication (OneDisjunction (OneConjunction
    (OneNegation (OneRelation (OneArithmetic (OneTerm (OneFactor (Raised
    (Raised (OnePrimary (OneCall (Alone (at 8 19)))) 19 (Numeral 2 19)) 19 (Numeral 3 19)))))))))))))))) NoStatements)
    19))))) 19 (MoreDeclarations (DeclareProcedure (MkHeading None 20 (at 34 20) NoFormals 20 NoValues ([]))
    (OneUnconditional (MkUnconditional ([]) (OneGroup (MkBlock 20
    (DeclareType (record { type = IntegerType; line = 20 }) (MkNames (at 35 20) ([]))) 20 NoDeclarations
    (OneUnconditional (MkUnconditional ([]) (Assign (record { left = OneName (at 35 20); becomes = 20 }) ([]) (only (OneCall
    (WithActuals (at 12 20) 20 (OneExpr (only (Numeral 1 20)))
    (MoreActuals 20 (OneExpr (only (Numeral 2 20))) (MoreActuals 20 (OneExpr (only (Numeral 3 20))) NoActuals)) 20))))))
    NoStatements 20))))) 20 (MoreDeclarations (DeclareProcedure (MkHeading None 21 (at 36 21) NoFormals 21 NoValues ([]))
    (OneUnconditional (MkUnconditional ([]) (CallStatement (WithActuals (at 1 21) 21
    (AString 21 (record { value = 97; line = 21 } ∷ record { value = 98; line = 21 } ∷ record { value = 99; line = 21 }
    ∷ []) 21) NoActuals 21))))) 21 (MoreDeclarations
    (DeclareProcedure (MkHeading None 22 (at 37 22) NoFormals 22 NoValues ([])) (OneUnconditional (MkUnconditional
    ([]) Dummy))) 22 NoDeclarations)))))))))))))))))))))))
    (OneUnconditional (MkUnconditional (record { name = (at 11 23); colon = 23 } ∷ []) (Assign
    (record { left = OneName (at 8 23); becomes = 23 }) ([]) (only (OneCall (WithActuals (at 12 23) 23
    (OneExpr (only (OneCall (WithActuals (at 12 23) 23 (OneExpr (only (Numeral 1 23)))
    (MoreActuals 23 (OneExpr (only (Numeral 2 23))) (MoreActuals 23 (OneExpr (only (Numeral 3 23))) NoActuals)) 23))))
    (MoreActuals 23 (OneExpr (only (Numeral 4 23))) (MoreActuals 23
    (OneExpr (only (OneCall (WithActuals (at 12 23) 23 (OneExpr (only (Numeral 5 23)))
    (MoreActuals 23 (OneExpr (only (Numeral 6 23))) (MoreActuals 23
    (OneExpr (only (OneCall (WithActuals (at 12 23) 23 (OneExpr (only (Numeral 7 23)))
    (MoreActuals 23 (OneExpr (only (Numeral 8 23))) (MoreActuals 23 (OneExpr (only (Numeral 9 23))) NoActuals)) 23))))
    NoActuals)) 23)))) NoActuals)) 23)))))) NoStatements 23) 23

-- own quantities stand in the outer block
abbrev pub rooms_own : Program
rooms_own = MkProgram ([]) (MkBlock 1 (DeclareType (record { type = IntegerType; line = 1 }) (MkNames (at 8 1) ([]))) 1
    (MoreDeclarations (DeclareOwn 1 (record { type = IntegerType; line = 1 }) (MkNames (at 9 1) (record
    { comma = 1; name = (at 10 1) } ∷ []))) 1 (MoreDeclarations
    (DeclareOwnArrays 1 (record { type = BooleanType; line = 1 }) 1
    (MkFixed (MkNames (at 11 1) (record { comma = 1; name = (at 12 1) } ∷ [])) 1
    (MkFixedPair (Unsigned 1 1) 1 (Unsigned 3 1)) NoFurther 1) ([])) 1 NoDeclarations))
    (OneUnconditional (MkUnconditional ([]) (Assign
    (record { left = LeftElement (Subscripted (at 11 1) 1 (only (Numeral 2 1)) NoExprs 1); becomes = 1 }) ([]) (only
    (OneElement (Subscripted (at 12 1) 1 (only (OneCall (Alone (at 8 1)))) NoExprs 1))))))
    (MoreStatements 1
    (OneUnconditional (MkUnconditional ([]) (OneGroup (MkBlock 1
    (DeclareOwn 1 (record { type = IntegerType; line = 1 }) (MkNames (at 8 1) ([]))) 1 NoDeclarations
    (OneUnconditional (MkUnconditional ([]) (Assign (record { left = OneName (at 8 1); becomes = 1 }) ([]) (only (OneCall
    (Alone (at 9 1))))))) NoStatements 1)))) NoStatements) 1) 1

-- a label hides an array within its scope
abbrev pub rooms_hidden : Program
rooms_hidden =
    MkProgram ([])
    (MkBlock 1
    (DeclareArrays (record { type = IntegerType; line = 1 }) 1
    (MkSegment (MkNames (at 8 1) ([])) 1 (MkPair (only (Numeral 1 1)) 1 (only (Numeral 2 1))) ([]) 1) ([])) 1
    (MoreDeclarations (DeclareType (record { type = IntegerType; line = 1 }) (MkNames (at 9 1) ([]))) 1 (MoreDeclarations
    (DeclareProcedure (MkHeading None 1 (at 10 1) (FormalList 1 (MkNames (at 8 1) ([])) 1) 1 NoValues (record
    { specifier = SwitchSpec 1; names = (MkNames (at 8 1) ([])); semicolon = 1 } ∷ [])) (OneUnconditional
    (MkUnconditional ([]) (Jump 1 (only (OneElement (Subscripted (at 8 1) 1 (only (Numeral 1 1)) NoExprs 1))))))) 1
    (MoreDeclarations (DeclareSwitch 1 (at 11 1) 1 (only (OneCall (Alone (at 12 1)))) NoExprs) 1 NoDeclarations)))
    (OneUnconditional (MkUnconditional (record { name = (at 12 1); colon = 1 } ∷ []) (Assign
    (record { left = LeftElement (Subscripted (at 8 1) 1 (only (Numeral 1 1)) NoExprs 1); becomes = 1 }) ([]) (only (OneCall
    (Alone (at 9 1)))))))
    (MoreStatements 1 (OneLoop (MkLoop ([]) 1 (at 9 1) 1 (OneValue (only (Numeral 1 1))) ([]) 1 (OneUnconditional
    (MkUnconditional ([]) (OneGroup (MkCompound 1
    (OneUnconditional (MkUnconditional (record { name = (at 8 1); colon = 1 } ∷ record { name = (at 12 1); colon = 1 }
    ∷ []) (CallStatement (WithActuals (at 10 1) 1 (OneExpr (only (OneCall (Alone (at 11 1))))) NoActuals 1))))
    NoStatements 1)))))) NoStatements) 1) 1

pub record AreRoomy : Type 0 where
  pub rooms_simple_told : rooms_of (hoist rooms_simple) ≡ 3 ∷ 22 ∷ 13 ∷ []
  pub rooms_procedures_told : rooms_of (hoist rooms_procedures) ≡ 3 ∷ 3 ∷ 5 ∷ 12 ∷ 11 ∷ 9 ∷ []
  pub rooms_expressions_told : rooms_of (hoist rooms_expressions) ≡ 3 ∷ 25 ∷ 13 ∷ 13 ∷ 6 ∷ 7 ∷ 8 ∷ 9 ∷ 8 ∷ 8 ∷ 11 ∷ 12 ∷ 6 ∷ 8 ∷ 9
      ∷ 10 ∷ 9 ∷ 8 ∷ 14 ∷ 9 ∷ 5 ∷ 11 ∷ 5 ∷ 5 ∷ []
  pub rooms_own_told : rooms_of (hoist rooms_own) ≡ 3 ∷ 16 ∷ 7 ∷ 4 ∷ []
  pub rooms_hidden_told : rooms_of (hoist rooms_hidden) ≡ 3 ∷ 11 ∷ 7 ∷ []
