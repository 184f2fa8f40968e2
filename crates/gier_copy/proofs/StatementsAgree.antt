-- Statements give the same, and so does their rest from a label on.
use Rattle.std.proofs.Common.{◌≡◌, ℕ, List, Option, Some, None, refl, sym, ap, ap₂, ◌∙◌}
use Rattle.std.specs.Prelude.{◌||◌}
use Rattle.gier_meaning.specs.Tree.{Name, Expr, Statement, Labelled, Dummy, Compound, Block, Assign, GoTo, CallOf, If, IfElse, For, Statements, NoStatements, MoreStatements}
use Rattle.gier_meaning.specs.Live.{Live, InBlock}
use Rattle.gier_meaning.specs.State.{State}
use Rattle.gier_meaning.specs.Outcome.{Gives, Done}
use Rattle.gier_meaning.specs.Operators.{is_true}
use Rattle.gier_meaning.specs.Scopes.{labels, of_block, identifiers_of}
use Rattle.gier_meaning.specs.Room.{block_room}
use Rattle.gier_meaning.specs.Maps.{Map, Binding, map_without}
use Rattle.gier_meaning.specs.Close.{close_name, close, close_in, close_statements, close_declarations}
use Rattle.gier_meaning.specs.TurnLabels.{name_in_turn, in_turn}
use Rattle.gier_meaning.specs.Tasks as copy
use Rattle.gier_meaning.specs.Expressions as closed
use Rattle.gier_meaning.specs.Loops as loops
use Rattle.gier_meaning.specs.Statements as copied
use Rattle.gier_env.specs.Env.{Env, Denoted, AnEntity, AProcedure, AFormalProcedure, AText, AStandard, AnActual, denotation}
use Rattle.gier_env.specs.Closures.{Closure, what_of}
use Rattle.gier_env.specs.Tasks as env
use Rattle.gier_env.specs.Statements as here
use Rattle.gier_env.specs.Expressions.{value as here_value}
use Rattle.gier_copy.proofs.Images.{used, name_of, map_in, state_of, carried, same}
use Rattle.gier_copy.proofs.Envs.{proper_in}
use Rattle.gier_copy.proofs.Rooms.{block_same}
use Rattle.gier_copy.proofs.States.{receive_of, then_same, either_same, enter_same, goes_same}
use Rattle.gier_copy.proofs.Agree.{Agree, Fits, Meets, name_meets, what_closed, what_match, name_turned, turned, lefts_turned, elements_turned, declarations_turned, statements_turned}
use Rattle.gier_copy.proofs.Parts.{value_same, addresses_same, destination_same}
use Rattle.gier_copy.proofs.ForLoops.{elements_same}

-- ---- where a label stands

label_denoted : (label : ℕ) (d : Denoted) → copied.is_label label (name_of d) ≡ here.is_label label (Some d)
label_denoted label (AnEntity n) = refl
label_denoted label (AProcedure n) = refl
label_denoted label (AFormalProcedure n) = refl
label_denoted label (AText bytes) = refl
label_denoted label (AStandard standard) = refl
label_denoted label (AnActual meant kind e env) = refl

label_named : (label : ℕ) (u : Name) (o : Option Denoted) → Meets u o → copied.is_label label u ≡ here.is_label label o
label_named label u None m = ap (copied.is_label label) m.1
label_named label u (Some d) m = ap (copied.is_label label) m ∙ label_denoted label d

module _ (m : Map) (turn : List Binding) (e : Env) (fits : Fits m turn e) (label : ℕ) where
  label_same : (n : Name) → copied.is_label label (name_in_turn turn (close_name m.used n)) ≡ here.is_label label (denotation e n)
  label_same n = ap (copied.is_label label) (name_turned m turn e fits n)
      ∙ label_named label (close_name (used e) n) (denotation e n) (name_meets e n)

  mutual
    has_same : (s : Statement) → copied.has label turn (close_in m s) ≡ here.has label e s
    has_same (Labelled n s) = ap₂ (λ a b. a || b) (label_same n) (has_same s)
    has_same Dummy = refl
    has_same (Compound ss) = have_same ss
    has_same (Block line ds ss) = refl
    has_same (Assign lefts a) = refl
    has_same (GoTo line a) = refl
    has_same (CallOf a) = refl
    has_same (If test s) = has_same s
    has_same (IfElse test s other) = ap₂ (λ a b. a || b) (has_same s) (has_same other)
    has_same (For line variable place elements s) = refl

    have_same : (ss : Statements) → copied.have label turn (close_statements m ss) ≡ here.have label e ss
    have_same NoStatements = refl
    have_same (MoreStatements s ss) = ap₂ (λ a b. a || b) (has_same s) (have_same ss)

-- ---- statements

module _ (limit : ℕ) (next : copy.Next) (next1 : env.Next) (agrees : Agree next next1) where
  turned_value : (m : Map) (turn : List Binding) (e : Env) → Fits m turn e → (a : Expr) (live : Live) (st : State Closure)
      → closed.value limit next (in_turn turn (close m.used a)) live (state_of st) ≡ carried same (here_value limit next1 a e live st)
  turned_value m turn e fits a live st =
      ap (λ u. closed.value limit next u live (state_of st)) (turned m turn e fits a) ∙ value_same limit next next1 agrees a e live st

  mutual
    pub run_same : (s : Statement) (m : Map) (turn : List Binding) (e : Env) → Fits m turn e → (live : Live) (st : State Closure)
        → copied.run limit next turn (close_in m s) live (state_of st) ≡ carried same (here.run limit next1 s e live st)
    run_same (Labelled n s) m turn e fits live st = run_same s m turn e fits live st
    run_same Dummy m turn e fits live st = refl
    run_same (Compound ss) m turn e fits live st = run_all_same ss m turn e fits live st
    run_same (Block line ds ss) m turn e fits live st =
        ap₂ (λ d u. copied.block limit next d u line live (state_of st)) (declarations_turned m turn e fits ds ss)
        (statements_turned m turn e fits ds ss)
        ∙ enter_same same limit InBlock (block_room (what_of e st) ds ss)
        (block_room (what_closed st) (close_declarations (map_without (identifiers_of (of_block ds ss)) (map_in e)) ds)
        (close_statements (map_without (identifiers_of (of_block ds ss)) (map_in e)) ss))
        line live st
        (λ live1 s1. next1.block ds ss e live1 s1)
        (λ live1 s1. next.block (close_declarations (map_without (identifiers_of (of_block ds ss)) (map_in e)) ds)
        (close_statements (map_without (identifiers_of (of_block ds ss)) (map_in e)) ss) live1 s1)
        (block_same (map_in e) (what_closed st) (what_of e st) (proper_in e).used (what_match e st) ds ss)
        (λ live1 s1. agrees.block ds ss e live1 s1)
    run_same (Assign lefts a) m turn e fits live st =
        then_same same same _ _ _ _
        (ap (λ u. closed.addresses limit next u live (state_of st)) (lefts_turned m turn e fits lefts)
        ∙ addresses_same limit next next1 agrees lefts e live st)
        (λ found s1. then_same same same _ _ _ _ (turned_value m turn e fits a live s1)
        (λ v s2. ap (Gives Done) (sym (receive_of found v s2))))
    run_same (GoTo line a) m turn e fits live st =
        then_same same same _ _ _ _
        (ap (λ u. closed.destination limit next u live (state_of st)) (turned m turn e fits a)
        ∙ destination_same limit next next1 agrees a e live st)
        (λ to s1. goes_same to line live s1)
    run_same (CallOf a) m turn e fits live st = then_same same same _ _ _ _ (turned_value m turn e fits a live st) (λ v s1. refl)
    run_same (If test s) m turn e fits live st =
        then_same same same _ _ _ _ (turned_value m turn e fits test live st) (λ v s1.
        either_same same (is_true v) (is_true v) s1 _ _ _ _ refl (λ s2. run_same s m turn e fits live s2) (λ s2. refl))
    run_same (IfElse test s other) m turn e fits live st =
        then_same same same _ _ _ _ (turned_value m turn e fits test live st) (λ v s1.
        either_same same (is_true v) (is_true v) s1 _ _ _ _ refl (λ s2. run_same s m turn e fits live s2)
        (λ s2. run_same other m turn e fits live s2))
    run_same (For line variable place list s) m turn e fits live st =
        let m1 : Map = map_without (labels s) m in
        ap₂ (λ v l. loops.elements limit next (record { line = line; variable = v; place = place; turn = turn; body = close_in m1 s })
        (λ inner s1. copied.run limit next inner (close_in m1 s) live s1) l live (state_of st))
        (name_turned m turn e fits variable) (elements_turned m turn e fits list)
        ∙ elements_same limit next next1 agrees m turn (record { line = line; variable = variable; place = place; body = s; env = e }) fits
        (λ inner s1. here.run limit next1 s inner live s1)
        (λ inner s1. copied.run limit next inner (close_in m1 s) live s1)
        (λ turn1 inner fits1 s1. run_same s m1 turn1 inner fits1 live s1)
        list live st

    pub run_all_same : (ss : Statements) (m : Map) (turn : List Binding) (e : Env) → Fits m turn e → (live : Live) (st : State Closure)
        → copied.run_all limit next turn (close_statements m ss) live (state_of st) ≡ carried same (here.run_all limit next1 ss e live st)
    run_all_same NoStatements m turn e fits live st = refl
    run_all_same (MoreStatements s ss) m turn e fits live st =
        then_same same same _ _ _ _ (run_same s m turn e fits live st) (λ done s1. run_all_same ss m turn e fits live s1)

  mutual
    resume_same : (label : ℕ) (s : Statement) (m : Map) (turn : List Binding) (e : Env) → Fits m turn e → (live : Live) (st : State Closure)
        → copied.resume limit next label turn (close_in m s) live (state_of st) ≡ carried same (here.resume limit next1 label s e live st)
    resume_same label (Labelled n s) m turn e fits live st =
        either_same same (here.is_label label (denotation e n)) (copied.is_label label (name_in_turn turn (close_name m.used n))) st _ _ _ _
        (label_same m turn e fits label n)
        (λ s1. run_same s m turn e fits live s1) (λ s1. resume_same label s m turn e fits live s1)
    resume_same label Dummy m turn e fits live st = refl
    resume_same label (Compound ss) m turn e fits live st = resume_all_same label ss m turn e fits live st
    resume_same label (Block line ds ss) m turn e fits live st = refl
    resume_same label (Assign lefts a) m turn e fits live st = refl
    resume_same label (GoTo line a) m turn e fits live st = refl
    resume_same label (CallOf a) m turn e fits live st = refl
    resume_same label (If test s) m turn e fits live st = resume_same label s m turn e fits live st
    resume_same label (IfElse test s other) m turn e fits live st =
        either_same same (here.has label e s) (copied.has label turn (close_in m s)) st _ _ _ _ (has_same m turn e fits label s)
        (λ s1. resume_same label s m turn e fits live s1) (λ s1. resume_same label other m turn e fits live s1)
    resume_same label (For line variable place list s) m turn e fits live st = refl

    pub resume_all_same : (label : ℕ) (ss : Statements) (m : Map) (turn : List Binding) (e : Env) → Fits m turn e
        → (live : Live) (st : State Closure)
        → copied.resume_all limit next label turn (close_statements m ss) live (state_of st)
        ≡ carried same (here.resume_all limit next1 label ss e live st)
    resume_all_same label NoStatements m turn e fits live st = refl
    resume_all_same label (MoreStatements s ss) m turn e fits live st =
        either_same same (here.has label e s) (copied.has label turn (close_in m s)) st _ _ _ _ (has_same m turn e fits label s)
        (λ s1. then_same same same _ _ _ _ (resume_same label s m turn e fits live s1) (λ done s2. run_all_same ss m turn e fits live s2))
        (λ s1. resume_all_same label ss m turn e fits live s1)
