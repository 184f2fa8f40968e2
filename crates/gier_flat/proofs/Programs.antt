-- A program of this part of the language: the flat run of its object tells what its meaning tells.
use Rattle.std.proofs.Common.{◌≡◌, ℕ, ◌+◌, ◌<◌, ◌≤◌, Bool, true, false, List, [], ◌∷◌, length, Some, None, refl, sym, ap₂, ◌∙◌, subst, arith, inr, ⊎_elim}
use Rattle.std.specs.Prelude.{◌^◌, max, nat_lt, if◌then◌else◌}
use Rattle.std.proofs.lemmas.Bool.{ltb-true, ltb-false}
use Rattle.gier_order.specs.declared.operation.Operation.TheVariants as op
use Rattle.gier_order.specs.Flat.Run.{flat, machine_at_start}
use Rattle.gier_order.specs.Flat.Rows.{first_activation}
use Rattle.gier_tree.specs.Orders as code
use Rattle.gier_tree.specs.Orders.{Following, order, room_order, behind_word}
use Rattle.gier_tree.specs.Object.{need_behind}
use Rattle.gier_tree.specs.Coded.{scopes_of}
use Rattle.gier_tree.specs.Need.{need_statement}
use Rattle.gier_tree.specs.Text7.{code_statement}
use Rattle.gier_tree.specs.Texts.{Where}
use Rattle.gier_tree.specs.Places.{Places}
use Rattle.gier_tree.specs.Trees as tree
use Rattle.gier_meaning.specs.Plain.{statement}
use Rattle.gier_meaning.specs.Tree as plain_tree
use Rattle.gier_meaning.specs.State.{State, given_out}
use Rattle.gier_meaning.specs.TurnLabels.{labels_made}
use Rattle.gier_meaning.specs.Accounts.{with_most}
use Rattle.gier_meaning.specs.Live.{Live, InProgram}
use Rattle.gier_meaning.specs.Observation.{observation}
use Rattle.gier_meaning.specs.Outcome.{Outcome, Finished, is_among}
use Rattle.gier_env.specs.Env.{Env}
use Rattle.gier_env.specs.Closures.{Closure}
use Rattle.gier_env.specs.Statements.{have}
use Rattle.gier_meaning.specs.Entry.{live_after_taking}
use Rattle.gier_env.specs.Blocks.{activated_body}
use Rattle.gier_env.specs.Meaning.{within, program_run}
use Rattle.gier_flat.specs.Alike.{TellsTheSame}
use Rattle.gier_flat.proofs.Positions.{At}
use Rattle.gier_flat.proofs.OrderRows.{Machine, object}
use Rattle.gier_flat.proofs.StackRelation.{Known, Behind}
use Rattle.gier_flat.proofs.Composition.{MovesTo, inner}
use Rattle.gier_flat.proofs.Orders.{to}
use Rattle.gier_flat.proofs.Assignments.{NothingShown}
use Rattle.gier_flat.specs.Fair.{FairStatement}
use Rattle.gier_flat.proofs.Setting.{Setting}
use Rattle.gier_flat.proofs.NextRuns.{AreWithin, IsScope, Outside, NextRuns}
use Rattle.gier_flat.proofs.Scopes.{body_runs}
use Rattle.gier_flat.proofs.NewActivation.{StackBelow, NewActivation, Inner, inner_within, opens, opened_end}
use Rattle.gier_flat.proofs.StartAndStop.{NothingKnown, ComesTo, starts, no_start, stops_so, behind_start}
use Rattle.gier_flat.proofs.RunReport.{reports}

module _ (setting : Setting) where
  under_nothing : (m : Machine) (s : State Closure) (at : ℕ) → StackBelow setting.text setting.size NothingKnown m s at
  under_nothing m s at = record {
    low = λ q i. absurd i;
    low_cell = λ e q i. absurd i;
    apart = λ e q i j. absurd i;
    one_cell = λ e q r i j. absurd i;
    other = λ d e q i j. absurd i;
    known = λ e q i. absurd i;
    known_label = λ e b a i. absurd i;
    cells = λ e q i. absurd i;
    one_label = λ e b a b1 a1 i j. absurd i;
    holds = λ e q i. absurd i;
    frames = λ env p b i. absurd i;
    lefts = λ env p b i. absurd i;
    label_ends = λ e b a i. absurd i;
  }

  module _ (input : List ℕ) (steps line : ℕ) (env : Env) (p : Places) (at : Where) (u : tree.Statement) (f : FairStatement p at u) (below : AreWithin p at.level) (deeper : NextRuns setting steps (within setting.size steps)) (own : List ℕ) (s0 : State Closure) (st : code.State) (beyond : Following) where
    abbrev pub room : ℕ
    room = 3 + need_statement (scopes_of p) u

    abbrev pub go : Following
    go = λ s. code_statement p at u 1 3 s (λ s1. order op.Stop 0 0 line s1 beyond)

    abbrev pub s1 : State Closure
    s1 = given_out (length own) (labels_made own (with_most room s0))

    abbrev pub lives : Live
    lives = record { shape = InProgram; words = room } ∷ []

    abbrev pub m0 : Machine
    m0 = machine_at_start 0 input steps

    abbrev pub m1 : Machine
    m1 = to setting.text setting.size setting.ends m0 (record (first_activation (object setting.text) setting.size m0.regs 1 room) { place = 1 })

    abbrev pub inside : ℕ → Bool
    inside label = have label env (plain_tree.MoreStatements (statement u) plain_tree.NoStatements)

    module _ (low : room < 2 ^ 24) (stands : At setting.text st (room_order op.Start 1 3 line st go)) (first : 0 ≡ st.words) (need_is : need_behind (go (behind_word st line)) 0 ≡ need_statement (scopes_of p) u) (permitted : s0.left ≡ steps) (unread : s0.unread ≡ input) (silent : s0.printed ≡ []) (none_yet : s0.most ≡ 0) (none_given : s0.fresh ≡ 0)
        (NewLabel : ℕ → ℕ → Type 0) (new : room ≤ setting.size → NewActivation setting.text setting.size NothingKnown m0 m1 s0 s1 env p 0 (λ e q. ⊥) NewLabel 0 1 0 3 (need_statement (scopes_of p) u) room lives) (its : (e a : ℕ) → NewLabel e a → (is_among e own ≡ true) × (inside e ≡ true)) where
      abbrev K1 : Known
      K1 = Inner setting.text setting.size NothingKnown m0 m1 s0 s1 env p 0 (λ e q. ⊥) NewLabel

      module _ (fit : room ≤ setting.size) where
        abbrev n : NewActivation setting.text setting.size NothingKnown m0 m1 s0 s1 env p 0 (λ e q. ⊥) NewLabel 0 1 0 3 (need_statement (scopes_of p) u) room lives
        n = new fit

        same_left : s1.left ≡ steps
        same_left = sym n.left

        scope : IsScope setting own inside K1 m1
        scope = record {
          labels = λ e b a is l. ⊎_elim (λ x. absurd x) (λ x. (x.0, (its e a x.1).1)) l;
          end = inr (omega arith, omega arith);
          top = omega (arith, n.words 2 ∙ opened_end m0.regs.words 0 0 1 0 room);
        }

        out : (e b a : ℕ) → Outside setting own K1 e b a → ⊥
        out e b a o = ⊎_elim (λ x. absurd x) (λ x. absurd (subst (λ t. elim t as (λ _. Type 0) [ true ↦ Unit {0} | false ↦ ⊥ ]) (sym (its e a x.1).0 ∙ o.1) tt)) o.0

        moves_in : MovesTo setting.text setting.size NothingKnown m0 m1 s0 s1
        moves_in = record {
          reach = starts setting 3 (need_statement (scopes_of p) u) line input steps st go (omega arith) low stands first need_is fit;
          keeps = λ q i. absurd i;
          marks = λ q i. absurd i;
          sorts = λ k lt. absurd (omega (arith, lt));
          fresh = omega (arith, none_given);
          fewer = omega (arith, same_left, permitted);
          deeper = omega arith;
          higher = omega arith;
        }

        runs : ComesTo setting m0 (activated_body setting.size (within setting.size steps) (statement u) own env lives (with_most room s0))
        runs =
            let r : Outcome Closure Finished = activated_body setting.size (within setting.size steps) (statement u) own env lives (with_most room s0) in
            stops_so setting NothingKnown m0 s0 m1.regs.base m1.regs.top line beyond r
            (inner setting.text setting.size Finished NothingKnown K1 (λ e b a. ⊥) (Outside setting own K1) m0 m1 s0 s1 (Behind setting.text setting.size (λ s. order op.Stop 0 0 line s beyond)) m1.regs.base m1.regs.top (NothingShown setting K1) r
            (inner_within setting.text setting.size NothingKnown m0 m1 s0 s1 env p 0 (λ e q. ⊥) NewLabel 0 1 0 3 (need_statement (scopes_of p) u) room lives (under_nothing m0 s0 0) n) moves_in out
            (body_runs setting env p lives (within setting.size steps) steps deeper at below own u f 1 K1 3 m1 s1 (behind_word st line) (λ s. order op.Stop 0 0 line s beyond) (omega (arith, same_left))
            (opens setting.text setting.size NothingKnown m0 m1 s0 s1 env p 0 (λ e q. ⊥) NewLabel 0 1 0 3 (need_statement (scopes_of p) u) room lives (under_nothing m0 s0 0) n) scope
            (behind_start setting 3 (need_statement (scopes_of p) u) line input steps st go (omega arith) low stands first need_is) (omega (arith, first))))

      -- with room or without it
      pub program_told : TellsTheSame setting.text (flat (object setting.text) 0 input steps setting.size) (observation steps (program_run setting.size (within setting.size steps) line (statement u) own env (live_after_taking setting.size 0 0 room) room s0))
      program_told = reports setting input steps (program_run setting.size (within setting.size steps) line (statement u) own env (live_after_taking setting.size 0 0 room) room s0)
          (subst (λ x. ComesTo setting m0 (program_run setting.size (within setting.size steps) line (statement u) own env x room s0)) (sym taken_is) (by (nat_lt setting.size room) refl))
        where
          taken_is : live_after_taking setting.size 0 0 room ≡ (if nat_lt setting.size room then None else Some room)
          taken_is =
              let e : 0 + room ≡ room = omega arith in
              let f : max 0 (0 + room) ≡ room = omega arith in
              ap₂ (λ x y. if nat_lt setting.size x then None else Some y) e f

          by : (t : Bool) → nat_lt setting.size room ≡ t → ComesTo setting m0 (program_run setting.size (within setting.size steps) line (statement u) own env (if t then None else Some room) room s0)
          by true e = no_start setting 3 (need_statement (scopes_of p) u) line input steps st go (omega arith) low stands first need_is s0 (ltb-true setting.size room e) silent permitted none_yet unread
          by false e = runs (ltb-false setting.size room e)
