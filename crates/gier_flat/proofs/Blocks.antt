-- A block whose declarations need no code: it is entered, its statements are executed, and it is left.
use Rattle.std.proofs.Common.{◌≡◌, ℕ, zero, suc, ◌+◌, ◌<◌, ◌≤◌, true, false, List, ◌∷◌, sym, ap, ◌∙◌, subst, arith, inr, ⊎_elim}
use Rattle.std.specs.Prelude.{◌^◌}
use Rattle.gier_order.specs.declared.operation.Operation.TheVariants as op
use Rattle.gier_tree.specs.Orders as code
use Rattle.gier_tree.specs.Orders.{Following, room_order, behind_word}
use Rattle.gier_tree.specs.Object.{need_behind}
use Rattle.gier_tree.specs.Coded.{scopes_of}
use Rattle.gier_tree.specs.Need.{need_statements}
use Rattle.gier_tree.specs.Text7.{code_statements}
use Rattle.gier_tree.specs.Texts.{Where}
use Rattle.gier_tree.specs.Places.{Places}
use Rattle.gier_tree.specs.Trees as tree
use Rattle.gier_meaning.specs.Plain.{statements}
use Rattle.gier_meaning.specs.Tree as plain_tree
use Rattle.gier_meaning.specs.State.{State}
use Rattle.gier_meaning.specs.Accounts.{enter}
use Rattle.gier_meaning.specs.Live.{Live, InBlock}
use Rattle.gier_meaning.specs.Outcome.{Finished, is_among, caught}
use Rattle.gier_env.specs.Env.{Env}
use Rattle.gier_env.specs.Closures.{Closure}
use Rattle.gier_env.specs.Statements.{have, run_all}
use Rattle.gier_env.specs.Meaning.{within}
use Rattle.gier_flat.proofs.Positions.{At}
use Rattle.gier_flat.proofs.OrderRows.{Machine}
use Rattle.gier_flat.proofs.StackRelation.{Known, sort, RunInvariant, RefinesOutcome, Behind}
use Rattle.gier_flat.proofs.Composition.{MovesTo}
use Rattle.gier_flat.proofs.Assignments.{NothingShown}
use Rattle.gier_flat.proofs.Setting.{Setting}
use Rattle.gier_flat.proofs.NextRuns.{IsScope, Outside}
use Rattle.gier_flat.proofs.BlockRuns.{ScopeRuns}
use Rattle.gier_flat.proofs.NewActivation.{StackBelow, under_here, NewActivation, Inner, inner_within, opens, opened_end, opened_old}
use Rattle.gier_flat.proofs.BlockEntry.{entered, entered_state, entered_moves, enters, leaves, body_at, base_low}

module _ (setting : Setting) where
  module _ (K : Known) (w0 need0 : ℕ) (env : Env) (p : Places) (m : Machine) (s : State Closure) (lives : Live) (h : RunInvariant setting.text setting.size K w0 need0 env p m s lives)
      (level words line : ℕ) (st : code.State) (beyond : Following) (q : Places) (place : Where) (ss : tree.Statements) where
    abbrev pub need : ℕ
    need = need_statements (scopes_of q) ss

    abbrev pub room : ℕ
    room = words + need_statements (scopes_of q) ss

    abbrev pub go : Following
    go = λ s1. code_statements q place ss level words s1 (λ s2. code.order op.Leave 0 0 line s2 (λ s3. code.needs (need_statements (scopes_of q) ss) s3 beyond))

    abbrev pub live1 : Live
    live1 = record { shape = InBlock; words = room } ∷ lives

    module _ (below : level < 256) (header : 3 ≤ words) (low : room < 2 ^ 24) (stands : At setting.text st (room_order op.Block level words line st go)) (need_is : need_behind (go (behind_word st line)) 0 ≡ need_statements (scopes_of q) ss) (here : m.regs.place ≡ st.words) where
      abbrev m1 : ℕ → Machine
      m1 left = entered setting K w0 need0 env p m s lives h level words (need_statements (scopes_of q) ss) line st go below header low stands need_is here left

      -- what declarations come to: new entities, and what they are known as
      module _ (ds : plain_tree.Declarations) (own : List ℕ) (env1 : Env) (s1 : ℕ → State Closure) (NewCell NewLabel : ℕ → ℕ → Type 0) (given : (left : ℕ) → s.fresh ≤ (s1 left).fresh)
          (declares : (k left : ℕ) → (within setting.size (suc k)).block ds (statements ss) env live1 (entered_state setting K w0 need0 env p m s lives h level words (need_statements (scopes_of q) ss) line st go below header low stands need_is here left) ≡ caught own (λ label s2. (within setting.size k).rest label own (statements ss) env1 live1 s2) (run_all setting.size (within setting.size k) (statements ss) env1 live1 (s1 left)))
          (new : (left : ℕ) → s.left ≡ suc left → m.regs.top + room ≤ setting.size → NewActivation setting.text setting.size K m (m1 left) s (s1 left) env1 q m.regs.top NewCell NewLabel m.regs.base level m.regs.base words (need_statements (scopes_of q) ss) room live1)
          (its : (e a : ℕ) → NewLabel e a → (is_among e own ≡ true) × (have e env1 (statements ss) ≡ true)) (ours : (e : ℕ) → is_among e own ≡ true → K.fresh ≤ e) where
        module _ (k left : ℕ) (le : left ≤ k) (e : s.left ≡ suc left) (fit : m.regs.top + room ≤ setting.size) where
          abbrev K1 : Known
          K1 = Inner setting.text setting.size K m (m1 left) s (s1 left) env1 q m.regs.top NewCell NewLabel

          abbrev n : NewActivation setting.text setting.size K m (m1 left) s (s1 left) env1 q m.regs.top NewCell NewLabel m.regs.base level m.regs.base words (need_statements (scopes_of q) ss) room live1
          n = new left e fit

          under : StackBelow setting.text setting.size K m s m.regs.top
          under = under_here setting.text setting.size K w0 need0 env p m s lives h

          scope : IsScope setting own (λ label. have label env1 (statements ss)) K1 (m1 left)
          scope = record {
            labels = λ d b a is l. ⊎_elim (λ x. let old = h.known_label d b a x in let fresh = ours d is in absurd (omega (arith, old, fresh))) (λ x. (x.0, (its d a x.1).1)) l;
            end = inr (omega arith, omega arith);
            top = n.words (m.regs.top + 2) ∙ opened_end m.regs.words m.regs.top m.regs.base level m.regs.base room;
          }

          moves_in : MovesTo setting.text setting.size K m (m1 left) s (s1 left)
          moves_in =
              let w = entered_moves setting K w0 need0 env p m s lives h level words (need_statements (scopes_of q) ss) line st go below header low stands need_is here left e fit in
              record {
                reach = w.reach;
                keeps = w.keeps;
                marks = w.marks;
                sorts = λ x lt. ap sort (n.kept x lt);
                fresh = given left;
                fewer = let l : left ≡ (s1 left).left = n.left in omega (arith, l, e);
                deeper = omega arith;
                higher = w.higher;
              }

          out : (d b a : ℕ) → Outside setting own K1 d b a → K.label d b a
          out d b a o = ⊎_elim (λ x. x) (λ x. absurd (subst (λ t. elim t as (λ _. Type 0) [ true ↦ Unit {0} | false ↦ ⊥ ]) (sym (its d a x.1).0 ∙ o.1) tt)) o.0

          entered_runs : ScopeRuns setting k q place ss level → RefinesOutcome setting.text setting.size Finished K K.label m s (Behind setting.text setting.size beyond) m.regs.base m.regs.top (NothingShown setting K) (caught own (λ label s2. (within setting.size k).rest label own (statements ss) env1 live1 s2) (run_all setting.size (within setting.size k) (statements ss) env1 live1 (s1 left)))
          entered_runs run =
              let same_left : left ≡ (s1 left).left = n.left in
              leaves setting K K1 (inner_within setting.text setting.size K m (m1 left) s (s1 left) env1 q m.regs.top NewCell NewLabel m.regs.base level m.regs.base words (need_statements (scopes_of q) ss) room live1 under n) m (m1 left) s (s1 left) m.regs.top room (need_statements (scopes_of q) ss) line beyond moves_in (omega arith) (inr (omega arith, omega arith)) (n.words m.regs.top ∙ opened_old m.regs.words m.regs.top m.regs.base level m.regs.base room)
              (base_low setting K w0 need0 env p m s lives h level words (need_statements (scopes_of q) ss) line st go below header low stands need_is here) (omega (arith, header)) fit
              (Outside setting own K1)
              (caught own (λ label s2. (within setting.size k).rest label own (statements ss) env1 live1 s2) (run_all setting.size (within setting.size k) (statements ss) env1 live1 (s1 left))) out
              (run env1 live1 own K1 words (m1 left) (s1 left) (behind_word st line) (λ s2. code.order op.Leave 0 0 line s2 (λ s3. code.needs (need_statements (scopes_of q) ss) s3 beyond)) (omega (arith, le, same_left))
              (opens setting.text setting.size K m (m1 left) s (s1 left) env1 q m.regs.top NewCell NewLabel m.regs.base level m.regs.base words (need_statements (scopes_of q) ss) room live1 under n) scope
              (body_at setting K w0 need0 env p m s lives h level words (need_statements (scopes_of q) ss) line st go below header low stands need_is here) (omega (arith, here)))

        pub block_runs : (steps : ℕ) → ((k : ℕ) → k < steps → ScopeRuns setting k q place ss level) → s.left ≤ steps → RefinesOutcome setting.text setting.size Finished K K.label m s (Behind setting.text setting.size beyond) m.regs.base m.regs.top (NothingShown setting K) (enter setting.size InBlock room line lives s (λ live s2. (within setting.size steps).block ds (statements ss) env live s2))
        block_runs steps runs le =
            enters setting K w0 need0 env p m s lives h level words (need_statements (scopes_of q) ss) line st go below header low stands need_is here K.label (Behind setting.text setting.size beyond) (λ live s2. (within setting.size steps).block ds (statements ss) env live s2)
            (λ left e fit. by steps runs le left e fit)
          where
            by : (steps : ℕ) → ((k : ℕ) → k < steps → ScopeRuns setting k q place ss level) → s.left ≤ steps → (left : ℕ) → s.left ≡ suc left → m.regs.top + room ≤ setting.size → RefinesOutcome setting.text setting.size Finished K K.label m s (Behind setting.text setting.size beyond) m.regs.base m.regs.top (NothingShown setting K) ((within setting.size steps).block ds (statements ss) env live1 (entered_state setting K w0 need0 env p m s lives h level words (need_statements (scopes_of q) ss) line st go below header low stands need_is here left))
            by zero runs le left e fit = absurd (omega (arith, le, e))
            by (suc k) runs le left e fit =
                subst (λ r. RefinesOutcome setting.text setting.size Finished K K.label m s (Behind setting.text setting.size beyond) m.regs.base m.regs.top (NothingShown setting K) r) (sym (declares k left))
                (entered_runs k left (omega (arith, le, e)) e fit (runs k (omega arith)))
