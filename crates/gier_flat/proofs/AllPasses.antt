-- Behind the code of any statement stands what follows it: code carries each claim, so this one.
use Rattle.std.proofs.Common.{◌≡◌, ℕ, ◌+◌, ◌≤◌, true, false, List, sym, ap, ◌∙◌, subst, arith}
use Rattle.std.proofs.lemmas.Bool.{eq-eqb}
use Rattle.std.specs.Prelude.{◌==◌}
use Rattle.gier_symbol.specs.declared.symbol.Symbol.{Symbol}
use Rattle.gier_symbol.specs.Texts.{order_base}
use Rattle.gier_order.specs.declared.operation.Operation.{Operation}
use Rattle.gier_order.specs.declared.operation.Operation.TheVariants as op
use Rattle.gier_tree.specs.Orders.{State, Following, Code, number_of, behind_word}
use Rattle.gier_tree.specs.Object.{piece_of, words_of}
use Rattle.gier_tree.specs.Coded.{code_expr}
use Rattle.gier_tree.specs.Places.{Places}
use Rattle.gier_tree.specs.Text7.{code_group, code_statement, code_unconditional}
use Rattle.gier_tree.specs.Texts.{Where}
use Rattle.gier_tree.specs.Trees.{Expr, Group, MkCompound, Statement, NoStatements, OneUnconditional, Unconditional}
use Rattle.gier_tree.specs.Words.{HasStop, stop_tag}
use Rattle.gier_complete.proofs.Passing.{IsNoStop, Ahead, Claim, IsCarried, CodeCarries, none}
use Rattle.gier_complete.proofs.ExpressionsCarry.{expr_carries}
use Rattle.gier_complete.proofs.OrderPieces.{piece_is, is_another}
use Rattle.gier_complete.proofs.StatementsCarry.{group_so}
use Rattle.gier_flat.proofs.Positions.{At, behind}
use Rattle.gier_flat.proofs.Continuations.{Passes}

module _ (text : List Symbol) (size : ℕ) (ends : HasStop text) where
  module _ (from : State) (go : Following) where
    -- where the symbols stand, what follows them stands behind
    abbrev Comes : Claim
    Comes n st rest = (from.words ≤ st.words) → At text st rest → (st1 : State) × At text st1 (go st1) × (from.words ≤ st1.words)

    no_stop : (o : Operation) → IsNoStop o → order_base + number_of o ≡ stop_tag → ⊥
    no_stop o other e =
        let same : (number_of o == number_of op.Stop) ≡ true = eq-eqb (number_of o) (number_of op.Stop) (omega (arith, e)) in
        absurd (subst (λ t. elim t as (λ _. Type 0) [ true ↦ ⊥ | false ↦ Unit {0} ]) (sym (is_another o other) ∙ same) tt)

    carried : IsCarried Comes
    carried = record {
      an_order = λ o other value line n st rest h le at. h (omega (arith, le)) (behind text st (behind_word st line) _ rest at (no_stop o other) (let w : words_of (piece_of (record { tag = order_base + number_of o; value = value; line = line })) ≡ 1 = ap words_of (piece_is o value line) in omega (arith, w)));
      a_use = λ value line n st rest h le at. h (omega (arith, le)) (behind text st (behind_word st line) _ rest at (λ e. absurd (omega (arith, e))) (omega arith));
      a_word_use = λ value line n st rest h le at. h (omega (arith, le)) (behind text st (behind_word st line) _ rest at (λ e. absurd (omega (arith, e))) (omega arith));
      a_word = λ value line n st rest h le at. h (omega (arith, le)) (behind text st (behind_word st line) _ rest at (λ e. absurd (omega (arith, e))) (omega arith));
      a_room = λ value line n st rest h le at. h (omega (arith, le)) (behind text st (behind_word st line) _ rest at (λ e. absurd (omega (arith, e))) (omega arith));
      a_place = λ value line n st rest h le at. h le (behind text st st _ rest at (λ e. absurd (omega (arith, e))) (omega arith));
      a_need = λ value line n st rest h le at. h le (behind text st st _ rest at (λ e. absurd (omega (arith, e))) (omega arith));
      a_new = λ n st rest h le at. h le (record { before = at.before; whole = at.whole; count = at.count; open_yet = at.open_yet });
      same = λ n m rooms places st rest h. h;
    }

  -- nothing is asked of what follows
  abbrev nothing : Ahead
  nothing = record { rooms = 0; places = none }

  pub passes : (c : Code) → ((P : Claim) → IsCarried P → CodeCarries P c) → (level w : ℕ) → Passes text size ends (c level w)
  passes c carry level w st go at = carry (Comes st go) (carried st go) level w nothing go (λ s le at1. (s, at1, le)) st (omega arith) at

  pub expr_passes : (p : Places) (e : Expr) (level w : ℕ) → Passes text size ends (code_expr p e level w)
  expr_passes p e = passes (code_expr p e) (λ P h. expr_carries P h p e)

  pub group_passes : (p : Places) (at : Where) (g : Group) (level w : ℕ) → Passes text size ends (code_group p at g level w)
  group_passes p at g level w st go at1 = group_so (Comes st go) (carried st go) p at g level w nothing go (λ s le at2. (s, at2, le)) st (omega arith) at1

  -- it is a group of its own
  pub statement_passes : (p : Places) (at : Where) (s : Statement) (level w : ℕ) → Passes text size ends (code_statement p at s level w)
  statement_passes p at s = group_passes p at (MkCompound 0 s NoStatements 0)

  pub unconditional_passes : (p : Places) (at : Where) (u : Unconditional) (level w : ℕ) → Passes text size ends (code_unconditional p at u level w)
  unconditional_passes p at u = statement_passes p at (OneUnconditional u)
