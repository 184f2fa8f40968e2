-- What is told where a run stops.
use Rattle.std.proofs.Common.{◌≡◌, ℕ, zero, suc, ◌+◌, ◌-◌, ◌<◌, ◌≤◌, Bool, true, false, List, [], ◌∷◌, ◌++◌, refl, sym, ap, ◌∙◌, subst, arith}
use Rattle.std.specs.Prelude.{nat_le, if◌then◌else◌}
use Rattle.std.proofs.lemmas.Bool.{le-leb, eq-eqb, ne_eqb, leb-true}
use Rattle.std.proofs.lemmas.List.{append-nil}
use Rattle.gier_symbol.specs.declared.symbol.Symbol.{Symbol}
use Rattle.gier_order.specs.Flat.Row.{Regs, Ending, Row}
use Rattle.gier_order.specs.Flat.Region.{level_in}
use Rattle.gier_order.specs.Flat.Live as flat
use Rattle.gier_order.specs.Flat.Run.{with_row}
use Rattle.gier_meaning.specs.State.{State}
use Rattle.gier_meaning.specs.Live as live
use Rattle.gier_meaning.specs.Live.{Live, InProgram, InBlock, InProcedure, InEvaluation, Stop}
use Rattle.gier_meaning.specs.Outcome.{Why}
use Rattle.gier_tree.specs.Places.{Places}
use Rattle.gier_env.specs.Env.{Env}
use Rattle.gier_env.specs.Closures.{Closure}
use Rattle.gier_flat.specs.Alike.{IsLine, IsStop, IsShape, AreAlike}
use Rattle.gier_flat.proofs.OrderRows.{Machine}
use Rattle.gier_flat.proofs.StackRelation.{Known, HasShape, Entered, Chain, RunInvariant, StopAgrees}

-- a test that fails
fails : (a b : ℕ) → b < a → nat_le a b ≡ false
fails a b lt = by (nat_le a b) refl
  where
    by : (t : Bool) → nat_le a b ≡ t → t ≡ false
    by true e = let h : a ≤ b = leb-true a b e in absurd (omega (arith, h, lt))
    by false e = refl

module _ (text : List Symbol) (size : ℕ) where
  module _ (K : Known) (words marks : ℕ → ℕ) where
    abbrev is_shape : (top base : ℕ) → live.Shape → flat.Live → Type 0
    is_shape top base shape f = IsShape text shape f.shape f.entered_by × (f.words ≡ top - base)

    shaped : (shape : live.Shape) (top base : ℕ) → words base < base → HasShape shape (marks base) (level_in (words (base + 1))) → Entered text K words marks shape base → is_shape top base shape (flat.live_at words marks top base)
    shaped InProgram top base lt h en = absurd h
    shaped InBlock top base lt h en = rw (fails base (words base) lt) (rw (eq-eqb (marks base) 0 h) (refl, refl))
    shaped (InProcedure line) top base lt h en =
        let no : marks base ≡ 0 → ⊥ = λ e. absurd (omega (arith, h.0, e)) in
        let up : level_in (words (base + 1)) ≡ 0 → ⊥ = λ e. absurd (omega (arith, h.1, e)) in
        rw (fails base (words base) lt) (rw (ne_eqb (marks base) 0 no) (rw (ne_eqb (level_in (words (base + 1))) 0 up) ((refl, en.1), refl)))
    shaped (InEvaluation line) top base lt h en =
        let no : marks base ≡ 0 → ⊥ = λ e. absurd (omega (arith, h.0, e)) in
        rw (fails base (words base) lt) (rw (ne_eqb (marks base) 0 no) (rw (eq-eqb (level_in (words (base + 1))) 0 h.1) ((refl, en.1), refl)))

    pub chained : (lives : Live) (looks base top : ℕ) → base < looks → Chain text K words marks lives base top → AreAlike text lives (flat.live_from looks words marks top base)
    chained [] looks base top lt c = absurd c
    chained (a ∷ more) zero base top lt c = absurd (omega (arith, lt))
    chained (a ∷ []) (suc looks) base top lt c =
        let e : nat_le base (words base) ≡ true = le-leb base (words base) (omega (arith, c.2, c.3)) in
        let n : top - base ≡ a.words = omega (arith, c.3, c.4) in
        rw (flat.live_from, e) (subst (λ u. IsShape text u flat.Program 0) (sym c.0) refl, n, tt)
    chained (a ∷ outer ∷ more) (suc looks) base top lt c =
        let f = shaped a.shape top base c.1 c.3 c.5 in
        let n : top - base ≡ a.words = let e = c.2 in omega (arith, e) in
        let rest : AreAlike text (outer ∷ more) (flat.live_from looks words marks base (words base)) = chained (outer ∷ more) looks (words base) base (omega (arith, c.1, lt)) c.6 in
        subst (λ t. AreAlike text (a ∷ outer ∷ more) (flat.live_at words marks top base ∷ elim t as (λ _. List flat.Live) [ true ↦ [] | false ↦ flat.live_from looks words marks base (words base) ]))
        (sym (fails base (words base) c.1)) (f.0, f.1 ∙ n, rest)

  -- the machine stops where it is, with these registers, which keep the stack
  pub stops_here : (K : Known) (w n : ℕ) (env : Env) (p : Places) (m : Machine) (s s1 : State Closure) (lives : Live) (ending : Ending) (m1 : Regs) (r : Row) (why : Why) (line : ℕ) → RunInvariant text size K w n env p m s lives → IsStop why ending → r.printed ≡ [] → m1.words ≡ m.regs.words → m1.marks ≡ m.regs.marks → m1.base ≡ m.regs.base → m1.top ≡ m.regs.top → m1.started ≡ true → m1.greatest ≡ m.regs.greatest → m1.input ≡ m.regs.input → m1.left ≡ s1.left → s1.printed ≡ s.printed → s1.most ≡ s.most → s1.unread ≡ s.unread → IsLine text m1.place line → StopAgrees text size (record { ending = ending; state = with_row m r m1 }) why (record { live = lives; line = line }) s1
  stops_here K w n env p m s s1 lives ending m1 r why line h ends silent words marks base top started most input left p1 m2 u1 at = record {
    ending = ends;
    printed = ap (λ b. m.printed ++ b) silent ∙ append-nil m.printed ∙ h.printed ∙ sym p1;
    left = left;
    most = most ∙ h.most ∙ sym m2;
    input = input ∙ h.input ∙ sym u1;
    line = at;
    alike = subst (λ t. AreAlike text lives (if t then flat.live_from (suc m1.base) m1.words m1.marks m1.top m1.base else [])) (sym started)
        (subst (λ f. AreAlike text lives (flat.live_from (suc m1.base) f m1.marks m1.top m1.base)) (sym words)
        (subst (λ f. AreAlike text lives (flat.live_from (suc m1.base) m.regs.words f m1.top m1.base)) (sym marks)
        (subst (λ b. AreAlike text lives (flat.live_from (suc b) m.regs.words m.regs.marks m1.top b)) (sym base)
        (subst (λ t. AreAlike text lives (flat.live_from (suc m.regs.base) m.regs.words m.regs.marks t m.regs.base)) (sym top)
        (chained K m.regs.words m.regs.marks lives (suc m.regs.base) m.regs.base m.regs.top (omega arith) h.chain)))));
  }
