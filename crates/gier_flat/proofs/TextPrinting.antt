-- The call of `outtext` with a string: the jump over its words, its address, and the order that prints it.
use Rattle.std.proofs.Common.{◌≡◌, ℕ, suc, ◌+◌, ◌/◌, ◌<◌, ◌≤◌, List, [], ◌++◌, length, refl, sym, ap, ◌∙◌, subst, arith}
use Rattle.std.specs.Prelude.{◌^◌}
use Rattle.std.proofs.lemmas.Bool.{lt-ltb}
use Rattle.std.proofs.lemmas.List.{append-nil}
use Rattle.gier_order.specs.declared.operation.Operation.TheVariants as op
use Rattle.gier_order.specs.Flat.Row.{Regs, On, Row, plain, behind_ref}
use Rattle.gier_order.specs.Flat.Rows.{effect, prints_string}
use Rattle.gier_order.specs.Flat.Run.{with_row}
use Rattle.gier_tree.specs.Coded.{string_code, string_words, bytes_words}
use Rattle.gier_tree.specs.Object.{address_of}
use Rattle.gier_tree.specs.Orders as code
use Rattle.gier_tree.specs.Orders.{Following, order, with_label, define, new, data_words, behind_word, first_label}
use Rattle.gier_tree.specs.Places.{Places}
use Rattle.gier_meaning.specs.Live.{Live}
use Rattle.gier_meaning.specs.State.{State, with_printed}
use Rattle.gier_meaning.specs.Outcome.{Gives, Finished, Done}
use Rattle.gier_env.specs.Closures.{Closure}
use Rattle.gier_env.specs.Env.{Env}
use Rattle.gier_flat.specs.Fair.{AreBytes}
use Rattle.gier_flat.proofs.Positions.{At, within}
use Rattle.gier_flat.proofs.OrderRows.{Machine, object, Reach, reach_on, onward}
use Rattle.gier_flat.proofs.StackRelation.{Known, RunInvariant, RefinesOutcome, Behind}
use Rattle.gier_flat.proofs.Orders.{to, AtOrder, AtLabelledOrder, far, row_of, order_next, labelled_next, labelled_far, labelled_row_of, goes_by, placed, defined, on_row, needed}
use Rattle.gier_flat.proofs.Expressions.{jump_reach}
use Rattle.gier_flat.proofs.Assignments.{NothingShown}
use Rattle.gier_flat.proofs.Setting.{Setting}
use Rattle.gier_flat.proofs.Strings as strings
use Rattle.gier_flat.proofs.Strings.{words_stand, count_words, string_prints, Prints}

module _ (setting : Setting) (n : ℕ) (env : Env) (p : Places) (lives : Live) where
  -- behind the words: the string's address is taken, and the order prints it
  text_prints : (K : Known) (w need : ℕ) (m : Machine) (m1 : Machine) (s : State Closure) (bytes : List ℕ) (start line at_line : ℕ) (st : code.State) (go : Following) → RunInvariant setting.text setting.size K w need env p m s lives → AreBytes bytes
      → Reach setting.text setting.size m m1 → m1 ≡ to setting.text setting.size setting.ends m (record m.regs { place = st.words })
      → At setting.text st (with_label op.Short 0 start at_line st (λ s1. order op.Lib 0 2 line s1 go))
      → start < 2 ^ 24 → strings.Stand (object setting.text) (address_of setting.text start 0) (string_words bytes) → address_of setting.text start 0 + (length bytes + 4) / 5 < length (object setting.text)
      → RefinesOutcome setting.text setting.size Finished K K.label m s (Behind setting.text setting.size go) m.regs.base m.regs.top (NothingShown setting K) (Gives Done (with_printed bytes s))
  text_prints K w need m m1 s bytes start line at_line st go h are reach is at low stand short =
      let a : ℕ = address_of setting.text start 0 in
      let near : a < 2 ^ 24 = omega (arith, short, setting.short) in
      let m2 : Machine = to setting.text setting.size setting.ends m (record m.regs { place = st.words }) in
      let reach2 : Reach setting.text setting.size m m2 = subst (λ u. Reach setting.text setting.size m u) is reach in
      let prints : Following = λ s1. order op.Lib 0 2 line s1 go in
      let sd : AtLabelledOrder setting.text setting.size setting.ends m2 op.Short 0 start at_line st prints = record { at = at; here = refl; started = h.started; low = omega arith; small = low; near = near; fields = refl } in
      let next_is = labelled_far setting.text setting.size setting.ends m2 op.Short 0 start at_line st prints sd in
      let m3r : Regs = record m2.regs { r = a; place = m2.regs.place + 1 } in
      let e : effect (object setting.text) setting.size m2.regs op.Short 0 a ≡ plain (On m3r) = on_row setting.text setting.size setting.ends m2.regs next_is (record m2.regs { r = a }) in
      let reach3 = goes_by setting.text setting.size setting.ends m2 op.Short 0 a m3r (labelled_row_of setting.text setting.size setting.ends m2 op.Short 0 start at_line st prints sd) e in
      let m3 : Machine = to setting.text setting.size setting.ends m2 m3r in
      let st3 : code.State = behind_word st at_line in
      let at3 : At setting.text st3 (order op.Lib 0 2 line st3 go) = labelled_next setting.text setting.size setting.ends op.Short 0 start at_line st prints at in
      let here3 : m3.regs.place ≡ st3.words = omega arith in
      let sd3 : AtOrder setting.text setting.size setting.ends m3 op.Lib 0 2 line st3 go = record { at = at3; here = here3; started = h.started; low = omega arith; small = omega arith; fields = refl; other = λ e. absurd (omega (arith, e)) } in
      let next3 = far setting.text setting.size setting.ends m3 op.Lib 0 2 line st3 go sd3 in
      let shown : Prints (object setting.text) setting.size m3.regs (prints_string (object setting.text) setting.size m3.regs a) bytes = string_prints (object setting.text) setting.size m3.regs next3 bytes a are stand short in
      let r1 : Row = prints_string (object setting.text) setting.size m3.regs a in
      let r : Row = behind_ref m3.regs.place r1 in
      let m4r : Regs = record m3.regs { place = m3.regs.place + 1 } in
      let f : effect (object setting.text) setting.size m3.regs op.Lib 0 2 ≡ r1 = needed _ _ (lt-ltb (m3.regs.place + 1) (length (object setting.text)) next3) in
      let m4 : Machine = with_row m3 r m4r in
      let reach4 : Reach setting.text setting.size m3 m4 = onward setting.text setting.size m3 r m4r (row_of setting.text setting.size setting.ends m3 op.Lib 0 2 line st3 go sd3 ∙ ap (behind_ref m3.regs.place) f) shown.step in
      let printed : ((m.printed ++ []) ++ []) ++ r1.printed ≡ s.printed ++ bytes = ap (λ b. (b ++ []) ++ r1.printed) (append-nil m.printed) ∙ ap (λ b. b ++ r1.printed) (append-nil m.printed) ∙ ap (λ b. m.printed ++ b) shown.printed ∙ ap (λ b. b ++ bytes) h.printed in (
        m4,
        reach_on setting.text setting.size m m2 m4 reach2 (reach_on setting.text setting.size m2 m3 m4 reach3 reach4),
        (behind_word st3 line, order_next setting.text setting.size setting.ends op.Lib 0 2 line st3 go (λ e. absurd (omega (arith, e))) at3, omega (arith, here3)),
        tt,
        record {
          on_base = refl;
          at_top = refl;
          started = h.started;
          keeps = λ q i. refl;
          marks = λ q i. refl;
          holds = h.holds;
          sorts = λ k lt. refl;
          left = h.left;
          most = h.most;
          printed = printed;
          input = h.input;
          fresh = omega arith;
          fewer = omega arith;
          deeper = omega arith;
          higher = omega arith;
        },
      )

  pub text_runs : (K : Known) (w need : ℕ) (m : Machine) (s : State Closure) (bytes : List ℕ) (at_line line : ℕ) (st : code.State) (go : Following) → RunInvariant setting.text setting.size K w need env p m s lives → AreBytes bytes
      → At setting.text st (string_code bytes at_line st (λ s1. order op.Lib 0 2 line s1 go)) → m.regs.place ≡ st.words
      → RefinesOutcome setting.text setting.size Finished K K.label m s (Behind setting.text setting.size go) m.regs.base m.regs.top (NothingShown setting K) (Gives Done (with_printed bytes s))
  text_runs K w need m s bytes at_line line st go h are at here =
      let prints : Following = λ s1. order op.Lib 0 2 line s1 go in
      let x : ℕ = first_label + st.labels in
      let sx : code.State = record { labels = suc st.labels; line = st.line; words = st.words } in
      let start : ℕ = first_label + suc st.labels in
      let sy : code.State = record { labels = suc (suc st.labels); line = at_line; words = suc st.words } in
      let ends_by : Following = λ s4. define x s4 (λ s5. with_label op.Short 0 start at_line s5 prints) in
      let words : Following = λ s3. data_words (string_words bytes) at_line s3 ends_by in
      let behind_jump : Following = λ s1. new s1 (λ y s2. define y s2 (λ s3. data_words (string_words bytes) at_line s3 (λ s4. define x s4 (λ s5. with_label op.Short 0 y at_line s5 prints)))) in
      let at1 : At setting.text sy (define start sy words) = labelled_next setting.text setting.size setting.ends op.Jump 0 x at_line sx behind_jump at in
      let where_start = placed setting.text setting.size setting.ends setting.right sy start sy.line (words sy) at1 in
      let at2 : At setting.text sy (words sy) = defined setting.text setting.size setting.ends start sy words at1 in
      let there = words_stand setting.text (string_words bytes) at_line sy ends_by at2 in
      let count = there.words in
      let many : length (bytes_words (length bytes) bytes) ≡ (length bytes + 4) / 5 = count_words (length bytes) bytes (omega arith) in
      let sz : code.State = there.state in
      let at3 : At setting.text sz (define x sz (λ s5. with_label op.Short 0 start at_line s5 prints)) = there.at in
      let at4 : At setting.text sz (with_label op.Short 0 start at_line sz prints) = defined setting.text setting.size setting.ends x sz (λ s5. with_label op.Short 0 start at_line s5 prints) at3 in
      let ahead : suc sx.words ≤ sz.words = omega (arith, count) in
      let reach = jump_reach setting n env p lives K w need m s x at_line sx sz behind_jump (λ s5. with_label op.Short 0 start at_line s5 prints) h at here at3 ahead in
      let inside : sz.words < length (object setting.text) = within setting.text setting.ends sz (with_label op.Short 0 start at_line sz prints) at4 in
      let a_is : address_of setting.text start 0 ≡ sy.words = where_start.1 in
      text_prints K w need m (to setting.text setting.size setting.ends m (record m.regs { place = sz.words })) s bytes start line at_line sz go h are reach refl at4 where_start.0
      (subst (λ a. strings.Stand (object setting.text) a (string_words bytes)) (sym a_is) there.stand)
      (omega (arith, a_is, count, many, inside))
