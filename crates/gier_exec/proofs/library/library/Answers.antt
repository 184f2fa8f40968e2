use Rattle.std.proofs.Common.{rules, ◌≢◌, ◌≡◌, ◌++◌, [], length, Ok, ap, subst, sym, ◌∙◌}
use Rattle.gier_word.specs.Words.{int_of_word}
use Rattle.gier_word.specs.Standard.{integer_text, line_text, character_text, integer_read, character_read}
use Rattle.gier_word.specs.Operations.{modulus_of, sign_of}
use Rattle.gier_library.proofs.LongerData.{integer_settled, character_settled}
use Rattle.gier_library.proofs.ReadsInOrder.{takes_nothing}
use Rattle.gier_library.specs.DataView.{stand_of, has_ended}
use Rattle.gier_order.specs.Flat.Rows.{procedure, prints_string}
use Rattle.gier_exec.specs.Rows.{regs_of, code_in}
use Rattle.gier_exec.specs.Standards.{on_from, Sends, Computes}
use Rattle.gier_exec.proofs.Referrings.{refers_none}
use Rattle.gier_exec.proofs.Turnings.{puts_nothing}
use Rattle.gier_exec.proofs.Procedures.{next_in, sends_obeys, computes_obeys, receives_obeys, string_obeys, procedure_odd, obeys_by}
use Rattle.gier_exec.proofs.library.library.Goals as goal

pub returns-in-1-clause-row : goal.returns-in-1-clause-row
returns-in-1-clause-row g c = λ tracks told agrees lt.
    let code = code_in tracks c.args.object.now in
    let text = Ok (integer_text (int_of_word c.args.m.now.r)) in
    let sends = subst (λ r. Sends g.K.Sink.holds (Ok (integer_text (int_of_word r))) c.args.out.now c.print_integer.result c.print_integer.new.out) c.r.ensures.value c.print_integer.ensures.sends in
    let sent = sends_obeys g.K.Sink.holds text c.args.out.now c.print_integer.result c.print_integer.new.out sends in (
      [],
      sent.0,
      [],
      refers_none _ _,
      sent.1,
      takes_nothing (stand_of g.S.Source.left c.args.input.now) c.args.input.now.limited c.args.input.now.below,
      λ s rest is.
          let regs = regs_of c.args.m.now s rest in
          obeys_by _ _ regs regs [] sent.0 [] (on_from c.args.m.now.place c.print_integer.result) (ap (λ n. procedure code (length s.words) regs n) c.in-1.is)
          (sent.2 code (length s.words) regs (next_in tracks c.args.object.now c.args.m.now.place lt)),
    )

pub returns-in-2-clause-row : goal.returns-in-2-clause-row
returns-in-2-clause-row g c = λ tracks told agrees lt.
    let code = code_in tracks c.args.object.now in
    let did = c.print_text.ensures.row tracks told agrees in (
      did.0,
      did.1,
      [],
      did.2,
      did.3,
      takes_nothing (stand_of g.S.Source.left c.args.input.now) c.args.input.now.limited c.args.input.now.below,
      λ s rest is.
          let regs = regs_of c.args.m.now s rest in
          let size = length s.words in
          let row = prints_string code size regs c.r-in-2.result in
          obeys_by _ row regs regs did.0 did.1 [] (on_from c.args.m.now.place c.print_text.result)
          (ap (λ n. procedure code size regs n) c.in-2.is ∙ ap (λ r. prints_string code size regs r) (sym c.r-in-2.ensures.value))
          (string_obeys code size regs row did.0 did.1 c.print_text.result (did.4 size regs) (next_in tracks c.args.object.now c.args.m.now.place lt)),
    )

pub returns-in-3-clause-row : goal.returns-in-3-clause-row
returns-in-3-clause-row g c = λ tracks told agrees lt.
    let code = code_in tracks c.args.object.now in
    let sent = sends_obeys g.K.Sink.holds (Ok line_text) c.args.out.now c.print_bytes.result c.print_bytes.new.out c.print_bytes.ensures.sends in (
      [],
      sent.0,
      [],
      refers_none _ _,
      sent.1,
      takes_nothing (stand_of g.S.Source.left c.args.input.now) c.args.input.now.limited c.args.input.now.below,
      λ s rest is.
          let regs = regs_of c.args.m.now s rest in
          obeys_by _ _ regs regs [] sent.0 [] (on_from c.args.m.now.place c.print_bytes.result) (ap (λ n. procedure code (length s.words) regs n) c.in-3.is)
          (sent.2 code (length s.words) regs (next_in tracks c.args.object.now c.args.m.now.place lt)),
    )

pub returns-in-4-clause-row : goal.returns-in-4-clause-row
returns-in-4-clause-row g c = λ tracks told agrees lt.
    let code = code_in tracks c.args.object.now in
    let text = character_text (int_of_word c.args.m.now.r) in
    let sends = subst (λ r. Sends g.K.Sink.holds (character_text (int_of_word r)) c.args.out.now c.print_character.result c.print_character.new.out) c.r-in-4.ensures.value c.print_character.ensures.sends in
    let sent = sends_obeys g.K.Sink.holds text c.args.out.now c.print_character.result c.print_character.new.out sends in (
      [],
      sent.0,
      [],
      refers_none _ _,
      sent.1,
      takes_nothing (stand_of g.S.Source.left c.args.input.now) c.args.input.now.limited c.args.input.now.below,
      λ s rest is.
          let regs = regs_of c.args.m.now s rest in
          obeys_by _ _ regs regs [] sent.0 [] (on_from c.args.m.now.place c.print_character.result) (ap (λ n. procedure code (length s.words) regs n) c.in-4.is)
          (sent.2 code (length s.words) regs (next_in tracks c.args.object.now c.args.m.now.place lt)),
    )

pub returns-in-5-clause-row : goal.returns-in-5-clause-row
returns-in-5-clause-row g c = λ tracks told agrees lt.
    let code = code_in tracks c.args.object.now in
    let took = c.take_integer.ensures.takes in (
      [],
      [],
      took.0,
      refers_none _ _,
      puts_nothing _,
      took.1,
      λ s rest is.
          let before = regs_of c.args.m.now s (took.0 ++ rest) in
          obeys_by _ _ before (regs_of c.take_integer.new.m s rest) [] [] took.0 (on_from c.args.m.now.place c.take_integer.result) (ap (λ n. procedure code (length s.words) before n) c.in-5.is)
          (receives_obeys integer_read integer_settled code c.args.m.now c.take_integer.new.m s took.0 (has_ended c.take_integer.new.input) c.take_integer.result took.2
          (next_in tracks c.args.object.now c.args.m.now.place lt) rest is),
    )

pub returns-in-6-clause-row : goal.returns-in-6-clause-row
returns-in-6-clause-row g c = λ tracks told agrees lt.
    let code = code_in tracks c.args.object.now in
    let took = c.take_character.ensures.takes in (
      [],
      [],
      took.0,
      refers_none _ _,
      puts_nothing _,
      took.1,
      λ s rest is.
          let before = regs_of c.args.m.now s (took.0 ++ rest) in
          obeys_by _ _ before (regs_of c.take_character.new.m s rest) [] [] took.0 (on_from c.args.m.now.place c.take_character.result) (ap (λ n. procedure code (length s.words) before n) c.in-6.is)
          (receives_obeys character_read character_settled code c.args.m.now c.take_character.new.m s took.0 (has_ended c.take_character.new.input) c.take_character.result took.2
          (next_in tracks c.args.object.now c.args.m.now.place lt) rest is),
    )

pub returns-in-7-clause-row : goal.returns-in-7-clause-row
returns-in-7-clause-row g c = λ tracks told agrees lt.
    let code = code_in tracks c.args.object.now in
    let given = modulus_of (int_of_word c.args.m.now.r) in
    let is_given : c.abs.result ≡ given = c.abs.ensures ∙ ap modulus_of (c.number_of.ensures ∙ ap int_of_word c.r-in-7.ensures.value) in
    let computes = subst (λ x. Computes c.args.m.now x c.compute.new.m c.compute.result) is_given c.compute.ensures.computes in (
      [],
      [],
      [],
      refers_none _ _,
      puts_nothing _,
      takes_nothing (stand_of g.S.Source.left c.args.input.now) c.args.input.now.limited c.args.input.now.below,
      λ s rest is.
          let before = regs_of c.args.m.now s rest in
          obeys_by _ _ before (regs_of c.compute.new.m s rest) [] [] [] (on_from c.args.m.now.place c.compute.result) (ap (λ n. procedure code (length s.words) before n) c.in-7.is)
          (computes_obeys code c.args.m.now c.compute.new.m s given c.compute.result computes (next_in tracks c.args.object.now c.args.m.now.place lt) rest),
    )

pub returns-in-8-clause-row : goal.returns-in-8-clause-row
returns-in-8-clause-row g c = λ tracks told agrees lt.
    let code = code_in tracks c.args.object.now in
    let given = Ok (sign_of (int_of_word c.args.m.now.r)) in
    let is_given : c.sign.result ≡ sign_of (int_of_word c.args.m.now.r) = c.sign.ensures ∙ ap sign_of (c.number_of-in-8.ensures ∙ ap int_of_word c.r-in-8.ensures.value) in
    let computes = subst (λ x. Computes c.args.m.now (Ok x) c.compute-in-8.new.m c.compute-in-8.result) is_given c.compute-in-8.ensures.computes in (
      [],
      [],
      [],
      refers_none _ _,
      puts_nothing _,
      takes_nothing (stand_of g.S.Source.left c.args.input.now) c.args.input.now.limited c.args.input.now.below,
      λ s rest is.
          let before = regs_of c.args.m.now s rest in
          obeys_by _ _ before (regs_of c.compute-in-8.new.m s rest) [] [] [] (on_from c.args.m.now.place c.compute-in-8.result) (ap (λ n. procedure code (length s.words) before n) c.in-8.is)
          (computes_obeys code c.args.m.now c.compute-in-8.new.m s given c.compute-in-8.result computes (next_in tracks c.args.object.now c.args.m.now.place lt) rest),
    )

pub returns-in_default-clause-row : goal.returns-in_default-clause-row
returns-in_default-clause-row g c = λ tracks told agrees lt.
    let a : c.args.number ≢ 1 = search rules in
    let b : c.args.number ≢ 2 = search rules in
    let d : c.args.number ≢ 3 = search rules in
    let e : c.args.number ≢ 4 = search rules in
    let f : c.args.number ≢ 5 = search rules in
    let h : c.args.number ≢ 6 = search rules in
    let j : c.args.number ≢ 7 = search rules in
    let k : c.args.number ≢ 8 = search rules in (
      [],
      [],
      [],
      refers_none _ _,
      puts_nothing _,
      takes_nothing (stand_of g.S.Source.left c.args.input.now) c.args.input.now.limited c.args.input.now.below,
      λ s rest is. procedure_odd (code_in tracks c.args.object.now) (length s.words) (regs_of c.args.m.now s rest) c.args.number a b d e f h j k,
    )
