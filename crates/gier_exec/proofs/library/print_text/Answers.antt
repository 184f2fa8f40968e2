use Rattle.std.proofs.Common.{◌≡◌, ◌≤◌, ◌<◌, ◌+◌, ◌/◌, ◌∷◌, [], length, Some, sym, subst, ◌∙◌, arith}
use Rattle.gier_places.specs.Contents.{Agrees}
use Rattle.gier_order.specs.Flat.Rows.{on, prints_string}
use Rattle.gier_exec.specs.Rows.{code_in}
use Rattle.gier_exec.proofs.Readings.{reads_joined}
use Rattle.gier_exec.proofs.Referrings.{refers_both, length_code}
use Rattle.gier_exec.proofs.Turnings.{puts_nothing}
use Rattle.gier_exec.proofs.Strings.{missed_prints, string_next, string_odd, string_prints}
use Rattle.gier_exec.proofs.library.print_text.Goals as goal

pub returns-clause-reads : goal.returns-clause-reads
returns-clause-reads g c = reads_joined 1 ((c.in-Ok.length + 4) / 5) (c.args.object.now.words + 1) _ _ _ _ c.fetch.ensures.reads c.print_words.ensures.reads (omega (arith, c.if-address-div_ceil.false, c.div_ceil.ensures))

pub returns-in-Err-clause-row : goal.returns-in-Err-clause-row
returns-in-Err-clause-row g c = λ tracks told agrees.
    let code = code_in tracks c.args.object.now in (
      [],
      [],
      c.in-Err.ensures.refers,
      puts_nothing _,
      λ size m. missed_prints (prints_string code size m c.args.address) (on code size m m) (string_next code size m c.args.address) c.args.address c.in-Err.miss
          (c.in-Err.ensures.row tracks told agrees (string_next code size m c.args.address)),
    )

pub returns-then-address-div_ceil-clause-row : goal.returns-then-address-div_ceil-clause-row
returns-then-address-div_ceil-clause-row g c = λ tracks told agrees.
    let code = code_in tracks c.args.object.now in
    let all : length code ≡ c.args.object.now.words = length_code tracks c.args.object.now in
    let past : length code ≤ c.args.address + (c.in-Ok.length + 4) / 5 = omega (arith, all, c.if-address-div_ceil.true, c.div_ceil.ensures) in (
      c.args.address ∷ [],
      [],
      c.in-Ok.ensures.refers,
      puts_nothing _,
      λ size m. string_odd code size m c.args.address c.in-Ok.length (c.in-Ok.ensures.row tracks told agrees) past,
    )

pub returns-clause-row : goal.returns-clause-row
returns-clause-row g c = λ tracks told agrees.
    let object = c.args.object.now in
    let code = code_in tracks object in
    let all : length code ≡ object.words = length_code tracks object in
    let within : c.args.address + (c.in-Ok.length + 4) / 5 < length code = omega (arith, all, c.if-address-div_ceil.false, c.div_ceil.ensures) in
    let told_mid : g.D.Drum.tracks c.fetch.new.pager.drum.now ≡ Some tracks = c.fetch.ensures.reads.tracks ∙ told in
    let agrees_mid : Agrees (Some tracks) c.fetch.new.pager.places.now.held = subst (λ t. Agrees t c.fetch.new.pager.places.now.held) told_mid (c.in-Ok.ensures.refers.agrees (subst (λ t. Agrees t c.args.pager.now.places.now.held) (sym told) agrees)) in
    let did = c.print_words.ensures.row tracks told_mid agrees_mid in (
      c.args.address ∷ did.0,
      did.1,
      refers_both object (c.args.address ∷ []) did.0 _ _ _ c.fetch.ensures.reads.places c.in-Ok.ensures.refers did.2,
      did.3,
      λ size m. string_prints code size m c.args.address c.in-Ok.length did.0 did.1 c.print_words.result (c.in-Ok.ensures.row tracks told agrees) within (did.4 size m),
    )
