use Rattle.std.proofs.Common.{◌≡◌, ◌<◌, ◌+◌, ◌∷◌, List, ℕ, map, length, get_or, arith, sym, ◌∙◌, ap, lit<, refl, Global}
use Rattle.std.proofs.lemmas.List.{get_or-map, length-map}
use Rattle.std.specs.String.{string_bytes}
use Rattle.gier_job.specs.Command.{NotGiven, mode_word}
use Rattle.gier_job.specs.declared.words.Setting.{Setting}
use Rattle.gier_job.proofs.Reading.{few, step, refuse, permitted}
use Rattle.gier_job.proofs.command.read_words.Goals as goal

pub push-requires : goal.push-requires
push-requires c =
    let free : NotGiven c.in-Some-next_setting.setting.key c.loop-word.given.items = rw (← c.as_slice.ensures.value) c.in-Some-next_setting.ensures.some.2 in
    (lit< tt, few c.loop-word.given.items c.in-Some-next_setting.setting.key c.loop-word.invariant.once free)

pub loop-word-preserved : goal.loop-word-preserved
loop-word-preserved c =
    let texts : List (List ℕ) = map string_bytes c.in-Some.rest.now in
    let word : List ℕ = c.as_str-in-loop-word.result.now in
    let within : c.loop-word.word-index < length texts = omega (arith, length-map c.in-Some.rest.now (string_bytes {Z = Global})) in
    let found : get_or texts c.loop-word.word-index word ≡ string_bytes (get_or c.in-Some.rest.now c.loop-word.word-index c.word-item.result) = get_or-map string_bytes c.in-Some.rest.now c.loop-word.word-index c.word-item.result word c.loop-word-test.true in
    let is : word ≡ get_or texts c.loop-word.word-index word = c.as_str-in-loop-word.ensures.value ∙ ap string_bytes c.word-item.is ∙ sym found in
    let free : NotGiven c.in-Some-next_setting.setting.key c.loop-word.given.items = rw (← c.as_slice.ensures.value) c.in-Some-next_setting.ensures.some.2 in
    step c.in-Some-read_mode.check texts c.loop-word.word-index c.loop-word.given.items c.push.new.self.items word c.in-Some-next_setting.setting within is c.loop-word.invariant c.in-Some-next_setting.ensures.some.0 c.in-Some-next_setting.ensures.same c.in-Some-next_setting.ensures.some.1 free c.push.ensures.items

pub returns-in-None-clause-wrong : goal.returns-in-None-clause-wrong
returns-in-None-clause-wrong c =
    let texts : List (List ℕ) = map string_bytes c.in-Some.rest.now in
    let word : List ℕ = c.as_str-in-loop-word.result.now in
    let within : c.loop-word.word-index < length texts = omega (arith, length-map c.in-Some.rest.now (string_bytes {Z = Global})) in
    let found : get_or texts c.loop-word.word-index word ≡ string_bytes (get_or c.in-Some.rest.now c.loop-word.word-index c.word-item.result) = get_or-map string_bytes c.in-Some.rest.now c.loop-word.word-index c.word-item.result word c.loop-word-test.true in
    let is : word ≡ get_or texts c.loop-word.word-index word = c.as_str-in-loop-word.ensures.value ∙ ap string_bytes c.word-item.is ∙ sym found in
    let mode : string_bytes c.in-Some.first.now ≡ mode_word c.in-Some-read_mode.check = sym c.as_str.ensures.value ∙ c.in-Some-read_mode.ensures.some in
    let cut : map string_bytes c.args.words.now ≡ string_bytes c.in-Some.first.now ∷ texts = ap (map string_bytes) c.in-Some.ensures.cases.0 in
    refuse c.in-Some-read_mode.check (map string_bytes c.args.words.now) texts (string_bytes c.in-Some.first.now) c.loop-word.word-index c.loop-word.given.items word (c.len.result + 2) cut mode within is c.loop-word.invariant (λ (t : Setting) makes may free. c.in-None.ensures.none refl t makes may (rw c.as_slice.ensures.value free)) (omega arith)

pub command_of-requires : goal.command_of-requires
command_of-requires c = rw c.as_slice-2.ensures.value (permitted _ _ c.loop-word.invariant.made)
