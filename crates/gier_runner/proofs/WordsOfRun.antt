-- From what one order says of the drum's words to what all orders of a run say of them.
use Rattle.std.specs.Prelude.{◌≡◌, ◌<◌, ℕ, List, [], length, None, Some}
use Rattle.std.proofs.Common.{refl, sym, subst, ◌∙◌}
use Rattle.gier_library.specs.Data.{Takes}
use Rattle.gier_order.specs.declared.object.Object.{Object}
use Rattle.gier_places.specs.Contents.{Agrees}
use Rattle.gier_word.specs.declared.refusal.Odd.{Odd}
use Rattle.gier_exec.specs.Rows.{word_in, code_in}
use Rattle.gier_exec.specs.declared.turn.Turn.{Turn}
use Rattle.gier_exec.specs.declared.turn.Turn.TheVariants.{On, Ended, Alarm, Steps, Read, Write, Drum, Spoilt}
use Rattle.gier_runner.specs.declared.ending.Ending.{Ending}
use Rattle.gier_runner.specs.Endings.{ending_of}
use Rattle.gier_runner.proofs.RunSteps.{Now, Goes, Turns, Runs, goes_none, goes_more, runs_so}
use Rattle.gier_runner.proofs.Words.{word_is}

-- the orders so far
abbrev pub GoesFlat : (size : ℕ) → Object → (old new : Now) → Type 0
GoesFlat size object old new = (tracks : List (List ℕ)) → old.stand.tracks ≡ Some tracks → Agrees (Some tracks) old.stand.places.held
    → Goes (code_in tracks object) size object old new

-- one order
abbrev pub TurnsFlat : (size : ℕ) → Object → (old new : Now) → Turn → Type 0
TurnsFlat size object old new turn = (tracks : List (List ℕ)) → old.stand.tracks ≡ Some tracks → Agrees (Some tracks) old.stand.places.held
    → Turns (code_in tracks object) size object old new (word_in tracks object old.machine.place) turn

-- all of them
abbrev pub RunsFlat : (size : ℕ) → Object → (old new : Now) → Ending → Type 0
RunsFlat size object old new ending = (tracks : List (List ℕ)) → old.stand.tracks ≡ Some tracks → Agrees (Some tracks) old.stand.places.held
    → Runs (code_in tracks object) size object old new ending

on_of : (turn : Turn) → ending_of turn ≡ None → turn ≡ On
on_of On e = refl
on_of Ended e = absurd cc
on_of (Alarm alarm) e = absurd cc
on_of Steps e = absurd cc
on_of Read e = absurd cc
on_of Write e = absurd cc
on_of Drum e = absurd cc
on_of (Spoilt odd) e = absurd cc

pub goes_first : (size : ℕ) (object : Object) (s : Now) → Takes s.input [] s.input → GoesFlat size object s s
goes_first size object s takes = λ tracks told agrees. goes_none (code_in tracks object) size object s takes

-- what the order at the place says, after those so far
turn_at : (size : ℕ) (object : Object) (old mid new : Now) (turn : Turn) (tracks : List (List ℕ)) → length mid.frames.words ≡ size
    → mid.stand.tracks ≡ old.stand.tracks → mid.machine.place < object.words
    → TurnsFlat (length mid.frames.words) object mid new turn → old.stand.tracks ≡ Some tracks → Agrees (Some tracks) old.stand.places.held
    → Goes (code_in tracks object) size object old mid
    → Turns (code_in tracks object) size object mid new (word_in tracks object mid.machine.place) turn
turn_at size object old mid new turn tracks same kept within turns told agrees so =
    let told_mid : mid.stand.tracks ≡ Some tracks = kept ∙ told in
    let agrees_mid : Agrees (Some tracks) mid.stand.places.held =
    subst (λ t. Agrees t mid.stand.places.held) told_mid (so.refers.agrees (subst (λ t. Agrees t old.stand.places.held) (sym told) agrees)) in
    subst (λ n. Turns (code_in tracks object) n object mid new (word_in tracks object mid.machine.place) turn) same
    (turns tracks told_mid agrees_mid)

pub goes_flat : (size : ℕ) (object : Object) (old mid new : Now) (turn : Turn) → GoesFlat size object old mid
    → length mid.frames.words ≡ size → mid.stand.tracks ≡ old.stand.tracks
    → mid.stand.places.places ≡ old.stand.places.places → mid.machine.place < object.words
    → TurnsFlat (length mid.frames.words) object mid new turn → ending_of turn ≡ None
    → GoesFlat size object old new
goes_flat size object old mid new turn so same kept places within turns none = λ tracks told agrees.
    let word : ℕ = word_in tracks object mid.machine.place in
    let before = so tracks told agrees in
    goes_more (code_in tracks object) size object old mid new word places before
    (subst (λ t. Turns (code_in tracks object) size object mid new word t) (on_of turn none)
    (turn_at size object old mid new turn tracks same kept within turns told agrees before))

pub runs_flat : (size : ℕ) (object : Object) (old mid new : Now) (turn : Turn) (ending : Ending) → GoesFlat size object old mid
    → length mid.frames.words ≡ size → mid.stand.tracks ≡ old.stand.tracks
    → mid.stand.places.places ≡ old.stand.places.places → mid.machine.place < object.words
    → TurnsFlat (length mid.frames.words) object mid new turn → ending_of turn ≡ Some ending
    → ((odd : Odd) → turn ≡ Spoilt odd → (new.machine ≡ mid.machine) × (new.frames ≡ mid.frames) × (new.input ≡ mid.input))
    → RunsFlat size object old new ending
runs_flat size object old mid new turn ending so same kept places within turns some stays = λ tracks told agrees.
    let before = so tracks told agrees in
    runs_so (code_in tracks object) size object old mid new (word_in tracks object mid.machine.place) turn ending some places before
    (turn_at size object old mid new turn tracks same kept within turns told agrees before)
    (word_is tracks object mid.machine.place within) stays
