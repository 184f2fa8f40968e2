-- The run of a program that the front let stand.
use Rattle.std.specs.Prelude.{◌≡◌, ◌≤◌, ◌++◌, ℕ, Bool, true, false, List, length, take, Option, None, Some, Ok}
use Rattle.std.proofs.Common.{◌∙◌, arith, refl, ap, subst, sym}
use Rattle.gier_word.proofs.Options.{some_same}
use Rattle.gier_drum.specs.declared.drum.Entry.{Entry}
use Rattle.gier_library.specs.Data.{limit}
use Rattle.gier_order.specs.declared.object.Object.{Object}
use Rattle.gier_order.specs.Misses.{misses}
use Rattle.gier_order.specs.Flat.Run.{flat, Report}
use Rattle.gier_limits.specs.Areas.{longest, words_of}
use Rattle.gier_front.specs.Fronted.{IsFronted, HasTextSix}
use Rattle.gier_text.specs.declared.fronted.Fronted.{Fronted}
use Rattle.gier_back.specs.Compiled.{IsObject}
use Rattle.gier_exec.specs.Rows.{code_in}
use Rattle.gier_exec.specs.References.{tracks_of, notes_of}
use Rattle.gier_job.specs.Checked.{FoundFor, TakesFor}
use Rattle.gier_job.specs.Reply.{text_for}
use Rattle.gier_job.specs.Mortem.{PutsTails}
use Rattle.gier_job.specs.TailsOfRun.{taken_tail, misses_tail, best_plan_tail}
use Rattle.gier_job.specs.RunAnswer.{IsAnswered, IsPlaced, IsDefined, HasRun, flat_end_tail, flat_tails, flat_has_mortem}
use Rattle.gier_job.specs.declared.command.Command.{Command}
use Rattle.gier_job.specs.declared.status.Status.{Status}
use Rattle.gier_job.specs.declared.status.Status.TheVariants.{Done}

placed : (fronted : Fronted) (object : Object) → IsFronted fronted → IsObject fronted object → IsPlaced object
placed fronted object so made = record {
  place = made.place;
  start = made.start;
  some = made.some;
  few = let few : object.words ≤ words_of fronted.bytes = made.few in let bytes : fronted.bytes ≤ longest = so.bytes in omega (arith, few, bytes);
}

-- what the front left of a tape that tells its bytes
input_of : (sample : Option ℕ) (fronted : Fronted) (all : List ℕ) (new : Option (List ℕ)) → FoundFor sample (Ok fronted) (Some all) new
    → (input : List ℕ) × (new ≡ Some input) × TakesFor sample Done (Some all) (Some input)
input_of None fronted all new takes = (_, takes, refl)
input_of (Some calls) fronted all new takes = (all, takes, refl)

pub has_run : (tracks : List (List ℕ)) (c : Command) (most : ℕ) (fronted : Fronted) (all : List ℕ)
    (tape left : Option (List ℕ)) (compiled : Option (List (List ℕ)))
    (status : Status) (old new : Option (List ℕ)) (last : Option (List Entry)) → tape ≡ Some all → IsFronted fronted
    → FoundFor c.sample (Ok fronted) tape left
    → fronted.bytes ≡ length (text_for c.sample all) → HasTextSix compiled fronted
    → ((bytes : List ℕ) → left ≡ Some bytes → (object : Object) × IsObject fronted object
    × (HasTextSix compiled fronted → IsDefined fronted.bytes tracks c.mortem object)
    × IsAnswered c most object (flat (code_in tracks object) object.start (take limit bytes) c.settings.steps c.settings.stack) status old new last)
    → HasRun tracks c most tape status old new last
has_run tracks c most fronted all tape left compiled status old new last told so takes count six runs =
    let data_are = input_of c.sample fronted all left (subst (λ t. FoundFor c.sample (Ok fronted) t left) told takes) in
    let ran = runs data_are.0 data_are.1 in
    record {
      object = ran.0;
      placed = placed fronted ran.0 so ran.1;
      bytes = fronted.bytes;
      counted = λ other is. count ∙ ap (λ (t : List ℕ). length (text_for c.sample t)) (some_same all other (sym told ∙ is));
      defined = ran.2 six;
      input = data_are.0;
      takes = subst (λ t. TakesFor c.sample Done t (Some data_are.0)) (sym told) data_are.2;
      answers = ran.3;
    }

-- The most changes of track count only where a plan is asked for

plan_same : (asked : Bool) (most other : ℕ) (tracks : List ℕ) (places : ℕ) → (asked ≡ true → most ≡ other)
    → best_plan_tail asked most tracks places ≡ best_plan_tail asked other tracks places
plan_same true most other tracks places same = ap (λ m. best_plan_tail true m tracks places) (same refl)
plan_same false most other tracks places same = refl

tails_same : (c : Command) (most other : ℕ) (object : Object) (report : Report) → (c.best ≡ true → most ≡ other)
    → flat_tails c most object report ≡ flat_tails c other object report
tails_same c most other object report same =
    let tracks : List ℕ = tracks_of object report.refs in
    ap (λ plan. flat_end_tail report.ending ++ (taken_tail c.report (record { steps = report.steps; transfers = length (misses tracks c.settings.places); words = report.words }) ++ (misses_tail c.table tracks ++ plan)))
    (plan_same c.best most other (notes_of report.refs) c.settings.places same)

answered_most : (c : Command) (most other : ℕ) (object : Object) (report : Report) (status : Status) (old new : Option (List ℕ)) (last : Option (List Entry)) → (c.best ≡ true → most ≡ other) → IsAnswered c most object report status old new last
    → IsAnswered c other object report status old new last
answered_most c most other object report status old new last same h =
    record { ended = h.ended; read = h.read; printed = subst (λ tail. PutsTails (flat_has_mortem c.mortem report.ending) (report.printed ++ tail) report.live old new) (tails_same c most other object report same) h.printed }

pub has_run_most : (tracks : List (List ℕ)) (c : Command) (most other : ℕ) (tape : Option (List ℕ)) (status : Status) (old new : Option (List ℕ)) (last : Option (List Entry)) → (c.best ≡ true → most ≡ other)
    → HasRun tracks c most tape status old new last → HasRun tracks c other tape status old new last
has_run_most tracks c most other tape status old new last same ran = record {
  object = ran.object;
  placed = ran.placed;
  bytes = ran.bytes;
  counted = ran.counted;
  defined = ran.defined;
  input = ran.input;
  takes = ran.takes;
  answers = answered_most c most other ran.object _ status old new last same ran.answers;
}
