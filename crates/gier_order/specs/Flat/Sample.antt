-- What a sample of the flat run is: an object that is started at its first word, with data, steps and stack words, and the
-- report of the run.
use Rattle.std.specs.Prelude.{◌≡◌, ◌+◌, ◌*◌, ◌^◌, ℕ, List, [], ◌∷◌, ⊤}
use Rattle.gier_order.specs.Table.{row_of}
use Rattle.gier_order.specs.declared.operation.Operation.{Operation}
use Rattle.gier_order.specs.Flat.Row.{Ending}
use Rattle.gier_order.specs.Flat.Live.{Live, Program, Block, Procedure, Evaluation}
use Rattle.gier_order.specs.Flat.Run.{Report, flat}

-- the word of an order
abbrev pub order : Operation → (level address : ℕ) → ℕ
order operation level address = (row_of operation).number * 2 ^ 32 + level * 2 ^ 24 + address

abbrev pub program : ℕ → Live
program words = record { shape = Program; words = words; entered_by = 0 }

abbrev pub block : ℕ → Live
block words = record { shape = Block; words = words; entered_by = 0 }

abbrev pub procedure : (words entered_by : ℕ) → Live
procedure words entered_by = record { shape = Procedure; words = words; entered_by = entered_by }

abbrev pub evaluation : (words entered_by : ℕ) → Live
evaluation words entered_by = record { shape = Evaluation; words = words; entered_by = entered_by }

abbrev pub report : List ℕ → Ending → (steps words : ℕ) → List ℕ → ℕ → List Live → List ℕ → Report
report printed ending steps words left place live refs =
    record {
      printed = printed;
      ending = ending;
      steps = steps;
      words = words;
      left = left;
      place = place;
      live = live;
      refs = refs;
    }

pub record Sample : Type 0 where
  pub object : List ℕ
  pub input : List ℕ
  pub steps : ℕ
  pub size : ℕ
  pub answer : Report

abbrev pub sample : List ℕ → List ℕ → (steps size : ℕ) → Report → Sample
sample object input steps size answer = record { object = object; input = input; steps = steps; size = size; answer = answer }

abbrev pub IsAnswered : Sample → Type 0
IsAnswered s = flat s.object 0 s.input s.steps s.size ≡ s.answer

abbrev pub AreAnswered : List Sample → Type 0
AreAnswered [] = ⊤
AreAnswered (s ∷ ss) = IsAnswered s × AreAnswered ss
