-- What driving a pass over a text does, and how stops of texts and of passes become stops of the drive.
use Rattle.std.specs.Prelude.{◌≡◌, ◌+◌, ◌*◌, ◌-◌, ◌^◌, ◌++◌, ◌∷◌, [], ℕ, min, length, true, List, Option, Result, Ok, Err}
use Rattle.gier_drum.specs.declared.drum.Entry.{Entry}
use Rattle.gier_symbol.specs.declared.symbol.Symbol.{Symbol}
use Rattle.gier_word.specs.declared.refusal.Odd.{Odd}
use Rattle.gier_text.specs.declared.text.TextStop.{TextStop}
use Rattle.gier_text.specs.declared.text.TextStop.TheVariants.{Failed, Memory as TextMemory, Full as TextFull, Spoilt as TextSpoilt}
use Rattle.gier_text.specs.declared.pass.PassStop.{PassStop}
use Rattle.gier_text.specs.declared.pass.PassStop.TheVariants.{Drum, Memory, Full, Spoilt}
use Rattle.gier_text.specs.Log.{LogsAll}
use Rattle.gier_text.specs.Passes.{Mixed}
use Rattle.gier_text.specs.View.{View, ReadsAll}

abbrev pub pass_stop_of : TextStop → PassStop
pass_stop_of Failed = Drum
pass_stop_of TextMemory = Memory
pass_stop_of TextFull = Full
pass_stop_of (TextSpoilt odd) = Spoilt odd

-- a full output becomes the stop at a symbol
abbrev pub at_symbol : Odd → PassStop → PassStop
at_symbol odd Drum = Drum
at_symbol odd Memory = Memory
at_symbol odd Full = Spoilt odd
at_symbol odd (Spoilt other) = Spoilt other

-- the input was read whole
pub record IsReadWhole (old new : View) : Type 0 where
  pub unread : new.unread ≡ 0
  pub count : new.count ≡ old.count
  pub rewound : new.rewound ≡ true
  pub way : new.way ≡ old.way

-- the journal grows by what the reads of one text and the writes of another add, in some order of the two
pub record LogsBoth (input input_now output output_now : View) (before after : Option (List Entry)) : Type 0 where
  pub reads : List Entry
  pub writes : List Entry
  pub entries : List Entry
  pub reading : input_now.log ≡ input.log ++ reads
  pub writing : output_now.log ≡ output.log ++ writes
  pub mixed : Mixed reads writes entries
  pub journal : LogsAll before entries after

-- a place in a list from 0, as far as 64 bits tell it
abbrev pub place_of : ℕ → ℕ
place_of n = min n (2 ^ 64 - 1)

-- these are the place and the first word of the last of some symbols, and before the first both are 0
abbrev pub NamesLast : List Symbol → Odd → Type 0
NamesLast [] odd = (odd.place ≡ 0) × (odd.word ≡ 0)
NamesLast (first ∷ more) odd = (before : List Symbol) × (last : Symbol) × (first ∷ more ≡ before ++ last ∷ [])
    × (odd.place ≡ place_of (length before)) × (odd.word ≡ last.tag * 2 ^ 24 + last.line)

-- these name the symbol of a text that was read last
pub record NamesLastRead (old new : View) (odd : Odd) : Type 0 where
  pub read : List Symbol
  pub reads : ReadsAll old read new
  pub named : NamesLast read odd

-- where the answer is Spoilt, this holds of what it names
abbrev pub SpoiltAs : {T : Type 0} → Result T PassStop → (Odd → Type 0) → Type 0
SpoiltAs (Ok x) P = Unit {0}
SpoiltAs (Err Drum) P = Unit {0}
SpoiltAs (Err Memory) P = Unit {0}
SpoiltAs (Err Full) P = Unit {0}
SpoiltAs (Err (Spoilt odd)) P = P odd
