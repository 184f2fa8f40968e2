-- What a post-mortem prints, by the live activations and the lines that were found: one for the order that stopped, and one
-- for each activation that is told.
use Rattle.std.specs.Prelude.{◌≤◌, ◌-◌, ◌++◌, ℕ, Bool, true, false, nat_le, if◌then◌else◌, List, [], ◌∷◌, length, take, codes}
use Rattle.std.specs.Prelude.{decimal, Option}
use Rattle.gier_io.specs.Device.{Puts}
use Rattle.gier_order.specs.Flat.Live.{Live, Shape, Program, Block, Procedure, Evaluation}
use Rattle.gier_job.specs.RunTails.{most_told}

-- a number behind a text, and the end of the line
abbrev pub line_text : (text : List ℕ) → ℕ → List ℕ
line_text text n = (text ++ decimal n) ++ codes "\n"

abbrev pub shape_text : Shape → (line : ℕ) → List ℕ
shape_text Program line = codes "\n*** program"
shape_text Block line = codes "\n*** block"
shape_text Procedure line = codes "\n*** procedure line " ++ decimal line
shape_text Evaluation line = codes "\n*** evaluation line " ++ decimal line

abbrev pub live_text : Live → (line : ℕ) → List ℕ
live_text live line = shape_text live.shape line ++ line_text (codes " words ") live.words

-- as many as have lines
abbrev pub live_texts : List Live → (lines : List ℕ) → List ℕ
live_texts [] lines = []
live_texts (live ∷ outer) [] = []
live_texts (live ∷ outer) (line ∷ lines) = live_text live line ++ live_texts outer lines

-- of so many, those that aren't told
abbrev pub untold_text : ℕ → List ℕ
untold_text count = if nat_le count most_told then [] else (codes "\n*** and " ++ decimal (count - most_told)) ++ codes " more\n"

abbrev pub lives_text : List Live → (lines : List ℕ) → List ℕ
lives_text lives lines = live_texts (take most_told lives) lines ++ untold_text (length lives)

-- the activations were told, each with some line
pub record PutsLives (lives : List Live) (old new : Option (List ℕ)) : Type 0 where
  pub lines : List ℕ
  pub enough : length (take most_told lives) ≤ length lines
  pub put : Puts old (lives_text lives lines) new

-- the same behind a tail, and behind the line of the order that stopped
pub record PutsMortem (tail : List ℕ) (lives : List Live) (old new : Option (List ℕ)) : Type 0 where
  pub line : ℕ
  pub lines : List ℕ
  pub enough : length (take most_told lives) ≤ length lines
  pub put : Puts old (tail ++ (line_text (codes "\n*** mortem line ") line ++ lives_text lives lines)) new

-- a tail was printed, and a post-mortem behind it where it is wanted
abbrev pub PutsTails : (wanted : Bool) → (tail : List ℕ) → List Live → Option (List ℕ) → Option (List ℕ) → Type 0
PutsTails true tail lives old new = PutsMortem tail lives old new
PutsTails false tail lives old new = Puts old tail new
