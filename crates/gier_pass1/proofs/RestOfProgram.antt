-- What the rules give for the bytes that are still to come, by where the reading stands: the sign, word, string, comment or
-- skipped part that was begun goes on with them.
use Rattle.std.proofs.Common.{◌≡◌, ◌≢◌, ◌+◌, ◌-◌, ◌++◌, ◌∙◌, ℕ, Bool, List, [], ◌∷◌, length, map, Option, None, Some, All, refl, sym, ap, append_assoc}
use Rattle.std.proofs.lemmas.List.{map-append}
use Rattle.std.proofs.lemmas.List.Elements.{All-tail}
use Rattle.gier_symbol.specs.declared.symbol.Symbol.{Symbol}
use Rattle.gier_symbol.specs.declared.word.Spelling.{Spelling}
use Rattle.gier_symbol.specs.Listing.{FaultAt, OpenString, Listing, listings_joined}
use Rattle.gier_symbol.specs.Reading.{read, string_symbols, symbols_of}
use Rattle.gier_symbol.specs.Spans.{string_bytes, comment_length, skipped_length}
use Rattle.gier_symbol.specs.Words.{word_byte}
use Rattle.gier_text.specs.declared.fault.FaultKind.{FaultKind}
use Rattle.gier_text.specs.declared.fault.FaultKind.TheVariants.{Unclosed}
use Rattle.gier_pass1.specs.declared.bytes.DoubleSignPrefix.{DoubleSignPrefix}
use Rattle.gier_pass1.specs.declared.bytes.DoubleSignPrefix.TheVariants.{Less, Greater, Colon}
use Rattle.gier_pass1.specs.declared.state.Mode.{Mode}
use Rattle.gier_pass1.specs.declared.state.Mode.TheVariants.{Start, Between, AfterPrefix, InWord, InString, InComment, InSkipped, InSkippedWord}
use Rattle.gier_pass1.specs.declared.state.State.{State}
use Rattle.gier_pass1.specs.declared.state.Token.{Token}
use Rattle.gier_pass1.specs.declared.state.Token.TheVariants.{Nothing, Written, LexError}
use Rattle.gier_text.specs.Faults.{as_fault, without_position}

abbrev pub opener_byte : DoubleSignPrefix → ℕ
opener_byte Less = 60
opener_byte Greater = 62
opener_byte Colon = 58

-- a string that nothing closes is a fault
abbrev pub string_to_come : Option (List ℕ) → Spelling → (fresh : Bool) → (began line : ℕ) → List ℕ → Listing
string_to_come None spelling fresh began line rest = record { symbols = []; faults = record { kind = OpenString; line = began } ∷ [] }
string_to_come (Some bytes) spelling fresh began line rest = listings_joined (record { symbols = string_symbols bytes line; faults = [] })
    (read spelling rest (length bytes + 1) fresh line)

-- by the letters of the word that was begun, and the bytes that follow
abbrev pub to_come_in : Mode → State → (letters rest : List ℕ) → Listing
to_come_in Start s letters rest = symbols_of rest
to_come_in Between s letters rest = read s.spelling rest 0 s.may_comment s.here.line
to_come_in (AfterPrefix opener) s letters rest = read s.spelling (opener_byte opener ∷ rest) 0 s.may_comment s.here.line
to_come_in InWord s letters rest = read s.spelling (word_byte s.spelling ∷ letters ++ rest) 0 s.may_comment s.here.line
to_come_in (InString depth) s letters rest = string_to_come (string_bytes rest (depth - 1)) s.spelling s.may_comment s.began.line
    s.here.line rest
to_come_in InComment s letters rest = read s.spelling rest (comment_length rest) s.may_comment s.here.line
to_come_in InSkipped s letters rest = read s.spelling rest (skipped_length s.spelling rest 0) s.may_comment s.here.line
to_come_in InSkippedWord s letters rest = read s.spelling (word_byte s.spelling ∷ letters ++ rest)
    (skipped_length s.spelling (word_byte s.spelling ∷ letters ++ rest) 0) s.may_comment s.here.line

abbrev pub to_come : State → (letters rest : List ℕ) → Listing
to_come s letters rest = to_come_in s.mode s letters rest

abbrev pub faults_found : Token → List (FaultAt FaultKind)
faults_found Nothing = []
faults_found (Written s) = []
faults_found (LexError fault) = without_position fault ∷ []

abbrev pub Closed : List (FaultAt FaultKind) → Type 0
Closed faults = All (λ fault. fault.kind ≢ Unclosed) faults

-- a listing begins with these symbols and faults, and then this is left of it; of the symbols this is said where no string is
-- open
pub record Begins (whole : Listing) (given : List Symbol) (wrong : List (FaultAt FaultKind)) (left : Listing) : Type 0 where
  pub faults : map as_fault whole.faults ≡ wrong ++ map as_fault left.faults
  pub symbols : Closed (map as_fault whole.faults) → whole.symbols ≡ given ++ left.symbols

pub begins_none : (whole : Listing) → Begins whole [] [] whole
begins_none whole = record { faults = refl; symbols = λ closed. refl }

closed_behind : (before left : List (FaultAt FaultKind)) → Closed (before ++ left) → Closed left
closed_behind [] left closed = closed
closed_behind (fault ∷ before) left closed = closed_behind before left
    (All-tail (λ (f : FaultAt FaultKind). f.kind ≢ Unclosed) fault (before ++ left) closed)

pub begins_more : (whole mid left : Listing) (symbols more : List Symbol) (faults later : List (FaultAt FaultKind))
    → Begins whole symbols faults mid → Begins mid more later left → Begins whole (symbols ++ more) (faults ++ later) left
begins_more whole mid left symbols more faults later h k = record {
  faults = h.faults ∙ ap (λ (l : List (FaultAt FaultKind)). faults ++ l) k.faults ∙ sym (append_assoc faults later (map as_fault left.faults));
  symbols = λ closed. h.symbols closed ∙ ap (λ (l : List Symbol). symbols ++ l)
      (k.symbols (closed_behind faults (map as_fault mid.faults) (rw h.faults at closed))) ∙ sym (append_assoc symbols more left.symbols);
}

-- the same of a listing that is joined of two
pub begins_joined : (whole left first : Listing) → whole ≡ listings_joined first left → Begins whole first.symbols (map as_fault first.faults) left
begins_joined whole left first is = record {
  faults = ap (λ (l : Listing). map as_fault l.faults) is ∙ map-append as_fault first.faults left.faults;
  symbols = λ closed. ap (λ (l : Listing). l.symbols) is;
}

pub begins_same : (whole other left : Listing) (symbols : List Symbol) (faults : List (FaultAt FaultKind)) → whole ≡ other
    → Begins other symbols faults left → Begins whole symbols faults left
begins_same whole other left symbols faults is h = rw is h

pub begins_as : (whole left : Listing) → whole ≡ left → Begins whole [] [] left
begins_as whole left is = begins_same whole left left [] [] is (begins_none left)
