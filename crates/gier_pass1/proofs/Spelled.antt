-- The spelling is told by the first byte alone.
use Rattle.std.proofs.Common.{◌≡◌, ◌≢◌, ◌-◌, ℕ, Bool, true, false, if◌then◌else◌, eqb, nat_le, refl}
use Rattle.gier_symbol.specs.declared.word.Spelling.{Spelling}
use Rattle.gier_pass1.specs.declared.bytes.Kind.{Kind}
use Rattle.gier_pass1.specs.declared.bytes.Kind.TheVariants.{Layout, Letter, Digit, WordStart, StringStart, DoubleSignPrefix, Sign, Other}
use Rattle.gier_pass1.specs.declared.state.Mode.{Mode}
use Rattle.gier_pass1.specs.declared.state.Mode.TheVariants.{Start, Between, AfterPrefix, InWord, InString, InComment, InSkipped, InSkippedWord}
use Rattle.gier_pass1.specs.declared.state.State.{State}
use Rattle.gier_pass1.specs.declared.state.Step.{Step}
use Rattle.gier_pass1.specs.Bytes.{kind_of, starts_word}
use Rattle.gier_pass1.specs.Scan.{begin_as, begin_step, taken_step, taken_in, string_byte}

-- what holds of both steps holds of the one that is taken
pub on_if : (P : Step → Type 0) (test : Bool) (a b : Step) → P a → P b → P (if test then a else b)
on_if P true a b h k = h
on_if P false a b h k = k

abbrev HasSpelling : Spelling → Step → Type 0
HasSpelling spelling step = step.state.spelling ≡ spelling

begun : (kind : Kind) (s : State) (byte : ℕ) → HasSpelling s.spelling (begin_as kind s byte)
begun Layout s byte = refl
begun Letter s byte = refl
begun Digit s byte = refl
begun WordStart s byte = refl
begun StringStart s byte = refl
begun (DoubleSignPrefix opener) s byte = refl
begun (Sign tag) s byte = refl
begun Other s byte = refl

any : (s : State) (byte : ℕ) → HasSpelling s.spelling (begin_step s byte)
any s byte = begun (kind_of s.spelling byte) s byte

taken_spelling : (mode : Mode) (s : State) (byte : ℕ) → mode ≢ Start → HasSpelling s.spelling (taken_in mode s byte)
taken_spelling Start s byte other = absurd (other refl)
taken_spelling Between s byte other = any s byte
taken_spelling (AfterPrefix opener) s byte other = any s byte
taken_spelling InWord s byte other = any s byte
taken_spelling (InString depth) s byte other = on_if (HasSpelling s.spelling) (eqb byte 123) _ _ refl
    (on_if (HasSpelling s.spelling) (eqb byte 125) _ _ (on_if (HasSpelling s.spelling) (nat_le depth 1) _ (string_byte s (depth - 1) byte)
    refl refl) refl)
taken_spelling InComment s byte other = on_if (HasSpelling s.spelling) (eqb byte 59) _ _ refl refl
taken_spelling InSkipped s byte other = on_if (HasSpelling s.spelling) (eqb byte 59) _ _ (any s byte)
    (on_if (HasSpelling s.spelling) (starts_word s.spelling byte) _ _ refl refl)
taken_spelling InSkippedWord s byte other = any s byte

pub taken_keeps : (s : State) (byte : ℕ) → s.mode ≢ Start → (taken_step s byte).state.spelling ≡ s.spelling
taken_keeps s byte other = taken_spelling s.mode s byte other
