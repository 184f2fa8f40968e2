-- The end of a sign that may be a double one gives what the rules give for the sign.
use Rattle.std.proofs.Common.{◌≡◌, ℕ, Bool, true, false, List, [], ◌∷◌, eqb, slice_get, refl, sym}
use Rattle.gier_symbol.specs.declared.tag.Tag.{Tag}
use Rattle.gier_symbol.specs.declared.tag.Tag.TheVariants.{Less as LessTag, NotGreater, NotLess, Greater as GreaterTag, NotEqual, Colon as ColonTag, Becomes}
use Rattle.gier_symbol.specs.Bytes.{sign_front, sign_before}
use Rattle.gier_symbol.specs.ByTag.{word}
use Rattle.gier_symbol.specs.Listing.{Listing}
use Rattle.gier_pass1.specs.declared.bytes.DoubleSignPrefix.{DoubleSignPrefix}
use Rattle.gier_pass1.specs.declared.bytes.DoubleSignPrefix.TheVariants.{Less, Greater, Colon}
use Rattle.gier_pass1.specs.declared.state.Mode.TheVariants.{AfterPrefix}
use Rattle.gier_pass1.specs.declared.state.State.{State}
use Rattle.gier_pass1.specs.declared.state.Step.{Step}
use Rattle.gier_pass1.specs.Puts.{letters_in}
use Rattle.gier_pass1.specs.Scan.{sign_ended}
use Rattle.gier_pass1.proofs.SymbolStarts.{by_front, opener_front, same_byte}
use Rattle.gier_pass1.proofs.Signs.{false_and}
use Rattle.gier_pass1.proofs.RestOfProgram.{to_come, to_come_in, opener_byte, faults_found, Begins, begins_joined, begins_same}
use Rattle.gier_pass1.proofs.WordsFed.{left_by, Ended}

-- the step ends the sign of these bytes
abbrev SignEnded : DoubleSignPrefix → Step → State → List ℕ → Type 0
SignEnded opener step s rest = Begins (by_front (sign_front (sign_before (opener_byte opener ∷ rest))) s.spelling s.may_comment
    (opener_byte opener) rest s.here.line) (letters_in step.found) (faults_found step.found)
    (to_come step.state [] (left_by step.taken rest))

abbrev gives : Tag → State → Listing
gives tag s = record { symbols = word tag s.here.line ∷ []; faults = [] }

less_by : (not_greater not_equal : Bool) (s : State) (byte : ℕ) (rest : List ℕ) → eqb byte 61 ≡ not_greater → eqb byte 62 ≡ not_equal
    → s.began.line ≡ s.here.line → SignEnded Less (sign_ended s Less (slice_get (byte ∷ rest) 0)) s (byte ∷ rest)
less_by true not_equal s byte rest e n line = rw (same_byte byte 61 e, line) (begins_joined _ _ (gives NotGreater s) refl)
less_by false true s byte rest e n line = rw (same_byte byte 62 n, line) (begins_joined _ _ (gives NotEqual s) refl)
less_by false false s byte rest e n line = rw (e, n, false_and byte 61 e, false_and byte 62 n, line)
    (begins_joined _ _ (gives LessTag s) refl)

greater_by : (not_less : Bool) (s : State) (byte : ℕ) (rest : List ℕ) → eqb byte 61 ≡ not_less → s.began.line ≡ s.here.line
    → SignEnded Greater (sign_ended s Greater (slice_get (byte ∷ rest) 0)) s (byte ∷ rest)
greater_by true s byte rest e line = rw (same_byte byte 61 e, line) (begins_joined _ _ (gives NotLess s) refl)
greater_by false s byte rest e line = rw (e, false_and byte 61 e, line) (begins_joined _ _ (gives GreaterTag s) refl)

colon_by : (becomes : Bool) (s : State) (byte : ℕ) (rest : List ℕ) → eqb byte 61 ≡ becomes → s.began.line ≡ s.here.line
    → SignEnded Colon (sign_ended s Colon (slice_get (byte ∷ rest) 0)) s (byte ∷ rest)
colon_by true s byte rest e line = rw (same_byte byte 61 e, line) (begins_joined _ _ (gives Becomes s) refl)
colon_by false s byte rest e line = rw (e, false_and byte 61 e, line) (begins_joined _ _ (gives ColonTag s) refl)

signs_end : (opener : DoubleSignPrefix) (s : State) (rest : List ℕ) → s.began.line ≡ s.here.line
    → SignEnded opener (sign_ended s opener (slice_get rest 0)) s rest
signs_end Less s [] line = rw line (begins_joined _ _ (gives LessTag s) refl)
signs_end Less s (byte ∷ rest) line = less_by (eqb byte 61) (eqb byte 62) s byte rest refl refl line
signs_end Greater s [] line = rw line (begins_joined _ _ (gives GreaterTag s) refl)
signs_end Greater s (byte ∷ rest) line = greater_by (eqb byte 61) s byte rest refl line
signs_end Colon s [] line = rw line (begins_joined _ _ (gives ColonTag s) refl)
signs_end Colon s (byte ∷ rest) line = colon_by (eqb byte 61) s byte rest refl line

whole : (opener : DoubleSignPrefix) (s : State) (rest : List ℕ) → by_front (sign_front (sign_before (opener_byte opener ∷ rest))) s.spelling
    s.may_comment (opener_byte opener) rest s.here.line ≡ to_come_in (AfterPrefix opener) s [] rest
whole Less s rest = opener_front Less s.spelling s.may_comment 60 rest s.here.line refl
whole Greater s rest = opener_front Greater s.spelling s.may_comment 62 rest s.here.line refl
whole Colon s rest = opener_front Colon s.spelling s.may_comment 58 rest s.here.line refl

-- a sign that was begun
pub sign_ends : (opener : DoubleSignPrefix) (s : State) (letters rest : List ℕ) → s.began.line ≡ s.here.line
    → Ended (sign_ended (record s { mode = AfterPrefix opener }) opener (slice_get rest 0)) (record s { mode = AfterPrefix opener })
    letters rest
sign_ends opener s letters rest line = begins_same _ _ _ _ _ (sym (whole opener s rest))
    (signs_end opener (record s { mode = AfterPrefix opener }) rest line)
