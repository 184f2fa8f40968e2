-- Text 8 from any symbol on, by what stands behind each symbol: that is all that is known when a text is read from its end.
use Rattle.std.specs.Prelude.{◌≡◌, ◌<◌, ◌≤◌, ◌+◌, ◌*◌, ◌^◌, ℕ, if◌then◌else◌, List, [], ◌∷◌, length, reverse}
use Rattle.gier_symbol.specs.declared.symbol.Symbol.{Symbol}
use Rattle.gier_symbol.specs.declared.tag.Tag.TheVariants.{Word}
use Rattle.gier_symbol.specs.ByTag.{sym}
use Rattle.gier_text.specs.TablesModel.{TablesModel}
use Rattle.gier_tree.specs.Complete.{is_placed}
use Rattle.gier_tree.specs.Object.{Piece, APlace, AUse, AWordUse, ARoom, ANeed, ACount, piece_of, words_of, need_behind}
use Rattle.gier_tree.specs.Object.{address_of, is_used, known_order, kept_if}
use Rattle.gier_pass8.specs.declared.words.Label.{Label}
use Rattle.gier_pass8.specs.declared.words.Label.TheVariants.{New, Used, At}
use Rattle.gier_pass8.specs.Knowledge.{Knows, needs_of}
use Rattle.gier_tree.specs.Words.{words_in}
use Rattle.gier_tree.specs.Complete.{open_needs, AllSuit}

-- what is known of a label by the symbols behind a place
abbrev pub label_state : (place : ℕ) → (behind : List Symbol) → (label : ℕ) → Label
label_state place behind label =
    if is_placed label behind then At (address_of behind label place)
    else (if is_used label behind then Used else New)

-- a symbol with so many words before it, and the rest of the text behind it
abbrev pub text8_by : Piece → (place : ℕ) → Symbol → (behind rest : List Symbol) → List Symbol
text8_by (APlace label) place s behind rest = kept_if (is_used label behind) s rest
text8_by (AUse head label) place s behind rest =
    (if is_placed label behind then known_order head (address_of behind label (place + 1)) s.line else s) ∷ rest
text8_by (AWordUse label) place s behind rest =
    (if is_placed label behind then sym Word (address_of behind label (place + 1)) s.line else s) ∷ rest
text8_by (ARoom head words) place s behind rest = known_order head (words + need_behind behind 0) s.line ∷ rest
text8_by (ANeed need) place s behind rest = rest
text8_by ACount place s behind rest = rest
text8_by piece place s behind rest = s ∷ rest

abbrev pub text8_from : (place : ℕ) → List Symbol → List Symbol
text8_from place [] = []
text8_from place (s ∷ behind) = text8_by (piece_of s) place s behind (text8_from (place + words_of (piece_of s)) behind)

-- the list has these needs, the last one first
pub record HasNeeds (t : TablesModel) (needs : List ℕ) : Type 0 where
  pub words : (needs_of t).words ≡ reverse needs
  pub count : (needs_of t).count ≡ length needs

-- From this place on all symbols were taken, of a text with so many words.
pub record IsWrittenFrom (room words place : ℕ) (behind : List Symbol) (t : TablesModel) (written : List Symbol) : Type 0 where
  pub at : 0 < length behind → place + words_in behind ≡ words
  pub labels : Knows room t (label_state place behind)
  pub needs : HasNeeds t (open_needs behind)
  pub text : reverse written ≡ text8_from place behind

-- so it is of whichever text these symbols are the end
abbrev pub WritesFromTheEnd : (bytes place : ℕ) → TablesModel → (behind written : List Symbol) → Type 0
WritesFromTheEnd bytes place t behind written =
    (text : List Symbol) → words_in text < 2 ^ 24 → AllSuit (20 * bytes + 64) text behind → words_in behind ≤ words_in text
    → IsWrittenFrom (20 * bytes + 64) (words_in text) place behind t written
