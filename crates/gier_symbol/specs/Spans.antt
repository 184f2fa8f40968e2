-- How far strings, comments and skipped parts reach (Report 2.3, 2.6.3).
use Rattle.std.specs.Prelude.{◌==◌, ℕ, zero, suc, Bool, true, false, List, [], ◌∷◌, Option, None, Some}
use Rattle.std.specs.Option.{option_map}
use Rattle.gier_symbol.specs.declared.tag.Tag.TheVariants.{End, Else}
use Rattle.gier_symbol.specs.declared.word.Spelling.{Spelling}
use Rattle.gier_symbol.specs.Tags.{number_of}
use Rattle.gier_symbol.specs.Bytes.{opening_brace, closing_brace}
use Rattle.gier_symbol.specs.Words.{word_byte, WordRead, word_of}

-- a byte of a string is an inner brace, or the closing one where no inner one is open, or any other byte
abbrev pub string_step : (opens closes : Bool) → (inner : ℕ) → (byte : ℕ) → ((inner : ℕ) → Option (List ℕ)) → Option (List ℕ)
string_step true closes inner byte go_on = option_map (λ (l : List ℕ). byte ∷ l) (go_on (suc inner))
string_step false true zero byte go_on = Some []
string_step false true (suc inner) byte go_on = option_map (λ (l : List ℕ). byte ∷ l) (go_on inner)
string_step false false inner byte go_on = option_map (λ (l : List ℕ). byte ∷ l) (go_on inner)

-- the bytes up to the brace that closes a string, where so many inner braces are open; none where nothing closes it
abbrev pub string_bytes : List ℕ → (inner : ℕ) → Option (List ℕ)
string_bytes [] inner = None
string_bytes (byte ∷ rest) inner = string_step (byte == opening_brace) (byte == closing_brace) inner byte (string_bytes rest)

abbrev pub semicolon : ℕ
semicolon = 59

abbrev pub comment_step : Bool → ℕ → ℕ
comment_step true behind = 1
comment_step false behind = suc behind

-- how many bytes a comment takes: up to the next `;`, and with it, or all
abbrev pub comment_length : List ℕ → ℕ
comment_length [] = 0
comment_length (byte ∷ rest) = comment_step (byte == semicolon) (comment_length rest)

-- a skipped part ends before the words `_end` and `_else`; any other word is passed over as one
abbrev pub ends_skipping : Option ℕ → Bool
ends_skipping None = false
ends_skipping (Some tag) = tag == number_of End

abbrev pub also_ends : Option ℕ → Bool
also_ends None = false
also_ends (Some tag) = tag == number_of Else

abbrev pub skipped_word : (ends also : Bool) → (taken : ℕ) → ((passed : ℕ) → ℕ) → ℕ
skipped_word true also taken go_on = 0
skipped_word false true taken go_on = 0
skipped_word false false taken go_on = suc (go_on taken)

abbrev pub skipped_step : (semicolon word : Bool) → WordRead → ((passed : ℕ) → ℕ) → ℕ
skipped_step true word read go_on = 0
skipped_step false true read go_on = skipped_word (ends_skipping read.tag) (also_ends read.tag) read.taken go_on
skipped_step false false read go_on = suc (go_on 0)

-- how many bytes are skipped behind `_end`, where so many of them belong to a word that is passed over
abbrev pub skipped_length : Spelling → List ℕ → (passed : ℕ) → ℕ
skipped_length spelling [] passed = 0
skipped_length spelling (byte ∷ rest) (suc passed) = suc (skipped_length spelling rest passed)
skipped_length spelling (byte ∷ rest) zero = skipped_step (byte == semicolon) (byte == word_byte spelling) (word_of spelling rest)
    (skipped_length spelling rest)
