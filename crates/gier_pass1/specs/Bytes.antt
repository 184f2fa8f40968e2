-- What a byte is by itself.
use Rattle.std.specs.Prelude.{◌==◌, ◌&&◌, ◌||◌, ℕ, Bool, IsTrue, nat_le, if◌then◌else◌, Option, None, Some}
use Rattle.gier_symbol.specs.declared.tag.Tag.{Tag}
use Rattle.gier_symbol.specs.declared.tag.Tag.TheVariants.{Plus, Minus, Times, Power, Less, NotGreater, Equal, NotLess, Greater}
use Rattle.gier_symbol.specs.declared.tag.Tag.TheVariants.{NotEqual, Comma, Colon, Semicolon, Becomes, LeftParenthesis}
use Rattle.gier_symbol.specs.declared.tag.Tag.TheVariants.{RightParenthesis, LeftBracket, RightBracket}
use Rattle.gier_symbol.specs.declared.word.Spelling.{Spelling}
use Rattle.gier_symbol.specs.Tags.{number_of}
use Rattle.gier_symbol.specs.Texts.{stands_in}
use Rattle.gier_symbol.specs.Words.{word_byte}
use Rattle.gier_pass1.specs.declared.bytes.Kind.{Kind}
use Rattle.gier_pass1.specs.declared.bytes.Kind.TheVariants.{Layout, Letter, Digit, WordStart, StringStart}
use Rattle.gier_pass1.specs.declared.bytes.Kind.TheVariants.{DoubleSignPrefix as OpenerKind, Sign, Other}
use Rattle.gier_pass1.specs.declared.bytes.DoubleSignPrefix.{DoubleSignPrefix}
use Rattle.gier_pass1.specs.declared.bytes.DoubleSignPrefix.TheVariants.{Less as LessOpener, Greater as GreaterOpener}
use Rattle.gier_pass1.specs.declared.bytes.DoubleSignPrefix.TheVariants.{Colon as ColonOpener}

-- tabulator, new line, carriage return and space
abbrev pub is_layout : ℕ → Bool
is_layout byte = byte == 9 || byte == 10 || byte == 13 || byte == 32

abbrev pub is_letter : ℕ → Bool
is_letter byte = (nat_le 97 byte && nat_le byte 122) || (nat_le 65 byte && nat_le byte 90)

abbrev pub is_digit : ℕ → Bool
is_digit byte = nat_le 48 byte && nat_le byte 57

abbrev pub starts_word : Spelling → ℕ → Bool
starts_word spelling byte = byte == word_byte spelling

-- `<`, `>` and `:` may be the first byte of a double sign
abbrev pub opener_of : ℕ → Option DoubleSignPrefix
opener_of byte =
    if byte == 60 then Some LessOpener
    else (if byte == 62 then Some GreaterOpener
    else (if byte == 58 then Some ColonOpener else None))

-- the other signs of one byte: `+ - * ^ = , ; ( ) [ ]`
abbrev pub sign_of : ℕ → Option Tag
sign_of byte =
    if byte == 43 then Some Plus
    else (if byte == 45 then Some Minus
    else (if byte == 42 then Some Times
    else (if byte == 94 then Some Power
    else (if byte == 61 then Some Equal
    else (if byte == 44 then Some Comma
    else (if byte == 59 then Some Semicolon
    else (if byte == 40 then Some LeftParenthesis
    else (if byte == 41 then Some RightParenthesis
    else (if byte == 91 then Some LeftBracket
    else (if byte == 93 then Some RightBracket else None))))))))))

abbrev pub plain_kind : Option Tag → Kind
plain_kind None = Other
plain_kind (Some tag) = Sign tag

abbrev pub opener_kind : Option DoubleSignPrefix → Kind → Kind
opener_kind None kind = kind
opener_kind (Some opener) kind = OpenerKind opener

abbrev pub sign_kind : ℕ → Kind
sign_kind byte = opener_kind (opener_of byte) (plain_kind (sign_of byte))

-- what a byte is where a symbol may begin; `{` begins a string
abbrev pub kind_of : Spelling → ℕ → Kind
kind_of spelling byte =
    if is_layout byte then Layout
    else (if is_letter byte then Letter
    else (if is_digit byte then Digit
    else (if starts_word spelling byte then WordStart
    else (if byte == 123 then StringStart else sign_kind byte))))

-- the sign alone
abbrev pub single_sign : DoubleSignPrefix → Tag
single_sign LessOpener = Less
single_sign GreaterOpener = Greater
single_sign ColonOpener = Colon

-- the double sign that a byte makes of the sign: `<=`, `<>`, `>=` and `:=`
abbrev pub double_of : DoubleSignPrefix → ℕ → Option Tag
double_of LessOpener byte = if byte == 61 then Some NotGreater else (if byte == 62 then Some NotEqual else None)
double_of GreaterOpener byte = if byte == 61 then Some NotLess else None
double_of ColonOpener byte = if byte == 61 then Some Becomes else None

-- a sign is a letter of text 1
abbrev pub IsSignOfText : Kind → Type 0
IsSignOfText Layout = Unit {0}
IsSignOfText Letter = Unit {0}
IsSignOfText Digit = Unit {0}
IsSignOfText WordStart = Unit {0}
IsSignOfText StringStart = Unit {0}
IsSignOfText (OpenerKind opener) = Unit {0}
IsSignOfText (Sign tag) = IsTrue (stands_in 1 (number_of tag))
IsSignOfText Other = Unit {0}
