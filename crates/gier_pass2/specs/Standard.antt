-- The standard names, as they are read letter by letter, with a space behind each.
use Rattle.std.specs.Prelude.{◌≡◌, ◌==◌, ◌++◌, ◌∷◌, [], ℕ, Bool, true, false, List, codes}
use Rattle.gier_symbol.specs.Assembly.{place_of, known_by, standard_names}
use Rattle.gier_text.specs.TablesModel.{TablesModel}
use Rattle.gier_pass2.specs.Tree.{Names}

abbrev pub standard_bytes : List ℕ
standard_bytes = codes "outinteger outtext outcr outchar ininteger inchar abs sign "

-- the names that are known after these bytes, where a name has begun with some letters
abbrev pub names_by : (space : Bool) → (byte : ℕ) → (word : List ℕ) → (names : List (List ℕ))
    → (List ℕ → List (List ℕ) → List (List ℕ))
    → List (List ℕ)
names_by true byte word names go_on = go_on [] (known_by (place_of word names) word names)
names_by false byte word names go_on = go_on (word ++ byte ∷ []) names

abbrev pub names_in : List ℕ → (word : List ℕ) → (names : List (List ℕ)) → List (List ℕ)
names_in [] word names = names
names_in (byte ∷ bytes) word names = names_by (byte == 32) byte word names (names_in bytes)

-- the node is that of the letters so far, and with the names that these bytes add the standard ones are known
pub record Spells (t : TablesModel) (known node : ℕ) (bytes : List ℕ) : Type 0 where
  pub names : List (List ℕ)
  pub word : List ℕ
  pub here : Names t known names node word
  pub rest : names_in bytes word names ≡ standard_names
