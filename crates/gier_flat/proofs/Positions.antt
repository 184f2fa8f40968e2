-- Where a piece of text 7 stands in it, and which word of the object stands there.
use Rattle.std.proofs.Common.{◌≡◌, ℕ, suc, ◌+◌, ◌<◌, List, [], ◌∷◌, ◌++◌, length, refl, sym, ap, ◌∙◌, subst, arith, inl, inr}
use Rattle.std.specs.Prelude.{slice_get, ⊤}
use Rattle.std.proofs.lemmas.List.{append_assoc}
use Rattle.gier_symbol.specs.declared.symbol.Symbol.{Symbol}
use Rattle.gier_tree.specs.Orders.{State}
use Rattle.gier_tree.specs.Object.{Piece, APlace, AUse, AWordUse, ARoom, ANeed, ACount, AWord, AnOrder, piece_of, words_of, object_word, object_from, object_of}
use Rattle.gier_tree.specs.Words.{words_in, stop_tag, HasStop}

pub words_both : (a b : List Symbol) → words_in (a ++ b) ≡ words_in a + words_in b
words_both [] b = omega arith
words_both (s ∷ a) b = omega (arith, words_both a b)

get_at : {A : Type 0} (xs : List A) (i j : ℕ) → i ≡ j → slice_get xs i ≡ slice_get xs j
get_at xs i j e = ap (slice_get xs) e

past : (piece : Piece) (text behind : List Symbol) (rest : List ℕ) (k : ℕ) → slice_get (object_word piece text behind rest) (words_of piece + k) ≡ slice_get rest k
past (APlace l) text behind rest k = get_at rest (0 + k) k (omega arith)
past (AUse h l) text behind rest k = get_at (object_word (AUse h l) text behind rest) (1 + k) (suc k) (omega arith)
past (AWordUse l) text behind rest k = get_at (object_word (AWordUse l) text behind rest) (1 + k) (suc k) (omega arith)
past (ARoom h r) text behind rest k = get_at (object_word (ARoom h r) text behind rest) (1 + k) (suc k) (omega arith)
past (ANeed n) text behind rest k = get_at rest (0 + k) k (omega arith)
past ACount text behind rest k = get_at rest (0 + k) k (omega arith)
past (AWord v) text behind rest k = get_at (object_word (AWord v) text behind rest) (1 + k) (suc k) (omega arith)
past (AnOrder op v) text behind rest k = get_at (object_word (AnOrder op v) text behind rest) (1 + k) (suc k) (omega arith)

word_behind : (text before rest : List Symbol) → slice_get (object_from text (before ++ rest)) (words_in before) ≡ slice_get (object_from text rest) 0
word_behind text [] rest = refl
word_behind text (s ∷ before) rest = past (piece_of s) text (before ++ rest) (object_from text (before ++ rest)) (words_in before) ∙ word_behind text before rest

length_word : (piece : Piece) (text behind : List Symbol) (rest : List ℕ) → length (object_word piece text behind rest) ≡ words_of piece + length rest
length_word (APlace l) text behind rest = omega arith
length_word (AUse h l) text behind rest = omega arith
length_word (AWordUse l) text behind rest = omega arith
length_word (ARoom h r) text behind rest = omega arith
length_word (ANeed n) text behind rest = omega arith
length_word ACount text behind rest = omega arith
length_word (AWord v) text behind rest = omega arith
length_word (AnOrder op v) text behind rest = omega arith

pub length_from : (text rest : List Symbol) → length (object_from text rest) ≡ words_in rest
length_from text [] = refl
length_from text (s ∷ rest) = length_word (piece_of s) text rest (object_from text rest) ∙ ap (λ n. words_of (piece_of s) + n) (length_from text rest)

-- no symbol that was passed has the tag of STOP
abbrev pub NoStop : List Symbol → Type 0
NoStop [] = ⊤
NoStop (s ∷ ss) = (s.tag ≡ stop_tag → ⊥) × NoStop ss

pub no_stop_both : (a b : List Symbol) → NoStop a → NoStop b → NoStop (a ++ b)
no_stop_both [] b na nb = nb
no_stop_both (s ∷ a) b na nb = (na.0, no_stop_both a b na.1 nb)

stop_behind : (a b : List Symbol) → NoStop a → HasStop (a ++ b) → HasStop b
stop_behind [] b none has = has
stop_behind (s ∷ a) b none (inl e) = absurd (none.0 e.0)
stop_behind (s ∷ a) b none (inr has) = stop_behind a b none.1 has

stop_word : (a : List Symbol) → HasStop a → 0 < words_in a
stop_word [] has = absurd has
stop_word (s ∷ a) (inl e) = let w = e.1 in omega arith
stop_word (s ∷ a) (inr has) = let w = stop_word a has in omega arith

module _ (text : List Symbol) where
  -- these symbols stand behind so many words, to the end of the text
  pub record Rest (words : ℕ) (rest : List Symbol) : Type 0 where
    pub before : List Symbol
    pub whole : before ++ rest ≡ text
    pub count : words_in before ≡ words
    pub open_yet : NoStop before

  abbrev pub At : State → List Symbol → Type 0
  At st rest = Rest st.words rest

  -- the word of the object there, where the first symbol has one
  pub word_there : (st : State) (rest : List Symbol) → At st rest → slice_get (object_of text) st.words ≡ slice_get (object_from text rest) 0
  word_there st rest at =
      subst (λ n. slice_get (object_of text) n ≡ slice_get (object_from text rest) 0) at.count
      (subst (λ t. slice_get (object_from text t) (words_in at.before) ≡ slice_get (object_from text rest) 0) at.whole (word_behind text at.before rest))

  -- behind the first symbol
  pub behind : (st st1 : State) (s : Symbol) (rest : List Symbol) → At st (s ∷ rest) → (s.tag ≡ stop_tag → ⊥) → st1.words ≡ words_of (piece_of s) + st.words → At st1 rest
  behind st st1 s rest at other e = record {
    before = at.before ++ s ∷ [];
    whole = append_assoc at.before (s ∷ []) rest ∙ at.whole;
    count = omega (arith, words_both at.before (s ∷ []), at.count, e);
    open_yet = no_stop_both at.before (s ∷ []) at.open_yet (other, tt);
  }

  -- a word still follows
  pub within : HasStop text → (st : State) (rest : List Symbol) → At st rest → st.words < length (object_of text)
  within has st rest at =
      let more : 0 < words_in rest = stop_word rest (stop_behind at.before rest at.open_yet (subst HasStop (sym at.whole) has)) in
      let all : words_in text ≡ words_in at.before + words_in rest = sym (ap words_in at.whole) ∙ words_both at.before rest in
      omega (arith, all, at.count, more, length_from text text)
