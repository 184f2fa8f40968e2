-- The words of a string: what the order that prints a string prints of them, and where they stand in the object.
use Rattle.std.proofs.Common.{◌≡◌, ℕ, zero, suc, ◌+◌, ◌/◌, ◌<◌, ◌≤◌, Bool, true, false, List, [], ◌∷◌, ◌++◌, length, Some, refl, sym, ap, ap₂, ◌∙◌, subst, arith}
use Rattle.std.specs.Prelude.{◌-◌, ⊤, min, take, drop, slice_get}
use Rattle.std.proofs.lemmas.Bool.{lt-ltb}
use Rattle.std.proofs.lemmas.List.{take-append-drop}
use Rattle.gier_symbol.specs.declared.symbol.Symbol.{Symbol}
use Rattle.gier_symbol.specs.declared.tag.Tag.TheVariants.{Word}
use Rattle.gier_symbol.specs.ByTag as tagged
use Rattle.gier_order.specs.Flat.Row.{Regs, On, Row, odd, behind_ref, behind_bytes, on_word, plain}
use Rattle.gier_order.specs.Flat.Rows.{bytes_of, prints_words, prints_string, on, is_address}
use Rattle.gier_tree.specs.Coded.{five_bytes, bytes_words, string_words}
use Rattle.gier_tree.specs.Object.{object_of}
use Rattle.gier_tree.specs.Orders as code
use Rattle.gier_tree.specs.Orders.{Following, data_words, behind_word}
use Rattle.gier_flat.specs.Fair.{AreBytes}
use Rattle.gier_flat.proofs.Positions.{At, word_there, behind}
use Rattle.gier_flat.proofs.Orders.{needed}

-- ---- five bytes of a word

same_five : (a b c d e v w x y z : ℕ) → a ≡ v → b ≡ w → c ≡ x → d ≡ y → e ≡ z → (a ∷ b ∷ c ∷ d ∷ e ∷ []) ≡ (v ∷ w ∷ x ∷ y ∷ z ∷ [])
same_five a b c d e v w x y z p q r s t = cc

five_digits : (a b c d e : ℕ) → a < 256 → b < 256 → c < 256 → d < 256 → e < 256 → bytes_of (five_bytes 5 (a ∷ b ∷ c ∷ d ∷ e ∷ [])) ≡ (a ∷ b ∷ c ∷ d ∷ e ∷ [])
five_digits a b c d e la lb lc ld le =
    let w : ℕ = five_bytes 5 (a ∷ b ∷ c ∷ d ∷ e ∷ []) in
    same_five _ _ _ _ _ a b c d e (omega (arith, la, lb, lc, ld, le)) (omega (arith, la, lb, lc, ld, le)) (omega (arith, la, lb, lc, ld, le)) (omega (arith, la, lb, lc, ld, le)) (omega (arith, la, lb, lc, ld, le))

five_back : (bytes : List ℕ) → AreBytes bytes → take (min (length bytes) 5) (bytes_of (five_bytes 5 bytes)) ≡ take 5 bytes
five_back [] h = refl
five_back (a ∷ []) h =
    let e : five_bytes 5 (a ∷ []) ≡ five_bytes 5 (a ∷ 0 ∷ 0 ∷ 0 ∷ 0 ∷ []) = omega arith in
    ap (λ w. take 1 (bytes_of w)) e ∙ ap (take 1) (five_digits a 0 0 0 0 h.0 (omega arith) (omega arith) (omega arith) (omega arith))
five_back (a ∷ b ∷ []) h =
    let e : five_bytes 5 (a ∷ b ∷ []) ≡ five_bytes 5 (a ∷ b ∷ 0 ∷ 0 ∷ 0 ∷ []) = omega arith in
    ap (λ w. take 2 (bytes_of w)) e ∙ ap (take 2) (five_digits a b 0 0 0 h.0 h.1.0 (omega arith) (omega arith) (omega arith))
five_back (a ∷ b ∷ c ∷ []) h =
    let e : five_bytes 5 (a ∷ b ∷ c ∷ []) ≡ five_bytes 5 (a ∷ b ∷ c ∷ 0 ∷ 0 ∷ []) = omega arith in
    ap (λ w. take 3 (bytes_of w)) e ∙ ap (take 3) (five_digits a b c 0 0 h.0 h.1.0 h.1.1.0 (omega arith) (omega arith))
five_back (a ∷ b ∷ c ∷ d ∷ []) h =
    let e : five_bytes 5 (a ∷ b ∷ c ∷ d ∷ []) ≡ five_bytes 5 (a ∷ b ∷ c ∷ d ∷ 0 ∷ []) = omega arith in
    ap (λ w. take 4 (bytes_of w)) e ∙ ap (take 4) (five_digits a b c d 0 h.0 h.1.0 h.1.1.0 h.1.1.1.0 (omega arith))
five_back (a ∷ b ∷ c ∷ d ∷ e ∷ more) h =
    let n : min (length (a ∷ b ∷ c ∷ d ∷ e ∷ more)) 5 ≡ 5 = omega arith in
    ap (λ k. take k (bytes_of (five_bytes 5 (a ∷ b ∷ c ∷ d ∷ e ∷ more)))) n ∙ five_digits a b c d e h.0 h.1.0 h.1.1.0 h.1.1.1.0 h.1.1.1.1.0

drop_bytes : (n : ℕ) (bytes : List ℕ) → AreBytes bytes → AreBytes (drop n bytes)
drop_bytes zero bytes h = h
drop_bytes (suc n) [] h = tt
drop_bytes (suc n) (b ∷ bytes) h = drop_bytes n bytes h.1

drop_length : (n : ℕ) (bytes : List ℕ) → length (drop n bytes) ≡ length bytes - n
drop_length zero bytes = omega arith
drop_length (suc n) [] = omega arith
drop_length (suc n) (b ∷ bytes) = drop_length n bytes ∙ omega arith

-- ---- these words stand one behind the other from an address on

abbrev pub Stand : List ℕ → (address : ℕ) → List ℕ → Type 0
Stand object a [] = ⊤
Stand object a (v ∷ vs) = (slice_get object a ≡ Some v) × Stand object (suc a) vs

-- ---- what is printed of them

module _ (object : List ℕ) (size : ℕ) (m : Regs) where
  -- the row prints these bytes and the run goes on behind the order
  pub record Prints (r : Row) (bytes : List ℕ) : Type 0 where
    pub printed : r.printed ≡ bytes
    pub step : r.step ≡ On (record m { place = m.place + 1 })

  prints_as : (r r1 : Row) (bytes : List ℕ) → r ≡ r1 → Prints r1 bytes → Prints r bytes
  prints_as r r1 bytes e h = subst (λ u. Prints u bytes) (sym e) h

  module _ (next : m.place + 1 < length object) where
    on_prints : Prints (on object size m m) []
    on_prints = prints_as (on object size m m) (plain (On (record m { place = m.place + 1 }))) [] (needed _ _ (lt-ltb (m.place + 1) (length object) next)) (record { printed = refl; step = refl })

    words_print : (fuel : ℕ) (bytes : List ℕ) (n a : ℕ) → length bytes ≤ fuel → AreBytes bytes → n ≡ (length bytes + 4) / 5 → Stand object a (bytes_words fuel bytes) → Prints (prints_words object size m n a (length bytes)) bytes
    words_print fuel [] zero a le h is st = on_prints
    words_print fuel [] (suc n) a le h is st = absurd (omega (arith, is))
    words_print zero (b ∷ bytes) n a le h is st = absurd (omega (arith, le))
    words_print (suc fuel) (b ∷ bytes) zero a le h is st = absurd (omega (arith, is))
    words_print (suc fuel) (b ∷ bytes) (suc n) a le h is st =
        let all : List ℕ = b ∷ bytes in
        let left : List ℕ = drop 5 (b ∷ bytes) in
        let size_left : length left ≡ length (b ∷ bytes) - 5 = drop_length 5 (b ∷ bytes) in
        let rest : Prints (prints_words object size m n (a + 1) (length left)) left = words_print fuel left n (a + 1) (omega (arith, size_left, le)) (drop_bytes 5 (b ∷ bytes) h) (omega (arith, size_left, is)) (subst (λ x. Stand object x (bytes_words fuel left)) (let e : suc a ≡ a + 1 = omega arith in e) st.1) in
        let rest1 : Prints (prints_words object size m n (a + 1) (length (b ∷ bytes) - 5)) left = subst (λ x. Prints (prints_words object size m n (a + 1) x) left) size_left rest in
        let first : List ℕ = take (min (length (b ∷ bytes)) 5) (bytes_of (five_bytes 5 (b ∷ bytes))) in
        prints_as (prints_words object size m (suc n) a (length (b ∷ bytes))) (behind_ref a (behind_bytes first (prints_words object size m n (a + 1) (length (b ∷ bytes) - 5)))) (b ∷ bytes)
        (ap (on_word a (λ word. behind_bytes (take (min (length (b ∷ bytes)) 5) (bytes_of word)) (prints_words object size m n (a + 1) (length (b ∷ bytes) - 5)))) st.0)
        (record { printed = ap₂ (λ x y. x ++ y) (five_back (b ∷ bytes) h) rest1.printed ∙ take-append-drop 5 (b ∷ bytes); step = rest1.step })

    -- the string at an address
    pub string_prints : (bytes : List ℕ) (a : ℕ) → AreBytes bytes → Stand object a (string_words bytes) → a + (length bytes + 4) / 5 < length object → Prints (prints_string object size m a) bytes
    string_prints bytes a h st short =
        let n : ℕ = (length bytes + 4) / 5 in
        let go : Bool → ℕ → Row = λ t k. elim t as (λ _. Row) [
          | true ↦ prints_words object size m ((k + 4) / 5) (a + 1) k
          | false ↦ odd
        ] in
        let words : Prints (prints_words object size m n (a + 1) (length bytes)) bytes = words_print (length bytes) bytes n (a + 1) (omega arith) h refl (subst (λ x. Stand object x (bytes_words (length bytes) bytes)) (let e : suc a ≡ a + 1 = omega arith in e) st.1) in
        prints_as (prints_string object size m a) (behind_ref a (prints_words object size m n (a + 1) (length bytes))) bytes
        (ap (on_word a (λ k. go (is_address object size m (a + (k + 4) / 5)) k)) st.0 ∙ ap (λ t. behind_ref a (go t (length bytes))) (lt-ltb (a + (length bytes + 4) / 5) (length object) short))
        (record { printed = words.printed; step = words.step })

-- ---- how many words

pub count_words : (fuel : ℕ) (bytes : List ℕ) → length bytes ≤ fuel → length (bytes_words fuel bytes) ≡ (length bytes + 4) / 5
count_words fuel [] le = omega arith
count_words zero (b ∷ bytes) le = absurd (omega (arith, le))
count_words (suc fuel) (b ∷ bytes) le =
    let size_left : length (drop 5 (b ∷ bytes)) ≡ length (b ∷ bytes) - 5 = drop_length 5 (b ∷ bytes) in
    let rest : length (bytes_words fuel (drop 5 (b ∷ bytes))) ≡ (length (drop 5 (b ∷ bytes)) + 4) / 5 = count_words fuel (drop 5 (b ∷ bytes)) (omega (arith, size_left, le)) in
    omega (arith, rest, size_left)

-- ---- where they stand

module _ (text : List Symbol) where
  -- behind words of text 7, which stand in the object
  pub record Behind (st : code.State) (vs : List ℕ) (go : Following) : Type 0 where
    pub state : code.State
    pub at : At text state (go state)
    pub words : state.words ≡ st.words + length vs
    pub stand : Stand (object_of text) st.words vs

  pub words_stand : (vs : List ℕ) (line : ℕ) (st : code.State) (go : Following) → At text st (data_words vs line st go) → Behind st vs go
  words_stand [] line st go at = record { state = st; at = at; words = omega arith; stand = tt }
  words_stand (v ∷ vs) line st go at =
      let rest : List Symbol = data_words vs line (behind_word st line) go in
      let first : slice_get (object_of text) st.words ≡ Some v = word_there text st (tagged.sym Word v line ∷ rest) at in
      let at1 : At text (behind_word st line) rest = behind text st (behind_word st line) (tagged.sym Word v line) rest at (λ e. absurd (omega (arith, e))) (omega arith) in
      let more = words_stand vs line (behind_word st line) go at1 in
      let count = more.words in
      record { state = more.state; at = more.at; words = omega (arith, count); stand = (first, more.stand) }
