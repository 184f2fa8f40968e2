-- A text that is settled from its first symbol on is text 8.
use Rattle.std.proofs.Common.{◌≡◌, ◌<◌, ◌⊎◌, ◌∷◌, ◌+◌, ◌*◌, ◌∙◌, ℕ, Bool, true, false, List, []}
use Rattle.std.proofs.Common.{length, reverse, refl, sym, ap, arith, inl, inr}
use Rattle.std.specs.Prelude.{◌==◌, ◌||◌, nat_eq, if◌then◌else◌}
use Rattle.std.specs.List.{list_any}
use Rattle.std.proofs.lemmas.Bool.{cases_eq, cases_Bool}
use Rattle.gier_symbol.specs.declared.symbol.Symbol.{Symbol}
use Rattle.gier_symbol.specs.declared.tag.Tag.TheVariants.{Word}
use Rattle.gier_symbol.specs.ByTag.{sym as symbol}
use Rattle.gier_tree.specs.Complete.{is_place, is_placed}
use Rattle.gier_labels.proofs.Pieces.{by_kind}
use Rattle.gier_tree.specs.Object.{Piece, APlace, AUse, AWordUse, head_of, address_in}
use Rattle.gier_tree.specs.Object.{words_of, address_at, address_of, need_behind, is_used, known_order, kept_if, in_text8, with_place, known_from, text8_of}
use Rattle.gier_text.specs.TablesModel.{TablesModel}
use Rattle.gier_pass8.specs.Exact.{WritesText8}
use Rattle.gier_tree.specs.Words.{words_in}
use Rattle.gier_tree.specs.Complete.{Suits, AllSuit}
use Rattle.gier_pass8.specs.FromTheEnd.{text8_by, text8_from, WritesFromTheEnd}
use Rattle.gier_pass8.proofs.Needs.{differs}

abbrev is_seen : ℕ → List ℕ → Bool
is_seen label seen = list_any (λ q. q == label) seen

-- A label stands in the text where it was seen or is still to come, and not both; and what is to come has the address that the
-- whole text gives it.
pub record Divides (text : List Symbol) (seen : List ℕ) (placed : ℕ → Bool) (at : ℕ → ℕ) : Type 0 where
  pub whole : (label : ℕ) → is_placed label text ≡ (is_seen label seen || placed label)
  pub once : (label : ℕ) → placed label ≡ true → is_seen label seen ≡ false
  pub address : (label : ℕ) → placed label ≡ true → address_of text label 0 ≡ at label

abbrev Goes : (room : ℕ) → (text behind : List Symbol) → Type 0
Goes room text behind = (seen : List ℕ) (place : ℕ) → Divides text seen (λ label. is_placed label behind) (λ label. address_of behind label place)
    → text8_from place behind ≡ known_from text seen behind

abbrev Step : (room : ℕ) → (text : List Symbol) → List ℕ → (place : ℕ) → Symbol → (behind : List Symbol) → Piece → Type 0
Step room text seen place s behind piece =
    Divides text seen (λ label. is_place label piece || is_placed label behind)
    (λ label. address_at piece label place (address_of behind label (place + words_of piece)))
    → Suits room text s.value piece behind → Goes room text behind
    → text8_by piece place s behind (text8_from (place + words_of piece) behind)
    ≡ in_text8 piece text seen s behind (known_from text (with_place piece seen) behind)

-- Marks

or_over : (a b c d : Bool) → a ≡ (b || (c || d)) → a ≡ ((c || b) || d)
or_over a true true d is = is
or_over a true false d is = is
or_over a false true d is = is
or_over a false false d is = is

or_right : (a b : Bool) → b ≡ true → (a || b) ≡ true
or_right true b e = refl
or_right false b e = e

or_none : (a b : Bool) → a ≡ false → b ≡ false → (a || b) ≡ false
or_none a b first second = rw (first, second) refl

unlike : (f : ℕ → Bool) (a b : ℕ) → f a ≡ false → f b ≡ true → nat_eq a b ≡ false
unlike f a b out here = elim (cases_eq a b) [
  | inl e ↦ let bad : true ≡ false = sym here ∙ ap f (sym e) ∙ out in absurd (cc)
  | inr ne ↦ differs a b ne
]

divides_mark : (text : List Symbol) (seen : List ℕ) (number place : ℕ) (behind : List Symbol)
    → Divides text seen (λ label. nat_eq number label || is_placed label behind)
    (λ label. if nat_eq number label then place else address_of behind label (place + 0)) → is_placed number behind ≡ false
    → Divides text (number ∷ seen) (λ label. is_placed label behind) (λ label. address_of behind label (place + 0))
divides_mark text seen number place behind h out = record {
  whole = λ label. or_over (is_placed label text) (is_seen label seen) (nat_eq number label) (is_placed label behind) (h.whole label);
  once = λ label here. or_none (nat_eq number label) (is_seen label seen) (unlike (λ (l : ℕ). is_placed l behind) number label out here)
      (h.once label (or_right (nat_eq number label) (is_placed label behind) here));
  address = λ label here. rw (unlike (λ (l : ℕ). is_placed l behind) number label out here) at
      (h.address label (or_right (nat_eq number label) (is_placed label behind) here));
}

step_place : (room : ℕ) (text : List Symbol) (seen : List ℕ) (place : ℕ) (s : Symbol) (behind : List Symbol) (number : ℕ)
    → Step room text seen place s behind (APlace number)
step_place room text seen place s behind number h suits go =
    ap (λ (l : List Symbol). kept_if (is_used number behind) s l)
    (go (number ∷ seen) (place + 0) (divides_mark text seen number place behind h suits.1))

-- Uses: a label that isn't behind was seen

seen_else : (seen placed : Bool) → true ≡ (seen || placed) → placed ≡ false → seen ≡ true
seen_else true placed whole none = refl
seen_else false placed whole none = absurd (cc)

chosen : (text : List Symbol) (seen : List ℕ) (place number : ℕ) (behind : List Symbol)
    → Divides text seen (λ label. is_placed label behind) (λ label. address_of behind label (place + 1)) → is_placed number text ≡ true
    → (known : ℕ → Symbol) (s : Symbol)
    → (if is_placed number behind then known (address_of behind number (place + 1)) else s)
    ≡ (if is_seen number seen then s else known (address_of text number 0))
chosen text seen place number behind h stands known s = elim (cases_Bool (is_placed number behind)) [
  | inl there ↦ rw (there, h.once number there) (ap known (sym (h.address number there)))
  | inr none ↦
      let seen_is : is_seen number seen ≡ true = seen_else (is_seen number seen) (is_placed number behind) (sym stands ∙ h.whole number) none in
      rw (none, seen_is) refl
]

step_use : (room : ℕ) (text : List Symbol) (seen : List ℕ) (place : ℕ) (s : Symbol) (behind : List Symbol) (head number : ℕ)
    → Step room text seen place s behind (AUse head number)
step_use room text seen place s behind head number h suits go =
    let first = chosen text seen place number behind h suits.0.stands (λ (address : ℕ). known_order head address s.line) s in
    ap (λ (x : Symbol). x ∷ text8_from (place + 1) behind) first
    ∙ ap (λ (l : List Symbol). (if is_seen number seen then s else known_order head (address_of text number 0) s.line) ∷ l) (go seen (place + 1) h)

step_word_use : (room : ℕ) (text : List Symbol) (seen : List ℕ) (place : ℕ) (s : Symbol) (behind : List Symbol) (number : ℕ)
    → Step room text seen place s behind (AWordUse number)
step_word_use room text seen place s behind number h suits go =
    let first = chosen text seen place number behind h suits.0.stands (λ (address : ℕ). symbol Word address s.line) s in
    ap (λ (x : Symbol). x ∷ text8_from (place + 1) behind) first
    ∙ ap (λ (l : List Symbol). (if is_seen number seen then s else symbol Word (address_of text number 0) s.line) ∷ l) (go seen (place + 1) h)

steps : (room : ℕ) (text behind : List Symbol) → AllSuit room text behind → Goes room text behind
steps room text [] suits = λ seen place h. refl
steps room text (s ∷ behind) suits = λ seen place h.
    let go = steps room text behind suits.1 in
    by_kind s (Step room text seen place s behind)
    (λ (e : s.tag ≡ 121). step_place room text seen place s behind s.value)
    (λ (e : s.tag ≡ 122). step_use room text seen place s behind (head_of s.value) (address_in s.value))
    (λ (e : s.tag ≡ 123). step_word_use room text seen place s behind s.value)
    (λ (e : s.tag ≡ 124) d suit on.
    ap (λ (l : List Symbol). known_order (head_of s.value) (address_in s.value + need_behind behind 0) s.line ∷ l) (on seen (place + 1) d))
    (λ (e : s.tag ≡ 125) d suit on. on seen (place + 0) d)
    (λ (e : s.tag ≡ 126) d suit on. on seen (place + 0) d)
    (λ (e : s.tag ≡ 120) d suit on. ap (λ (l : List Symbol). s ∷ l) (on seen (place + 1) d))
    (λ (out : s.tag < 120 ⊎ 126 < s.tag) d suit on. ap (λ (l : List Symbol). s ∷ l) (on seen (place + 1) d))
    h suits.0 go

nothing_seen : (text : List Symbol) → Divides text [] (λ label. is_placed label text) (λ label. address_of text label 0)
nothing_seen text = record { whole = λ label. refl; once = λ label here. refl; address = λ label here. refl }

all_settled : (room : ℕ) (text : List Symbol) → AllSuit room text text → text8_from 0 text ≡ text8_of text
all_settled room text suits = steps room text text suits [] 0 (nothing_seen text)

settled_from : (place : ℕ) (behind : List Symbol) → (0 < length behind → place + words_in behind ≡ words_in behind)
    → text8_from place behind ≡ text8_from 0 behind
settled_from place [] is = refl
settled_from place (s ∷ behind) is =
    let whole : place + words_in (s ∷ behind) ≡ words_in (s ∷ behind) = is (omega arith) in
    let none : place ≡ 0 = omega (arith, whole) in
    ap (λ (p : ℕ). text8_from p (s ∷ behind)) none

pub writes_text8 : (bytes place : ℕ) (t : TablesModel) (read written : List Symbol) → WritesFromTheEnd bytes place t (reverse read) written
    → WritesText8 bytes read written
writes_text8 bytes place t read written settles = record {
  text = λ complete.
      let text = reverse read in
      let h = settles text complete.few complete.suits (omega arith) in
      h.text ∙ settled_from place text h.at ∙ all_settled (20 * bytes + 64) text complete.suits;
}
