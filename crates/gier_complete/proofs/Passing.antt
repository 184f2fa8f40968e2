-- Code carries a claim on what follows it to the front, where the claim can be carried over each symbol. The claim is told what is
-- still to come behind: the ends of rooms that are open, and the places of labels that are known already.
use Rattle.std.proofs.Common.{◌≡◌, ℕ, suc, ◌+◌, List, ◌∷◌, refl, arith}
use Rattle.std.specs.Prelude.{⊤}
use Rattle.gier_symbol.specs.declared.symbol.Symbol.{Symbol}
use Rattle.gier_symbol.specs.declared.tag.Tag.TheVariants.{Word, LabelPlace, LabelOrder, LabelWord, OpenRoom, Need}
use Rattle.gier_symbol.specs.ByTag.{sym}
use Rattle.gier_symbol.specs.Texts.{order_base}
use Rattle.gier_order.specs.declared.operation.Operation.{Operation}
use Rattle.gier_order.specs.declared.operation.Operation.TheVariants.{Stop}
use Rattle.gier_tree.specs.Orders.{State, Following, Code, number_of, behind_word, first_label}

swapped : (q a b : ℕ) → (q + b) + a ≡ (q + a) + b
swapped q a b = omega arith

and_none : (q : ℕ) → q ≡ q + 0
and_none q = omega arith

-- all operations but STOP
abbrev pub IsNoStop : Operation → Type 0
IsNoStop Stop = ⊥
IsNoStop o = ⊤

-- Some labels, told by what they weigh together, whatever a label weighs.
abbrev pub Labels : Type 0
Labels = (ℕ → ℕ) → ℕ

abbrev pub one : ℕ → Labels
one x weight = weight x

abbrev pub none : Labels
none weight = 0

abbrev pub joined : Labels → Labels → Labels
joined a b weight = a weight + b weight

-- what is to come behind
pub record Ahead : Type 0 where
  pub rooms : ℕ
  pub places : Labels

abbrev pub roomed : Ahead → Ahead
roomed n = record { rooms = suc n.rooms; places = n.places }

abbrev pub more : Ahead → Labels → Ahead
more n a = record { rooms = n.rooms; places = λ weight. n.places weight + a weight }

abbrev pub Claim : Type 1
Claim = Ahead → State → List Symbol → Type 0

pub record IsCarried (P : Claim) : Type 0 where
  pub an_order : (o : Operation) → IsNoStop o → (value line : ℕ) (n : Ahead) (st : State) (rest : List Symbol) → P n (behind_word st line) rest → P n st (record { tag = order_base + number_of o; value = value; line = line } ∷ rest)
  pub a_use : (value line : ℕ) (n : Ahead) (st : State) (rest : List Symbol) → P n (behind_word st line) rest → P n st (sym LabelOrder value line ∷ rest)
  pub a_word_use : (value line : ℕ) (n : Ahead) (st : State) (rest : List Symbol) → P n (behind_word st line) rest → P n st (sym LabelWord value line ∷ rest)
  pub a_word : (value line : ℕ) (n : Ahead) (st : State) (rest : List Symbol) → P n (behind_word st line) rest → P n st (sym Word value line ∷ rest)
  pub a_room : (value line : ℕ) (n : Ahead) (st : State) (rest : List Symbol) → P (roomed n) (behind_word st line) rest → P n st (sym OpenRoom value line ∷ rest)
  pub a_place : (value line : ℕ) (n : Ahead) (st : State) (rest : List Symbol) → P n st rest → P (more n (one value)) st (sym LabelPlace value line ∷ rest)
  pub a_need : (value line : ℕ) (n : Ahead) (st : State) (rest : List Symbol) → P n st rest → P (roomed n) st (sym Need value line ∷ rest)
  pub a_new : (n : Ahead) (st : State) (rest : List Symbol) → P (more n (one (first_label + st.labels))) (record { labels = suc st.labels; line = st.line; words = st.words }) rest → P n st rest
  pub same : (n m : Ahead) → n.rooms ≡ m.rooms → ((weight : ℕ → ℕ) → n.places weight ≡ m.places weight) → (st : State) (rest : List Symbol) → P n st rest → P m st rest

abbrev pub Carries : Claim → (State → Following → List Symbol) → Type 0
Carries P f = (n : Ahead) (go : Following) → ((s : State) → P n s (go s)) → (st : State) → P n st (f st go)

abbrev pub CodeCarries : Claim → Code → Type 0
CodeCarries P c = (level w : ℕ) → Carries P (c level w)

-- and where labels that are declared stand in the code
abbrev pub CarriesSo : Claim → Labels → (State → Following → List Symbol) → Type 0
CarriesSo P a f = (n : Ahead) (go : Following) → ((s : State) → P n s (go s)) → (st : State) → P (more n a) st (f st go)

abbrev pub CodeCarriesSo : Claim → Labels → Code → Type 0
CodeCarriesSo P a c = (level w : ℕ) → CarriesSo P a (c level w)

module _ (P : Claim) (h : IsCarried P) where
  -- a label's place, whatever comes to be placed in between
  pub place_as : (x line : ℕ) (n m : Ahead) → n.rooms ≡ m.rooms → ((weight : ℕ → ℕ) → n.places weight + weight x ≡ m.places weight) → (st : State) (rest : List Symbol) → P n st rest → P m st (sym LabelPlace x line ∷ rest)
  place_as x line n m rooms places st rest k = h.same (more n (one x)) m rooms places st (sym LabelPlace x line ∷ rest) (h.a_place x line n st rest k)

  pub place_first : (x y line : ℕ) (n : Ahead) (st : State) (rest : List Symbol) → P (more n (one y)) st rest → P (more (more n (one x)) (one y)) st (sym LabelPlace x line ∷ rest)
  place_first x y line n st rest k = place_as x line (more n (one y)) (more (more n (one x)) (one y)) refl (λ weight. swapped (n.places weight) (weight x) (weight y)) st rest k

  pub plainly : (f : State → Following → List Symbol) → Carries P f → CarriesSo P none f
  plainly f c n go k st = h.same n (more n none) refl (λ weight. and_none (n.places weight)) st (f st go) (c n go k st)
