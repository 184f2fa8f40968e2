-- Over text 6 of an expression the pass writes its code.
use Rattle.std.proofs.Common.{◌≡◌, ◌≤◌, ◌∙◌, ◌+◌, ◌-◌, ◌*◌, ◌^◌, ℕ, suc, Bool, true, false, List, ◌∷◌, refl, sym as back, ap}
use Rattle.std.proofs.Common.{arith}
use Rattle.std.specs.Prelude.{Option, None, Some, nat_lt, max}
use Rattle.std.proofs.lemmas.Bool.{false≢true}
use Rattle.gier_order.specs.declared.operation.Operation.{Operation}
use Rattle.gier_order.specs.declared.operation.Operation.TheVariants.{Keep as OKeep, Short as OShort, Back as OBack}
use Rattle.gier_order.specs.declared.operation.Operation.TheVariants.{Jump as OJump, False as OFalse, Neg as ONeg, Not as ONot}
use Rattle.gier_order.specs.declared.operation.Operation.TheVariants.{Pow as OPow, Long as OLong, Base as OBase, And as OAnd}
use Rattle.gier_order.specs.declared.operation.Operation.TheVariants.{Or as OOr, Impl as OImpl, Equiv as OEquiv}
use Rattle.gier_symbol.specs.declared.symbol.Symbol.{Symbol}
use Rattle.gier_symbol.specs.declared.tag.Tag.{Tag}
use Rattle.gier_symbol.specs.declared.tag.Tag.TheVariants.{Number, LabelPlace, Word, Need, Power, Not, And, Or, Impl, Equiv}
use Rattle.gier_symbol.specs.declared.tag.Tag.TheVariants.{LeftParenthesis, RightParenthesis, If, Then, Else, Used, Place}
use Rattle.gier_symbol.specs.ByTag.{sym, word}
use Rattle.gier_tree.specs.declared.construct.Construct.TheVariants.{Actual as MActual, ConditionalExpression as MConditional}
use Rattle.gier_tree.specs.declared.kind.Kind.{Kind}
use Rattle.gier_tree.specs.declared.kind.Kind.TheVariants.{IntegerVariable, BooleanVariable, IntegerValue, BooleanValue}
use Rattle.gier_tree.specs.declared.kind.Kind.TheVariants.{IntegerFormal, BooleanFormal}
use Rattle.gier_tree.specs.Kinds.{kind_number}
use Rattle.gier_tree.specs.Coded.{scopes_of, both, sign_code, then_order, choice, number_code, logical_number, by_name}
use Rattle.gier_tree.specs.Coded.{adding_operation, multiplying_operation, comparing_operation, code_expr, code_simple}
use Rattle.gier_tree.specs.Coded.{code_implication, code_disjunction, code_conjunction, code_negation, code_relation}
use Rattle.gier_tree.specs.Coded.{code_arithmetic, code_term, code_factor, code_primary, alone_code}
use Rattle.gier_tree.specs.Lines.{first_expr, last_expr}
use Rattle.gier_tree.specs.Need.{need_expr, need_simple, need_implication, need_disjunction, need_conjunction, need_negation}
use Rattle.gier_tree.specs.Need.{need_relation, need_arithmetic, need_term, need_factor, need_primary}
use Rattle.gier_tree.specs.Orders.{State, Following, Code, behind_word, first_label}
use Rattle.gier_tree.specs.Places.{Placed, Places}
use Rattle.gier_tree.specs.Spell.{adding_tag, multiplying_tag, comparing_tag, logical_tag}
use Rattle.gier_tree.specs.Written.{place_number, opens, shuts, Polished, count_behind, called_alone, leading_tag, operation}
use Rattle.gier_tree.specs.Written.{name_alone, is_called_alone, text_expr, text_simple, text_implication, text_disjunction}
use Rattle.gier_tree.specs.Written.{text_conjunction, text_negation, text_relation, text_arithmetic, text_term, text_factor}
use Rattle.gier_tree.specs.Written.{text_primary}
use Rattle.gier_tree.specs.Trees.{Name, Adding, Add, Subtract, Multiplying, Multiply, Divide, Comparing, LessThan, AtMost}
use Rattle.gier_tree.specs.Trees.{EqualTo, AtLeast, MoreThan, Unequal, Expr, OneSimple, IfExpr, Simple, OneImplication}
use Rattle.gier_tree.specs.Trees.{Equivalent, Implication, OneDisjunction, Implies, Disjunction, OneConjunction, Either}
use Rattle.gier_tree.specs.Trees.{Conjunction, OneNegation, Both, Negation, OneRelation, Negated, Relation, OneArithmetic}
use Rattle.gier_tree.specs.Trees.{Compared, Arithmetic, OneTerm, Signed, Summed, Term, OneFactor, Multiplied, Factor}
use Rattle.gier_tree.specs.Trees.{OnePrimary, Raised, Primary, Numeral, Logical, Bracketed, OneCall, OneElement, Alone}
use Rattle.gier_tree.specs.Trees.{WithActuals}
use Rattle.gier_text7.specs.Answers.{Answer, given, put, hole, fill, order_of, labelled_of}
use Rattle.gier_text7.specs.PassState.{Mentioned, Open, at, labels_more, Chosen, Calls, Actual}
use Rattle.gier_text7.specs.Operands.{begun_by, thunk_hole, name_order, name_result, alone, number_of_size}
use Rattle.gier_text7.specs.PurePass.{go}
use Rattle.gier_text7.specs.Codes.{Settles, SettlesIf, Quiet, on_line, Codes, Starts, polished, is_cell, HasNearPlaces, PrimariesAreCoded}

-- the greatest place that is used
high_none : (h w : ℕ) → w ≤ h → max h (w + 0) ≡ h
high_none h w q = omega arith

high_le : (h w a : ℕ) → w ≤ h → w ≤ max h a
high_le h w a q = omega arith

high_more : (h w : ℕ) → w + 1 ≤ max h (w + 1)
high_more h w = omega arith

high_both : (h w a b : ℕ) → max (max (max h (w + a)) (w + 1)) (w + 1 + b) ≡ max h (w + max a (1 + b))
high_both h w a b = omega arith

high_choice : (h w a b c : ℕ) → max (max (max h (w + a)) (w + b)) (w + c) ≡ max h (w + max a (max b c))
high_choice h w a b c = omega arith

less_one : (w : ℕ) → w + 1 - 1 ≡ w
less_one w = omega arith

pub has : (o : Option Name) (k : List Symbol) → Settles k → SettlesIf o k
has None k h = 0
has (Some x) k h = h

settles_operation : (t : Tag) (i : ℕ) (w : List Symbol) → Settles (operation t i ∷ w)
settles_operation t i w = λ level v h full d x st s. refl

settles_then : (i : ℕ) (w : List Symbol) → Settles (word Then i ∷ w)
settles_then i w = λ level v h full d x st s. refl

settles_else : (i : ℕ) (w : List Symbol) → Settles (word Else i ∷ w)
settles_else i w = λ level v h full d x st s. refl

settles_right : (i : ℕ) (w : List Symbol) → Settles (word RightParenthesis i ∷ w)
settles_right i w = λ level v h full d x st s. refl

settles_conditional : (i : ℕ) (w : List Symbol) → Settles (shuts MConditional i ∷ w)
settles_conditional i w = λ level v h full d x st s. refl

-- operators
abbrev IsBinary : Tag → Operation → Type 0
IsBinary t op = (i : ℕ) (k : List Symbol) (level w h v : ℕ) (st : List Open) (s : State)
    → go (operation t i ∷ k) (at level w h true v None st s)
    ≡ fill i (put (order_of op 0 (w - 1) i) (go k (at level (w - 1) h true 0 None st (behind_word s i))))

abbrev IsUnary : Tag → Operation → Type 0
IsUnary t op = (i : ℕ) (k : List Symbol) (level w h v : ℕ) (st : List Open) (s : State)
    → go (operation t i ∷ k) (at level w h true v None st s)
    ≡ put (order_of op 0 0 i) (go k (at level w h true 0 None st (behind_word s i)))

adding : (o : Adding) → IsBinary (adding_tag o) (adding_operation o)
adding Add = λ i k level w h v st s. refl
adding Subtract = λ i k level w h v st s. refl

multiplying : (o : Multiplying) → IsBinary (multiplying_tag o) (multiplying_operation o)
multiplying Multiply = λ i k level w h v st s. refl
multiplying Divide = λ i k level w h v st s. refl

comparing : (o : Comparing) → IsBinary (comparing_tag o) (comparing_operation o)
comparing LessThan = λ i k level w h v st s. refl
comparing AtMost = λ i k level w h v st s. refl
comparing EqualTo = λ i k level w h v st s. refl
comparing AtLeast = λ i k level w h v st s. refl
comparing MoreThan = λ i k level w h v st s. refl
comparing Unequal = λ i k level w h v st s. refl

-- two operands: the hole of the first one is filled by the operator
both_codes : (oa ob : Option Name) (ta tb : List Symbol
    → List Symbol) (ca cb : Code) (na nb : ℕ) (t : Tag) (op : Operation) (i : ℕ) → IsBinary t op → Codes oa ta ca na → Starts ob
    tb → Codes ob tb cb nb → Codes None (λ k. ta (tb (operation t i ∷ k))) (both op i ca cb) (max na (1 + nb))
both_codes oa ob ta tb ca cb na nb t op i is a starts b = λ level w h m v st s next f k q quiet any go_on.
    let rest = operation t i ∷ k in
    a level w h m v st s (λ s. order_next level w s next) f (tb rest) q quiet (has oa (tb rest) (starts.settles rest))
    (λ s. starts.full level w (max h (w + na)) 0 st s rest quiet (has ob rest (settles_operation t i k))
    ∙ ap (hole (λ line. order_of OKeep 0 w line)) (b level (w + 1) (max (max h (w + na)) (w + 1)) 0 0 st (behind_word s i) (λ s.
    order_of op 0 w i ∷ next (behind_word s i)) (i
    ∷ f) rest (high_more (max h (w + na)) w) quiet (has ob rest (settles_operation t i k))
    (λ s. is i k level (w + 1) (max (max (max h (w + na)) (w + 1)) (w + 1 + nb)) 0 st s
    ∙ ap (λ x. fill i (put (order_of op 0 x i)
    (go k (at level x (max (max (max h (w + na)) (w + 1)) (w + 1 + nb)) true 0 None st (behind_word s i))))) (less_one w)
    ∙ ap (λ x. fill i (put (order_of op 0 w i) (go k (at level w x true 0 None st (behind_word s i))))) (high_both h w na nb)
    ∙ ap (λ x. fill i (put (order_of op 0 w i) x)) (go_on (behind_word s i)))))
  where
    order_next : ℕ → ℕ → State → Following → List Symbol
    order_next level w s next = order_of OKeep 0 w i
        ∷ cb level (w + 1) (behind_word s i) (λ s. order_of op 0 w i ∷ next (behind_word s i))

unary_codes : (o : Option Name) (t : List Symbol → List Symbol) (c : Code) (n : ℕ) (tag : Tag) (op : Operation) (i : ℕ)
    → IsUnary tag op → Codes o t c n → Codes None (λ k. t (operation tag i ∷ k)) (then_order op i c) n
unary_codes o t c n tag op i is a = λ level w h m v st s next f k q quiet any go_on.
    a level w h m v st s (λ s. order_of op 0 0 i ∷ next (behind_word s i)) f (operation tag i
    ∷ k) q quiet (has o (operation tag i ∷ k) (settles_operation tag i k))
    (λ s. is i k level w (max h (w + n)) 0 st s ∙ ap (put (order_of op 0 0 i)) (go_on (behind_word s i)))

signed_codes : (o : Option Name) (t : List Symbol → List Symbol) (c : Code) (n : ℕ) (sign : Adding) (i : ℕ) → Codes o t c n
    → Codes None (λ k. t (operation (leading_tag sign) i ∷ k)) (sign_code sign i c) n
signed_codes o t c n Add i a = λ level w h m v st s next f k q quiet any go_on.
    a level w h m v st s next f (operation (leading_tag Add) i
    ∷ k) q quiet (has o (operation (leading_tag Add) i ∷ k) (settles_operation (leading_tag Add) i k)) (λ s. go_on s)
signed_codes o t c n Subtract i a = unary_codes o t c n (leading_tag Subtract) ONeg i (λ i k level w h v st s. refl) a

choice_codes : (oa ob oc : Option Name) (ta tb tc : List Symbol → List Symbol) (ca cb cc : Code) (na nb nc : ℕ) (i m j e : ℕ)
    → Codes oa ta ca na → Codes ob tb cb nb → Codes oc tc cc nc
    → Codes None (λ k. opens MConditional i ∷ word If i
    ∷ ta (word Then m ∷ tb (word Else j ∷ tc (shuts MConditional e ∷ k)))) (choice i ca cb cc) (max na (max nb nc))
choice_codes oa ob oc ta tb tc ca cb cc na nb nc i m j e a b c = λ level w h n v st s next f k q quiet any go_on.
    let last = shuts MConditional e ∷ k in
    let third = word Else j ∷ tc last in
    let second = word Then m ∷ tb third in
    let h1 = max h (w + na) in
    let h2 = max h1 (w + nb) in
    let x = λ (s : State). first_label + s.labels in
    rw quiet (a level w h n v (Chosen i 0 ∷ st) s _ f second q refl (has oa second (settles_then m (tb third)))
    (λ s. ap (put (labelled_of OFalse 0 (x s) i)) (b level w h1 i 0 (Chosen i (x s) ∷ st) (behind_word (labels_more s) i) _ f
    third (high_le h w (w + na) q) refl (has ob third (settles_else j (tc last)))
    (λ t. ap (λ z. put (labelled_of OJump 0 (x t) i) (put (sym LabelPlace (x s) i) z)) (c level w h2 i 0 (Chosen i (x t) ∷ st)
    (behind_word (labels_more t) i) _ f last (high_le h1 w (w + nb) (high_le h w (w + na)
    q)) refl (has oc last (settles_conditional e k))
    (λ u. ap (λ y. put (sym LabelPlace (x t) u.line) (go k (at level w y true 0 None st u))) (high_choice h w na nb nc)
    ∙ ap (put (sym LabelPlace (x t) u.line)) (go_on u)))))))

-- an identifier alone
cell_text : (kind : Kind) → is_cell kind ≡ true
    → (place count l : ℕ) (k : List Symbol) (level w h : ℕ) (b : Bool) (v : ℕ) (st : List Open) (s : State)
    → go (sym Used (kind_number kind) l ∷ sym Place place l
    ∷ count_behind kind count l (called_alone Polished (is_called_alone kind
    count) l k)) (at level w h b v None st s) ≡ go k (at level w h b v (Some (record {
      kind = kind;
      place = place;
      line =
          l;
    })) st s)
cell_text IntegerVariable q place count l k level w h b v st s = refl
cell_text BooleanVariable q place count l k level w h b v st s = refl
cell_text IntegerValue q place count l k level w h b v st s = refl
cell_text BooleanValue q place count l k level w h b v st s = refl
cell_text IntegerFormal q place count l k level w h b v st s = refl
cell_text BooleanFormal q place count l k level w h b v st s = refl
cell_text _ q place count l k level w h b v st s = absurd (false≢true q)

cell_code : (kind : Kind) → is_cell kind ≡ true → (formals : List Kind) (count a b l level w : ℕ) (s : State) (next : Following)
    → alone_code (record {
      what = record { kind = kind; formals = formals; count = count };
      level = a;
      address =
          b;
    }) l level w s next ≡ name_order kind (a * 2 ^ 24 + b) l ∷ next (behind_word s l)
cell_code IntegerVariable q formals count a b l level w s next = refl
cell_code BooleanVariable q formals count a b l level w s next = refl
cell_code IntegerValue q formals count a b l level w s next = refl
cell_code BooleanValue q formals count a b l level w s next = refl
cell_code IntegerFormal q formals count a b l level w s next = refl
cell_code BooleanFormal q formals count a b l level w s next = refl
cell_code _ q formals count a b l level w s next = absurd (false≢true q)

cell_result : (kind : Kind) → is_cell kind ≡ true → name_result kind ≡ 0
cell_result IntegerVariable q = refl
cell_result BooleanVariable q = refl
cell_result IntegerValue q = refl
cell_result BooleanValue q = refl
cell_result IntegerFormal q = refl
cell_result BooleanFormal q = refl
cell_result _ q = absurd (false≢true q)

alone_empty : (x : Mentioned) (k : List Symbol) (level w h v : ℕ) (st : List Open) (s : State) → Quiet st
    → alone x (go k) (at level w h false v None st s)
    ≡ put (name_order x.kind x.place x.line) (go k (at level w h true (name_result x.kind) None st (behind_word s x.line)))
alone_empty x k level w h v st s quiet = rw quiet refl

alone_full : (x : Mentioned) (k : List Symbol) (level w h v : ℕ) (st : List Open) (s : State) → Quiet st
    → alone x (go k) (at level w h true v None st s)
    ≡ hole (λ line. order_of OKeep 0 w line) (alone x (go k) (at level (w + 1) (max h (w + 1)) false v None st (behind_word s 0)))
alone_full x k level w h v st s quiet = rw quiet refl

abbrev mentioned : Placed → (line : ℕ) → Mentioned
mentioned a l = record { kind = a.what.kind; place = place_number a; line = l }

cell : (os : List Name) (p : Places) → HasNearPlaces p → (x : Name) → is_cell (p x.number).what.kind ≡ true
    → Codes (Some x) (text_primary (polished os) p (OneCall (Alone x))) (code_primary p (OneCall (Alone x))) 0
cell os p near x is = λ level w h m v st s next f k q quiet any go_on.
    let a = p x.number in
    let o = name_order a.what.kind (place_number a) x.line in
    let t = behind_word s x.line in
    cell_text a.what.kind is (place_number a) a.what.count x.line k level w h false v st (on_line m s)
    ∙ any level w h false v (mentioned a x.line) st (on_line m s)
    ∙ alone_empty (mentioned a x.line) k level w h v st (on_line m s) quiet
    ∙ ap (λ r. put o (go k (at level w h true r None st t))) (cell_result a.what.kind is)
    ∙ ap (λ y. put o (go k (at level w y true 0 None st t))) (back (high_none h w q))
    ∙ ap (put o) (go_on t)
    ∙ ap (λ i. given (name_order a.what.kind i x.line ∷ next t) f) (near x.number)
    ∙ ap (λ r. given r f) (back (cell_code a.what.kind is a.what.formals a.what.count a.level a.address x.line level w s next))

cell_starts : (os : List Name) (p : Places) (x : Name) → is_cell (p x.number).what.kind ≡ true
    → Starts (Some x) (text_primary (polished os) p (OneCall (Alone x)))
cell_starts os p x is =
    let a = p x.number in
    let place = place_number a in
    let n = mentioned a x.line in
    record {
      full = λ level w h v st s k quiet any.
          cell_text a.what.kind is place a.what.count x.line k level w h true v st s ∙ any level w h true v n st s
          ∙ alone_full n k level w h v st s quiet
          ∙ ap (hole (λ line. order_of OKeep 0 w line)) (back (cell_text a.what.kind is place a.what.count x.line k level
          (w + 1) (max h (w + 1)) false v st (behind_word s 0)
          ∙ any level (w + 1) (max h (w + 1)) false v n st (behind_word s 0)));
      opens = λ level w h v line st s k any.
          let c = begun_by (Some line) (at level w h false v None (Actual line ∷ st) s) in
          cell_text a.what.kind is place a.what.count x.line k level w h false v (Actual line ∷ st) s
          ∙ any level w h false v n (Actual line ∷ st) s
          ∙ ap (thunk_hole line s.labels) (back (cell_text a.what.kind is place a.what.count x.line k c.level c.free c.high
          false v c.stack c.known ∙ any c.level c.free c.high false v n c.stack c.known));
      settles = λ k level w h full v y st s. refl;
    }

name_codes : (os : List Name) (p : Places) → PrimariesAreCoded os p → (x : Name) (b : Bool) → is_cell (p x.number).what.kind ≡ b
    → Codes (Some x) (text_primary (polished os) p (OneCall (Alone x))) (code_primary p (OneCall (Alone x))) 0
name_codes os p r x true is = cell os p r.near x is
name_codes os p r x false is = r.called x is

name_starts : (os : List Name) (p : Places) → PrimariesAreCoded os p → (x : Name) (b : Bool) → is_cell (p x.number).what.kind ≡ b
    → Starts (Some x) (text_primary (polished os) p (OneCall (Alone x)))
name_starts os p r x true is = cell_starts os p x is
name_starts os p r x false is = r.begun x is

-- where a text begins
longer : (o : Option Name) (t : List Symbol → List Symbol) (f : List Symbol → List Symbol) → Starts o t
    → ((k : List Symbol) → SettlesIf o (f k)) → Starts None (λ k. t (f k))
longer o t f a any = record {
  full = λ level w h v st s k quiet none. a.full level w h v st s (f k) quiet (any k);
  opens =
      λ level w h v line st s k none. a.opens level w h v line st s (f k) (any k);
  settles = λ k. a.settles (f k);
}

chosen_starts : (i : ℕ) (t : List Symbol → List Symbol) → Starts None (λ k. opens MConditional i ∷ t k)
chosen_starts i t = record {
  full = λ level w h v st s k quiet none. rw quiet refl;
  opens =
      λ level w h v line st s k none. refl;
  settles = λ k level w h full v x st s. refl;
}

bracketed_starts : (i : ℕ) (t : List Symbol → List Symbol) → Starts None (λ k. word LeftParenthesis i ∷ t k)
bracketed_starts i t = record {
  full = λ level w h v st s k quiet none. rw quiet refl;
  opens =
      λ level w h v line st s k none. refl;
  settles = λ k level w h full v x st s. refl;
}

number_starts : (n i : ℕ) → Starts None (λ k. sym Number n i ∷ k)
number_starts n i = record {
  full = λ level w h v st s k quiet none. rw quiet refl;
  opens =
      λ level w h v line st s k none. refl;
  settles = λ k level w h full v x st s. refl;
}

logical_starts : (b : Bool) (i : ℕ) → Starts None (λ k. word (logical_tag b) i ∷ k)
logical_starts true i = record {
  full = λ level w h v st s k quiet none. rw quiet refl;
  opens =
      λ level w h v line st s k none. refl;
  settles = λ k level w h full v x st s. refl;
}
logical_starts false i = record {
  full = λ level w h v st s k quiet none. rw quiet refl;
  opens =
      λ level w h v line st s k none. refl;
  settles = λ k level w h full v x st s. refl;
}

number_by : (b : Bool) (n i : ℕ) (k : List Symbol) (level w h m v : ℕ) (st : List Open) (s : State) (next : Following) (f : List
    ℕ) → ((s : State) → go k (at level w h true 0 None st s) ≡ given (next s) f)
    → number_of_size b n i (go k) (at level w h false v None st (on_line m s)) ≡ given (number_code b n i level w s next) f
number_by true n i k level w h m v st s next f go_on = ap (put (order_of OShort 0 n i)) (go_on (behind_word s i))
number_by false n i k level w h m v st s next f go_on =
    ap (λ a. put (order_of OLong 0 0 i) (put (sym Word n i) a)) (go_on (behind_word (behind_word s i) i))

lower : (k : List Symbol) (level w h : ℕ) (st : List Open) (next : Following) (f : List ℕ) → w ≤ h
    → ((s : State) → go k (at level w (max h (w + 0)) true 0 None st s) ≡ given (next s) f) → (s : State)
    → go k (at level w h true 0 None st s) ≡ given (next s) f
lower k level w h st next f q go_on s = ap (λ y. go k (at level w y true 0 None st s)) (back (high_none h w q)) ∙ go_on s

number_codes : (n i : ℕ) → Codes None (λ k. sym Number n i ∷ k) (number_code (nat_lt n (2 ^ 24)) n i) 0
number_codes n i = λ level w h m v st s next f k q quiet any go_on.
    rw quiet (number_by (nat_lt n (2 ^ 24)) n i k level w h m v st s next f (lower k level w h st next f q go_on))

logical_codes : (b : Bool) (i : ℕ) → Codes None (λ k. word (logical_tag b) i ∷ k) (number_code true (logical_number b) i) 0
logical_codes true i = λ level w h m v st s next f k q quiet any go_on.
    rw quiet (ap (put (order_of OShort 0 1 i)) (lower k level w h st next f q go_on (behind_word s i)))
logical_codes false i = λ level w h m v st s next f k q quiet any go_on.
    rw quiet (ap (put (order_of OShort 0 0 i)) (lower k level w h st next f q go_on (behind_word s i)))

bracketed_codes : (o : Option Name) (t : List Symbol → List Symbol) (c : Code) (n i j : ℕ) → Codes o t c n
    → Codes None (λ k. word LeftParenthesis i ∷ t (word RightParenthesis j ∷ k)) c n
bracketed_codes o t c n i j a =
    λ level w h m v st s next f k q quiet any go_on.
    rw quiet (a level w h m v st s next f (word RightParenthesis j
    ∷ k) q quiet (has o (word RightParenthesis j ∷ k) (settles_right j k)) (λ s. go_on s))

-- the first symbols of an expression
mutual
  expr_starts : (os : List Name) (p : Places) → PrimariesAreCoded os p → (x : Expr) → Starts (name_alone x) (text_expr (polished os) p x)
  expr_starts os p r (OneSimple y) = simple_starts os p r y
  expr_starts os p r (IfExpr i a m s j b) =
      chosen_starts i (λ k. word If i
      ∷ text_expr (polished os) p a (word Then m
      ∷ text_simple (polished os) p s (word Else j ∷ text_expr (polished os) p b (shuts MConditional (last_expr b) ∷ k))))

  simple_starts : (os : List Name) (p : Places) → PrimariesAreCoded os p → (x : Simple)
      → Starts (name_alone (OneSimple (x))) (text_simple (polished os) p x)
  simple_starts os p r (OneImplication y) = implication_starts os p r y
  simple_starts os p r (Equivalent x i y) =
      longer (name_alone (OneSimple (x))) (text_simple (polished os) p x) (λ k.
      text_implication (polished os) p y (operation Equiv i ∷ k)) (simple_starts os p r x) (λ k.
      has (name_alone (OneSimple (x))) (text_implication (polished os) p y (operation Equiv i
      ∷ k)) ((implication_starts os p r y).settles (operation Equiv i ∷ k)))

  implication_starts : (os : List Name) (p : Places) → PrimariesAreCoded os p → (x : Implication)
      → Starts (name_alone (OneSimple (OneImplication (x)))) (text_implication (polished os) p x)
  implication_starts os p r (OneDisjunction y) = disjunction_starts os p r y
  implication_starts os p r (Implies x i y) =
      longer (name_alone (OneSimple (OneImplication (x)))) (text_implication (polished os) p x) (λ k.
      text_disjunction (polished os) p y (operation Impl i ∷ k)) (implication_starts os p r x) (λ k.
      has (name_alone (OneSimple (OneImplication (x)))) (text_disjunction (polished os) p y (operation Impl i
      ∷ k)) ((disjunction_starts os p r y).settles (operation Impl i ∷ k)))

  disjunction_starts : (os : List Name) (p : Places) → PrimariesAreCoded os p → (x : Disjunction)
      → Starts (name_alone (OneSimple (OneImplication (OneDisjunction (x))))) (text_disjunction (polished os) p x)
  disjunction_starts os p r (OneConjunction y) = conjunction_starts os p r y
  disjunction_starts os p r (Either x i y) =
      longer (name_alone (OneSimple (OneImplication (OneDisjunction (x))))) (text_disjunction (polished os) p x) (λ k.
      text_conjunction (polished os) p y (operation Or i ∷ k)) (disjunction_starts os p r x) (λ k.
      has (name_alone (OneSimple (OneImplication (OneDisjunction (x))))) (text_conjunction (polished os) p y (operation Or i
      ∷ k)) ((conjunction_starts os p r y).settles (operation Or i ∷ k)))

  conjunction_starts : (os : List Name) (p : Places) → PrimariesAreCoded os p → (x : Conjunction)
      → Starts (name_alone (OneSimple (OneImplication (OneDisjunction (OneConjunction (x)))))) (text_conjunction (polished os) p x)
  conjunction_starts os p r (OneNegation y) = negation_starts os p r y
  conjunction_starts os p r (Both x i y) =
      longer (name_alone (OneSimple (OneImplication (OneDisjunction (OneConjunction (x)))))) (text_conjunction (polished
      os) p x) (λ k. text_negation (polished os) p y (operation And i
      ∷ k)) (conjunction_starts os p r x) (λ k. has (name_alone (OneSimple (OneImplication
      (OneDisjunction (OneConjunction (x)))))) (text_negation (polished os) p y (operation And i ∷ k)) ((negation_starts os p r
      y).settles (operation And i ∷ k)))

  negation_starts : (os : List Name) (p : Places) → PrimariesAreCoded os p → (x : Negation)
      → Starts (name_alone (OneSimple (OneImplication (OneDisjunction (OneConjunction (OneNegation (x))))))) (text_negation (polished
      os) p x)
  negation_starts os p r (OneRelation y) = relation_starts os p r y
  negation_starts os p r (Negated i y) =
      longer (name_alone (OneSimple (OneImplication
      (OneDisjunction (OneConjunction (OneNegation
      (OneRelation (y)))))))) (text_relation (polished os) p y) (λ k. operation Not i ∷ k) (relation_starts os p r y) (λ k. has
      (name_alone (OneSimple (OneImplication (OneDisjunction
      (OneConjunction (OneNegation (OneRelation (y)))))))) (operation Not i ∷ k) (settles_operation Not i k))

  relation_starts : (os : List Name) (p : Places) → PrimariesAreCoded os p → (x : Relation)
      → Starts (name_alone (OneSimple (OneImplication
      (OneDisjunction (OneConjunction (OneNegation (OneRelation (x)))))))) (text_relation (polished os) p x)
  relation_starts os p r (OneArithmetic y) = arithmetic_starts os p r y
  relation_starts os p r (Compared x o i y) =
      longer (name_alone (OneSimple (OneImplication
      (OneDisjunction (OneConjunction (OneNegation
      (OneRelation (OneArithmetic (x))))))))) (text_arithmetic (polished os) p x) (λ k. text_arithmetic (polished os) p y (operation
      (comparing_tag o) i ∷ k)) (arithmetic_starts os p r x) (λ k. has (name_alone (OneSimple (OneImplication
      (OneDisjunction (OneConjunction (OneNegation
      (OneRelation (OneArithmetic (x))))))))) (text_arithmetic (polished os) p y (operation (comparing_tag o) i ∷ k))
      ((arithmetic_starts os p r y).settles (operation (comparing_tag o) i ∷ k)))

  arithmetic_starts : (os : List Name) (p : Places) → PrimariesAreCoded os p → (x : Arithmetic)
      → Starts (name_alone (OneSimple (OneImplication
      (OneDisjunction (OneConjunction (OneNegation (OneRelation (OneArithmetic (x))))))))) (text_arithmetic (polished os) p x)
  arithmetic_starts os p r (OneTerm y) = term_starts os p r y
  arithmetic_starts os p r (Signed o i y) =
      longer (name_alone (OneSimple (OneImplication
      (OneDisjunction (OneConjunction (OneNegation
      (OneRelation (OneArithmetic (OneTerm (y)))))))))) (text_term (polished os) p y) (λ k. operation (leading_tag o) i ∷ k)
      (term_starts os p r y) (λ k. has (name_alone
      (OneSimple (OneImplication (OneDisjunction
      (OneConjunction (OneNegation (OneRelation
      (OneArithmetic (OneTerm (y)))))))))) (operation (leading_tag o) i ∷ k) (settles_operation (leading_tag o) i k))
  arithmetic_starts os p r (Summed x o i y) =
      longer (name_alone (OneSimple (OneImplication
      (OneDisjunction (OneConjunction (OneNegation
      (OneRelation (OneArithmetic (x))))))))) (text_arithmetic (polished os) p x) (λ k. text_term (polished os) p y (operation (adding_tag
      o) i ∷ k)) (arithmetic_starts os p r x) (λ k. has (name_alone (OneSimple (OneImplication (OneDisjunction
      (OneConjunction (OneNegation (OneRelation
      (OneArithmetic (x))))))))) (text_term (polished os) p y (operation (adding_tag o) i ∷ k)) ((term_starts os p r y).settles
      (operation (adding_tag o) i ∷ k)))

  term_starts : (os : List Name) (p : Places) → PrimariesAreCoded os p → (x : Term)
      → Starts (name_alone (OneSimple (OneImplication
      (OneDisjunction (OneConjunction (OneNegation (OneRelation (OneArithmetic (OneTerm (x)))))))))) (text_term (polished os) p x)
  term_starts os p r (OneFactor y) = factor_starts os p r y
  term_starts os p r (Multiplied x o i y) =
      longer (name_alone (OneSimple (OneImplication
      (OneDisjunction (OneConjunction (OneNegation
      (OneRelation (OneArithmetic (OneTerm (x)))))))))) (text_term (polished os) p x) (λ k. text_factor (polished os) p y (operation
      (multiplying_tag o) i ∷ k)) (term_starts os p r x) (λ k. has (name_alone (OneSimple (OneImplication
      (OneDisjunction (OneConjunction (OneNegation
      (OneRelation (OneArithmetic (OneTerm (x)))))))))) (text_factor (polished os) p y (operation (multiplying_tag o) i ∷ k))
      ((factor_starts os p r y).settles (operation (multiplying_tag o) i ∷ k)))

  factor_starts : (os : List Name) (p : Places) → PrimariesAreCoded os p → (x : Factor)
      → Starts (name_alone (OneSimple (OneImplication
      (OneDisjunction (OneConjunction (OneNegation
      (OneRelation (OneArithmetic (OneTerm (OneFactor (x))))))))))) (text_factor (polished os) p x)
  factor_starts os p r (OnePrimary y) = primary_starts os p r y
  factor_starts os p r (Raised x i y) =
      longer (name_alone (OneSimple (OneImplication
      (OneDisjunction (OneConjunction (OneNegation
      (OneRelation (OneArithmetic (OneTerm (OneFactor
      (x))))))))))) (text_factor (polished os) p x) (λ k. text_primary (polished os) p y (operation Power i ∷ k)) (factor_starts os p r x)
      (λ k. has (name_alone (OneSimple (OneImplication
      (OneDisjunction (OneConjunction (OneNegation
      (OneRelation (OneArithmetic (OneTerm (OneFactor
      (x))))))))))) (text_primary (polished os) p y (operation Power i ∷ k)) ((primary_starts os p r y).settles (operation Power i ∷ k)))

  primary_starts : (os : List Name) (p : Places) → PrimariesAreCoded os p → (x : Primary)
      → Starts (name_alone (OneSimple (OneImplication
      (OneDisjunction (OneConjunction (OneNegation
      (OneRelation (OneArithmetic (OneTerm (OneFactor (OnePrimary (x)))))))))))) (text_primary (polished os) p x)
  primary_starts os p r (Numeral n i) = number_starts n i
  primary_starts os p r (Logical b i) = logical_starts b i
  primary_starts os p r (Bracketed i x m) = bracketed_starts i (λ k. text_expr (polished os) p x (word RightParenthesis m ∷ k))
  primary_starts os p r (OneCall (Alone x)) = name_starts os p r x (is_cell (p x.number).what.kind) refl
  primary_starts os p r (OneCall (WithActuals x l a more m)) = r.call_starts x l a more m
  primary_starts os p r (OneElement e) = r.element_starts e

-- expressions
mutual
  pub expr : (os : List Name) (p : Places) → PrimariesAreCoded os p → (x : Expr)
      → Codes (name_alone x) (text_expr (polished os) p x) (code_expr p x) (need_expr (scopes_of p) x)
  expr os p r (OneSimple y) = simple os p r y
  expr os p r (IfExpr i a m s j b) =
      choice_codes (name_alone a) (name_alone (OneSimple (s))) (name_alone b) (text_expr (polished os) p a) (text_simple (polished
      os) p s) (text_expr (polished os) p b) (code_expr p a) (code_simple p s) (code_expr p b) (need_expr (scopes_of p) a)
      (need_simple (scopes_of p) s) (need_expr (scopes_of
      p) b) i m j (last_expr b) (expr os p r a) (simple os p r s) (expr os p r b)

  pub simple : (os : List Name) (p : Places) → PrimariesAreCoded os p → (x : Simple)
      → Codes (name_alone (OneSimple (x))) (text_simple (polished os) p x) (code_simple p x) (need_simple (scopes_of p) x)
  simple os p r (OneImplication y) = implication os p r y
  simple os p r (Equivalent x i y) =
      both_codes (name_alone (OneSimple (x))) (name_alone (OneSimple (OneImplication (y)))) (text_simple (polished
      os) p x) (text_implication (polished os) p y) (code_simple p x) (code_implication p y) (need_simple (scopes_of p) x)
      (need_implication (scopes_of p) y) Equiv OEquiv i (λ i k level w h v st s.
      refl) (simple os p r x) (implication_starts os p r y) (implication os p r y)

  pub implication : (os : List Name) (p : Places) → PrimariesAreCoded os p → (x : Implication)
      → Codes (name_alone (OneSimple (OneImplication (x)))) (text_implication (polished
      os) p x) (code_implication p x) (need_implication (scopes_of p) x)
  implication os p r (OneDisjunction y) = disjunction os p r y
  implication os p r (Implies x i y) =
      both_codes (name_alone (OneSimple (OneImplication (x)))) (name_alone (OneSimple
      (OneImplication (OneDisjunction (y))))) (text_implication (polished os) p x) (text_disjunction (polished os) p y) (code_implication
      p x) (code_disjunction p y) (need_implication (scopes_of p) x) (need_disjunction (scopes_of p) y) Impl OImpl i (λ i k
      level w h v st s. refl) (implication os p r x) (disjunction_starts os p r y) (disjunction os p r y)

  pub disjunction : (os : List Name) (p : Places) → PrimariesAreCoded os p → (x : Disjunction)
      → Codes (name_alone (OneSimple (OneImplication (OneDisjunction (x))))) (text_disjunction (polished
      os) p x) (code_disjunction p x) (need_disjunction (scopes_of p) x)
  disjunction os p r (OneConjunction y) = conjunction os p r y
  disjunction os p r (Either x i y) =
      both_codes (name_alone (OneSimple (OneImplication (OneDisjunction (x))))) (name_alone (OneSimple
      (OneImplication (OneDisjunction (OneConjunction
      (y)))))) (text_disjunction (polished os) p x) (text_conjunction (polished os) p y) (code_disjunction p x) (code_conjunction p y)
      (need_disjunction (scopes_of p) x) (need_conjunction (scopes_of p) y) Or OOr i (λ i k level w h v st s.
      refl) (disjunction os p r x) (conjunction_starts os p r y) (conjunction os p r y)

  pub conjunction : (os : List Name) (p : Places) → PrimariesAreCoded os p → (x : Conjunction)
      → Codes (name_alone (OneSimple (OneImplication (OneDisjunction (OneConjunction (x)))))) (text_conjunction (polished
      os) p x) (code_conjunction p x) (need_conjunction (scopes_of p) x)
  conjunction os p r (OneNegation y) = negation os p r y
  conjunction os p r (Both x i y) =
      both_codes (name_alone (OneSimple (OneImplication (OneDisjunction (OneConjunction (x)))))) (name_alone (OneSimple
      (OneImplication (OneDisjunction (OneConjunction
      (OneNegation (y))))))) (text_conjunction (polished os) p x) (text_negation (polished os) p y) (code_conjunction p x) (code_negation
      p y) (need_conjunction (scopes_of p) x) (need_negation (scopes_of p) y) And OAnd i (λ i k level w h v st s.
      refl) (conjunction os p r x) (negation_starts os p r y) (negation os p r y)

  pub negation : (os : List Name) (p : Places) → PrimariesAreCoded os p → (x : Negation)
      → Codes (name_alone (OneSimple (OneImplication (OneDisjunction (OneConjunction (OneNegation (x))))))) (text_negation (polished
      os) p x) (code_negation p x) (need_negation (scopes_of p) x)
  negation os p r (OneRelation y) = relation os p r y
  negation os p r (Negated i y) =
      unary_codes (name_alone (OneSimple (OneImplication
      (OneDisjunction (OneConjunction (OneNegation
      (OneRelation (y)))))))) (text_relation (polished os) p y) (code_relation p y) (need_relation (scopes_of p) y) Not ONot i (λ i k
      level w h v st s. refl) (relation os p r y)

  pub relation : (os : List Name) (p : Places) → PrimariesAreCoded os p → (x : Relation)
      → Codes (name_alone (OneSimple (OneImplication
      (OneDisjunction (OneConjunction (OneNegation
      (OneRelation (x)))))))) (text_relation (polished os) p x) (code_relation p x) (need_relation (scopes_of p) x)
  relation os p r (OneArithmetic y) = arithmetic os p r y
  relation os p r (Compared x o i y) =
      both_codes (name_alone (OneSimple (OneImplication
      (OneDisjunction (OneConjunction (OneNegation
      (OneRelation (OneArithmetic (x))))))))) (name_alone (OneSimple (OneImplication (OneDisjunction (OneConjunction
      (OneNegation (OneRelation (OneArithmetic (y))))))))) (text_arithmetic (polished os) p x) (text_arithmetic (polished os) p y)
      (code_arithmetic p x) (code_arithmetic p y) (need_arithmetic (scopes_of p) x) (need_arithmetic (scopes_of
      p) y) (comparing_tag o) (comparing_operation o) i (comparing o) (arithmetic os p r x) (arithmetic_starts os p r y)
      (arithmetic os p r y)

  pub arithmetic : (os : List Name) (p : Places) → PrimariesAreCoded os p → (x : Arithmetic)
      → Codes (name_alone (OneSimple (OneImplication
      (OneDisjunction (OneConjunction (OneNegation
      (OneRelation (OneArithmetic (x))))))))) (text_arithmetic (polished os) p x) (code_arithmetic p x) (need_arithmetic (scopes_of p) x)
  arithmetic os p r (OneTerm y) = term os p r y
  arithmetic os p r (Signed o i y) =
      signed_codes (name_alone (OneSimple (OneImplication
      (OneDisjunction (OneConjunction (OneNegation
      (OneRelation (OneArithmetic (OneTerm (y)))))))))) (text_term (polished os) p y) (code_term p y) (need_term (scopes_of p) y) o i
      (term os p r y)
  arithmetic os p r (Summed x o i y) =
      both_codes (name_alone (OneSimple (OneImplication
      (OneDisjunction (OneConjunction (OneNegation
      (OneRelation (OneArithmetic (x))))))))) (name_alone (OneSimple (OneImplication (OneDisjunction (OneConjunction
      (OneNegation (OneRelation (OneArithmetic (OneTerm
      (y)))))))))) (text_arithmetic (polished os) p x) (text_term (polished os) p y) (code_arithmetic p x) (code_term p y)
      (need_arithmetic (scopes_of p) x) (need_term (scopes_of
      p) y) (adding_tag o) (adding_operation o) i (adding o) (arithmetic os p r x) (term_starts os p r y) (term os p r y)

  pub term : (os : List Name) (p : Places) → PrimariesAreCoded os p → (x : Term)
      → Codes (name_alone (OneSimple (OneImplication
      (OneDisjunction (OneConjunction (OneNegation
      (OneRelation (OneArithmetic (OneTerm (x)))))))))) (text_term (polished os) p x) (code_term p x) (need_term (scopes_of p) x)
  term os p r (OneFactor y) = factor os p r y
  term os p r (Multiplied x o i y) =
      both_codes (name_alone (OneSimple (OneImplication
      (OneDisjunction (OneConjunction (OneNegation
      (OneRelation (OneArithmetic (OneTerm (x)))))))))) (name_alone (OneSimple (OneImplication (OneDisjunction (OneConjunction
      (OneNegation (OneRelation (OneArithmetic (OneTerm
      (OneFactor (y))))))))))) (text_term (polished os) p x) (text_factor (polished os) p y) (code_term p x) (code_factor p y) (need_term
      (scopes_of p) x) (need_factor (scopes_of p) y) (multiplying_tag o) (multiplying_operation o) i (multiplying o) (term os p
      r x) (factor_starts os p r y) (factor os p r y)

  pub factor : (os : List Name) (p : Places) → PrimariesAreCoded os p → (x : Factor)
      → Codes (name_alone (OneSimple (OneImplication
      (OneDisjunction (OneConjunction (OneNegation
      (OneRelation (OneArithmetic (OneTerm (OneFactor
      (x))))))))))) (text_factor (polished os) p x) (code_factor p x) (need_factor (scopes_of p) x)
  factor os p r (OnePrimary y) = primary os p r y
  factor os p r (Raised x i y) = both_codes (name_alone (OneSimple
      (OneImplication (OneDisjunction (OneConjunction
      (OneNegation (OneRelation (OneArithmetic (OneTerm
      (OneFactor (x))))))))))) (name_alone (OneSimple (OneImplication (OneDisjunction (OneConjunction (OneNegation (OneRelation
      (OneArithmetic (OneTerm (OneFactor (OnePrimary
      (y)))))))))))) (text_factor (polished os) p x) (text_primary (polished os) p y) (code_factor p x) (code_primary p y) (need_factor
      (scopes_of p) x) (need_primary (scopes_of p) y) Power OPow i (λ i k level w h v st s.
      refl) (factor os p r x) (primary_starts os p r y) (primary os p r y)

  pub primary : (os : List Name) (p : Places) → PrimariesAreCoded os p → (x : Primary)
      → Codes (name_alone (OneSimple (OneImplication
      (OneDisjunction (OneConjunction (OneNegation
      (OneRelation (OneArithmetic (OneTerm (OneFactor
      (OnePrimary (x)))))))))))) (text_primary (polished os) p x) (code_primary p x) (need_primary (scopes_of p) x)
  primary os p r (Numeral n i) = number_codes n i
  primary os p r (Logical b i) = logical_codes b i
  primary os p r (Bracketed i x m) =
      bracketed_codes (name_alone x) (text_expr (polished os) p x) (code_expr p x) (need_expr (scopes_of p) x) i m (expr os p r x)
  primary os p r (OneCall (Alone x)) = name_codes os p r x (is_cell (p x.number).what.kind) refl
  primary os p r (OneCall (WithActuals x l a more m)) = r.calls x l a more m
  primary os p r (OneElement e) = r.elements e

-- an evaluation: its kind is told by what was evaluated
pub need_left : (n : ℕ) → max 5 (5 + n) - 5 ≡ n
need_left n = omega arith

pub no_less : 5 ≤ 5
no_less = omega arith

pub evaluated : (os : List Name) (p : Places) → PrimariesAreCoded os p → (x : Expr) → name_alone x ≡ None
    → (level w h v n : ℕ) (st : List Open) (s : State) (next : Following) (f : List ℕ) (k : List Symbol)
    → ((s : State) → go k (at level (w + 2) (max h (w + 2)) false 0 None (Calls (suc n) ∷ st) s) ≡ given (next s) f)
    → go (opens MActual (first_expr x)
    ∷ text_expr (polished os) p x (shuts MActual (last_expr x) ∷ k)) (at level w h false v None (Calls n ∷ st) s)
    ≡ given (by_name 0 (need_expr (scopes_of p) x) (first_expr x) (then_order OBack (first_expr x) (code_expr p x)) w s next) f
evaluated os p r x e level w h v n st s next f k go_on =
    let l = first_expr x in
    let rest = shuts MActual (last_expr x) ∷ k in
    let c = begun_by (Some l) (at level w h false v None (Actual l ∷ Calls n ∷ st) s) in
    let need = need_expr (scopes_of p) x in
    let after = first_label + s.labels in
    let start = first_label + suc s.labels in
    let end = λ (t : State). behind_word (behind_word (behind_word (behind_word (behind_word t l) l) l) l) l in
    let tail = λ (a : Answer). put (sym LabelPlace after l) (put (labelled_of OShort 0 start l) (put (order_of OKeep 0 w l)
    (put (order_of OBase 0 0 l) (put (order_of OKeep 0 (w + 1) l) a)))) in
    (expr_starts os p r x).opens level w h v l (Calls n ∷ st) s rest (rw e 0)
    ∙ ap (thunk_hole l s.labels) (expr os p r x 0 5 5 l v c.stack c.known _ (0 ∷ f) rest no_less refl (rw e 0)
    (λ t. ap (λ y. put (order_of OBack 0 0 l)
    (fill 0 (put (sym Need y l) (tail (go k (at level (w + 2) (max h (w + 2)) false 0 None (Calls (suc n) ∷ st)
    (end t))))))) (need_left need)
    ∙ ap (λ a. put (order_of OBack 0 0 l) (fill 0 (put (sym Need need l) (tail a)))) (go_on (end t))))
