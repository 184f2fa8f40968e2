-- A switch: the table of its elements stands before them, and each is an evaluation.
use Rattle.std.proofs.Common.{◌≡◌, ◌∙◌, ◌+◌, ℕ, zero, suc, false, List, [], ◌∷◌, length, refl, ap}
use Rattle.std.specs.Prelude.{None}
use Rattle.gier_order.specs.declared.operation.Operation.TheVariants.{Back as OBack, Jump as OJump, Thunk as OThunk}
use Rattle.gier_symbol.specs.declared.symbol.Symbol.{Symbol}
use Rattle.gier_symbol.specs.declared.tag.Tag.TheVariants.{LabelPlace, LabelWord, Word, Need, Switch, Becomes}
use Rattle.gier_symbol.specs.ByTag.{sym, word}
use Rattle.gier_tree.specs.declared.construct.Construct.TheVariants.{SwitchDeclaration as MSwitch, SwitchElement as MElement}
use Rattle.gier_tree.specs.Coded.{scopes_of, evaluation, then_order, code_label}
use Rattle.gier_tree.specs.Lines.{first_expr, last_expr}
use Rattle.gier_tree.specs.Need.{need_expr, count_exprs}
use Rattle.gier_tree.specs.Orders.{State, Following, behind_word, define, first_label}
use Rattle.gier_tree.specs.Places.{Places}
use Rattle.gier_tree.specs.Room.{call_header}
use Rattle.gier_tree.specs.Text7.{elements_of, table_code, switch_elements_code, switch_declared}
use Rattle.gier_tree.specs.Texts.{declares, text_switch_element, text_switch_elements}
use Rattle.gier_tree.specs.Trees.{Name, Expr, Exprs, NoExprs, MoreExprs}
use Rattle.gier_tree.specs.Written.{opens, shuts, name_alone, text_expr}
use Rattle.gier_text7.proofs.ElementsAhead.{expr_ahead}
use Rattle.gier_text7.proofs.Expressions.{has, need_left, no_less}
use Rattle.gier_text7.specs.Answers.{Answer, given, first, put, order_of, labelled_of, room_of}
use Rattle.gier_text7.specs.PassState.{Open, at, labels_more, Block, SwitchOf, Inside}
use Rattle.gier_text7.specs.Ahead.{elements_ahead}
use Rattle.gier_text7.specs.Marks.{table}
use Rattle.gier_text7.specs.PurePass.{go}
use Rattle.gier_text7.specs.Codes.{Settles, Gives, polished}

settles_element : (i : ℕ) (w : List Symbol) → Settles (shuts MElement i ∷ w)
settles_element i w = λ level v h full d x st s. refl

abbrev labels_from : (n first : ℕ) → List ℕ
labels_from zero j = []
labels_from (suc n) j = (first_label + j) ∷ labels_from n (suc j)

-- the state behind the table
abbrev behind_table : (n line : ℕ) → State → State
behind_table zero line s = s
behind_table (suc n) line s = behind_table n line (behind_word (labels_more s) line)

table_right : (n line : ℕ) (s : State) (next : State → Answer) (go : List ℕ → Following) (f : List ℕ)
    → ((t : State) → next t ≡ given (go (labels_from n s.labels) t) f) → table n line s next ≡ given (table_code n line s go) f
table_right zero line s next go f h = h s
table_right (suc n) line s next go f h =
    ap (put (sym LabelWord (first_label + s.labels) line)) (table_right n line (behind_word (labels_more s) line) next (λ
    labels. go ((first_label + s.labels) ∷ labels)) f h)

abbrev AreLabels : List Name → Places → Type 0
AreLabels os p = (x : Expr) → Gives 2 (name_alone x) (text_expr (polished os) p x) (code_label p x) (need_expr (scopes_of p) x)

element : (os : List Name) (p : Places) → AreLabels os p
    → (x : Expr) (l over j level w h v : ℕ) (st : List Open) (s : State) (next : Following) (f : List ℕ) (k : List Symbol)
    → ((v : ℕ) (s : State) → go k (at level w h false v None (SwitchOf l over (suc j) ∷ st) s) ≡ given (next s) f)
    → go (text_switch_element (polished os) p x k) (at level w h false v None (SwitchOf l over j ∷ st) s)
    ≡ given (define (first_label + j) s (λ s.
    evaluation 2 (need_expr (scopes_of p) x) (first_expr x) (then_order OBack (first_expr x) (code_label p x)) s next)) f
element os p r x l over j level w h v st s next f k go_on =
    let i = first_expr x in
    let rest = shuts MElement (last_expr x) ∷ k in
    let need = need_expr (scopes_of p) x in
    let st1 = Inside i w h level ∷ SwitchOf l over (suc j) ∷ st in
    ap (λ a. put (sym LabelPlace (first_label + j) s.line) (put (room_of OThunk 2 call_header i)
    a)) (r x 0 5 5 i v st1 (behind_word s i) _ f rest no_less refl (has (name_alone x) rest (settles_element (last_expr x) k))
    (λ t. ap (λ y. put (order_of OBack 0 0 i)
    (put (sym Need y i) (go k (at level w h false 2 None (SwitchOf l over (suc j) ∷ st) (behind_word t i))))) (need_left need)
    ∙ ap (λ a. put (order_of OBack 0 0 i) (put (sym Need need i) a)) (go_on 2 (behind_word t i))))

elements : (os : List Name) (p : Places) → AreLabels os p
    → (xs : Exprs) (e l over j level w h v : ℕ) (st : List Open) (s : State) (next : Following) (f : List ℕ) (k : List Symbol)
    → ((v : ℕ) (s : State) → go k (at level w h false v None st s) ≡ given (next s) f)
    → go (text_switch_elements (polished os) p xs (shuts MSwitch e ∷ k)) (at level w h false v None (SwitchOf l over j ∷ st) s)
    ≡ given (switch_elements_code p (labels_from (count_exprs xs) j) (elements_of xs) s (λ s. define over s next)) f
elements os p r NoExprs e l over j level w h v st s next f k go_on = ap (put (sym LabelPlace over s.line)) (go_on v s)
elements os p r (MoreExprs i x xs) e l over j level w h v st s next f k go_on =
    element os p r x l over j level w h v st s (λ s.
    switch_elements_code p (labels_from (count_exprs xs) (suc j)) (elements_of xs) s (λ s.
    define over s next)) f (text_switch_elements (polished os) p xs (shuts MSwitch e ∷ k))
    (λ v s. elements os p r xs e l over (suc j) level w h v st s next f k go_on)

-- how many they are is seen ahead
pub ahead_elements : (os : List Name) (p : Places) (xs : Exprs) (e : ℕ) (k : List Symbol)
    → elements_ahead (text_switch_elements (polished os) p xs (shuts MSwitch e ∷ k)) ≡ count_exprs xs
ahead_elements os p NoExprs e k = refl
ahead_elements os p (MoreExprs i x xs) e k =
    ap (λ n. suc n) (expr_ahead os p x (shuts MElement (last_expr x) ∷ text_switch_elements (polished os) p xs (shuts MSwitch e ∷ k))
    ∙ ahead_elements os p xs e k)

length_elements : (xs : Exprs) → count_exprs xs ≡ length (elements_of xs)
length_elements NoExprs = refl
length_elements (MoreExprs i x xs) = ap (λ n. suc n) (length_elements xs)

pub switch : (os : List Name) (p : Places) → AreLabels os p
    → (l m n j : ℕ) (x : Name) (e : Expr) (es : Exprs) (level w h v : ℕ) (st : List Open) (s : State) (next : Following) (f :
    List ℕ) (k : List Symbol)
    → n ≡ (p x.number).address
    → ((v : ℕ) (s : State) → go k (at level w h false v None (Block (suc n) ∷ st) s) ≡ given (next s) f)
    → go (opens MSwitch l ∷ word Switch l ∷ declares x ∷ word Becomes m
    ∷ text_switch_element (polished os) p e (text_switch_elements (polished os) p es (shuts MSwitch j
    ∷ k))) (at level w h false v None (Block n ∷ st) s)
    ≡ given (switch_declared p l x (e ∷ elements_of es) s next) f
switch os p r l m n j x e es level w h v st s next f k number go_on =
    let rest = text_switch_elements (polished os) p es (shuts MSwitch j ∷ k) in
    let text = word Switch l ∷ declares x ∷ word Becomes m ∷ text_switch_element (polished os) p e rest in
    let over = first_label + s.labels in
    let s3 = behind_word (behind_word (labels_more s) l) l in
    let body = λ (t : State). go text (at level w h false v None (SwitchOf l over (suc s.labels) ∷ Block (suc n) ∷ st) t) in
    let counted = ap (λ n. suc n) (expr_ahead os p e (shuts MElement (last_expr e) ∷ rest) ∙ ahead_elements os p es j k
    ∙ length_elements es) in
    ap (λ c. put (labelled_of OJump 0 over l) (put (sym LabelPlace n l) (put (sym Word c l) (table c l s3 body)))) counted
    ∙ ap (λ a. put (labelled_of OJump 0 over l) (put (sym LabelPlace a l)
    (put (sym Word (suc (length (elements_of es))) l) (table (suc (length (elements_of es))) l s3 body)))) number
    ∙ ap (λ a. put (labelled_of OJump 0 over l) (put (sym LabelPlace (p x.number).address l)
    (put (sym Word (suc (length (elements_of es))) l) a)))
    (table_right (suc (length (elements_of es))) l s3 body (λ labels s.
    switch_elements_code p labels (e ∷ elements_of es) s (λ s. define over s next)) f
    (λ t. element os p r e l over (suc s.labels) level w h v (Block (suc n)
    ∷ st) t (λ s1. switch_elements_code p (labels_from (length (elements_of es)) (suc
    (suc s.labels))) (elements_of es) s1 (λ s. define over s next)) f rest
    (λ v s1. elements os p r es j l over (suc (suc s.labels)) level w h v (Block (suc n) ∷ st) s1 next f k go_on
    ∙ ap (λ c. given (switch_elements_code p (labels_from c (suc (suc s.labels))) (elements_of es) s1
    (λ s. define over s next)) f) (length_elements es))))
