-- For statements give the same: each turn makes the same labels.
use Rattle.std.proofs.Common.{◌≡◌, ℕ, pos, List, [], ◌∷◌, ◌++◌, length, refl, sym, ap, ◌∙◌, append-nil}
use Rattle.std.specs.Prelude.{int_lt}
use Rattle.gier_word.specs.Operations.{sum_of, difference_of, product_of, sign_of}
use Rattle.gier_meaning.specs.Tree.{Expr, Element, Once, StepUntil, While, NoStatements, MoreStatements}
use Rattle.gier_meaning.specs.Lines.{line_of}
use Rattle.gier_meaning.specs.Live.{Live}
use Rattle.gier_meaning.specs.State.{State, given_out}
use Rattle.gier_meaning.specs.Address.{receives}
use Rattle.gier_meaning.specs.Outcome.{Outcome, Finished, is_among, then_do, either}
use Rattle.gier_meaning.specs.Accounts.{charge}
use Rattle.gier_meaning.specs.Operators.{is_true}
use Rattle.gier_meaning.specs.Scopes.{labels, quantities, identifiers_of}
use Rattle.gier_meaning.specs.Maps as list
use Rattle.gier_meaning.specs.Maps.{Map, Binding, used_in, assigned_in, map_without, hidden_from}
use Rattle.gier_meaning.specs.Close.{close_name, close, close_element, close_elements}
use Rattle.gier_meaning.specs.TurnLabels.{entities_from, labels_made}
use Rattle.gier_meaning.specs.Bodies.{Body}
use Rattle.gier_meaning.specs.Tasks as copy
use Rattle.gier_meaning.specs.Loops as closed
use Rattle.gier_meaning.specs.Expressions.{value as closed_value}
use Rattle.gier_env.specs.Expressions.{value as here_value}
use Rattle.gier_env.specs.Env.{Env, Inside, Bindings, NoBindings, with_entities}
use Rattle.gier_env.specs.Closures.{Closure}
use Rattle.gier_env.specs.Tasks as env
use Rattle.gier_env.specs.Loops as here
use Rattle.gier_copy.proofs.Images.{used, assigned, map_in, state_of, carried, same}
use Rattle.gier_copy.proofs.Closing.{keeps_hidden, labels_stay, proper_map, of_quantities}
use Rattle.gier_copy.proofs.Envs.{list_of, numbered_list, means_in, all_in, numbered_means, numbered_all, entering_used, entering_assigned}
use Rattle.gier_copy.proofs.States.{receives_of, labels_of, then_same, either_same, caught_same, charge_same, settled_same}
use Rattle.gier_copy.proofs.Agree.{Agree, Fits, loop_of}
use Rattle.gier_copy.proofs.Parts.{value_same, address_same, line_same}

-- the labels of a turn, as bindings
abbrev pub turn_bindings : ℕ → List ℕ → Bindings
turn_bindings n xs = with_entities n (quantities xs) NoBindings

listed : (n : ℕ) (xs : List ℕ) → list.entity_bindings n (quantities xs) ≡ list_of (turn_bindings n xs)
listed n xs = sym (append-nil (list.entity_bindings n (quantities xs))) ∙ numbered_list n (quantities xs) NoBindings

means_them : (n : ℕ) (xs : List ℕ) → means_in (turn_bindings n xs) ≡ xs
means_them n xs = numbered_means n (quantities xs) NoBindings ∙ append-nil (identifiers_of (quantities xs)) ∙ of_quantities xs

all_them : (n : ℕ) (xs : List ℕ) → all_in (turn_bindings n xs) ≡ xs
all_them n xs = numbered_all n (quantities xs) NoBindings ∙ append-nil (identifiers_of (quantities xs)) ∙ of_quantities xs

pub fits_turn : (m : Map) (turn : List Binding) (e : Env) → Fits m turn e → (n : ℕ) (xs : List ℕ)
    → Fits (map_without xs m) (list.entity_bindings n (quantities xs) ++ turn) (Inside (turn_bindings n xs) e)
fits_turn m turn e fits n xs = record {
  proper = proper_map xs m fits.proper;
  used = λ x. ap (λ l. close_name (used_in (l ++ turn)) (hidden_from xs m.used x)) (listed n xs)
      ∙ ap (λ f. f x) (entering_used (turn_bindings n xs) turn xs m.used (used e) fits.proper.used
      (λ y. ap (is_among y) (means_them n xs)) fits.used);
  assigned = λ x. ap (λ l. close_name (assigned_in (l ++ turn)) (hidden_from xs m.assigned x)) (listed n xs)
      ∙ ap (λ f. f x) (entering_assigned (turn_bindings n xs) turn xs m.assigned (assigned e) fits.proper.assigned
      (λ y. ap (is_among y) (all_them n xs)) fits.assigned);
}

module _ (limit : ℕ) (next : copy.Next) (next1 : env.Next) (agrees : Agree next next1) (m : Map) (turn : List Binding) (loop : env.Loop)
    (fits : Fits m turn loop.env)
    (execute : here.Execute) (execute1 : closed.Execute)
    (executes : (turn1 : List Binding) (e : Env) → Fits (map_without (labels loop.body) m) turn1 e → (s : State Closure)
    → execute1 turn1 (state_of s) ≡ carried same (execute e s)) where
  abbrev loop1 : copy.Loop
  loop1 = loop_of m turn loop

  abbrev xs : List ℕ
  xs = labels loop.body

  labelled_same : (n : ℕ) (live : Live) (s : State Closure)
      → closed.labelled_turn next loop1 execute1 (entities_from n xs) (list.entity_bindings n (quantities xs) ++ turn) live (state_of s)
      ≡ carried same (here.labelled_turn next1 loop execute (entities_from n xs) (Inside (turn_bindings n xs) loop.env) live s)
  labelled_same n live s =
      let own : List ℕ = entities_from n xs in
      let f = fits_turn m turn loop.env fits n xs in
      caught_same same own _ _ _ _
      (ap (λ st. execute1 (list.entity_bindings n (quantities xs) ++ turn) (given_out (length own) st)) (sym (labels_of own s))
      ∙ executes (list.entity_bindings n (quantities xs) ++ turn) (Inside (turn_bindings n xs) loop.env) f
      (given_out (length own) (labels_made own s)))
      (λ label s1. agrees.rest label own (map_without xs m) (list.entity_bindings n (quantities xs) ++ turn) (MoreStatements loop.body NoStatements)
      (Inside (turn_bindings n xs) loop.env) f live s1)

  turn_same : (live : Live) (s : State Closure) (go : State Closure → Outcome Closure Finished) (go1 : State Body → Outcome Body Finished)
      → ((s : State Closure) → go1 (state_of s) ≡ carried same (go s))
      → closed.turn next loop1 execute1 live (state_of s) go1 ≡ carried same (here.turn next1 loop execute live s go)
  turn_same live s go go1 each =
      ap (λ u. then_do (closed.labelled_turn next loop1 execute1 (entities_from s.fresh u)
      (list.entity_bindings s.fresh (quantities u) ++ turn) live (state_of s)) (λ done s1. charge loop.line live s1 go1))
      (labels_stay (map_without xs m) loop.body (keeps_hidden xs m.used))
      ∙ then_same same same _ _ _ _ (labelled_same s.fresh live s) (λ done s1. charge_same same loop.line live s1 go go1 each)

  sets_same : (e : Expr) (live : Live) (s : State Closure) (go : State Closure → Outcome Closure Finished)
      (go1 : State Body → Outcome Body Finished)
      → ((s : State Closure) → go1 (state_of s) ≡ carried same (go s))
      → closed.sets limit next loop1 (close (used loop.env) e) live (state_of s) go1 ≡ carried same (here.sets limit next1 loop e live s go)
  sets_same e live s go go1 each =
      then_same same same _ _ _ _ (address_same limit next next1 agrees (here.variable loop) loop.env live s) (λ a s1.
      then_same same same _ _ _ _ (value_same limit next next1 agrees e loop.env live s1)
      (λ v s2. ap go1 (sym (receives_of a v s2)) ∙ each (receives a v s2)))

  advances_same : (b : Expr) (line : ℕ) (live : Live) (s : State Closure) (go : State Closure → Outcome Closure Finished)
      (go1 : State Body → Outcome Body Finished)
      → ((s : State Closure) → go1 (state_of s) ≡ carried same (go s))
      → closed.advances limit next loop1 (close (used loop.env) b) line live (state_of s) go1
      ≡ carried same (here.advances limit next1 loop b line live s go)
  advances_same b line live s go go1 each =
      then_same same same _ _ _ _ (address_same limit next next1 agrees (here.variable loop) loop.env live s) (λ a s1.
      then_same same same _ _ _ _ (value_same limit next next1 agrees (here.variable loop) loop.env live s1) (λ v s2.
      then_same same same _ _ _ _ (value_same limit next next1 agrees b loop.env live s2) (λ x s3.
      then_same same same _ _ _ _ (settled_same (sum_of v x) line live s3)
      (λ sum s4. ap go1 (sym (receives_of a sum s4)) ∙ each (receives a sum s4)))))

  distance_same : (b c : Expr) (line : ℕ) (live : Live) (s : State Closure)
      → closed.distance limit next loop1 (close (used loop.env) b) (close (used loop.env) c) line live (state_of s)
      ≡ carried same (here.distance limit next1 loop b c line live s)
  distance_same b c line live s =
      then_same same same _ _ _ _ (value_same limit next next1 agrees (here.variable loop) loop.env live s) (λ v s1.
      then_same same same _ _ _ _ (value_same limit next next1 agrees c loop.env live s1) (λ x s2.
      then_same same same _ _ _ _ (settled_same (difference_of v x) line live s2) (λ d s3.
      then_same same same _ _ _ _ (value_same limit next next1 agrees b loop.env live s3)
      (λ y s4. settled_same (product_of d (sign_of y)) line live s4))))

  steps_same : (a b c : Expr) (rest : List Element) (live : Live) (s : State Closure) (go : State Closure → Outcome Closure Finished)
      (go1 : State Body → Outcome Body Finished)
      → ((s : State Closure) → go1 (state_of s) ≡ carried same (go s))
      → closed.steps limit next loop1 execute1 (close (used loop.env) a) (close (used loop.env) b) (close (used loop.env) c)
      (close_elements (map_in loop.env) rest) live (state_of s) go1
      ≡ carried same (here.steps limit next1 loop execute a b c rest live s go)
  steps_same a b c rest live s go go1 each =
      then_same same same _ _ _ _
      (ap (λ l. closed.distance limit next loop1 (close (used loop.env) b) (close (used loop.env) c) l live (state_of s))
      (line_same (used loop.env) a) ∙ distance_same b c (line_of a) live s)
      (λ d s1. either_same same (int_lt (pos 0) d) (int_lt (pos 0) d) s1 _ _ _ _ refl each
      (λ s2. turn_same live s2 _ _ (λ s3. agrees.again loop m turn fits (StepUntil a b c) rest live s3)))

  abbrev go : List Element → Live → State Closure → Outcome Closure Finished
  go rest live s = here.elements limit next1 loop execute rest live s

  abbrev go1 : List Element → Live → State Body → Outcome Body Finished
  go1 rest live s = closed.elements limit next loop1 execute1 (close_elements (map_in loop.env) rest) live s

  abbrev test_go : Expr → Expr → List Element → Live → State Closure → Outcome Closure Finished
  test_go e test rest live s1 =
      then_do (here_value limit next1 test loop.env live s1) (λ v s2. either (is_true v) s2
      (λ s3. here.turn next1 loop execute live s3 (λ s4. next1.again loop (While e test) rest live s4))
      (λ s3. go rest live s3))

  abbrev test_go1 : Expr → Expr → List Element → Live → State Body → Outcome Body Finished
  test_go1 e test rest live s1 =
      then_do (closed_value limit next (close (used loop.env) test) live s1) (λ v s2. either (is_true v) s2
      (λ s3. closed.turn next loop1 execute1 live s3
      (λ s4. next.again loop1 (close_element (map_in loop.env) (While e test)) (close_elements (map_in loop.env) rest) live s4))
      (λ s3. go1 rest live s3))

  pub elements_same : (es : List Element) (live : Live) (s : State Closure)
      → closed.elements limit next loop1 execute1 (close_elements (map_in loop.env) es) live (state_of s)
      ≡ carried same (here.elements limit next1 loop execute es live s)
  elements_same [] live s = refl
  elements_same (Once e ∷ rest) live s =
      sets_same e live s (λ s1. here.turn next1 loop execute live s1 (go rest live))
      (λ s1. closed.turn next loop1 execute1 live s1 (go1 rest live))
      (λ s1. turn_same live s1 (go rest live) (go1 rest live) (λ s2. elements_same rest live s2))
  elements_same (StepUntil a b c ∷ rest) live s =
      sets_same a live s (λ s1. here.steps limit next1 loop execute a b c rest live s1 (go rest live))
      (λ s1. closed.steps limit next loop1 execute1 (close (used loop.env) a) (close (used loop.env) b) (close (used loop.env) c)
      (close_elements (map_in loop.env) rest) live s1 (go1 rest live))
      (λ s1. steps_same a b c rest live s1 (go rest live) (go1 rest live) (λ s2. elements_same rest live s2))
  elements_same (While e test ∷ rest) live s =
      sets_same e live s (test_go e test rest live) (test_go1 e test rest live) (λ s1.
      then_same same same _ _ _ _ (value_same limit next next1 agrees test loop.env live s1) (λ v s2.
      either_same same (is_true v) (is_true v) s2
      (λ s3. here.turn next1 loop execute live s3 (λ s4. next1.again loop (While e test) rest live s4)) (λ s3. go rest live s3)
      (λ s3. closed.turn next loop1 execute1 live s3
      (λ s4. next.again loop1 (close_element (map_in loop.env) (While e test))
      (close_elements (map_in loop.env) rest) live s4)) (λ s3. go1 rest live s3)
      refl
      (λ s3. turn_same live s3 (λ s4. next1.again loop (While e test) rest live s4)
      (λ s4. next.again loop1 (close_element (map_in loop.env) (While e test)) (close_elements (map_in loop.env) rest) live s4)
      (λ s4. agrees.again loop m turn fits (While e test) rest live s4))
      (λ s3. elements_same rest live s3)))

  pub again_same : (element : Element) (rest : List Element) (live : Live) (s : State Closure)
      → closed.again limit next loop1 execute1 (close_element (map_in loop.env) element) (close_elements (map_in loop.env) rest) live
      (state_of s)
      ≡ carried same (here.again limit next1 loop execute element rest live s)
  again_same (Once e) rest live s = elements_same rest live s
  again_same (StepUntil a b c) rest live s =
      ap (λ l. closed.advances limit next loop1 (close (used loop.env) b) l live (state_of s)
      (λ s1. closed.steps limit next loop1 execute1 (close (used loop.env) a) (close (used loop.env) b) (close (used loop.env) c)
      (close_elements (map_in loop.env) rest) live s1
      (λ s2. closed.elements limit next loop1 execute1 (close_elements (map_in loop.env) rest) live s2)))
      (line_same (used loop.env) a)
      ∙ advances_same b (line_of a) live s (λ s1. here.steps limit next1 loop execute a b c rest live s1 (go rest live))
      (λ s1. closed.steps limit next loop1 execute1 (close (used loop.env) a) (close (used loop.env) b) (close (used loop.env) c)
      (close_elements (map_in loop.env) rest) live s1 (go1 rest live))
      (λ s1. steps_same a b c rest live s1 (go rest live) (go1 rest live) (λ s2. elements_same rest live s2))
  again_same (While e test) rest live s = elements_same (While e test ∷ rest) live s
