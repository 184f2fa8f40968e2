-- The potential of lists of symbols, and what becomes of it when a symbol is written or looked ahead.
use Rattle.std.proofs.Common.{◌≡◌, ◌≤◌, ◌<◌, ◌+◌, ℕ, zero, suc, List, [], ◌∷◌, ◌++◌, length, drop, get_or, arith, refl, ap, ◌∙◌, add-one}
use Rattle.std.specs.Prelude.{All, IsTrue, nat_lt, true}
use Rattle.std.proofs.lemmas.Bool.Decides.{nat_tests}
use Rattle.gier_symbol.specs.declared.symbol.Symbol.{Symbol}
use Rattle.gier_symbol.specs.Texts.{stands_in}
use Rattle.gier_text.specs.Potential.{potential, potential_of, is_numbered}
use Rattle.std.specs.Prelude.{Option, None, Some}
use Rattle.std.proofs.lemmas.List.Elements.{All-append}
use Rattle.gier_symbol.specs.Tags.{number_of}
use Rattle.gier_text.specs.TablesModel.{TablesModel}
use Rattle.gier_text.specs.Outbox.{outbox_symbols}
use Rattle.gier_text3.specs.PurePass.{name_symbols}
use Rattle.gier_pass3.specs.declared.pass.Pass3.{Pass3}
use Rattle.gier_grammar.specs.declared.production.Action.{Action}
use Rattle.gier_grammar.specs.declared.production.Role.{Role}
use Rattle.gier_grammar.specs.declared.production.Role.TheVariants.{Declaring, Formal, ValueListed, Specified, LabelColon, LeadingPlus, LeadingMinus}
use Rattle.gier_pass3.specs.Lists.{credit_in}
use Rattle.gier_grammar.specs.declared.production.Production.{Production}
use Rattle.gier_grammar.specs.declared.production.Production.TheVariants.{ProgramLabel}
use Rattle.gier_pass3.specs.Costs.{cost_of, costs, price}
use Rattle.gier_grammar.specs.Productions.{tag_of}
use Rattle.gier_pass3.specs.Lists.{AddsReady, AddsLookahead, EmptiesLookahead, lookahead_by, ready_by}
use Rattle.gier_pass3.specs.Invariant.{IsFit, IsName, name_weight, StateInvariant, PreservesStack}

pub weight_append : (xs ys : List Symbol) → potential 3 (xs ++ ys) ≡ potential 3 xs + potential 3 ys
weight_append [] ys = omega arith
weight_append (x ∷ xs) ys = omega (arith, weight_append xs ys)

pub some_weight : (tag : ℕ) → 1 ≤ potential_of 3 tag
some_weight tag = grind (arith, nat_tests)

pub most_weight : (tag : ℕ) → potential_of 3 tag ≤ 6
most_weight tag = grind (arith, nat_tests)

pub light : (tag : ℕ) → IsTrue (stands_in 2 tag) → potential_of 3 tag ≤ 5
light tag is = grind (arith, nat_tests)

pub length_weight : (list : List Symbol) → length list ≤ potential 3 list
length_weight [] = omega arith
length_weight (s ∷ list) = omega (arith, some_weight s.tag, length_weight list)

pub stays : (tag : ℕ) → IsTrue (stands_in 2 tag) → IsTrue (stands_in 3 tag)
stays tag is = grind (arith, nat_tests)

pub fit_two : (bytes : ℕ) (s : Symbol) → IsFit 2 bytes s → IsFit 3 bytes s
fit_two bytes s fit = record { symbol = fit.symbol; letter = stays s.tag fit.letter; numbered = fit.numbered }

costs_drop : (actions : List Action) (at : ℕ) (d : Action) → at < length actions → costs (drop at actions) ≡ cost_of (get_or actions at d) + costs (drop (suc at) actions)
costs_drop [] at d lt = absurd (omega arith)
costs_drop (action ∷ actions) zero d lt = refl
costs_drop (action ∷ actions) (suc at) d lt = costs_drop actions at d (omega arith)

pub costs_next : (actions : List Action) (at : ℕ) (d : Action) → at < length actions → costs (drop at actions) ≡ cost_of (get_or actions at d) + costs (drop (at + 1) actions)
costs_next actions at d lt = rw add-one (costs_drop actions at d lt)

pub no_fit : (bytes : ℕ) → All (IsFit 3 bytes) []
no_fit bytes = λ k d lt. absurd (omega (arith, lt))

first_fit : (bytes : ℕ) (s d : Symbol) (k : ℕ) → IsFit 3 bytes s → k < 1 → IsFit 3 bytes (get_or (s ∷ []) k d)
first_fit bytes s d zero fit lt = fit
first_fit bytes s d (suc k) fit lt = absurd (omega (arith, lt))

one_fit : (bytes : ℕ) (s : Symbol) → IsFit 3 bytes s → All (IsFit 3 bytes) (s ∷ [])
one_fit bytes s fit = λ k d lt. first_fit bytes s d k fit lt

pub role_letter : (role : Role) → IsTrue (stands_in 3 (number_of (tag_of role)))
role_letter Declaring = refl
role_letter Formal = refl
role_letter ValueListed = refl
role_letter Specified = refl
role_letter LabelColon = refl
role_letter LeadingPlus = refl
role_letter LeadingMinus = refl

pub small_number : (bytes : ℕ) (s : Symbol) → s.value < bytes + 64 → IsTrue (is_numbered 3 bytes s)
small_number bytes s lt = grind (arith, nat_tests)

pub number_small : (bytes : ℕ) (s : Symbol) → s.tag ≡ 3 → IsTrue (is_numbered 2 bytes s) → s.value < bytes + 64
number_small bytes s tag is = grind (arith, nat_tests)

-- the potential after a symbol was made ready
pub preserves_ready : (pass : Pass3) (t u : TablesModel) (s : Symbol) → StateInvariant pass t → AddsReady (s ∷ []) t u → IsFit 3 pass.bytes s → PreservesStack (potential_of 3 s.tag) 0 pass pass t u
preserves_ready pass t u s holds change fit = record {
  state = record {
    holds = record {
      lists = change.lists.lists;
      stack_room = change.lists.stack_room ∙ holds.stack_room;
      lookahead_room = change.lists.lookahead_room ∙ holds.lookahead_room;
      ready_room = change.lists.ready_room ∙ holds.ready_room;
      lookahead = rw change.lookahead holds.lookahead;
      ready = rw change.ready (All-append (IsFit 3 pass.bytes) (ready_by t) (s ∷ []) holds.ready (one_fit pass.bytes s fit));
      name = holds.name;
      line = holds.line;
    };
    total_potential = omega (arith, ap credit_in change.stack, ap (λ l. potential 3 (outbox_symbols l)) change.lookahead, ap (λ l. potential 3 l) change.ready, weight_append (ready_by t) (s ∷ []));
    depth = omega (arith, ap (λ l. l.count) change.stack);
    bytes = refl;
    read = refl;
    stopped = refl;
    limit = change.lists.limit;
    faults = change.lists.faults;
  };
  stack = change.stack;
  owned = omega arith;
  counted = omega arith;
}

-- the potential after a symbol was looked ahead
pub preserves_lookahead : (pass : Pass3) (t u : TablesModel) (s : Symbol) → StateInvariant pass t → AddsLookahead (s ∷ []) t u → IsFit 3 pass.bytes s → PreservesStack (potential_of 3 s.tag) 0 pass pass t u
preserves_lookahead pass t u s holds change fit = record {
  state = record {
    holds = record {
      lists = change.lists.lists;
      stack_room = change.lists.stack_room ∙ holds.stack_room;
      lookahead_room = change.lists.lookahead_room ∙ holds.lookahead_room;
      ready_room = change.lists.ready_room ∙ holds.ready_room;
      lookahead = rw change.lookahead (All-append (IsFit 3 pass.bytes) (lookahead_by t) (s ∷ []) holds.lookahead (one_fit pass.bytes s fit));
      ready = rw change.ready holds.ready;
      name = holds.name;
      line = holds.line;
    };
    total_potential = omega (arith, ap credit_in change.stack, ap (λ l. potential 3 (outbox_symbols l)) change.ready, ap (λ l. potential 3 l) change.lookahead, weight_append (lookahead_by t) (s ∷ []));
    depth = omega (arith, ap (λ l. l.count) change.stack);
    bytes = refl;
    read = refl;
    stopped = refl;
    limit = change.lists.limit;
    faults = change.lists.faults;
  };
  stack = change.stack;
  owned = omega arith;
  counted = omega arith;
}

name_fits : (bytes : ℕ) (name : Option Symbol) → IsName bytes name → All (IsFit 3 bytes) (name_symbols name)
name_fits bytes None is = λ k d lt. absurd (omega (arith, lt))
name_fits bytes (Some s) is = one_fit bytes s (fit_two bytes s is)

pub name_light : (name : Option Symbol) → potential 3 (name_symbols name) ≤ name_weight name
name_light None = omega arith
name_light (Some s) = omega (arith, most_weight s.tag)

-- the potential after the lookahead was made ready
pub preserves_all : (pass : Pass3) (t u : TablesModel) → StateInvariant pass t → EmptiesLookahead (ready_by t ++ lookahead_by t ++ name_symbols pass.name) t u → PreservesStack 0 0 pass (record pass { name = None }) t u
preserves_all pass t u holds change = record {
  state = record {
    holds = record {
      lists = change.lists.lists;
      stack_room = change.lists.stack_room ∙ holds.stack_room;
      lookahead_room = change.lists.lookahead_room ∙ holds.lookahead_room;
      ready_room = change.lists.ready_room ∙ holds.ready_room;
      lookahead = rw change.lookahead (no_fit pass.bytes);
      ready = rw change.ready (All-append (IsFit 3 pass.bytes) (ready_by t ++ lookahead_by t) (name_symbols pass.name) (All-append (IsFit 3 pass.bytes) (ready_by t) (lookahead_by t) holds.ready holds.lookahead) (name_fits pass.bytes pass.name holds.name));
      name = tt;
      line = holds.line;
    };
    total_potential = omega (arith, ap credit_in change.stack, ap (λ l. potential 3 l) change.lookahead, ap (λ l. potential 3 l) change.ready, weight_append (ready_by t ++ lookahead_by t) (name_symbols pass.name), weight_append (ready_by t) (lookahead_by t), name_light pass.name);
    depth = omega (arith, ap (λ l. l.count) change.stack);
    bytes = refl;
    read = refl;
    stopped = refl;
    limit = change.lists.limit;
    faults = change.lists.faults;
  };
  stack = change.stack;
  owned = omega arith;
  counted = omega arith;
}

-- a production costs little
price_test : (production : Production) → nat_lt (price production) 33 ≡ true
price_test ProgramLabel = refl
price_test _ = refl

pub small_price : (production : Production) → price production ≤ 32
small_price production = less_price (price production) (price_test production)
  where
    less_price : (n : ℕ) → nat_lt n 33 ≡ true → n ≤ 32
    less_price n e = grind (arith, nat_tests)
