-- The law, from its premises.
use Rattle.std.proofs.Common.{◌≡◌, ◌∙◌, ℕ, ◌+◌, ◌*◌, ◌<◌, Bool, true, false, List, [], length, refl, sym, ap, subst, arith}
use Rattle.std.specs.Prelude.{◌==◌, ◌^◌, ◌||◌, if◌then◌else◌}
use Rattle.gier_symbol.specs.declared.symbol.Symbol.{Symbol}
use Rattle.gier_symbol.specs.declared.tag.Tag.TheVariants.{OpenRoom}
use Rattle.gier_symbol.specs.ByTag.{sym as tagged}
use Rattle.gier_order.specs.declared.operation.Operation.TheVariants as op
use Rattle.gier_order.specs.Flat.Run.{flat}
use Rattle.gier_tree.specs.Coded.{scopes_of}
use Rattle.gier_tree.specs.Declaring.{labels_of_program}
use Rattle.gier_tree.specs.Described.{Described}
use Rattle.gier_tree.specs.Entries.{entries_numbers, program_entries}
use Rattle.gier_tree.specs.Hoist.{hoist}
use Rattle.gier_tree.specs.Lines.{group_begin}
use Rattle.gier_tree.specs.Need.{need_group}
use Rattle.gier_tree.specs.Object.{object_of}
use Rattle.gier_tree.specs.Orders as code
use Rattle.gier_tree.specs.Orders.{Following, order, room_order, needs, number_of, behind_word}
use Rattle.gier_tree.specs.Places.{standard_places}
use Rattle.gier_tree.specs.Text7.{code_program, object_words, code_statement}
use Rattle.gier_tree.specs.Texts.{Where}
use Rattle.gier_tree.specs.Trees as tree
use Rattle.gier_tree.specs.Trees.{Program, MkProgram, MkBlock, MkCompound, OneGroup, MkUnconditional, OneUnconditional, Group, LabelPlace}
use Rattle.gier_meaning.specs.Entry.{live_after_taking}
use Rattle.gier_meaning.specs.Plain.{begin_line, group, statement, with_labels}
use Rattle.gier_meaning.specs.Scopes.{labels}
use Rattle.gier_meaning.specs.Room.{program_room}
use Rattle.gier_env.specs.Closures.{what_of}
use Rattle.gier_meaning.specs.Standing.{initial_state}
use Rattle.gier_meaning.specs.Observation.{observation}
use Rattle.gier_env.specs.Meaning.{meaning, program_run, within}
use Rattle.gier_twice.proofs.ProgramsEqual.{places_equal, programs_equal}
use Rattle.gier_complete.proofs.Claims.{are_whole}
use Rattle.gier_flat.specs.Alike.{TellsTheSame}
use Rattle.gier_flat.specs.Law.{RunIsMeaning}
use Rattle.gier_env.specs.Env.{Inside, Outermost, found}
use Rattle.gier_env.specs.Standing.{standard_bindings}
use Rattle.gier_env.specs.Statements.{has}
use Rattle.gier_fair.specs.InScope.{AreDistinct}
use Rattle.gier_placed.proofs.Addresses.{labels_are_addresses}
use Rattle.gier_flat.specs.Premises.{Premises}
use Rattle.gier_flat.proofs.BlockEntries.{entries_named}
use Rattle.gier_flat.proofs.BlockNumbers.{numbered, good as good_number, entries_within}
use Rattle.gier_flat.proofs.DeclaredEntities.{mean, mean_at}
use Rattle.gier_flat.proofs.LabelPlaces.{IsPlaced, ArePlaced, placed_statement, has_label}
use Rattle.gier_flat.proofs.Positions.{At, length_from, behind}
use Rattle.gier_flat.proofs.OrderRows.{object}
use Rattle.gier_flat.proofs.Setting.{Setting}
use Rattle.gier_flat.proofs.NextRuns.{AreWithin}
use Rattle.gier_flat.proofs.Deeper.{deeper}
use Rattle.gier_flat.proofs.Labels.{identifiers, same_program, among_entities}
use Rattle.gier_flat.proofs.ProgramActivation.{env, places, own, NewLabel, is_new}
use Rattle.gier_flat.proofs.Programs.{program_told}

-- labels stand in the program's activation, what is not declared in none, and nothing has formals
standard_within : AreWithin standard_places 1
standard_within x = (omega arith, by (x == 0) _ _ refl (by (x == 1) _ _ refl (by (x == 2) _ _ refl (by (x == 3) _ _ refl (by (x == 4) _ _ refl (by (x == 5) _ _ refl (by (x == 6) _ _ refl (by (x == 7) _ _ refl refl))))))))
  where
    by : (t : Bool) (a b : Described) → a.formals ≡ [] → b.formals ≡ [] → (if t then a else b).formals ≡ []
    by true a b i j = i
    by false a b i j = j

same_line : (g : Group) → group_begin g ≡ begin_line g
same_line (MkBlock l d m ds s ss n) = refl
same_line (MkCompound l s ss n) = refl

module _ (ls : List LabelPlace) (g : Group) (end : ℕ) (h : Premises (MkProgram ls g end)) where
  abbrev t : Program
  t = MkProgram ls g end

  abbrev l : ℕ
  l = group_begin g

  abbrev text : List Symbol
  text = code_program t

  abbrev u : tree.Statement
  u = OneUnconditional (MkUnconditional ls (OneGroup g))

  abbrev need : ℕ
  need = need_group (scopes_of (places (labels_of_program t))) g

  abbrev place : Where
  place = record { level = 1; numbers = entries_numbers (program_entries t); owns = 0 }

  abbrev beyond : Following
  beyond = λ s. needs need s object_words

  abbrev begun : code.State
  begun = record { labels = 0; line = l; words = 0 }

  abbrev xs : List ℕ
  xs = labels (with_labels ls (group g))

  short : length (object text) < 2 ^ 24
  short = subst (λ k. k < 2 ^ 24) (sym (length_from text text)) h.short

  stands : At text begun (room_order op.Start 1 3 l begun (λ s. code_statement (places (labels_of_program t)) place u 1 3 s (λ s1. order op.Stop 0 0 l s1 beyond)))
  stands = record { before = []; whole = refl; count = refl; open_yet = tt }

  distinct : AreDistinct xs
  distinct = subst AreDistinct (entries_named [] (labels_of_program t) ∙ same_program ls g) h.scopes.0

  -- the labels of the program's scope have their places in its code
  label_good : (setting : Setting) → setting.text ≡ text → (e : ℕ) → e < length xs → IsPlaced setting e
  label_good setting is e lt =
      let count : length (identifiers (labels_of_program t)) ≡ length xs = ap length (same_program ls g) in
      let begins : At setting.text begun (room_order op.Start 1 3 l begun (λ s. code_statement (places (labels_of_program t)) place u 1 3 s (λ s1. order op.Stop 0 0 l s1 beyond))) = subst (λ text. At text begun (room_order op.Start 1 3 l begun (λ s. code_statement (places (labels_of_program t)) place u 1 3 s (λ s1. order op.Stop 0 0 l s1 beyond)))) (sym is) stands in
      let entered : At setting.text (behind_word begun l) (code_statement (places (labels_of_program t)) place u 1 3 (behind_word begun l) (λ s1. order op.Stop 0 0 l s1 beyond)) =
      behind setting.text begun (behind_word begun l) (tagged OpenRoom (number_of op.Start * 2 ^ 32 + 1 * 2 ^ 24 + 3) l) (code_statement (places (labels_of_program t)) place u 1 3 (behind_word begun l) (λ s1. order op.Stop 0 0 l s1 beyond)) begins (λ e. absurd (omega (arith, e))) (omega arith) in
      let placed : ArePlaced setting (places (labels_of_program t)) (labels_of_program t) =
      placed_statement setting (places (labels_of_program t)) place u [] tt 1 3 (behind_word begun l) (λ s1. order op.Stop 0 0 l s1 beyond) entered (omega arith) in
      good_number setting (places (labels_of_program t)) (labels_of_program t) 0 e e
      (numbered [] (labels_of_program t) 1 0 0 0 standard_places refl (subst AreDistinct (entries_named [] (labels_of_program t)) h.scopes.0)) placed (omega (arith, count, lt)) (omega arith)

  within_program : (e : ℕ) → e < length xs → has e (env xs) (statement u) ≡ true
  within_program e lt =
      let r = mean_at (found (env xs)) 0 xs e e (mean 0 xs (found (Inside standard_bindings Outermost)) distinct) lt (omega arith) in
      has_label (env xs) r.0 e r.2 (statement u) r.1

  pub told : (input : List ℕ) (steps size : ℕ) → size < 2 ^ 24 → TellsTheSame text (flat (object_of text) 0 input steps size) (meaning size t input steps)
  told input steps size small =
      let setting : Setting = record { text = text; size = size; ends = (are_whole t).stop; small = small; right = labels_are_addresses t h.scopes h.few; short = short } in
      let good : (e : ℕ) → e < length xs → IsPlaced setting e = label_good setting refl in
      subst (λ line. TellsTheSame text (flat (object_of text) 0 input steps size) (observation steps (program_run size (within size steps) line (statement u) (own xs) (env xs) (live_after_taking size 0 0 (program_room (what_of (env xs) (initial_state input steps)) (statement u))) (program_room (what_of (env xs) (initial_state input steps)) (statement u)) (initial_state input steps)))) (same_line g)
      (subst (λ room. TellsTheSame text (flat (object_of text) 0 input steps size) (observation steps (program_run size (within size steps) l (statement u) (own xs) (env xs) (live_after_taking size 0 0 room) room (initial_state input steps)))) (places_equal ls g end ∙ programs_equal t input steps)
      (program_told setting input steps l (env xs) (places (labels_of_program t)) place u h.part (entries_within [] (labels_of_program t) 1 0 0 standard_places standard_within) (deeper setting steps) (own xs) (initial_state input steps) begun beyond h.room stands refl (are_whole t).need refl refl refl refl refl
      (NewLabel setting input steps (labels_of_program t) xs (same_program ls g) need)
      (is_new setting input steps (labels_of_program t) xs (same_program ls g) need good)
      (λ e a i. (among_entities 0 xs e e i.0 (omega arith), ap (λ b. b || false) (within_program e i.0)))))

of_program : (t : Program) → Premises t → (input : List ℕ) (steps size : ℕ) → size < 2 ^ 24 → TellsTheSame (code_program t) (flat (object_of (code_program t)) 0 input steps size) (meaning size t input steps)
of_program (MkProgram ls g end) h = told ls g end h

pub run_is_meaning : RunIsMeaning
run_is_meaning t h = of_program (hoist t) h
