-- What is said of each text 7 is carried by the code of each program.
use Rattle.std.proofs.Common.{◌≡◌, ℕ, suc, ◌+◌, List, refl, sym, ap, ◌∙◌, subst, arith, inl, inr}
use Rattle.std.specs.Prelude.{if◌then◌else◌, drop}
use Rattle.gier_symbol.specs.declared.symbol.Symbol.{Symbol}
use Rattle.gier_symbol.specs.Texts.{order_base}
use Rattle.gier_order.specs.declared.operation.Operation.{Operation}
use Rattle.gier_order.specs.declared.operation.Operation.TheVariants.{Stop as OStop}
use Rattle.gier_tree.specs.Coded.{scopes_of}
use Rattle.gier_tree.specs.Entries.{program_entries, entries_numbers}
use Rattle.gier_tree.specs.Lines.{group_begin}
use Rattle.gier_tree.specs.Need.{need_group}
use Rattle.gier_tree.specs.Object.{piece_of, words_of, need_at, need_behind}
use Rattle.gier_tree.specs.Orders.{State, Following, number_of, order, needs, behind_word}
use Rattle.gier_tree.specs.Places.{program_places}
use Rattle.gier_tree.specs.Room.{block_header}
use Rattle.gier_tree.specs.Text7.{labels_code, code_group, code_program, object_words}
use Rattle.gier_tree.specs.Texts.{Where}
use Rattle.gier_tree.specs.Trees.{LabelPlace, Group, MkProgram}
use Rattle.gier_tree.specs.Words.{HasStop}
use Rattle.gier_complete.specs.Whole.{stops_at, stops_in, closes_at, AreClosed, counted_at, IsCounted, program_need, AreWhole}
use Rattle.gier_complete.proofs.ConstructsCarry.{also_so, labels_so}
use Rattle.gier_complete.proofs.OrderPieces.{piece_is, is_another}
use Rattle.gier_complete.proofs.Passing.{IsNoStop, Ahead, Labels, Claim, IsCarried, more, none, joined}
use Rattle.gier_complete.proofs.PlacedLabels.{placed_labels, placed_group}
use Rattle.gier_complete.proofs.StatementsCarry.{group_so}

-- the words before may be counted in another way
counted_so : (a b : ℕ) (rest : List Symbol) → a ≡ b → IsCounted a rest → IsCounted b rest
counted_so a b rest e h = subst (λ n. IsCounted n rest) e h

abbrev stop_claim : Claim
stop_claim n st rest = HasStop rest

stop_carried : IsCarried stop_claim
stop_carried = record {
  an_order = λ o other value line n st rest h. inr h;
  a_use = λ value line n st rest h. inr h;
  a_word_use = λ value line n st rest h. inr h;
  a_word = λ value line n st rest h. inr h;
  a_room = λ value line n st rest h. inr h;
  a_place = λ value line n st rest h. inr h;
  a_need = λ value line n st rest h. inr h;
  a_new = λ n st rest h. h;
  same = λ n m rooms places st rest h. h;
}

abbrev once_claim : Claim
once_claim n st rest = stops_in rest ≡ 1

no_stop : (o : Operation) → IsNoStop o → (value line later : ℕ) → stops_at (piece_of (record { tag = order_base + number_of o; value = value; line = line })) later ≡ later
no_stop o other value line later = ap (λ p. stops_at p later) (piece_is o value line) ∙ ap (λ b. if b then suc later else later) (is_another o other)

once_carried : IsCarried once_claim
once_carried = record {
  an_order = λ o other value line n st rest h. no_stop o other value line (stops_in rest) ∙ h;
  a_use = λ value line n st rest h. h;
  a_word_use = λ value line n st rest h. h;
  a_word = λ value line n st rest h. h;
  a_room = λ value line n st rest h. h;
  a_place = λ value line n st rest h. h;
  a_need = λ value line n st rest h. h;
  a_new = λ n st rest h. h;
  same = λ n m rooms places st rest h. h;
}

abbrev closed_claim : Claim
closed_claim n st rest = AreClosed n.rooms rest

closed_carried : IsCarried closed_claim
closed_carried = record {
  an_order = λ o other value line n st rest h. subst (λ p. closes_at p n.rooms (λ k. AreClosed k rest)) (sym (piece_is o value line)) h;
  a_use = λ value line n st rest h. h;
  a_word_use = λ value line n st rest h. h;
  a_word = λ value line n st rest h. h;
  a_room = λ value line n st rest h. h;
  a_place = λ value line n st rest h. h;
  a_need = λ value line n st rest h. h;
  a_new = λ n st rest h. h;
  same = λ n m rooms places st rest h. subst (λ r. AreClosed r rest) rooms h;
}

abbrev need_claim : (need : ℕ) → Claim
need_claim need n st rest = need_behind rest n.rooms ≡ need

need_carried : (need : ℕ) → IsCarried (need_claim need)
need_carried need = record {
  an_order = λ o other value line n st rest h. ap (λ p. need_at p n.rooms (need_behind rest)) (piece_is o value line) ∙ h;
  a_use = λ value line n st rest h. h;
  a_word_use = λ value line n st rest h. h;
  a_word = λ value line n st rest h. h;
  a_room = λ value line n st rest h. h;
  a_place = λ value line n st rest h. h;
  a_need = λ value line n st rest h. h;
  a_new = λ n st rest h. h;
  same = λ n m rooms places st rest h. subst (λ r. need_behind rest r ≡ need) rooms h;
}

abbrev count_claim : Claim
count_claim n st rest = IsCounted st.words rest

one_more : (n : ℕ) (rest : List Symbol) → IsCounted (suc n) rest → IsCounted (1 + n) rest
one_more n rest h = counted_so (suc n) (1 + n) rest (omega arith) h

no_more : (n : ℕ) (rest : List Symbol) → IsCounted n rest → IsCounted (0 + n) rest
no_more n rest h = counted_so n (0 + n) rest (omega arith) h

count_carried : IsCarried count_claim
count_carried = record {
  an_order = λ o other value line n st rest h. subst (λ p. counted_at p value st.words rest (IsCounted (words_of p + st.words) rest)) (sym (piece_is o value line)) (one_more st.words rest h);
  a_use = λ value line n st rest h. one_more st.words rest h;
  a_word_use = λ value line n st rest h. one_more st.words rest h;
  a_word = λ value line n st rest h. one_more st.words rest h;
  a_room = λ value line n st rest h. one_more st.words rest h;
  a_place = λ value line n st rest h. no_more st.words rest h;
  a_need = λ value line n st rest h. no_more st.words rest h;
  a_new = λ n st rest h. h;
  same = λ n m rooms places st rest h. h;
}

-- what stands behind the program's statements
abbrev pub ending : List LabelPlace → Group → (line : ℕ) → Following
ending ls g l s = order OStop 0 0 (group_begin g) s (λ s2. needs (need_group (scopes_of (program_places (MkProgram ls g l))) g) s2 object_words)

-- the labels, switches and procedures that a program declares
abbrev pub placed_program : List LabelPlace → Group → (line : ℕ) → Labels
placed_program ls g l =
    let t = MkProgram ls g l in
    joined (placed_labels (program_places t) ls)
    (placed_group (program_places t) (record { level = 1; numbers = entries_numbers (program_entries t); owns = 0 }) g)

abbrev ahead : (rooms : ℕ) → Ahead
ahead rooms = record { rooms = rooms; places = none }

pub program_carries : (P : Claim) → IsCarried P → (ls : List LabelPlace) (g : Group) (l : ℕ) (n : Ahead) → ((s : State) → P n s (ending ls g l s)) → P (more n (placed_program ls g l)) (behind_word (record { labels = 0; line = group_begin g; words = 0 }) (group_begin g)) (drop 1 (code_program (MkProgram ls g l)))
program_carries P h ls g l n k =
    let p = program_places (MkProgram ls g l) in
    let at : Where = record { level = 1; numbers = entries_numbers (program_entries (MkProgram ls g l)); owns = 0 } in
    also_so P h (placed_labels p ls) (placed_group p at g) (labels_code p ls) (code_group p at g) (labels_so P h p ls) (group_so P h p at g) 1 block_header n (ending ls g l) k _

pub are_whole : AreWhole
are_whole (MkProgram ls g l) = record {
  stop = inr (program_carries stop_claim stop_carried ls g l (ahead 1) (λ s. inl (refl, refl)));
  once = program_carries once_claim once_carried ls g l (ahead 1) (λ s. refl);
  closed = program_carries closed_claim closed_carried ls g l (ahead 1) (λ s. refl);
  need = program_carries (need_claim (program_need (MkProgram ls g l))) (need_carried (program_need (MkProgram ls g l))) ls g l (ahead 0) (λ s. refl);
  counted = one_more 0 (drop 1 (code_program (MkProgram ls g l))) (program_carries count_claim count_carried ls g l (ahead 1) (λ s. (refl, omega arith)));
}
