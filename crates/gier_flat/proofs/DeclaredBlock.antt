-- A block of this part runs as it means: what it is entered with follows from its declarations, and from its statements' run.
use Rattle.std.proofs.Common.{◌≡◌, ℕ, suc, ◌+◌, ◌*◌, ◌<◌, ◌≤◌, true, List, [], ◌∷◌, ◌++◌, length, refl, sym, ap, ◌∙◌, subst, arith}
use Rattle.std.specs.Prelude.{◌^◌, max}
use Rattle.gier_symbol.specs.declared.tag.Tag.TheVariants.{OpenRoom}
use Rattle.gier_symbol.specs.ByTag.{sym as tagged}
use Rattle.gier_order.specs.declared.operation.Operation.TheVariants as op
use Rattle.gier_tree.specs.Coded.{scopes_of}
use Rattle.gier_tree.specs.Entries.{Entry, label_entries, block_entries}
use Rattle.gier_tree.specs.Need.{need_block, need_statements}
use Rattle.gier_tree.specs.Object.{need_at, need_behind}
use Rattle.gier_tree.specs.Orders as code
use Rattle.gier_tree.specs.Orders.{Following, number_of, behind_word}
use Rattle.gier_tree.specs.Places.{Places, place_all, block_places}
use Rattle.gier_tree.specs.Room.{block_words}
use Rattle.gier_tree.specs.Text7.{code_declaration, code_declarations, code_statements}
use Rattle.gier_tree.specs.Texts.{Where, inner, behind_declaration, behind_declarations}
use Rattle.gier_tree.specs.Trees as tree
use Rattle.gier_tree.specs.Trees.{LabelPlace, Group, MkBlock, MkCompound, MoreStatements}
use Rattle.gier_meaning.specs.Accounts.{with_left, with_most, enter}
use Rattle.gier_meaning.specs.Live.{Live, live_words, InBlock}
use Rattle.gier_meaning.specs.Outcome.{Outcome, Finished, is_among, then_do, caught}
use Rattle.gier_meaning.specs.Plain.{declaration, declarations, statements}
use Rattle.gier_meaning.specs.Room.{block_room}
use Rattle.gier_meaning.specs.Scopes.{Declared, declared_names, of_block, all_labels, quantities}
use Rattle.gier_meaning.specs.State.{State, given_out}
use Rattle.gier_meaning.specs.Tree as plain_tree
use Rattle.gier_meaning.specs.TurnLabels.{entities_from, labels_made}
use Rattle.gier_env.specs.Blocks.{made, activated_block}
use Rattle.gier_env.specs.Closures.{Closure, what_of}
use Rattle.gier_env.specs.Env.{Env, Inside, NoBindings, found, with_entities}
use Rattle.gier_env.specs.Meaning.{within}
use Rattle.gier_env.specs.Statements.{have, run_all}
use Rattle.gier_env.specs.Tasks.{Next}
use Rattle.gier_complete.proofs.Passing.{IsCarried, none}
use Rattle.gier_complete.proofs.OrderPieces.{piece_is}
use Rattle.gier_complete.proofs.StatementsCarry.{group_so}
use Rattle.gier_fair.specs.InScope.{AreDistinct, identifiers as entry_identifiers}
use Rattle.gier_flat.specs.FairScope.{FairScope}
use Rattle.gier_flat.proofs.Positions.{At}
use Rattle.gier_flat.proofs.OrderRows.{Machine}
use Rattle.gier_flat.proofs.Setting.{Setting}
use Rattle.gier_flat.proofs.StackRelation.{Known, RunInvariant, RefinesOutcome, Behind}
use Rattle.gier_flat.proofs.Assignments.{NothingShown}
use Rattle.gier_flat.proofs.NewActivation.{NewActivation}
use Rattle.gier_flat.proofs.BlockEntry.{body_at}
use Rattle.gier_flat.proofs.Blocks.{block_runs}
use Rattle.gier_flat.proofs.BlockRuns.{AreWithin, ScopeRuns, BlockRuns}
use Rattle.gier_flat.proofs.BlockRooms.{rooms_agree}
use Rattle.gier_flat.proofs.BlockEntries.{variables, block_labels, variable_entries, entries_are, entries_named, names_are, labels_are, block_is, made_is, nothing_taken, words_are, need_is, one_code, all_code}
use Rattle.gier_flat.proofs.BlockActivation as activation
use Rattle.gier_flat.proofs.BlockActivation.{quantities_count}
use Rattle.gier_flat.proofs.BlockNumbers.{Numbered, numbered, good, entries_within, among_from}
use Rattle.gier_flat.proofs.DeclaredEntities.{Variable, numbers_of, Mean, mean, mean_both, mean_at, put_all, put_same}
use Rattle.gier_flat.proofs.LabelPlaces.{IsPlaced, ArePlaced, placed_statements, have_label}
use Rattle.gier_flat.proofs.Labels.{identifiers, among_entities, labels_same}

-- behind a block's order stands its need
need_carried : (need : ℕ) → IsCarried (λ n st rest. need_behind rest n.rooms ≡ need)
need_carried need = record {
  an_order = λ o other value line n st rest h. ap (λ p. need_at p n.rooms (need_behind rest)) (piece_is o value line) ∙ h;
  a_use = λ value line n st rest h. h;
  a_word_use = λ value line n st rest h. h;
  a_word = λ value line n st rest h. h;
  a_room = λ value line n st rest h. h;
  a_place = λ value line n st rest h. h;
  a_need = λ value line n st rest h. h;
  a_new = λ n st rest h. h;
  same = λ n m rooms places st rest h. subst (λ r. need_behind rest r ≡ need) rooms h;
}

module _ (setting : Setting) (p : Places) (at : Where) (l : ℕ) (d : tree.Declaration) (mark : ℕ) (ds : tree.Declarations) (b : tree.Statement) (bs : tree.Statements) (end : ℕ) (f : FairScope p at d ds b bs) (low : AreWithin p at.level) where
  abbrev level : ℕ
  level = suc at.level

  abbrev pub q : Places
  q = block_places level at.numbers d ds b bs p

  abbrev pub inside : Where
  inside = behind_declarations (behind_declaration (inner at (block_entries d ds b bs)) d) ds

  abbrev body : tree.Statements
  body = MoreStatements mark b bs

  abbrev vs : List Variable
  vs = variables d ds

  abbrev ls : List LabelPlace
  ls = block_labels b bs

  abbrev ys : List ℕ
  ys = identifiers ls

  abbrev xs : List ℕ
  xs = numbers_of vs ++ ys

  abbrev es : List Entry
  es = variable_entries vs ++ label_entries ls

  abbrev words : ℕ
  words = block_words d ds

  abbrev need : ℕ
  need = need_statements (scopes_of q) body

  entries : block_entries d ds b bs ≡ es
  entries = entries_are d ds f.first f.others b bs

  q_is : q ≡ place_all level 3 at.numbers es p
  q_is = ap (λ es. place_all level 3 at.numbers es p) entries

  distinct : AreDistinct xs
  distinct = subst AreDistinct (ap entry_identifiers entries ∙ entries_named vs ls) f.distinct

  need_same : need_block (scopes_of q) d ds b bs ≡ need
  need_same = need_is d ds f.first f.others (scopes_of q) mark b bs

  pub places_within : AreWithin q level
  places_within =
      subst (λ q. AreWithin q level) (sym q_is)
      (entries_within vs ls level 3 at.numbers p (λ x. let h = low x in (omega (arith, h.0), h.1)))

  -- ---- its code

  abbrev leaving : (need : ℕ) → Following → Following
  leaving need go s2 = code.order op.Leave 0 0 l s2 (λ s3. code.needs need s3 go)

  abbrev behind : Following → Following
  behind go s1 = code_statements q inside body level words s1 (leaving need go)

  inside_is : (st : code.State) (go : Following)
      → code_declaration q (inner at (block_entries d ds b bs)) d level words st (λ s1. code_declarations q (behind_declaration (inner at (block_entries d ds b bs)) d) ds level words s1
      (λ s2. code_statements q inside body level words s2 (leaving (need_block (scopes_of q) d ds b bs) go)))
      ≡ behind go st
  inside_is st go =
      let rest : Following = λ s2. code_statements q inside body level words s2 (leaving (need_block (scopes_of q) d ds b bs) go) in
      one_code q level words st (inner at (block_entries d ds b bs)) d f.first (λ s1. code_declarations q (behind_declaration (inner at (block_entries d ds b bs)) d) ds level words s1 rest)
      ∙ all_code q level words st (behind_declaration (inner at (block_entries d ds b bs)) d) ds f.others rest
      ∙ ap (λ k. code_statements q inside body level words st (leaving k go)) need_same

  need_there : (st : code.State) (go : Following) → need_behind (behind go st) 0 ≡ need
  need_there st go =
      group_so (λ n st rest. need_behind rest n.rooms ≡ need) (need_carried need) q inside (MkCompound 0 b bs 0) level words (record { rooms = 0; places = none }) (leaving need go) (λ s. refl) st

  -- ---- what it declares

  abbrev names : plain_tree.Declarations
  names = declaration d (declarations ds)

  module _ (limit : ℕ) (next : Next) (env : Env) (live : Live) (s : State Closure) where
    abbrev first : ℕ
    first = s.fresh + length (quantities (numbers_of vs))

    abbrev own : List ℕ
    own = entities_from first ys

    abbrev env1 : Env
    env1 = Inside (with_entities s.fresh (quantities xs) NoBindings) env

    abbrev entered_with : List Declared → List ℕ → List Declared → Outcome Closure Finished
    entered_with some those all =
        activated_block limit next names (statements body) (entities_from (s.fresh + length some) those) (Inside (with_entities s.fresh all NoBindings) env) live
        (given_out (length all) (labels_made (entities_from (s.fresh + length some) those) s))

    entered_is : entered_with (declared_names names) (all_labels (statements body)) (of_block names (statements body))
        ≡ caught own (λ label s2. next.rest label own (statements body) env1 live s2) (run_all limit next (statements body) env1 live (put_all env1 vs (given_out (length (quantities xs)) (labels_made own s))))
    entered_is =
        ap (λ some. entered_with some (all_labels (statements body)) (of_block names (statements body))) (names_are d ds f.first f.others)
        ∙ ap (λ those. entered_with (quantities (numbers_of vs)) those (of_block names (statements body))) (labels_are d ds f.first f.others mark b bs)
        ∙ ap (λ all. entered_with (quantities (numbers_of vs)) ys all) (block_is d ds f.first f.others mark b bs)
        ∙ ap (λ r. then_do r (λ live1 s1. caught own (λ label s2. next.rest label own (statements body) env1 live1 s2) (run_all limit next (statements body) env1 live1 s1)))
        (nothing_taken d ds f.first f.others limit next env1 live (made env1 names (given_out (length (quantities xs)) (labels_made own s))))
        ∙ ap (λ s1. caught own (λ label s2. next.rest label own (statements body) env1 live s2) (run_all limit next (statements body) env1 live s1))
        (made_is d ds f.first f.others env1 (given_out (length (quantities xs)) (labels_made own s)))

  -- ---- its run

  module _ (env : Env) (lives : Live) (K : Known) (w need0 : ℕ) (m : Machine) (s : State Closure) (st : code.State) (go : Following) (h : RunInvariant setting.text setting.size K w need0 env p m s lives)
      (stands : At setting.text st (code.room_order op.Block level words l st (behind go))) (here : m.regs.place ≡ st.words) where
    below : level < 256
    below = let e = f.level in omega (arith, e)

    header : 3 ≤ words
    header = let e = words_are d ds f.first f.others in omega (arith, e)

    room_low : words + need < 2 ^ 24
    room_low = subst (λ k. words + k < 2 ^ 24) need_same f.room

    placed : ArePlaced setting q ls
    placed =
        placed_statements setting q inside body [] tt level words (behind_word st l) (leaving need go)
        (body_at setting K w need0 env p m s lives h level words need l st (behind go) below header room_low stands (need_there (behind_word st l) go) here) (omega arith)

    label_good : (i : ℕ) → i < length ys → IsPlaced setting (at.numbers + i)
    label_good i lt =
        good setting q ls at.numbers i (at.numbers + i)
        (subst (λ q. Numbered q at.numbers ls) (sym q_is) (numbered vs ls level 3 at.numbers at.numbers p refl distinct)) placed lt refl

    abbrev own_labels : List ℕ
    own_labels = own setting.size (within setting.size 0) env lives s

    abbrev state : ℕ → State Closure
    state left = activation.s1 setting K w need0 env p m s lives h level at.numbers vs ls left words need

    abbrev inner_env : Env
    inner_env = activation.env1 setting K w need0 env p m s lives h level at.numbers vs ls 0 words need

    abbrev NewCell : ℕ → ℕ → Type 0
    NewCell = activation.NewCell setting K w need0 env p m s lives h level at.numbers vs ls 0 words need

    abbrev NewLabel : ℕ → ℕ → Type 0
    NewLabel = activation.NewLabel setting K w need0 env p m s lives h level at.numbers vs ls 0 words need

    labels_mean : Mean (found inner_env) (s.fresh + length (quantities (numbers_of vs))) ys
    labels_mean =
        let c = quantities_count (numbers_of vs) in
        let e : s.fresh + length (numbers_of vs) ≡ s.fresh + length (quantities (numbers_of vs)) = omega (arith, c) in
        subst (λ k. Mean (found inner_env) k ys) e (mean_both (found inner_env) s.fresh (numbers_of vs) ys (mean s.fresh xs (found env) distinct)).1

    its : (e a : ℕ) → NewLabel e a → (is_among e own_labels ≡ true) × (have e inner_env (statements body) ≡ true)
    its e a i =
        let r = mean_at (found inner_env) (s.fresh + length (quantities (numbers_of vs))) ys i.0 e labels_mean i.1 i.2 in (
          among_entities (s.fresh + length (quantities (numbers_of vs))) ys i.0 e i.1 i.2,
          have_label inner_env r.0 e r.2 (statements body) (ap (is_among r.0) (labels_are d ds f.first f.others mark b bs) ∙ r.1),
        )

    ours : (e : ℕ) → is_among e own_labels ≡ true → K.fresh ≤ e
    ours e is = let a = among_from (s.fresh + length (quantities (numbers_of vs))) ys e is in let b = h.fresh in omega (arith, a, b)

    given : (left : ℕ) → s.fresh ≤ (state left).fresh
    given left =
        let before : State Closure = with_left left (with_most (max s.most (live_words lives + (words + need))) s) in
        let a = (put_same inner_env vs (given_out (length (quantities xs)) (labels_made own_labels before))).fresh in
        let c = (labels_same own_labels before).fresh in
        omega (arith, a, c)

    new : (left : ℕ) → s.left ≡ suc left → m.regs.top + (words + need) ≤ setting.size
        → NewActivation setting.text setting.size K m (activation.m1 setting K w need0 env p m s lives h level at.numbers vs ls left words need) s (state left) inner_env q m.regs.top NewCell NewLabel m.regs.base level m.regs.base words need (words + need) (record { shape = InBlock; words = words + need } ∷ lives)
    new left e fit =
        subst (λ q. NewActivation setting.text setting.size K m (activation.m1 setting K w need0 env p m s lives h level at.numbers vs ls left words need) s (state left) inner_env q m.regs.top NewCell NewLabel m.regs.base level m.regs.base words need (words + need) (record { shape = InBlock; words = words + need } ∷ lives)) (sym q_is)
        (activation.is_new setting K w need0 env p m s lives h level at.numbers vs ls left words need (omega arith) below (words_are d ds f.first f.others) room_low distinct (λ x. let a = (low x).0 in omega (arith, a)) label_good fit e (entries_named vs ls))

    runs : (steps : ℕ) → ((k : ℕ) → k < steps → ScopeRuns setting k q inside body level) → s.left ≤ steps
        → RefinesOutcome setting.text setting.size Finished K K.label m s (Behind setting.text setting.size go) m.regs.base m.regs.top (NothingShown setting K) (enter setting.size InBlock (words + need) l lives s (λ live s2. (within setting.size steps).block names (statements body) env live s2))
    runs steps deeper le =
        block_runs setting K w need0 env p m s lives h level words l st go q inside body below header room_low stands (need_there (behind_word st l) go) here names own_labels inner_env state NewCell NewLabel given
        (λ k left. entered_is setting.size (within setting.size k) env (record { shape = InBlock; words = words + need } ∷ lives) (with_left left (with_most (max s.most (live_words lives + (words + need))) s)))
        new its ours steps deeper le

    room_is : words + need ≡ block_room (what_of env s) names (statements body)
    room_is = ap (λ k. words + k) (sym need_same) ∙ rooms_agree setting K w need0 env p m s lives h at.level at.numbers low d ds b bs

    pub runs_as_meant : (steps : ℕ) → ((k : ℕ) → k < steps → ScopeRuns setting k q inside body level) → s.left ≤ steps
        → RefinesOutcome setting.text setting.size Finished K K.label m s (Behind setting.text setting.size go) m.regs.base m.regs.top (NothingShown setting K) (enter setting.size InBlock (block_room (what_of env s) names (statements body)) l lives s (λ live s2. (within setting.size steps).block names (statements body) env live s2))
    runs_as_meant steps deeper le =
        subst (λ room. RefinesOutcome setting.text setting.size Finished K K.label m s (Behind setting.text setting.size go) m.regs.base m.regs.top (NothingShown setting K) (enter setting.size InBlock room l lives s (λ live s2. (within setting.size steps).block names (statements body) env live s2))) room_is
        (runs steps deeper le)

  pub block_follows : (steps any_level : ℕ) → ((k : ℕ) → k < steps → ScopeRuns setting k q inside body level) → BlockRuns setting steps p at (MkBlock l d mark ds b bs end) any_level
  block_follows steps any_level deeper env lives K w need0 m s st go le h stands here =
      runs_as_meant env lives K w need0 m s st go h
      (subst (λ rest. At setting.text st (tagged OpenRoom (number_of op.Block * 2 ^ 32 + level * 2 ^ 24 + words) l ∷ rest)) (inside_is (behind_word st l) go) stands) here
      steps deeper le
