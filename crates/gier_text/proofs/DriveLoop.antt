-- What a run of a pass keeps from turn to turn.
use Rattle.std.proofs.Common.{◌≡◌, ◌≤◌, ◌<◌, ◌+◌, ◌*◌, ◌-◌, ◌^◌, min, ◌⊎◌, ℕ, List, [], ◌∷◌, ◌++◌, Option, None, Some, true, false, refl, sym, ap, ◌∙◌, arith, inl, inr, length, length-append, append_assoc, subst, get_or, All, Result, Ok, Err, OnOk}
use Rattle.std.proofs.lemmas.List.{append-nil, get_or_at}
use Rattle.gier_symbol.specs.Symbols.{code_of}
use Rattle.gier_drum.specs.declared.drum.Entry.{Entry}
pub use Rattle.gier_word.proofs.Cause.{risen_from}
use Rattle.gier_symbol.specs.declared.symbol.Symbol.{Symbol}
use Rattle.gier_text.specs.Log.{Logged, LogsAll}
use Rattle.gier_word.specs.declared.refusal.Odd.{Odd}
use Rattle.gier_text.specs.declared.pass.PassStop.{PassStop}
use Rattle.gier_text.specs.declared.pass.PassStop.TheVariants.{Drum, Memory, Full, Spoilt}
use Rattle.gier_text.specs.Passes.{Mixed, HasLess, SpoiltIf}
use Rattle.gier_text.specs.Drive.{LogsBoth, at_symbol, place_of, NamesLast, SpoiltAs}
use Rattle.gier_text.specs.View.{View, WritesAll, ReadsAll, Appends, LeftFrom, IsLeft, IsLeftIn, Apart, IsPlacedAs, KeepsTracks, KeepsOthers}

pub record Driven {T S : Type 0} (view : T → S → View) (first end : T → ℕ) (room : S → ℕ) (tracks : S → Option (List (List ℕ))) (journal : S → Option (List Entry)) (faults : S → ℕ) (stands : List Symbol → List Symbol → Type 0) (expected expects : List Symbol → Type 0) (most_before most_now limit_before limit_now : ℕ) (input_old output_old : T) (store_old : S) (input output : T) (store : S) (place : ℕ) (last : Odd) : Type 0 where
  pub read : List Symbol
  pub written : List Symbol
  pub reads : ReadsAll (view input_old store_old) read (view input store)
  pub writes : WritesAll (view output_old store_old) written (view output store)
  pub so_far : stands read written
  pub place_is : place ≡ place_of (length read)
  pub named : NamesLast read last
  pub counted : (view output store).count ≡ length written
  pub reading : (view input store).rewound ≡ true
  pub writing : (view output store).rewound ≡ false
  pub input_placed : end input ≤ room store
  pub output_placed : end output ≤ room store
  pub are_apart : Apart (first input) (end input) (first output) (end output)
  pub input_place : IsPlacedAs first end input_old input
  pub output_place : IsPlacedAs first end output_old output
  pub same_room : room store ≡ room store_old
  pub same_tracks : KeepsTracks (first output_old) (end output_old) (tracks store_old) (tracks store)
  pub same_others : KeepsOthers view first end output_old store_old store
  pub later : faults store_old ≤ faults store
  pub still_most : most_now ≡ most_before
  pub same_limit : limit_now ≡ limit_before
  pub still_expects : (list : List Symbol) → expected list → expects list
  pub logged : LogsBoth (view input_old store_old) (view input store) (view output_old store_old) (view output store) (journal store_old) (journal store)

left_more : (first : Option (List Symbol)) (read more : List Symbol) (mid new : Option (List Symbol)) → LeftFrom first read mid → LeftFrom mid more new → LeftFrom first (read ++ more) new
left_more None read more mid new h k = tt
left_more (Some left) read more mid new h k =
    let k' = subst (λ m. LeftFrom m more new) h.2 k in
    (k'.0, h.1 ∙ ap (λ (l : List Symbol). read ++ l) k'.1 ∙ sym (append_assoc read more k'.0), k'.2)

pub reads_more : (first : View) (read more : List Symbol) (mid new : View) → ReadsAll first read mid → ReadsAll mid more new → ReadsAll first (read ++ more) new
reads_more first read more mid new h k = record {
  left = left_more first.left read more mid.left new.left h.left k.left;
  unread = omega (arith, h.unread, k.unread, length-append read more);
  count = k.count ∙ h.count;
  rewound = k.rewound ∙ h.rewound;
  way = k.way ∙ h.way;
}

reads_start : (left : Option (List Symbol)) → LeftFrom left [] left
reads_start None = tt
reads_start (Some left) = (left, refl, refl)

pub reads_none : (v : View) → ReadsAll v [] v
reads_none v = record { left = reads_start v.left; unread = omega arith; count = refl; rewound = refl; way = refl }

held_more : (first : Option (List Symbol)) (ws more : List Symbol) (mid new : Option (List Symbol)) → Appends first ws mid → Appends mid more new → Appends first (ws ++ more) new
held_more None ws more mid new h k = tt
held_more (Some held) ws more mid new h k = subst (λ m. Appends m more new) h k ∙ ap Some (append_assoc held ws more)

-- two runs of writes are one
pub writes_more : (first : View) (ws more : List Symbol) (mid new : View) → WritesAll first ws mid → WritesAll mid more new → WritesAll first (ws ++ more) new
writes_more first ws more mid new h k = record {
  held = held_more first.held ws more mid.held new.held h.held k.held;
  count = omega (arith, h.count, k.count, length-append ws more);
  capacity = k.capacity ∙ h.capacity;
  rewound = k.rewound ∙ h.rewound;
}

held_same : (held : Option (List Symbol)) → Appends held [] held
held_same None = tt
held_same (Some held) = ap Some (sym (append-nil held))

-- no write at all
pub writes_none : (v : View) → WritesAll v [] v
writes_none v = record { held = held_same v.held; count = omega arith; capacity = refl; rewound = refl }

left_ends : (first : Option (List Symbol)) (read : List Symbol) (mid : Option (List Symbol)) → LeftFrom first read mid → IsLeftIn mid [] → IsLeftIn first read
left_ends None read mid h k = tt
left_ends (Some left) read mid h k =
    let none : h.0 ≡ [] = subst (λ m. IsLeftIn m []) h.2 k in
    h.1 ∙ ap (λ (l : List Symbol). read ++ l) none ∙ append-nil read

pub reads_end : (first : View) (read : List Symbol) (mid : View) → ReadsAll first read mid → IsLeft mid [] → IsLeft first read
reads_end first read mid h k = (left_ends first.left read mid.left h.left k.0, omega (arith, h.unread, k.1))

pub OnOk-map : {T E : Type 0} (r : Result T E) (P Q : Type 0) → (P → Q) → OnOk r P → OnOk r Q
OnOk-map (Ok x) P Q f h = f h
OnOk-map (Err e) P Q f h = tt

logs_all_more : (before mid after : Option (List Entry)) (es fs : List Entry) → LogsAll before es mid → LogsAll mid fs after → LogsAll before (es ++ fs) after
logs_all_more None mid after es fs h k = subst (λ m. LogsAll m fs after) h k
logs_all_more (Some old) mid after es fs h k = subst (λ m. LogsAll m fs after) h k ∙ ap Some (append_assoc old es fs)

-- two growths of a text's log are one
pub logged_more : (first mid new : View) (before between after : Option (List Entry)) → Logged first mid before between → Logged mid new between after → Logged first new before after
logged_more first mid new before between after h k = record {
  entries = h.entries ++ k.entries;
  log = k.log ∙ ap (λ (l : List Entry). l ++ k.entries) h.log ∙ append_assoc first.log h.entries k.entries;
  journal = logs_all_more before between after h.entries k.entries h.journal k.journal;
}

mixed_writes : (ws : List Entry) → Mixed [] ws ws
mixed_writes [] = (refl, refl)
mixed_writes (w ∷ ws) = inr (ws, refl, mixed_writes ws)

mixed_block : (rs ws : List Entry) → Mixed rs ws (rs ++ ws)
mixed_block [] ws = mixed_writes ws
mixed_block (r ∷ rs) ws = inl (rs, refl, mixed_block rs ws)

pub mixed_more : (reads writes entries rs ws : List Entry) → Mixed reads writes entries → Mixed (reads ++ rs) (writes ++ ws) (entries ++ (rs ++ ws))
mixed_more reads writes [] rs ws h = rw (h.0, h.1) (mixed_block rs ws)
mixed_more reads writes (e ∷ entries) rs ws (inl h) = rw h.1 (inl (h.0 ++ rs, refl, mixed_more h.0 writes entries rs ws h.2))
mixed_more reads writes (e ∷ entries) rs ws (inr h) = rw h.1 (inr (h.0 ++ ws, refl, mixed_more reads h.0 entries rs ws h.2))

logs_start : (journal : Option (List Entry)) → LogsAll journal [] journal
logs_start None = refl
logs_start (Some entries) = ap Some (sym (append-nil entries))

pub logs_both_none : (input output : View) (journal : Option (List Entry)) → LogsBoth input input output output journal journal
logs_both_none input output journal = record {
  reads = [];
  writes = [];
  entries = [];
  reading = sym (append-nil input.log);
  writing = sym (append-nil output.log);
  mixed = (refl, refl);
  journal = logs_start journal;
}

-- a read of the input, and then writes of the output
pub logs_both_more : (input input_mid input_new output output_mid output_new : View) (before mid between after : Option (List Entry)) → LogsBoth input input_mid output output_mid before mid → Logged input_mid input_new mid between → Logged output_mid output_new between after → LogsBoth input input_new output output_new before after
logs_both_more input input_mid input_new output output_mid output_new before mid between after h r w = record {
  reads = h.reads ++ r.entries;
  writes = h.writes ++ w.entries;
  entries = h.entries ++ (r.entries ++ w.entries);
  reading = r.log ∙ ap (λ (l : List Entry). l ++ r.entries) h.reading ∙ append_assoc input.log h.reads r.entries;
  writing = w.log ∙ ap (λ (l : List Entry). l ++ w.entries) h.writing ∙ append_assoc output.log h.writes w.entries;
  mixed = mixed_more h.reads h.writes h.entries r.entries w.entries h.mixed;
  journal = logs_all_more before mid after h.entries (r.entries ++ w.entries) h.journal (logs_all_more mid between after r.entries w.entries r.journal w.journal);
}

-- nothing is done to a text
pub logged_none : (v : View) (journal : Option (List Entry)) → Logged v v journal journal
logged_none v journal = record { entries = []; log = sym (append-nil v.log); journal = logs_start journal }

-- a read of the input alone
pub logs_both_read : (input input_mid input_new output output_mid output_new : View) (before mid after : Option (List Entry)) → LogsBoth input input_mid output output_mid before mid → Logged input_mid input_new mid after → output_new ≡ output_mid → LogsBoth input input_new output output_new before after
logs_both_read input input_mid input_new output output_mid output_new before mid after h r same = rw same (logs_both_more input input_mid input_new output output_mid output_mid before mid after after h r (logged_none output_mid after))

pub apart_as : (a b c d a2 b2 c2 d2 : ℕ) → Apart a b c d → a2 ≡ a → b2 ≡ b → c2 ≡ c → d2 ≡ d → Apart a2 b2 c2 d2
apart_as a b c d a2 b2 c2 d2 (inl h) p q r s = inl (omega arith)
apart_as a b c d a2 b2 c2 d2 (inr h) p q r s = inr (omega arith)

pub apart_back : (a b c d : ℕ) → Apart a b c d → Apart c d a b
apart_back a b c d (inl h) = inr h
apart_back a b c d (inr h) = inl h

out_as : (t first end first2 end2 : ℕ) → (t < first) ⊎ (end ≤ t) → first2 ≡ first → end2 ≡ end → (t < first2) ⊎ (end2 ≤ t)
out_as t first end first2 end2 (inl h) p q = inl (omega arith)
out_as t first end first2 end2 (inr h) p q = inr (omega arith)

pub tracks_more : (first end first2 end2 : ℕ) (old mid new : Option (List (List ℕ))) → KeepsTracks first end old mid → first2 ≡ first → end2 ≡ end → KeepsTracks first2 end2 mid new → KeepsTracks first end old new
tracks_more first end first2 end2 old mid new h p q k = record {
  told = k.told ∙ h.told;
  others = λ t out. k.others t (out_as t first end first2 end2 out p q) ∙ h.others t out;
}

pub tracks_none : (first end : ℕ) (tracks : Option (List (List ℕ))) → KeepsTracks first end tracks tracks
tracks_none first end tracks = record { told = refl; others = λ t out. refl }

-- what is left of a told list behind what was read
pub left_told : (first : Option (List Symbol)) (all read : List Symbol) (now : Option (List Symbol)) → LeftFrom first read now → first ≡ Some all → (rest : List Symbol) × (all ≡ read ++ rest) × (now ≡ Some rest)
left_told first all read now h is = let told = subst (λ (m : Option (List Symbol)). LeftFrom m read now) is h in told

-- an element of a list of which each has a property
pub element_has : (P : Symbol → Type 0) (all read rest : List Symbol) (s : Symbol) → all ≡ (read ++ s ∷ []) ++ rest → All P all → P s
element_has P all read rest s is each =
    let e : all ≡ read ++ s ∷ rest = is ∙ append_assoc read (s ∷ []) rest in
    let below : length read < length all = rw e (omega (arith, length-append read (s ∷ rest))) in
    let found : get_or all (length read) s ≡ s = rw e (get_or_at read s rest s (length read) refl) in
    subst P found (each (length read) s below)

-- the list that was told begins with what was read, and with the symbol that comes next
pub next_told : (first now : Option (List Symbol)) (all read : List Symbol) (s : Symbol) (new : Option (List Symbol)) → LeftFrom first read now → first ≡ Some all → LeftFrom now (s ∷ []) new → (rest : List Symbol) × (all ≡ (read ++ s ∷ []) ++ rest)
next_told first now all read s new h is k =
    let more = left_told first all read now h is in
    let last = left_told now more.0 (s ∷ []) new k more.2 in
    (last.0, more.1 ∙ ap (λ (l : List Symbol). read ++ l) last.1 ∙ sym (append_assoc read (s ∷ []) last.0))

pub less_as : (old now : View) (most most_now : ℕ) → HasLess now most_now → now.capacity ≡ old.capacity → most_now ≡ most → HasLess old most
less_as old now most most_now h same is = (h.0, sym same ∙ h.1, rw (← is) h.2)

-- a pass that stops over an expected list has a full output
pub take_spoilt : (stop : PassStop) (odd : Odd) (less : Type 0) → SpoiltIf {T = ℕ} (Err stop) ⊥ → (stop ≡ Full → less) → SpoiltIf {T = ℕ} (Err (at_symbol odd stop)) less
take_spoilt Drum odd less sound full = tt
take_spoilt Memory odd less sound full = tt
take_spoilt Full odd less sound full = full refl
take_spoilt (Spoilt other) odd less sound full = absurd sound

pub take_named : (stop : PassStop) (odd : Odd) (P : Odd → Type 0) → SpoiltIf {T = ℕ} (Err stop) ⊥ → P odd → SpoiltAs {T = ℕ} (Err (at_symbol odd stop)) P
take_named Drum odd P sound h = tt
take_named Memory odd P sound h = tt
take_named Full odd P sound h = h
take_named (Spoilt other) odd P sound h = absurd sound

-- a symbol behind others is named by its place and its first word
pub names_more : (read : List Symbol) (s : Symbol) (odd : Odd) → odd.place ≡ place_of (length read) → odd.word ≡ s.tag * 2 ^ 24 + s.line → NamesLast (read ++ s ∷ []) odd
names_more [] s odd place word = ([], s, refl, place, word)
names_more (x ∷ xs) s odd place word = (x ∷ xs, s, refl, place, word)

pub place_more : (read : List Symbol) (s : Symbol) (place next : ℕ) → place ≡ place_of (length read) → next ≡ min (place + 1) (2 ^ 64 - 1) → next ≡ place_of (length (read ++ s ∷ []))
place_more read s place next is more = omega (arith, is, more, length-append read (s ∷ []))

pub first_word : (words : List ℕ) (s : Symbol) → words ≡ code_of s → get_or words 0 0 ≡ s.tag * 2 ^ 24 + s.line
first_word words s is = rw is refl
