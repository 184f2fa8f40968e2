-- Reading the words from the left: what has been read so far is the settings of some words, and no other settings.
use Rattle.std.proofs.Common.{◌≡◌, ◌≢◌, ◌<◌, ◌≤◌, ◌+◌, ◌-◌, ◌⊎◌, ℕ, zero, suc, Bool, true, false, List, [], ◌∷◌, ◌++◌, Some, map, take, length, All, get_or, arith, refl, ap, sym, ◌∙◌, subst, inl, inr, eqb, ◌||◌, lit<, add-one, length-append}
use Rattle.std.proofs.lemmas.List.{length-take, length-map}
use Rattle.std.proofs.lemmas.Bool.Decides.{nat_tests}
use Rattle.std.proofs.Math.Seq.{take-suc}
use Rattle.std.proofs.lemmas.Map.Steps.{length-le_from_distinct_below}
use Rattle.std.specs.List.{AllZip, IsDistinct, AllByRecursion, list_any}
use Rattle.std.proofs.lemmas.List.Elements.{All-nil, All-tail, All-head, All-push, All-cons, All-take}
use Rattle.gier_job.specs.Words.{Makes, IsPermitted}
use Rattle.gier_job.specs.Command.{mode_word, MayStand, NotGiven, NoKeyTwice, IsCommand, IsFirstWrong, plain_command, with_settings}
use Rattle.gier_job.specs.declared.words.Key.{Key}
use Rattle.gier_job.specs.declared.words.Key.TheVariants.{Places, Steps, Stack, Report, Table, Sample, Best, Mortem}
use Rattle.gier_job.specs.declared.words.Setting.{Setting}
use Rattle.gier_job.specs.declared.command.Command.{Command}

-- these settings are what the words make, they may stand together, and the words make no others
pub record IsRead (check : Bool) (words : List (List ℕ)) (settings : List Setting) : Type 0 where
  pub made : AllZip Makes words settings
  pub only : (others : List Setting) → AllZip Makes words others → others ≡ settings
  pub allowed : All (λ s. MayStand check s.key) settings
  pub once : NoKeyTwice settings

pub nothing_read : (check : Bool) → IsRead check [] []
nothing_read check = record {
  made = tt;
  only = only_none;
  allowed = All-nil _;
  once = tt;
} where
  only_none : (others : List Setting) → AllZip Makes [] others → others ≡ []
  only_none [] h = refl
  only_none (s ∷ others) h = absurd h

pub permitted : (words : List (List ℕ)) (settings : List Setting) → AllZip Makes words settings → All (λ s. IsPermitted s.key s.value) settings
permitted [] [] h = All-nil _
permitted [] (s ∷ settings) h = absurd h
permitted (word ∷ words) [] h = absurd h
permitted (word ∷ words) (s ∷ settings) h = All-cons (λ (t : Setting). IsPermitted t.key t.value) s settings h.0.permitted (permitted words settings h.1)

zip_more : (words : List (List ℕ)) (settings : List Setting) (word : List ℕ) (s : Setting) → AllZip Makes words settings → Makes word s → AllZip Makes (words ++ word ∷ []) (settings ++ s ∷ [])
zip_more [] [] word s h makes = (makes, tt)
zip_more [] (t ∷ settings) word s h makes = absurd h
zip_more (w ∷ words) [] word s h makes = absurd h
zip_more (w ∷ words) (t ∷ settings) word s h makes = (h.0, zip_more words settings word s h.1 makes)

zip_length : (words : List (List ℕ)) (settings : List Setting) → AllZip Makes words settings → length words ≡ length settings
zip_length [] [] h = refl
zip_length [] (t ∷ settings) h = absurd h
zip_length (w ∷ words) [] h = absurd h
zip_length (w ∷ words) (t ∷ settings) h = ap suc (zip_length words settings h.1)

-- the last of some elements
all_last : {X : Type 0} (P : X → Type 0) (xs : List X) (x : X) → All P (xs ++ x ∷ []) → P x
all_last P [] x h = All-head P x [] h
all_last P (y ∷ xs) x h = all_last P xs x (All-tail P y (xs ++ x ∷ []) h)

pub once_more : (settings : List Setting) (s : Setting) → NoKeyTwice settings → NotGiven s.key settings → NoKeyTwice (settings ++ s ∷ [])
once_more [] s once free = (All-nil _, tt)
once_more (t ∷ settings) s once free =
    let other : s.key ≢ t.key = λ (e : s.key ≡ t.key). All-head (λ (r : Setting). r.key ≢ s.key) t settings free (sym e) in
    (All-push (λ (r : Setting). r.key ≢ t.key) settings s once.0 other, once_more settings s once.1 (All-tail (λ (r : Setting). r.key ≢ s.key) t settings free))

once_last : (settings : List Setting) (s : Setting) → NoKeyTwice (settings ++ s ∷ []) → NotGiven s.key settings
once_last [] s once = All-nil _
once_last (t ∷ settings) s once =
    let other : t.key ≢ s.key = λ (e : t.key ≡ s.key). all_last (λ (r : Setting). r.key ≢ t.key) settings s once.0 (sym e) in
    All-cons (λ (r : Setting). r.key ≢ s.key) t settings other (once_last settings s once.1)

-- settings of some words and one more are settings of those and one more
record Parts (words : List (List ℕ)) (word : List ℕ) (settings : List Setting) : Type 0 where
  front : List Setting
  last : Setting
  is : settings ≡ front ++ last ∷ []
  made : AllZip Makes words front
  makes : Makes word last

parts : (words : List (List ℕ)) (word : List ℕ) (settings : List Setting) → AllZip Makes (words ++ word ∷ []) settings → Parts words word settings
parts [] word [] h = absurd h
parts [] word (s ∷ []) h = record { front = []; last = s; is = refl; made = tt; makes = h.0 }
parts [] word (s ∷ t ∷ settings) h = absurd h.1
parts (w ∷ words) word [] h = absurd h
parts (w ∷ words) word (s ∷ settings) h =
    let rest : Parts words word settings = parts words word settings h.1 in
    record { front = s ∷ rest.front; last = rest.last; is = ap (λ (l : List Setting). s ∷ l) rest.is; made = (h.0, rest.made); makes = rest.makes }

pub read_more : (check : Bool) (words : List (List ℕ)) (settings : List Setting) (word : List ℕ) (s : Setting) → IsRead check words settings → Makes word s → ((t : Setting) → Makes word t → Some s ≡ Some t) → MayStand check s.key → NotGiven s.key settings → IsRead check (words ++ word ∷ []) (settings ++ s ∷ [])
read_more check words settings word s read makes same may free = record {
  made = zip_more words settings word s read.made makes;
  only = only_these;
  allowed = All-push (λ (t : Setting). MayStand check t.key) settings s read.allowed may;
  once = once_more settings s read.once free;
} where
  only_these : (others : List Setting) → AllZip Makes (words ++ word ∷ []) others → others ≡ settings ++ s ∷ []
  only_these others h =
      let p : Parts words word others = parts words word others h in
      let front : p.front ≡ settings = read.only p.front p.made in
      let last : Some s ≡ Some p.last = same p.last p.makes in
      let is : others ≡ p.front ++ p.last ∷ [] = p.is in
      cc

mode_injective : (a b : Bool) → mode_word a ≡ mode_word b → a ≡ b
mode_injective true true e = refl
mode_injective true false e = cc
mode_injective false true e = cc
mode_injective false false e = refl

command_of_read : (check : Bool) (words : List (List ℕ)) (settings : List Setting) → IsRead check words settings → IsCommand (mode_word check ∷ words) (with_settings (plain_command check) settings)
command_of_read check words settings read = record {
  checks = check;
  rest = words;
  settings = settings;
  first = refl;
  made = read.made;
  allowed = read.allowed;
  once = read.once;
  means = refl;
}

pub command_read : (check : Bool) (words : List (List ℕ)) (settings : List Setting) (all : List (List ℕ)) (command : Command) → IsRead check words settings → all ≡ mode_word check ∷ words → command ≡ with_settings (plain_command check) settings → IsCommand all command
command_read check words settings all command read is means = record {
  checks = check;
  rest = words;
  settings = settings;
  first = is;
  made = read.made;
  allowed = read.allowed;
  once = read.once;
  means = means;
}

-- no command begins with these words and the next one
no_command : (check : Bool) (words : List (List ℕ)) (word : List ℕ) (settings : List Setting) → IsRead check words settings → ((t : Setting) → Makes word t → MayStand check t.key → NotGiven t.key settings → ⊥) → (command : Command) → IsCommand (mode_word check ∷ (words ++ word ∷ [])) command → ⊥
no_command check words word settings read bad command is =
    let mode : check ≡ is.checks = let e : mode_word check ≡ mode_word is.checks = cc in mode_injective check is.checks e in
    let rest : words ++ word ∷ [] ≡ is.rest = cc in
    let made : AllZip Makes (words ++ word ∷ []) is.settings = subst (λ (l : List (List ℕ)). AllZip Makes l is.settings) (sym rest) is.made in
    let p : Parts words word is.settings = parts words word is.settings made in
    let front : p.front ≡ settings = read.only p.front p.made in
    let split : is.settings ≡ settings ++ p.last ∷ [] = p.is ∙ ap (λ (l : List Setting). l ++ p.last ∷ []) front in
    let allowed : All (λ (s : Setting). MayStand is.checks s.key) (settings ++ p.last ∷ []) = subst (λ (l : List Setting). All (λ (s : Setting). MayStand is.checks s.key) l) split is.allowed in
    let may : MayStand check p.last.key = subst (λ (b : Bool). MayStand b p.last.key) (sym mode) (all_last (λ (s : Setting). MayStand is.checks s.key) settings p.last allowed) in
    let once : NoKeyTwice (settings ++ p.last ∷ []) = subst NoKeyTwice split is.once in
    bad p.last p.makes may (once_last settings p.last once)

pub wrong_word : (check : Bool) (rest : List (List ℕ)) (k : ℕ) (d : List ℕ) (settings : List Setting) → k < length rest → IsRead check (take k rest) settings → ((t : Setting) → Makes (get_or rest k d) t → MayStand check t.key → NotGiven t.key settings → ⊥) → IsFirstWrong (mode_word check ∷ rest) (suc (suc k))
wrong_word check rest k d settings within read bad =
    let more : take (suc k) rest ≡ take k rest ++ get_or rest k d ∷ [] = take-suc rest k d within in
    let back : suc (suc k) - 1 ≡ suc k = omega arith in
    record {
      least = omega arith;
      greatest = inl (omega arith);
      before = inr (with_settings (plain_command check) settings, subst (λ (n : ℕ). IsCommand (take n (mode_word check ∷ rest)) (with_settings (plain_command check) settings)) (sym back) (command_of_read check (take k rest) settings read));
      wrong = λ command is. no_command check (take k rest) (get_or rest k d) settings read bad command (subst (λ (l : List (List ℕ)). IsCommand (mode_word check ∷ l) command) more is);
    }

-- the first word is missing or neither `check` nor `run`
pub wrong_mode : (words : List (List ℕ)) → ((check : Bool) (rest : List (List ℕ)) → take 1 words ≡ mode_word check ∷ rest → ⊥) → IsFirstWrong words 1
wrong_mode words bad = record {
  least = omega arith;
  greatest = inr refl;
  before = inl refl;
  wrong = λ command is. bad is.checks is.rest is.first;
}

-- each key has a number below eight
number_of : Key → ℕ
number_of Places = 0
number_of Steps = 1
number_of Stack = 2
number_of Report = 3
number_of Table = 4
number_of Sample = 5
number_of Best = 6
number_of Mortem = 7

-- two keys have two numbers
apart : (a b : Key) → a ≢ b → eqb (number_of a) (number_of b) ≡ false
unfolding number_of
apart Places Places ne = absurd (ne refl)
apart Places Steps ne = refl
apart Places Stack ne = refl
apart Places Report ne = refl
apart Places Table ne = refl
apart Places Sample ne = refl
apart Places Best ne = refl
apart Places Mortem ne = refl
apart Steps Places ne = refl
apart Steps Steps ne = absurd (ne refl)
apart Steps Stack ne = refl
apart Steps Report ne = refl
apart Steps Table ne = refl
apart Steps Sample ne = refl
apart Steps Best ne = refl
apart Steps Mortem ne = refl
apart Stack Places ne = refl
apart Stack Steps ne = refl
apart Stack Stack ne = absurd (ne refl)
apart Stack Report ne = refl
apart Stack Table ne = refl
apart Stack Sample ne = refl
apart Stack Best ne = refl
apart Stack Mortem ne = refl
apart Report Places ne = refl
apart Report Steps ne = refl
apart Report Stack ne = refl
apart Report Report ne = absurd (ne refl)
apart Report Table ne = refl
apart Report Sample ne = refl
apart Report Best ne = refl
apart Report Mortem ne = refl
apart Table Places ne = refl
apart Table Steps ne = refl
apart Table Stack ne = refl
apart Table Report ne = refl
apart Table Table ne = absurd (ne refl)
apart Table Sample ne = refl
apart Table Best ne = refl
apart Table Mortem ne = refl
apart Sample Places ne = refl
apart Sample Steps ne = refl
apart Sample Stack ne = refl
apart Sample Report ne = refl
apart Sample Table ne = refl
apart Sample Sample ne = absurd (ne refl)
apart Sample Best ne = refl
apart Sample Mortem ne = refl
apart Best Places ne = refl
apart Best Steps ne = refl
apart Best Stack ne = refl
apart Best Report ne = refl
apart Best Table ne = refl
apart Best Sample ne = refl
apart Best Best ne = absurd (ne refl)
apart Best Mortem ne = refl
apart Mortem Places ne = refl
apart Mortem Steps ne = refl
apart Mortem Stack ne = refl
apart Mortem Report ne = refl
apart Mortem Table ne = refl
apart Mortem Sample ne = refl
apart Mortem Best ne = refl
apart Mortem Mortem ne = absurd (ne refl)

numbers_apart : (key : Key) (settings : List Setting) → NotGiven key settings → AllByRecursion (λ n. eqb (number_of key) n ≡ false) (map (λ (s : Setting). number_of s.key) settings)
numbers_apart key [] free = tt
numbers_apart key (s ∷ settings) free =
    let other : key ≢ s.key = λ (e : key ≡ s.key). All-head (λ (r : Setting). r.key ≢ key) s settings free (sym e) in
    (apart key s.key other, numbers_apart key settings (All-tail (λ (r : Setting). r.key ≢ key) s settings free))

numbers_distinct : (settings : List Setting) → NoKeyTwice settings → IsDistinct eqb (map (λ (s : Setting). number_of s.key) settings)
unfolding IsDistinct
numbers_distinct [] once = tt
numbers_distinct (s ∷ settings) once = (numbers_apart s.key settings once.0, numbers_distinct settings once.1)

number_below : (key : Key) → number_of key < 8
unfolding number_of
number_below Places = lit< tt
number_below Steps = lit< tt
number_below Stack = lit< tt
number_below Report = lit< tt
number_below Table = lit< tt
number_below Sample = lit< tt
number_below Best = lit< tt
number_below Mortem = lit< tt

either : (b c : Bool) → (b || c) ≡ true → (b ≡ true) ⊎ (c ≡ true)
either true c h = inl refl
either false c h = inr h

same_below : (q n : ℕ) → eqb q n ≡ true → n < 8 → q < 8
same_below q n same below = grind (arith, nat_tests)

numbers_below : (settings : List Setting) (q : ℕ) → list_any (eqb q) (map (λ (s : Setting). number_of s.key) settings) ≡ true → q < 8
numbers_below [] q h = cc
numbers_below (s ∷ settings) q h =
    elim (either (eqb q (number_of s.key)) (list_any (eqb q) (map (λ (r : Setting). number_of r.key) settings)) h) [
      | inl first ↦ same_below q (number_of s.key) first (number_below s.key)
      | inr later ↦ numbers_below settings q later
    ]

-- one key is still free where it isn't given, so fewer than eight are
pub few : (settings : List Setting) (key : Key) → NoKeyTwice settings → NotGiven key settings → length settings < 8
few settings key once free =
    let more : NoKeyTwice (settings ++ record { key = key; value = 0 } ∷ []) = once_more settings (record { key = key; value = 0 }) once free in
    let fits : length (map (λ (s : Setting). number_of s.key) (settings ++ record { key = key; value = 0 } ∷ [])) ≤ 8 = length-le_from_distinct_below _ 8 (numbers_distinct _ more) (numbers_below (settings ++ record { key = key; value = 0 } ∷ [])) in
    omega (arith, length-map (settings ++ record { key = key; value = 0 } ∷ []) (λ (s : Setting). number_of s.key), length-append {A = Setting})

-- the next word is read
pub step : (check : Bool) (rest : List (List ℕ)) (k : ℕ) (old new : List Setting) (word : List ℕ) (s : Setting) → k < length rest → word ≡ get_or rest k word → IsRead check (take k rest) old → Makes word s → ((t : Setting) → Makes word t → Some s ≡ Some t) → MayStand check s.key → NotGiven s.key old → new ≡ old ++ s ∷ [] → IsRead check (take (k + 1) rest) new
step check rest k old new word s within is read makes same may free grown =
    let at : take (k + 1) rest ≡ take k rest ++ word ∷ [] = rw add-one (take-suc rest k word within ∙ ap (λ (w : List ℕ). take k rest ++ w ∷ []) (sym is)) in
    rw (at, grown) (read_more check (take k rest) old word s read makes same may free)

-- the next word is wrong
pub refuse : (check : Bool) (all rest : List (List ℕ)) (first : List ℕ) (k : ℕ) (settings : List Setting) (word : List ℕ) (number : ℕ) → all ≡ first ∷ rest → first ≡ mode_word check → k < length rest → word ≡ get_or rest k word → IsRead check (take k rest) settings → ((t : Setting) → Makes word t → MayStand check t.key → NotGiven t.key settings → ⊥) → number ≡ length settings + 2 → IsFirstWrong all number
refuse check all rest first k settings word number cut mode within is read bad count =
    let many : length (take k rest) ≡ length settings = zip_length (take k rest) settings read.made in
    let n : number ≡ suc (suc k) = omega (arith, length-take k rest) in
    let whole : all ≡ mode_word check ∷ rest = cc in
    rw (n, whole) (wrong_word check rest k word settings within read (subst (λ (w : List ℕ). (t : Setting) → Makes w t → MayStand check t.key → NotGiven t.key settings → ⊥) is bad))

-- no other command is given by these words
pub command_only : (check : Bool) (words : List (List ℕ)) (settings : List Setting) (all : List (List ℕ)) (command other : Command) → IsRead check words settings → all ≡ mode_word check ∷ words → command ≡ with_settings (plain_command check) settings → IsCommand all other → other ≡ command
command_only check words settings all command other read whole means is =
    let mode : is.checks ≡ check = let e : mode_word is.checks ≡ mode_word check = cc in mode_injective is.checks check e in
    let rest : is.rest ≡ words = cc in
    let made : AllZip Makes words is.settings = subst (λ (l : List (List ℕ)). AllZip Makes l is.settings) rest is.made in
    let same : is.settings ≡ settings = read.only is.settings made in
    is.means ∙ ap (λ (b : Bool). with_settings (plain_command b) is.settings) mode ∙ ap (with_settings (plain_command check)) same ∙ sym means

zip_front : (words : List (List ℕ)) (settings : List Setting) (k : ℕ) → AllZip Makes words settings → AllZip Makes (take k words) (take k settings)
zip_front words settings zero h = tt
zip_front [] [] (suc k) h = tt
zip_front [] (t ∷ settings) (suc k) h = absurd h
zip_front (w ∷ words) [] (suc k) h = absurd h
zip_front (w ∷ words) (t ∷ settings) (suc k) h = (h.0, zip_front words settings k h.1)

once_front : (settings : List Setting) (k : ℕ) → NoKeyTwice settings → NoKeyTwice (take k settings)
once_front settings zero once = tt
once_front [] (suc k) once = tt
once_front (t ∷ settings) (suc k) once = (All-take (λ (s : Setting). s.key ≢ t.key) k settings once.0, once_front settings k once.1)

-- the first words of a command are a command
front_is : (words : List (List ℕ)) (command : Command) (k : ℕ) → IsCommand words command → (front : Command) × IsCommand (take (suc k) words) front
front_is words command k is = (
  with_settings (plain_command is.checks) (take k is.settings),
  record {
    checks = is.checks;
    rest = take k is.rest;
    settings = take k is.settings;
    first = ap (take (suc k)) is.first;
    made = zip_front is.rest is.settings k is.made;
    allowed = All-take (λ (s : Setting). MayStand is.checks s.key) k is.settings is.allowed;
    once = once_front is.settings k is.once;
    means = refl;
  },
)

-- a command has no wrong word
pub not_wrong : (words : List (List ℕ)) (command : Command) (number : ℕ) → IsCommand words command → IsFirstWrong words number → ⊥
not_wrong words command zero is wrong = absurd (omega (arith, wrong.least))
not_wrong words command (suc k) is wrong = let front = front_is words command k is in wrong.wrong front.0 front.1

front_of_front : (words : List (List ℕ)) (n m : ℕ) → n ≤ m → take n (take m words) ≡ take n words
front_of_front words zero m h = refl
front_of_front words (suc n) zero h = absurd (omega arith)
front_of_front [] (suc n) (suc m) h = refl
front_of_front (w ∷ words) (suc n) (suc m) h = ap (λ (l : List (List ℕ)). w ∷ l) (front_of_front words n m (omega arith))

wrong_least : (words : List (List ℕ)) (number later : ℕ) → IsFirstWrong words number → IsFirstWrong words later → number < later → ⊥
wrong_least words zero later wrong other less = absurd (omega (arith, wrong.least))
wrong_least words (suc k) later wrong other less =
    elim other.before [
      | inl one ↦ absurd (omega (arith, one))
      | inr before ↦
          let front = front_is (take (later - 1) words) before.0 k before.1 in
          let same : take (suc k) (take (later - 1) words) ≡ take (suc k) words = front_of_front words (suc k) (later - 1) (omega arith) in
          wrong.wrong front.0 (subst (λ (l : List (List ℕ)). IsCommand l front.0) same front.1)
    ]

-- there is one first wrong word
pub wrong_once : (words : List (List ℕ)) (number other : ℕ) → IsFirstWrong words number → IsFirstWrong words other → number ≡ other
wrong_once words number other wrong second =
    let up : number < other → ⊥ = wrong_least words number other wrong second in
    let down : other < number → ⊥ = wrong_least words other number second wrong in
    omega (arith, up, down)
