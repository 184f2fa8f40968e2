-- What is found by one word of the object after another, as rows.
use Rattle.std.specs.Prelude.{◌≡◌, ◌++◌, ℕ, Bool, true, false, List, [], ◌∷◌, Option, None, Some, Result, Ok, Err}
use Rattle.std.proofs.Common.{refl, ap, sym, ◌∙◌}
use Rattle.std.proofs.lemmas.List.{append-nil, append_assoc}
use Rattle.gier_order.specs.Codes.{order_at}
use Rattle.gier_order.specs.declared.object.Object.{Object}
use Rattle.gier_order.specs.declared.order.Order.{Order}
use Rattle.gier_order.specs.Flat.Row.{Regs, Step, On, Row, plain, needs, odd, reads}
use Rattle.gier_order.specs.Flat.Rows.{on_order}
use Rattle.gier_exec.specs.Reading.{Stand}
use Rattle.gier_exec.specs.Rows.{behind, reading_row}
use Rattle.gier_exec.specs.Following.{RefinesRefusal, RefinesStop}
use Rattle.gier_exec.specs.References.{Refers, RefinesFetch, RefinesOrder, fetched_at, stop_step}
use Rattle.gier_exec.specs.Searching.{RefinesFinding, RefinesSearch, RefinesReading}
use Rattle.gier_exec.specs.declared.stop.Stop.{Stop}
use Rattle.gier_exec.specs.declared.stop.Stop.TheVariants.{Ended, Alarm, Steps, Odd}
use Rattle.gier_exec.specs.declared.stop.Miss.{Miss}
use Rattle.gier_exec.specs.declared.stop.Miss.TheVariants.{Drum, Stop as Stopped}
use Rattle.gier_exec.proofs.RowResults.{halts_does}
use Rattle.gier_exec.proofs.Referrings.{refers_none, refers_both}

behind_both : (first second : List ℕ) (row : Row) → behind first (behind second row) ≡ behind (first ++ second) row
behind_both first second row = ap (λ refs. record row { refs = refs }) (sym (append_assoc first second row.refs))

-- what a word that isn't read leaves
pub finds_missed : {A : Type 0} (row : Row) (a : ℕ) (regs : Regs) (go : ℕ → Row) (other : A → Row) (miss : Miss) → RefinesFetch row go a (Err miss) → RefinesFinding row [] regs other (Err miss)
finds_missed row a regs go other Drum h = (row.refs, refl)
finds_missed row a regs go other (Stopped Ended) h = absurd h
finds_missed row a regs go other (Stopped (Alarm alarm)) h = absurd h
finds_missed row a regs go other (Stopped Steps) h = absurd h
finds_missed row a regs go other (Stopped Odd) h = h

pub finds_other : {A B : Type 0} (row : Row) (refs : List ℕ) (regs : Regs) (go : A → Row) (other : B → Row) (miss : Miss) → RefinesFinding row refs regs go (Err miss) → RefinesFinding row refs regs other (Err miss)
finds_other row refs regs go other Drum h = h
finds_other row refs regs go other (Stopped stop) h = h

finds_does : {A : Type 0} (row : Row) (refs : List ℕ) (regs : Regs) (go : A → Row) (miss : Miss) → RefinesFinding row refs regs go (Err miss) → RefinesOrder row refs regs (Err miss)
finds_does row refs regs go Drum h = h
finds_does row refs regs go (Stopped stop) h = h

finds_behind : {A : Type 0} (row next : Row) (first second : List ℕ) (regs : Regs) (go : A → Row) (result : Result A Miss) → row ≡ behind first next → RefinesFinding next second regs go result → RefinesFinding row (first ++ second) regs go result
finds_behind row next first second regs go (Ok x) e h = e ∙ ap (λ r. behind first r) h ∙ behind_both first second (go x)
finds_behind row next first second regs go (Err (Stopped stop)) e h = e ∙ ap (λ r. behind first r) h
finds_behind row next first second regs go (Err Drum) e h = (h.0, ap (λ (r : Row). r.refs) e ∙ ap (λ refs. first ++ refs) h.1 ∙ sym (append_assoc first second h.0))

finds_as : {A : Type 0} (row mid : Row) (refs : List ℕ) (regs : Regs) (go : A → Row) (result : Result A Miss) → row ≡ mid → RefinesFinding mid refs regs go result → RefinesFinding row refs regs go result
finds_as row mid refs regs go result e h = rw e h

-- a search by a row that is another one
pub search_as : {A : Type 0} (object : Object) (old new : Stand) (row mid : Row) (regs : Regs) (go : A → Row) (result : Result A Miss) → row ≡ mid → RefinesSearch object old new mid regs go result → RefinesSearch object old new row regs go result
search_as object old new row mid regs go result e h = (h.0, h.1, finds_as row mid h.0 regs go result e h.2)

-- a search that found nothing, in place of any other
pub search_other : {A B : Type 0} (object : Object) (old new : Stand) (row : Row) (regs : Regs) (go : A → Row) (other : B → Row) (miss : Miss) → RefinesSearch object old new row regs go (Err miss) → RefinesSearch object old new row regs other (Err miss)
search_other object old new row regs go other miss h = (h.0, h.1, finds_other row h.0 regs go other miss h.2)

pub search_acts : {A : Type 0} (object : Object) (old new : Stand) (row : Row) (regs : Regs) (go : A → Row) (miss : Miss) → RefinesSearch object old new row regs go (Err miss) → RefinesReading object old new row regs (Err miss)
search_acts object old new row regs go miss h = (h.0, h.1, finds_does row h.0 regs go miss h.2)

-- a search behind what was found first
pub search_then : {A B : Type 0} (object : Object) (old mid new : Stand) (row : Row) (regs : Regs) (found : A → Row) (x : A) (go : B → Row) (result : Result B Miss) → mid.places.places ≡ old.places.places
    → RefinesSearch object old mid row regs found (Ok x) → RefinesSearch object mid new (found x) regs go result → RefinesSearch object old new row regs go result
search_then object old mid new row regs found x go result same h next =
    (h.0 ++ next.0, refers_both object h.0 next.0 old mid new same h.1 next.1, finds_behind row (found x) h.0 next.0 regs go result h.2 next.2)

-- what was found first stops, and nothing more is read
pub search_stops : {A B : Type 0} (object : Object) (old mid : Stand) (row : Row) (regs : Regs) (found : A → Row) (x : A) (go : B → Row) (stop : Stop)
    → RefinesSearch object old mid row regs found (Ok x) → found x ≡ plain (stop_step regs stop) → RefinesSearch object old mid row regs go (Err (Stopped stop))
search_stops object old mid row regs found x go stop h is =
    (h.0, h.1, h.2 ∙ ap (λ r. behind h.0 r) is ∙ ap (λ refs. reading_row refs (stop_step regs stop)) (append-nil h.0))

pub refused_stops : (row : Row) (regs : Regs) (stop : Stop) → RefinesRefusal row stop → row ≡ plain (stop_step regs stop)
refused_stops row regs Ended h = absurd h
refused_stops row regs (Alarm alarm) h = absurd h
refused_stops row regs Steps h = absurd h
refused_stops row regs Odd h = h

-- nothing of the object is read
pub search_none : {A : Type 0} (object : Object) (s : Stand) (row : Row) (regs : Regs) (go : A → Row) (x : A) → row ≡ go x → RefinesSearch object s s row regs go (Ok x)
search_none object s row regs go x e = ([], refers_none object s, e)

pub search_refused : {A : Type 0} (object : Object) (s : Stand) (row : Row) (regs : Regs) (go : A → Row) (stop : Stop) → RefinesRefusal row stop → RefinesSearch object s s row regs go (Err (Stopped stop))
search_refused object s row regs go stop h = ([], refers_none object s, refused_stops row regs stop h)

-- what was found is gone on with otherwise
pub search_found : {A B : Type 0} (object : Object) (old new : Stand) (row : Row) (regs : Regs) (found : A → Row) (x : A) (go : B → Row) (y : B) → RefinesSearch object old new row regs found (Ok x) → found x ≡ go y → RefinesSearch object old new row regs go (Ok y)
search_found object old new row regs found x go y h e = (h.0, h.1, h.2 ∙ ap (λ r. behind h.0 r) e)

-- an order goes on behind what was found
pub search_goes : {A : Type 0} (object : Object) (old new : Stand) (row : Row) (regs after : Regs) (found : A → Row) (x : A) (next : ℕ) → RefinesSearch object old new row regs found (Ok x) → found x ≡ plain (On (record after { place = next })) → RefinesReading object old new row after (Ok next)
search_goes object old new row regs after found x next h is =
    (h.0, h.1, h.2 ∙ ap (λ r. behind h.0 r) is ∙ ap (λ refs. reading_row refs (On (record after { place = next }))) (append-nil h.0))

pub search_halts : {A : Type 0} (object : Object) (old new : Stand) (row : Row) (regs after : Regs) (found : A → Row) (x : A) (stop : Stop) → RefinesSearch object old new row regs found (Ok x) → RefinesStop (found x) after stop → RefinesReading object old new row after (Err (Stopped stop))
search_halts object old new row regs after found x stop h is =
    (h.0, h.1, h.2 ∙ ap (λ r. behind h.0 r) (halts_does (found x) after stop is) ∙ ap (λ refs. reading_row refs (stop_step after stop)) (append-nil h.0))

-- an order at an address
pub order_found : (code : List ℕ) (size : ℕ) (regs : Regs) (go : Order → Row) (word : ℕ) (order : Order) → order_at word ≡ Some order → on_order code size regs go (order_at word) ≡ go order
order_found code size regs go word order e = ap (λ found. on_order code size regs go found) e

pub order_none : (code : List ℕ) (size : ℕ) (regs : Regs) (go : Order → Row) (word : ℕ) → order_at word ≡ None → on_order code size regs go (order_at word) ≡ odd
order_none code size regs go word e = ap (λ found. on_order code size regs go found) e

pub needs_yes : (b : Bool) (row : Row) → b ≡ true → needs b row ≡ row
needs_yes true row e = refl
needs_yes false row e = absurd cc

pub needs_no : (b : Bool) (row : Row) → b ≡ false → needs b row ≡ odd
needs_no true row e = absurd cc
needs_no false row e = refl
