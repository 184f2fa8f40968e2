-- What has been written of what waits, from turn to turn.
use Rattle.std.proofs.Common.{◌≡◌, ◌<◌, ◌≤◌, ◌+◌, ◌∙◌, ℕ, arith, ap, sym, length, length-append, List, [], ◌++◌, Option, None, Some}
use Rattle.std.specs.Prelude.{All, IfSome, IsErrOf, Result, Ok, Err}
use Rattle.std.proofs.lemmas.List.Elements.{All-append}
use Rattle.gier_drum.specs.declared.drum.Entry.{Entry}
use Rattle.gier_symbol.specs.declared.symbol.Symbol.{Symbol}
use Rattle.gier_text.specs.Outbox.{if_any}
use Rattle.gier_text.specs.Passes.{HasLess}
use Rattle.gier_text.specs.View.{View, WritesAll, IsFull}
use Rattle.gier_text.proofs.WriteLoop.{Wrote}
use Rattle.gier_pass7.specs.SendProgress.{IsLetter}

-- the letters that were written, and how many more may be
pub record IsSending {T S : Type 0} (view : T → S → View) (first end : T → ℕ) (room : S → ℕ) (tracks : S → Option (List (List ℕ))) (journal : S → Option (List Entry)) (faults : S → ℕ) (out_old : T) (store_old : S) (out : T) (store : S) (before rest : ℕ) : Type 0 where
  pub list : List Symbol
  pub wrote : Wrote view first end room tracks journal faults out_old store_old out store list
  pub letters : All IsLetter list
  pub spent : rest + length list ≡ before

pub no_letters : All IsLetter []
no_letters = λ k d below. absurd (omega arith)

pub any_letters : (o : Option Symbol) → IfSome o IsLetter → All IsLetter (if_any o)
any_letters None h = λ k d below. absurd (omega arith)
any_letters (Some s) h = λ k d below. let none_before : k ≡ 0 = omega arith in rw none_before h

pub letters_more : (list : List Symbol) (o : Option Symbol) → All IsLetter list → IfSome o IsLetter → All IsLetter (list ++ if_any o)
letters_more list o h is = All-append IsLetter list (if_any o) h (any_letters o is)

pub spent_more : (list : List Symbol) (o : Option Symbol) (before rest less : ℕ) → rest + length list ≡ before → less + length (if_any o) ≡ rest → less + length (list ++ if_any o) ≡ before
spent_more list o before rest less h e = omega (arith, h, e, length-append list (if_any o))

-- a text that is full before all were written that may be
pub less_room : (old new : View) (list : List Symbol) (o : Option Symbol) (before rest : ℕ) → WritesAll old list new → rest + length list ≡ before → length (if_any o) ≤ rest → IsFull new × (0 < length (if_any o)) → HasLess old (old.count + before)
less_room old new list o before rest writes spent few full = (new.count, sym writes.capacity ∙ full.0, omega (arith, writes.count, spent, few, full.1))

abbrev stop_in : {T E : Type 0} → E → Result T E → E
stop_in e (Ok x) = e
stop_in e (Err f) = f

-- a stop is the same whatever the answer would be
pub other_ok : {T U E : Type 0} (e f : E) → IsErrOf {T = T} {E = E} (Err e) f → IsErrOf {T = U} {E = E} (Err e) f
other_ok e f h = ap Err (ap (stop_in e) h)
