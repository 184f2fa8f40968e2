-- Where the source tells its bytes, a call that reads is the procedure on the data that are left.
use Rattle.std.proofs.Common.{◌≡◌, ◌≤◌, ◌+◌, ◌-◌, ℕ, ℤ, Bool, true, false, inl, inr, if◌then◌else◌, List, [], ◌++◌, length, take, Option, Some, Result, Ok, refl, ap, sym, ◌∙◌, subst, append-nil, arith}
use Rattle.std.proofs.Math.Seq.{take-append-add, take-nil}
use Rattle.std.proofs.lemmas.List.{nil_from_length}
use Rattle.gier_word.specs.Standard.{Reading}
use Rattle.gier_word.specs.declared.alarm.Alarm.{Alarm}
use Rattle.gier_library.specs.Data.{limit, Stand, Loses, IsUsedUp, Takes, Makes, Reads}
use Rattle.gier_library.proofs.LongerData.{IsSettled, makes_on_all}

-- what the limit lets through of these bytes of the source, and nothing once the data have ended
abbrev pub data_left : Stand → List ℕ → List ℕ
data_left s left = if s.ended then [] else take (limit - s.given) left

nothing_of : (b : Bool) (xs : List ℕ) → xs ≡ [] → (if b then [] else xs) ≡ []
nothing_of true xs e = refl
nothing_of false xs e = e

-- the bytes stand before what is left of the data afterwards
cut : (old new : Stand) (left bytes rest : List ℕ) (b : Bool) → Takes old bytes new → left ≡ bytes ++ rest → old.ended ≡ b → (if b then [] else take (limit - old.given) left) ≡ bytes ++ (if b then [] else take (limit - new.given) rest)
cut old new left bytes rest true takes e ended =
    let same : new.given ≡ old.given = ap (λ (s : Stand). s.given) (takes.stays ended) in
    let count : new.given ≡ old.given + length bytes = takes.counted in
    sym (append-nil bytes ∙ nil_from_length bytes (omega (arith, same, count)))
cut old new left bytes rest false takes e ended =
    let count : new.given ≡ old.given + length bytes = takes.counted in
    let limited : new.given ≤ limit = takes.limited in
    let room : limit - old.given ≡ length bytes + (limit - new.given) = omega (arith, count, limited) in
    ap (λ (n : ℕ). take n left) room ∙ ap (take (length bytes + (limit - new.given))) e ∙ take-append-add bytes rest (limit - new.given)

used_up : (m : Option (List ℕ)) (rest : List ℕ) → m ≡ Some rest → IsUsedUp m → rest ≡ []
used_up m rest e h = let none : IsUsedUp (Some rest) = subst IsUsedUp e h in none

nothing_behind : (old new : Stand) (bytes rest : List ℕ) → Takes old bytes new → new.left ≡ Some rest → new.ended ≡ true → (if old.ended then [] else take (limit - new.given) rest) ≡ []
nothing_behind old new bytes rest takes told h =
    elim (takes.ends h) [
      | inl e ↦ ap (λ (b : Bool). if b then [] else take (limit - new.given) rest) e
      | inr (inl full) ↦ nothing_of old.ended (take (limit - new.given) rest) (let zero : limit - new.given ≡ 0 = omega (arith, full) in ap (λ (n : ℕ). take n rest) zero)
      | inr (inr none) ↦ nothing_of old.ended (take (limit - new.given) rest) (ap (take (limit - new.given)) (used_up new.left rest told none) ∙ take-nil (limit - new.given))
    ]

-- it makes this outcome of the data left and takes the bytes at their head, which are what the source lost
pub reads_told : (reads : List ℕ → Reading) → ((bytes rest : List ℕ) → IsSettled reads bytes rest) → (old new : Stand) (left : List ℕ) (outcome : Result ℤ Alarm) → old.left ≡ Some left → Reads reads old (Ok outcome) new → (bytes : List ℕ) × Loses (Some left) bytes new.left × Makes (reads (data_left old left)) bytes outcome new.ended
reads_told reads settled old new left outcome told call =
    let bytes : List ℕ = call.0 in
    let lost : Loses (Some left) bytes new.left = subst (λ (m : Option (List ℕ)). Loses m bytes new.left) told call.1.lost in
    let more : List ℕ = if old.ended then [] else take (limit - new.given) lost.0 in
    let is : data_left old left ≡ bytes ++ more = cut old new left bytes lost.0 old.ended call.1 lost.1 refl in
    (bytes, lost, subst (λ (l : List ℕ). Makes (reads l) bytes outcome new.ended) (sym is) (makes_on_all reads bytes more outcome new.ended (settled bytes more) call.2 (nothing_behind old new bytes lost.0 call.1 lost.2)))
