-- Reads one after another: what they take stands one behind the other.
use Rattle.std.proofs.Common.{◌≡◌, ◌⊎◌, inl, inr, ◌<◌, ◌≤◌, ◌+◌, ℕ, Bool, true, false, List, [], ◌++◌, length, Option, None, Some, arith, refl, ap, sym, ◌∙◌, subst, append_assoc, length-append}
use Rattle.gier_library.specs.Data.{limit, Stand, Loses, IsUsedUp, Takes}

loses_nothing : (left : Option (List ℕ)) → Loses left [] left
loses_nothing None = refl
loses_nothing (Some left) = (left, refl, refl)

full_ended : (given : ℕ) (ended : Bool) → (ended ≡ false → given < limit) → given ≡ limit → ended ≡ true
full_ended given true below at = refl
full_ended given false below at = let h : given < limit = below refl in absurd (omega (arith, h, at))

-- no byte
pub takes_nothing : (s : Stand) → s.given ≤ limit → (s.ended ≡ false → s.given < limit) → Takes s [] s
takes_nothing s limited below = record {
  counted = omega arith;
  lost = loses_nothing s.left;
  limited = limited;
  full = full_ended s.given s.ended below;
  ends = λ h. inl h;
  stays = λ h. refl;
}

loses_more : (a b c : Option (List ℕ)) (xs ys : List ℕ) → Loses a xs b → Loses b ys c → Loses a (xs ++ ys) c
loses_more None b c xs ys first then = subst (λ (m : Option (List ℕ)). Loses m ys c) first then
loses_more (Some left) b c xs ys first then =
    let second : Loses (Some first.0) ys c = subst (λ (m : Option (List ℕ)). Loses m ys c) first.2 then in
    (second.0, first.1 ∙ ap (λ (l : List ℕ). xs ++ l) second.1 ∙ sym (append_assoc xs ys second.0), second.2)

-- where the second read found the data ended, nothing changed in it
ends_so : (a b c : Stand) (xs ys : List ℕ) → Takes a xs b → Takes b ys c → c.ended ≡ true → (a.ended ≡ true) ⊎ ((c.given ≡ limit) ⊎ IsUsedUp c.left)
ends_so a b c xs ys first then h =
    elim (then.ends h) [
      | inl e ↦ subst (λ (s : Stand). (a.ended ≡ true) ⊎ ((s.given ≡ limit) ⊎ IsUsedUp s.left)) (sym (then.stays e)) (first.ends e)
      | inr e ↦ inr e
    ]

pub takes_more : (a b c : Stand) (xs ys : List ℕ) → Takes a xs b → Takes b ys c → Takes a (xs ++ ys) c
takes_more a b c xs ys first then = record {
  counted = let h : c.given ≡ b.given + length ys = then.counted in let k : b.given ≡ a.given + length xs = first.counted in omega (arith, h, k, length-append xs ys);
  lost = loses_more a.left b.left c.left xs ys first.lost then.lost;
  limited = then.limited;
  full = then.full;
  ends = ends_so a b c xs ys first then;
  stays = λ h. let e : b ≡ a = first.stays h in then.stays (ap (λ (s : Stand). s.ended) e ∙ h) ∙ e;
}
