-- A symbol of text 7 is one of eight pieces.
use Rattle.std.proofs.Common.{◌≡◌, ◌<◌, ◌⊎◌, ◌-◌, false, arith, inl, inr}
use Rattle.std.specs.Prelude.{nat_eq}
use Rattle.std.proofs.lemmas.Bool.{cases_eq, cases_lt}
use Rattle.std.proofs.lemmas.Bool.Decides.{nat_tests}
use Rattle.gier_symbol.specs.declared.symbol.Symbol.{Symbol}
use Rattle.gier_tree.specs.Object.{Piece, APlace, AUse, AWordUse, ARoom, ANeed, ACount, AWord, AnOrder, piece_of, head_of, address_in}

-- what holds of each piece that a symbol may be holds of the one that it is
pub by_kind : (s : Symbol) (P : Piece → Type 0) → (s.tag ≡ 121 → P (APlace s.value))
    → (s.tag ≡ 122 → P (AUse (head_of s.value) (address_in s.value))) → (s.tag ≡ 123 → P (AWordUse s.value))
    → (s.tag ≡ 124 → P (ARoom (head_of s.value) (address_in s.value)))
    → (s.tag ≡ 125 → P (ANeed s.value)) → (s.tag ≡ 126 → P ACount) → (s.tag ≡ 120 → P (AWord s.value))
    → (s.tag < 120 ⊎ 126 < s.tag → P (AnOrder (s.tag - 128) s.value)) → P (piece_of s)
by_kind s P place used word_used room need count word order = elim (cases_eq s.tag 121) [
  | inl e ↦ rw e (place e)
  | inr n1 ↦ let t1 : nat_eq s.tag 121 ≡ false = grind (arith, nat_tests) in rw t1 (elim (cases_eq s.tag 122) [
    | inl e ↦ rw e (used e)
    | inr n2 ↦ let t2 : nat_eq s.tag 122 ≡ false = grind (arith, nat_tests) in rw t2 (elim (cases_eq s.tag 123) [
      | inl e ↦ rw e (word_used e)
      | inr n3 ↦ let t3 : nat_eq s.tag 123 ≡ false = grind (arith, nat_tests) in rw t3 (elim (cases_eq s.tag 124) [
        | inl e ↦ rw e (room e)
        | inr n4 ↦ let t4 : nat_eq s.tag 124 ≡ false = grind (arith, nat_tests) in rw t4 (elim (cases_eq s.tag 125) [
          | inl e ↦ rw e (need e)
          | inr n5 ↦ let t5 : nat_eq s.tag 125 ≡ false = grind (arith, nat_tests) in rw t5 (elim (cases_eq s.tag 126) [
            | inl e ↦ rw e (count e)
            | inr n6 ↦ let t6 : nat_eq s.tag 126 ≡ false = grind (arith, nat_tests) in rw t6 (elim (cases_eq s.tag 120) [
              | inl e ↦ rw e (word e)
              | inr n7 ↦
                  let t7 : nat_eq s.tag 120 ≡ false = grind (arith, nat_tests) in
                  rw t7 (order (elim (cases_lt s.tag 120) [ inl lt ↦ inl lt | inr ge ↦ inr (omega arith) ]))
            ])
          ])
        ])
      ])
    ])
  ])
]
