-- Programs of many levels, with blocks that are too deep and without. The faults are those that an independent model lists.
use Rattle.std.specs.Prelude.{◌≡◌, ◌++◌, ℕ, zero, suc, List, [], ◌∷◌, codes, Some}
use Rattle.gier_scope.specs.Faults.{TooDeep}
use Rattle.gier_scope.specs.ScopeExamples.{fault, faults_in}

-- so many blocks, and procedures, within each other, each on a line
abbrev pub blocks_in : ℕ → List ℕ → List ℕ
blocks_in zero inner = inner
blocks_in (suc n) inner = codes "_begin _integer a;\n" ++ blocks_in n inner ++ codes "_end "

abbrev pub procedures_in : ℕ → List ℕ → List ℕ
procedures_in zero inner = inner
procedures_in (suc n) inner = codes "_begin _procedure p;\n" ++ procedures_in n inner ++ codes "; _end "

-- blocks within each other, the first one on level 2
abbrev pub greatest_blocks : List ℕ
greatest_blocks = blocks_in 254 ([])

abbrev pub one_block_more : List ℕ
one_block_more = blocks_in 255 ([])

-- each one too deep
abbrev pub two_blocks_more : List ℕ
two_blocks_more = blocks_in 256 ([])

-- a block and a procedure in turns
abbrev pub greatest_procedures : List ℕ
greatest_procedures = procedures_in 127 ([])

-- its block is too deep, and it is
abbrev pub one_procedure_more : List ℕ
one_procedure_more = procedures_in 128 ([])

-- the block is not too deep, but the procedure is
abbrev pub procedure_alone : List ℕ
procedure_alone = codes "_begin _integer a;\n" ++ procedures_in 127 ([]) ++ codes "_end"

-- where there are own quantities, their block is counted
abbrev pub with_own : List ℕ
with_own = blocks_in 253 (codes "_begin _own _integer b;\n_end ")

abbrev pub fewer_with_own : List ℕ
fewer_with_own = blocks_in 252 (codes "_begin _own _integer b;\n_end ")

-- a controlled statement has no level of its own, nor has a compound
abbrev pub turns : List ℕ
turns = codes "_begin _integer c;\n_for c := 1 _do _begin l:" ++ blocks_in 253 ([]) ++ codes "_end _end"

abbrev pub turns_more : List ℕ
turns_more = codes "_begin _integer c;\n_for c := 1 _do _begin l:" ++ blocks_in 254 ([]) ++ codes "_end _end"

pub record AreLevelled : Type 0 where
  pub greatest_blocks_told : faults_in greatest_blocks ≡ Some ([])
  pub one_block_more_told : faults_in one_block_more ≡ Some (fault TooDeep 255 ∷ [])
  pub two_blocks_more_told : faults_in two_blocks_more ≡ Some (fault TooDeep 255 ∷ fault TooDeep 256 ∷ [])
  pub greatest_procedures_told : faults_in greatest_procedures ≡ Some ([])
  pub one_procedure_more_told : faults_in one_procedure_more ≡ Some (fault TooDeep 128 ∷ fault TooDeep 128 ∷ [])
  pub procedure_alone_told : faults_in procedure_alone ≡ Some (fault TooDeep 128 ∷ [])
  pub with_own_told : faults_in with_own ≡ Some (fault TooDeep 254 ∷ [])
  pub fewer_with_own_told : faults_in fewer_with_own ≡ Some ([])
  pub turns_told : faults_in turns ≡ Some ([])
  pub turns_more_told : faults_in turns_more ≡ Some (fault TooDeep 255 ∷ [])
