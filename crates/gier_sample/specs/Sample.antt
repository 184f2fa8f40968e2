-- The sample program for a number: so many calls of a procedure in a loop of three turns.
use Rattle.std.specs.Prelude.{ℕ, zero, suc, List, [], ◌++◌, codes}
use Rattle.std.specs.Fmt.{decimal}

unfoldable pub head_text : List ℕ
head_text = codes "_begin _integer s,j;\n_procedure p(x); _integer x; s:=x;\n_for j:=1 _step 1 _until 3 _do _begin\n"

unfoldable pub tail_text : List ℕ
tail_text = codes "_end;\noutinteger(s); outcr\n_end\n"

abbrev pub call_line : ℕ → List ℕ
call_line i = codes "p(s+" ++ decimal i ++ codes ");\n"

-- the lines for `count` numbers from `first` on
abbrev pub call_lines : ℕ → ℕ → List ℕ
call_lines first zero = []
call_lines first (suc count) = call_line first ++ call_lines (suc first) count

-- the sample program for k, with a call for each number from 1 to k
abbrev pub sample_text : ℕ → List ℕ
sample_text k = head_text ++ call_lines 1 k ++ tail_text
