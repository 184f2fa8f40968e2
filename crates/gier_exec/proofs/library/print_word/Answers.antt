use Rattle.std.proofs.Common.{◌≡◌, [], ◌∷◌, min, take, ap, ◌∙◌}
use Rattle.gier_order.specs.Flat.Row.{behind_bytes}
use Rattle.gier_order.specs.Flat.Rows.{bytes_of, piece}
use Rattle.gier_exec.specs.Rows.{code_in}
use Rattle.gier_exec.proofs.Turnings.{puts_nothing}
use Rattle.gier_exec.proofs.Strings.{word_row, word_prints, missed_prints}
use Rattle.gier_exec.proofs.library.print_word.Goals as goal

pub returns-in-Ok-clause-row : goal.returns-in-Ok-clause-row
returns-in-Ok-clause-row g c = λ tracks told agrees.
    let code = code_in tracks c.args.object.now in
    let same : take c.min.result c.bytes_of.result ≡ take (min c.args.left piece) (bytes_of c.in-Ok.word) = ap (λ n. take n c.bytes_of.result) c.min.ensures ∙ ap (λ xs. take (min c.args.left 5) xs) c.bytes_of.ensures in
    let done = word_prints g.K.Sink.holds code c.args.address c.args.left c.in-Ok.word _ c.args.out.now c.print_bytes.result c.print_bytes.new.out (c.in-Ok.ensures.row tracks told agrees) same c.print_bytes.ensures.sends in
    (c.args.address ∷ [], done.0, c.in-Ok.ensures.refers, done.1, done.2)

pub returns-in-Err-clause-row : goal.returns-in-Err-clause-row
returns-in-Err-clause-row g c = λ tracks told agrees. (
  [],
  [],
  c.in-Err.ensures.refers,
  puts_nothing _,
  λ go. missed_prints (word_row (code_in tracks c.args.object.now) c.args.address c.args.left go) go (λ word. behind_bytes (take (min c.args.left piece) (bytes_of word)) go) c.args.address c.in-Err.miss
      (c.in-Err.ensures.row tracks told agrees (λ word. behind_bytes (take (min c.args.left piece) (bytes_of word)) go)),
)
