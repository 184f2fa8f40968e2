-- behind the last call the tail is left
use Rattle.std.proofs.Common.{◌<◌, ◌++◌, [], ℕ, length, sym, append-nil, lit<}
use Rattle.gier_sample.specs.Sample.{tail_text, call_lines}
use Rattle.gier_sample.specs.Piece.{BeginsWith}
use Rattle.gier_sample.specs.declared.piece.Piece.TheVariants.{Tail}

tail_some : 0 < length tail_text
unfolding tail_text
tail_some = lit< tt

pub tail_left : (first : ℕ) → BeginsWith (call_lines first 0 ++ tail_text) Tail []
tail_left first = record { whole = sym (append-nil tail_text); some = tail_some }
