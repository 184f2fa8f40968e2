use Rattle.std.proofs.Common.{refl}
use Rattle.gier_symbol.proofs.laws.law_read.Goals as goal
use Rattle.gier_symbol.specs.Words.{tag_named}

pub returns : goal.returns
unfolding tag_named
returns c = record { layout = refl; letters = refl; signs = refl; sign_pairs = refl; words = refl; wrong_words = refl; strings = refl; open_string = refl; comments = refl; comment_apart = refl; comment_fault = refl; open_comment = refl; skipped = refl; skipped_to_end = refl; wrong_bytes = refl; quoted = refl; quoted_faults = refl; quoted_skipped = refl; bang = refl; nothing = refl }
