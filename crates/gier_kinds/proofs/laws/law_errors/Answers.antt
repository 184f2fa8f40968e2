use Rattle.std.proofs.Common.{refl, ap, nat_lt}
use Rattle.gier_kinds.proofs.laws.law_errors.Goals as goal
use Rattle.gier_kinds.specs.Errors.{most_bytes, errors_by}
use Rattle.gier_symbol.specs.Words.{tag_named}
use Rattle.std.specs.Fmt.{digits}

pub returns : goal.returns
unfolding tag_named digits
returns c = record { wrong_bytes_printed = refl; open_string_printed = refl; large_numbers_printed = refl; wrong_structure_printed = refl; structure_at_end_printed = refl; wrong_scopes_printed = refl; wrong_types_printed = refl; no_errors_printed = refl; own_types_printed = refl; quoted_scopes_printed = refl; quoted_types_printed = refl; nothing_printed = refl; each_scope_text_printed = refl; each_type_text_printed = refl; longest = λ bytes e. ap (λ n. errors_by (nat_lt most_bytes n) bytes) e; too_long = λ bytes e. ap (λ n. errors_by (nat_lt most_bytes n) bytes) e; too_long_printed = refl }
