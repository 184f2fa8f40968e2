use Rattle.std.proofs.Common.{refl}
use Rattle.gier_tree.proofs.laws.law_texts.Goals as goal

pub returns : goal.returns
returns c = record { text_sums_is_3 = refl; text_sums_is_4 = refl; text_sums_is_5 = refl; text_sums_is_6 = refl; text_labels_is_3 = refl; text_labels_is_4 = refl; text_labels_is_5 = refl; text_labels_is_6 = refl; text_arrays_is_3 = refl; text_arrays_is_4 = refl; text_arrays_is_5 = refl; text_arrays_is_6 = refl; text_calls_is_3 = refl; text_calls_is_4 = refl; text_calls_is_5 = refl; text_calls_is_6 = refl; text_own_is_3 = refl; text_own_is_4 = refl; text_own_is_5 = refl; text_own_is_6 = refl }
