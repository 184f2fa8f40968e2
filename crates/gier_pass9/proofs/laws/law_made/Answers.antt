use Rattle.std.proofs.Common.{refl, lit<}
use Rattle.std.proofs.lemmas.List.Sums.{AllPass-from_list_all}
use Rattle.gier_symbol.specs.declared.symbol.Symbol.{Symbol}
use Rattle.gier_symbol.specs.Texts.{stands_in}
use Rattle.gier_pass9.specs.ObjectExamples.{jumps_7}
use Rattle.gier_pass9.proofs.laws.law_made.Goals as goal

pub returns : goal.returns
returns c = record {
  jumps_fit = record {
    letters = AllPass-from_list_all (λ (s : Symbol). stands_in 7 s.tag) jumps_7 refl;
    fits = (lit< tt, ((lit< tt, refl), (tt, (tt, ((lit< tt, refl), (lit< tt, (tt, (tt, tt))))))));
    few = lit< tt;
  };
  jumps_are = refl;
  jumps = refl;
  sums = refl;
  loops = refl;
  arrays = refl;
  calls = refl;
  formals = refl;
  own = refl;
}
