-- The law's premises hold of the examples.
use Rattle.std.proofs.Common.{◌≡◌, ◌<◌, ◌⊎◌, inl, ℕ, Bool, true, false, [], ◌∷◌, refl, subst, arith}
use Rattle.std.specs.Prelude.{◌==◌, ◌||◌}
use Rattle.std.specs.List.{AllByRecursion}
use Rattle.std.proofs.lemmas.Bool.{eqb-true}
use Rattle.gier_tree.specs.Hoist.{hoist, first_fresh}
use Rattle.gier_tree.specs.Text7.{code_program}
use Rattle.gier_tree.specs.Words.{words_in}
use Rattle.gier_scope.specs.Scopes.{Scope, declares}
use Rattle.gier_fair.specs.FewNames.{AreBelowFresh}
use Rattle.gier_flat.specs.Example.{example, nested}
use Rattle.gier_flat.specs.Premises.{Premises}
use Rattle.gier_flat.specs.WrittenLaw.{IsFaultless}

words_are : words_in (code_program (hoist example)) ≡ 22
words_are = refl

pub example_premises : Premises (hoist example)
example_premises = record {
  part = (tt, (((refl, tt), (tt, (omega arith, omega arith))), ((tt, (omega arith, omega arith), (tt, refl), (tt, refl)), ((tt, (refl, (omega arith, (omega arith, (omega arith, (omega arith, (omega arith, (omega arith, tt)))))))), tt))));
  scopes = ((refl, tt), (((λ e. cc), tt), ((tt, ((λ e. cc), tt), ((λ e. cc), tt)), (((λ e. cc), tt), tt))));
  short = omega (arith, words_are);
  few = omega arith;
  room = omega arith;
}

pub nested_premises : Premises (hoist nested)
nested_premises = record {
  part = (
    tt,
    (
      record { level = omega arith; distinct = (refl, tt); first = tt; others = tt; room = omega arith },
      (
        tt,
        (
          record { level = omega arith; distinct = (refl, (refl, tt)); first = tt; others = tt; room = omega arith },
          (tt, (tt, tt, omega arith)),
          (
            (
              (refl, tt),
              (
                record { level = omega arith; distinct = (refl, (refl, tt)); first = tt; others = (tt, tt); room = omega arith },
                (tt, (tt, tt, (tt, omega arith))),
                ((tt, (tt, tt, (tt, omega arith))), ((tt, tt, (tt, ((tt, (tt, tt, (tt, omega arith))), ((tt, refl), tt)))), ((tt, (tt, tt)), tt))),
              ),
            ),
            tt,
          ),
        ),
      ),
      tt,
    ),
  );
  scopes = (
    tt,
    (
      omega arith,
      (refl, tt),
      tt,
      tt,
      (
        omega arith,
        (refl, (refl, tt)),
        tt,
        tt,
        ((λ e. cc), tt),
        (
          (
            omega arith,
            (refl, (refl, tt)),
            tt,
            (tt, tt),
            ((λ e. cc), ((λ e. cc), tt)),
            (((λ e. cc), ((λ e. cc), tt)), ((((λ e. cc), tt), (((λ e. cc), ((λ e. cc), tt)), (((λ e. cc), tt), tt))), (((λ e. cc), ((λ e. cc), tt)), tt))),
          ),
          tt,
        ),
      ),
      tt,
    ),
  );
  short = omega arith;
  few = omega arith;
  room = omega arith;
}

below_fresh : (xs : Scope) → AllByRecursion (λ y. y < first_fresh) xs → AreBelowFresh xs
below_fresh [] h x e = cc
below_fresh (y ∷ ys) h x e = by (y == x) refl (below_fresh ys h.1 x) e
  where
    by : (t : Bool) → (y == x) ≡ t → (declares ys x ≡ true → x < first_fresh) → (t || declares ys x) ≡ true → x < first_fresh
    by true is rest d = subst (λ z. z < first_fresh) (eqb-true y x is) h.0
    by false is rest d = rest d

pub nested_faultless : IsFaultless nested
nested_faultless = record {
  few_names = (
    below_fresh [] tt,
    (
      below_fresh (9 ∷ 8 ∷ []) (omega arith, (omega arith, tt)),
      tt,
      tt,
      tt,
      ((below_fresh (10 ∷ 11 ∷ 12 ∷ []) (omega arith, (omega arith, (omega arith, tt))), tt, (tt, tt), tt, (tt, ((tt, (tt, tt)), (tt, tt)))), tt),
    ),
  );
  scopes = refl;
  types = refl;
  part = (
    tt,
    tt,
    (
      tt,
      tt,
      (tt, tt, omega arith),
      (
        (
          tt,
          (tt, tt),
          (tt, tt, ((λ e. absurd (omega (arith, e))), omega arith)),
          (
            (tt, tt, ((λ e. absurd (omega (arith, e))), omega arith)),
            (
              (
                (λ e. absurd (omega (arith, e))),
                ((tt, tt, ((λ e. absurd (omega (arith, e))), omega arith)), ((λ e. absurd (omega (arith, e))), tt)),
              ),
              ((inl refl, (λ e. absurd (omega (arith, e)))), tt),
            ),
          ),
        ),
        tt,
      ),
    ),
    tt,
  );
  short = omega arith;
  few = omega arith;
  room = omega arith;
  blocks = (omega arith, (omega arith, tt, ((omega arith, tt, (tt, ((tt, (tt, tt)), (tt, tt)))), tt)), tt);
}
