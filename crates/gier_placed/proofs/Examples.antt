-- The small program, computed.
use Rattle.std.proofs.Common.{ℕ, ◌≤◌, refl, arith}
use Rattle.gier_symbol.specs.Texts.{last_order}
use Rattle.gier_tree.specs.Complete.{IsOrderNumber}
use Rattle.gier_placed.specs.Examples.{AreExamples}

order : (op : ℕ) → 1 ≤ op → op ≤ last_order → IsOrderNumber op
order op least most = record { least = least; most = most }

pub are_examples : AreExamples
are_examples = record {
  places = refl;
  declared = refl;
  rooms = refl;
  words = refl;
  fits = (
    (omega arith, order 1 (omega arith) (omega arith)),
    (
      tt,
      (
        tt,
        (
          tt,
          (
            tt,
            (
              tt,
              (
                tt,
                (
                  tt,
                  (
                    tt,
                    (
                      tt,
                      (
                        tt,
                        (
                          (refl, order 28 (omega arith) (omega arith)),
                          (
                            (refl, order 49 (omega arith) (omega arith)),
                            (
                              tt,
                              ((refl, order 27 (omega arith) (omega arith)), (tt, (tt, (tt, (tt, (tt, (tt, tt))))))),
                            ),
                          ),
                        ),
                      ),
                    ),
                  ),
                ),
              ),
            ),
          ),
        ),
      ),
    ),
  );
}
