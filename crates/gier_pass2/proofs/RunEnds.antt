-- A run ends, and gives its piece.
use Rattle.std.proofs.Common.{◌≡◌, ◌<◌, ◌≤◌, ◌⊎◌, ◌^◌, ◌∙◌, ℕ, List, [], ◌∷◌, ◌++◌, length, refl, sym, ap, subst, arith, inl, inr, Bool, true, false, min, None, Some}
use Rattle.std.specs.Prelude.{map, All, insert}
use Rattle.std.proofs.lemmas.Bool.{cases_lt}
use Rattle.std.proofs.lemmas.Bool.Decides.{nat_tests}
use Rattle.std.proofs.lemmas.List.{append-nil}
use Rattle.std.proofs.lemmas.List.Edits.{insert_end}
use Rattle.std.proofs.lemmas.List.Elements.{All-append}
use Rattle.gier_symbol.specs.declared.symbol.Symbol.{Symbol}
use Rattle.gier_symbol.specs.declared.tag.Tag.TheVariants.{Identifier, Number as NumberTag}
use Rattle.gier_symbol.specs.Assembly.{Lexeme as RunOf, AName, ANumber, pieces, runs, decimal, is_large, number_faults, value_by, byte_of, standard_names}
use Rattle.gier_symbol.specs.Tags.{number_of}
use Rattle.gier_text.specs.declared.fault.Fault.{Fault}
use Rattle.gier_text.specs.declared.fault.FaultKind.TheVariants.{Number as NumberFault}
use Rattle.gier_text.specs.TablesModel.{TablesModel, AddsFault}
use Rattle.gier_pass2.specs.declared.runs.AssembledToken.{AssembledToken}
use Rattle.gier_pass2.specs.declared.runs.Lexeme.{Lexeme}
use Rattle.gier_pass2.specs.declared.runs.Lexeme.TheVariants.{Nothing, Name, Number}
use Rattle.gier_text.specs.Faults.{as_fault, without_position}
use Rattle.gier_pass2.specs.Progress.{IsEndedRun}
use Rattle.gier_pass2.specs.Grouping.{Gives}
use Rattle.gier_pass2.specs.Reading.{IsReading, IsName, HasFaultsOf, begin_of, names_of}
use Rattle.gier_pass2.specs.Lexemes.{Values}
use Rattle.gier_pass2.specs.Tree.{Tree, Knows, IsNumberOf}
use Rattle.gier_pass2.proofs.RunSplitting.{name_alone, number_alone}
use Rattle.gier_pass2.proofs.Pieces.{names_more, faults_more}

map_more : {A B : Type 0} (f : A → B) (xs ys : List A) → map f (xs ++ ys) ≡ map f xs ++ map f ys
map_more f [] ys = refl
map_more f (x ∷ xs) ys = ap (λ l. f x ∷ l) (map_more f xs ys)

-- the faults of runs to which one is added that has none
no_faults : (faults : List Fault) (done : List RunOf) (old : Lexeme) (read : ℕ) (last : List RunOf) → begin_of old read ≤ read
    → number_faults last ≡ [] → HasFaultsOf faults done old read → HasFaultsOf faults (done ++ last) Nothing read
no_faults faults done old read last le none h = record {
  same = h.same ∙ ap (λ l. map as_fault l) (sym (faults_more done last ∙ rw none (append-nil (number_faults done))));
  before = λ k d lt. omega (arith, h.before k d lt);
  begun = tt;
}

pub ends_nothing : (t : TablesModel) (known read : ℕ) (current : Lexeme) (done : List RunOf) (pending : List Symbol) → current ≡ Nothing
    → IsReading t known current read done pending → IsEndedRun t known read done pending None
ends_nothing t known read current done pending is h =
    let none : pending ≡ [] = (subst (λ (r : Lexeme). IsReading t known r read done pending) is h).run in
    rw none (record {
      reading = rw (append-nil done) (rw (is, none) at h);
      gives = refl;
    })

pub ends_name : (t new : TablesModel) (known more read node line number : ℕ) (plain : Bool) (current : Lexeme) (done : List RunOf)
    (pending : List Symbol) (word : AssembledToken) → current ≡ Name node line plain → new.faults ≡ t.faults
    → ((tree : Tree) → (names : List (List ℕ)) → Knows t tree known names → IsNumberOf new tree more names (tree.name node) number)
    → word ≡ record { symbol = record { tag = number_of Identifier; value = number; line = line }; plain = plain }
    → IsReading t known current read done pending → IsEndedRun new more read done pending (Some word)
ends_name t new known more read node line number plain current done pending word is same numbers word_is reading =
    let h = subst (λ (r : Lexeme). IsReading t known r read done pending) is reading in
    let given = numbers h.tree (names_of done) h.knows in
    let run : IsName h.tree node line plain pending = h.run in
    let alone = name_alone h.tree node line plain pending run in
    let last = AName (map byte_of pending) line in
    record {
      reading = subst (λ (l : List RunOf). IsReading new more Nothing read (done ++ l) []) (sym alone) (record {
        tree = h.tree;
        knows = subst (λ (l : List (List ℕ)). Knows new h.tree more l) (sym (names_more done (last ∷ []) standard_names))
            (rw run.name at given.knows);
        run = refl;
        faults = rw same (no_faults t.faults done (Name node line plain) read (last ∷ []) (omega arith) refl h.faults);
      });
      gives = subst (λ (l : List RunOf). Gives (Some word) (pieces l (names_of done))) (sym alone)
          (rw word_is (
            _,
            refl,
            ap (λ (n : ℕ). record { tag = number_of Identifier; value = n; line = line })
                (sym (rw run.name at given.value)),
            (refl, run.plain),
          ));
    }

-- the value of a number, and its fault
small : (total value : ℕ) → value ≡ min total (2 ^ 39) → value < 2 ^ 39 → (total ≡ value) × (is_large total ≡ false)
small total value is lt = let e : total ≡ value = omega arith in (e, (let le : total < 2 ^ 39 = omega arith in grind (arith, nat_tests)))

large : (total value : ℕ) → value ≡ min total (2 ^ 39) → 2 ^ 39 ≤ value → is_large total ≡ true
large total value is le = let more : 2 ^ 39 ≤ total = omega arith in grind (arith, nat_tests)

-- a fault behind all others is the last one
last_fault : (old new : TablesModel) (f : Fault) → All (λ fault. fault.position < f.position) old.faults → AddsFault old f new
    → new ≡ record old { faults = old.faults ++ f ∷ [] }
last_fault old new f before h =
    let last : h.at ≡ length old.faults = elim (cases_lt h.at (length old.faults)) [
      | inl lt ↦ absurd (omega (arith, h.later h.at f (omega arith) lt, before h.at f lt))
      | inr le ↦ omega (arith, h.within)
    ] in
    h.inserted ∙ ap (λ (l : List Fault). record old { faults = l }) (ap (λ (n : ℕ). insert old.faults n f) last ∙ insert_end old.faults f)

-- what a number that ends keeps
number_reads : (t new : TablesModel) (known read total value line position : ℕ) (done : List RunOf) (pending : List Symbol) (tree : Tree)
    → runs pending 0 ≡ ANumber total line ∷ [] → new.lists ≡ t.lists → Knows t tree known (names_of done)
    → HasFaultsOf new.faults (done ++ ANumber total line ∷ []) Nothing read
    → IsReading new known Nothing read (done ++ runs pending 0) []
number_reads t new known read total value line position done pending tree alone lists knows faults =
    subst (λ (l : List RunOf). IsReading new known Nothing read (done ++ l) []) (sym alone) (record {
      tree = tree;
      knows = subst (λ (l : List (List ℕ)). Knows new tree known l) (sym (names_more done (ANumber total line ∷ []) standard_names))
          (record {
            fits = rw lists knows.fits;
            numbered = rw lists knows.numbered;
            count = knows.count;
          });
      run = refl;
      faults = faults;
    })

number_gives : (total value line : ℕ) (done : List RunOf) (pending : List Symbol) (word : AssembledToken)
    → runs pending 0 ≡ ANumber total line ∷ [] → word ≡ record
    { symbol = record { tag = number_of NumberTag; value = value; line = line }; plain = false }
    → value_by (is_large total) total ≡ value → Gives (Some word) (pieces (runs pending 0) (names_of done))
number_gives total value line done pending word alone word_is value_is =
    subst (λ (l : List RunOf). Gives (Some word) (pieces l (names_of done))) (sym alone)
    (rw word_is (_, refl, ap (λ (n : ℕ). record { tag = number_of NumberTag; value = n; line = line }) value_is, (refl, refl)))

large_faults : (old : TablesModel) (faults : List Fault) (f : Fault) (done : List RunOf) (read total value : ℕ) → is_large total ≡ true
    → f.kind ≡ NumberFault → faults ≡ old.faults ++ f ∷ [] → f.position < read
    → HasFaultsOf old.faults done (Number value f.line f.position) read
    → HasFaultsOf faults (done ++ ANumber total f.line ∷ []) Nothing read
large_faults old faults f done read total value large_is kind added lt h = rw added (record {
  same = map_more without_position old.faults (f ∷ [])
      ∙ rw (h.same, kind) (sym (ap (λ l. map as_fault l) (faults_more done (ANumber total f.line ∷ [])) ∙ map_more as_fault (number_faults done)
      (number_faults (ANumber total f.line ∷ [])) ∙ rw large_is refl));
  before = All-append (λ fault. fault.position < read) old.faults (f ∷ []) (λ k d below. omega (arith, h.before k d below))
      (λ k d below. let first : k ≡ 0 = omega arith in rw first lt);
  begun = tt;
})

by_size : (t new : TablesModel) (known read total value line position given : ℕ) (done : List RunOf) (pending : List Symbol) (word : AssembledToken)
    (tree : Tree) → runs pending 0 ≡ ANumber total line ∷ [] → value ≡ min total (2 ^ 39) → Values value line position t given new
    → word ≡ record { symbol = record { tag = number_of NumberTag; value = given; line = line }; plain = false }
    → Knows t tree known (names_of done) → HasFaultsOf t.faults done (Number value line position) read
    → (value < 2 ^ 39) ⊎ (2 ^ 39 ≤ value) → IsEndedRun new known read done pending (Some word)
by_size t new known read total value line position given done pending word tree alone value_is values word_is knows faults size = elim size [
  | inl lt ↦
      let fits = small total value value_is lt in
      let kept_as = values.fits lt in
      record {
        reading = number_reads t new known read total value line position done pending tree alone
            (ap (λ (k : TablesModel). k.lists) kept_as.1) knows
            (rw kept_as.1 (no_faults t.faults done (Number value line position) read (ANumber total line ∷ [])
            (omega (arith, faults.begun)) (rw fits.1 refl) faults));
        gives = number_gives total given line done pending word alone word_is (rw fits.1 (fits.0 ∙ sym kept_as.0));
      }
  | inr le ↦
      let big = large total value value_is le in
      let put = values.large le in
      let f : Fault = record { position = position; line = line; kind = NumberFault } in
      let added : new ≡ record t { faults = t.faults ++ f ∷ [] } = last_fault t new f faults.before put.1 in
      record {
        reading = number_reads t new known read total value line position done pending tree alone (ap (λ (k : TablesModel). k.lists) added) knows
            (large_faults t new.faults f done read total value big refl (ap (λ (k : TablesModel). k.faults) added) faults.begun faults);
        gives = number_gives total given line done pending word alone word_is (rw big (sym put.0));
      }
]

pub ends_number : (t new : TablesModel) (known read value line position given : ℕ) (current : Lexeme) (done : List RunOf) (pending : List Symbol)
    (word : AssembledToken) → current ≡ Number value line position → Values value line position t given new
    → word ≡ record { symbol = record { tag = number_of NumberTag; value = given; line = line }; plain = false }
    → IsReading t known current read done pending → IsEndedRun new known read done pending (Some word)
ends_number t new known read value line position given current done pending word is values word_is reading =
    let h = subst (λ (r : Lexeme). IsReading t known r read done pending) is reading in
    by_size t new known read (decimal 0 pending) value line position given done pending word h.tree
    (number_alone value line pending h.run) h.run.value values word_is h.knows h.faults (cases_lt value (2 ^ 39))
