-- How the pass goes on following the definition of assembling, symbol by symbol.
use Rattle.std.proofs.Common.{◌≡◌, ◌==◌, ◌∙◌, ℕ, List, [], ◌∷◌, ◌++◌, refl, sym, ap, subst, arith, Bool, true, false, None, Some}
use Rattle.std.specs.Prelude.{map}
use Rattle.std.proofs.lemmas.List.{append-nil, append_assoc}
use Rattle.gier_symbol.specs.declared.symbol.Symbol.{Symbol}
use Rattle.gier_symbol.specs.declared.tag.Tag.TheVariants.{Letter, Digit}
use Rattle.gier_symbol.specs.Assembly.{Lexeme as RunOf, ASymbol, Piece, pieces, runs, with_commas, number_faults, standard_names, is, is_letter_or_digit}
use Rattle.gier_text.specs.TablesModel.{TablesModel}
use Rattle.gier_pass2.specs.declared.commas.PendingComma.{PendingComma}
use Rattle.gier_pass2.specs.declared.commas.PendingComma.TheVariants.{Nothing as NothingWaits}
use Rattle.gier_pass2.specs.declared.pass.Pass2.{Pass2}
use Rattle.gier_pass2.specs.declared.runs.AssembledToken.{AssembledToken}
use Rattle.gier_pass2.specs.declared.runs.Lexeme.{Lexeme}
use Rattle.gier_pass2.specs.declared.runs.Lexeme.TheVariants.{Nothing, Name, Number}
use Rattle.gier_text.specs.Faults.{as_fault}
use Rattle.gier_pass2.specs.Exact.{IsExact}
use Rattle.gier_pass2.specs.Progress.{IsEndedRun, IsDoing, Follows}
use Rattle.gier_pass2.specs.Grouping.{IsGrouped, symbol_piece}
use Rattle.gier_pass2.specs.Reading.{IsReading, IsCut, run_ended, begun_by}
use Rattle.gier_pass2.specs.Lexemes.{goes_on, lexeme_symbols, begins}
use Rattle.gier_pass2.specs.Tree.{Knows, Names}
use Rattle.gier_pass2.specs.ParameterComma.{symbols_of, given_by, waits_after}
use Rattle.gier_pass2.proofs.RunSplitting.{cut_none, cut_on, cut_next}
use Rattle.gier_pass2.proofs.Groups.{grouped_more, grouped_whole, grouped_none}
use Rattle.gier_pass2.proofs.Pieces.{pieces_more, names_more, faults_more}

-- before the first symbol
pub follows_none : (pass : Pass2) (t : TablesModel) → Names t pass.known standard_names 0 [] → t.faults ≡ [] → pass.run ≡ Nothing
    → pass.waiting ≡ NothingWaits → Follows pass t [] []
follows_none pass t names none run waiting = record {
  done = [];
  pending = [];
  cut = cut_none;
  doing = record {
    reading = rw run (record {
      tree = names.tree;
      knows = names.knows;
      run = refl;
      faults = rw none (record { same = refl; before = λ k d lt. absurd (omega arith); begun = tt });
    });
    grouped = rw waiting grouped_none;
  };
}

-- the piece of a run that ended
pub grouped_word : (new : TablesModel) (more read : ℕ) (waiting waits : PendingComma) (done : List RunOf) (pending written given : List Symbol)
    (word : AssembledToken) → IsEndedRun new more read done pending
    (Some word) → waits ≡ waits_after waiting word.symbol word.plain → given ≡ given_by waiting word.symbol word.plain
    → IsGrouped waiting (pieces done standard_names) written
    → IsGrouped waits (pieces (done ++ runs pending 0) standard_names) (written ++ given)
grouped_word new more read waiting waits done pending written given word h w g grouped =
    subst (λ (l : List Piece). IsGrouped waits l (written ++ given))
    (sym (pieces_more done (runs pending 0) standard_names ∙ ap (λ (l : List Piece). pieces done standard_names ++ l) h.gives.1))
    (grouped_more waiting waits (pieces done standard_names) written given h.gives.0 word.symbol word.plain grouped h.gives.3 h.gives.2 w g)

pub grouped_no_word : (new : TablesModel) (more read : ℕ) (waiting : PendingComma) (done : List RunOf) (pending written : List Symbol)
    → IsEndedRun new more read done pending None → IsGrouped waiting (pieces done standard_names) written
    → IsGrouped waiting (pieces (done ++ runs pending 0) standard_names) written
grouped_no_word new more read waiting done pending written h grouped =
    subst (λ (l : List Piece). IsGrouped waiting l written)
    (sym (pieces_more done (runs pending 0) standard_names ∙ ap (λ (l : List Piece). pieces done standard_names ++ l) h.gives
    ∙ append-nil (pieces done standard_names))) grouped

-- a symbol that goes on with the run
pub follows_on : (pass new : Pass2) (t fin : TablesModel) (read written given : List Symbol) (s : Symbol) (h : Follows pass t read written)
    → IsReading fin new.known new.run new.read h.done (h.pending ++ s ∷ []) → new.waiting ≡ pass.waiting → given ≡ []
    → Follows new fin (read ++ s ∷ []) (written ++ given)
follows_on pass new t fin read written given s h reading waiting none = record {
  done = h.done;
  pending = h.pending ++ s ∷ [];
  cut = cut_on read h.pending h.done s h.cut;
  doing = record { reading = reading; grouped = rw (waiting, none, append-nil written) h.doing.grouped };
}

-- a symbol that begins a run
pub follows_begun : (pass new : Pass2) (t fin : TablesModel) (read written given : List Symbol) (s : Symbol) (h : Follows pass t read written)
    → goes_on pass.run s ≡ false → is_letter_or_digit s ≡ true
    → IsReading fin new.known new.run new.read (h.done ++ runs h.pending 0) (begun_by s)
    → IsGrouped new.waiting (pieces (h.done ++ runs h.pending 0) standard_names) (written ++ given)
    → Follows new fin (read ++ s ∷ []) (written ++ given)
follows_begun pass new t fin read written given s h stops sign reading grouped =
    let none : run_ended s ≡ [] = rw sign refl in
    record {
      done = h.done ++ runs h.pending 0;
      pending = begun_by s;
      cut = subst (λ (l : List RunOf). IsCut (read ++ s ∷ []) l (begun_by s))
          (ap (λ (l : List RunOf). (h.done ++ runs h.pending 0) ++ l) none ∙ append-nil (h.done ++ runs h.pending 0))
          (cut_next h.doing.reading.tree pass.run read h.pending h.done s h.doing.reading.run stops h.cut);
      doing = record { reading = reading; grouped = grouped };
    }

reads_symbol : (t : TablesModel) (known read : ℕ) (done : List RunOf) (s : Symbol) → IsReading t known Nothing read done []
    → IsReading t known Nothing read (done ++ ASymbol s ∷ []) []
reads_symbol t known read done s h = record {
  tree = h.tree;
  knows = subst (λ (l : List (List ℕ)). Knows t h.tree known l) (sym (names_more done (ASymbol s ∷ []) standard_names)) h.knows;
  run = refl;
  faults = record {
    same = h.faults.same ∙ ap (λ l. map as_fault l) (sym (faults_more done (ASymbol s ∷ []) ∙ append-nil (number_faults done)));
    before = h.faults.before;
    begun = tt;
  };
}

-- a symbol that stands for itself
pub follows_alone : (pass new : Pass2) (t fin : TablesModel) (waiting : PendingComma) (read written first all : List Symbol) (s : Symbol)
    (h : Follows pass t read written) → goes_on pass.run s ≡ false → is_letter_or_digit s ≡ false → new.run ≡ Nothing
    → IsReading fin new.known new.run new.read (h.done ++ runs h.pending 0) (begun_by s)
    → IsGrouped waiting (pieces (h.done ++ runs h.pending 0) standard_names) (written ++ first)
    → new.waiting ≡ waits_after waiting s false → all ≡ first ++ given_by waiting s false
    → Follows new fin (read ++ s ∷ []) (written ++ all)
follows_alone pass new t fin waiting read written first all s h stops sign run reading grouped waits gives =
    let one : run_ended s ≡ ASymbol s ∷ [] = rw sign refl in
    let none : begun_by s ≡ [] = rw sign refl in
    let done = h.done ++ runs h.pending 0 in
    record {
      done = done ++ ASymbol s ∷ [];
      pending = [];
      cut = rw (one, none) at (cut_next h.doing.reading.tree pass.run read h.pending h.done s h.doing.reading.run stops h.cut);
      doing = record {
        reading = rw run (reads_symbol fin new.known new.read done s (rw (run, none) at reading));
        grouped = subst (λ (l : List Piece). IsGrouped new.waiting l (written ++ all))
            (sym (pieces_more done (ASymbol s ∷ []) standard_names))
            (rw (gives, sym (append_assoc written first (given_by waiting s false)))
            (grouped_more waiting new.waiting (pieces done standard_names) (written ++ first) (given_by waiting s false)
            (symbol_piece s) s false grouped (refl, refl) refl waits refl));
      };
    }

begins_by : (letter digit : Bool) (s : Symbol) → is Letter s ≡ letter → is Digit s ≡ digit → is_letter_or_digit s ≡ (begins s == 1)
begins_by true digit s h k = rw h refl
begins_by false true s h k = rw (h, k) refl
begins_by false false s h k = rw (h, k) refl

-- a run is read then just where the symbol is a letter or digit
pub sign_begins : (s : Symbol) (current : Lexeme) → lexeme_symbols current ≡ begins s → lexeme_symbols current ≡ 1 → is_letter_or_digit s ≡ true
sign_begins s current h one = begins_by (is Letter s) (is Digit s) s refl refl ∙ rw (sym h, one) refl

pub none_begins : (s : Symbol) (current : Lexeme) → lexeme_symbols current ≡ begins s → lexeme_symbols current ≡ 0 → is_letter_or_digit s ≡ false
none_begins s current h none = begins_by (is Letter s) (is Digit s) s refl refl ∙ rw (sym h, none) refl

-- what was assembled at the end
pub exact_end : (pass : Pass2) (t fin : TablesModel) (known at : ℕ) (waiting : PendingComma) (read written first all : List Symbol)
    (h : Follows pass t read written) → IsReading fin known Nothing at (h.done ++ runs h.pending 0) []
    → IsGrouped waiting (pieces (h.done ++ runs h.pending 0) standard_names) (written ++ first) → all ≡ first ++ symbols_of waiting
    → IsExact fin read (written ++ all)
exact_end pass t fin known at waiting read written first all h reading grouped gives =
    let whole : runs read 0 ≡ h.done ++ runs h.pending 0 = ap (λ (l : List Symbol). runs l 0) (sym (append-nil read)) ∙ h.cut [] ∙ ap
    (λ (l : List Symbol). h.done ++ runs l 0) (append-nil h.pending) in
    record {
      symbols = rw gives (sym (append_assoc written first (symbols_of waiting)) ∙ sym
          (grouped_whole waiting (pieces (h.done ++ runs h.pending 0) standard_names) (written ++ first) grouped) ∙ ap
          (λ (l : List RunOf). with_commas (pieces l standard_names) 0) (sym whole));
      faults = reading.faults.same ∙ ap (λ (l : List RunOf). map as_fault (number_faults l)) (sym whole);
    }

pub nothing_runs : (current : Lexeme) → lexeme_symbols current ≡ 0 → current ≡ Nothing
nothing_runs Nothing h = refl
nothing_runs (Name node line plain) h = absurd (omega (arith, h))
nothing_runs (Number value line position) h = absurd (omega (arith, h))

-- where no run gives a symbol, none is read
pub no_run : (t : TablesModel) (pass : Pass2) {done : List RunOf} {written : List Symbol} → lexeme_symbols pass.run ≡ 0 → IsDoing pass t done [] written
    → IsReading t pass.known Nothing pass.read done []
no_run t pass {done} none h = subst (λ (r : Lexeme). IsReading t pass.known r pass.read done []) (nothing_runs pass.run none) h.reading
