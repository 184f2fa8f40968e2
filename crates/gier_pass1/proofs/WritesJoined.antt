-- Writes one after another are one.
use Rattle.std.proofs.Common.{◌++◌, List, [], Option, None, Some, append-nil, refl, sym, ap, OnOk, Result, IsTrue}
use Rattle.std.proofs.lemmas.List.Elements.{All-append, All-nil}
use Rattle.gier_drum.specs.declared.drum.Entry.{Entry}
use Rattle.gier_symbol.specs.declared.symbol.Symbol.{Symbol}
use Rattle.gier_symbol.specs.Texts.{stands_in}
use Rattle.gier_text.specs.Log.{LogsAll}
use Rattle.gier_text.specs.View.{View}
use Rattle.gier_text.proofs.DriveLoop.{writes_more, writes_none, logged_more, OnOk-map}
use Rattle.gier_pass1.specs.Puts.{Puts}

pub puts_more : (ws more : List Symbol) (first mid new : View) (before between after : Option (List Entry)) → Puts ws first mid before between → Puts more mid new between after → Puts (ws ++ more) first new before after
puts_more ws more first mid new before between after h k = record {
  written = writes_more first ws more mid new h.written k.written;
  letters = All-append (λ (s : Symbol). IsTrue (stands_in 1 s.tag)) ws more h.letters k.letters;
  logged = logged_more first mid new before between after h.logged k.logged;
}

-- and so where the second writes end well
pub puts_on : {V E : Type 0} (r : Result V E) (ws more : List Symbol) (first mid new : View) (before between after : Option (List Entry)) → Puts ws first mid before between → OnOk r (Puts more mid new between after) → OnOk r (Puts (ws ++ more) first new before after)
puts_on r ws more first mid new before between after h k = OnOk-map r _ _ (λ (p : Puts more mid new between after). puts_more ws more first mid new before between after h p) k

logs_none : (journal : Option (List Entry)) → LogsAll journal [] journal
logs_none None = refl
logs_none (Some entries) = ap Some (sym (append-nil entries))

-- no write at all
pub puts_none : (view : View) (journal : Option (List Entry)) → Puts [] view view journal journal
puts_none view journal = record {
  written = writes_none view;
  letters = All-nil (λ (s : Symbol). IsTrue (stands_in 1 s.tag));
  logged = record { entries = []; log = sym (append-nil view.log); journal = logs_none journal };
}
