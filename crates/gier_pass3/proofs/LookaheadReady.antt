-- The lookahead, of which so many symbols were made ready.
use Rattle.std.proofs.Common.{◌≡◌, ◌≤◌, ◌<◌, ◌+◌, ◌++◌, ◌∙◌, ℕ, zero, suc, inl, inr, length, length-append, sym, ap, arith, List}
use Rattle.std.proofs.lemmas.Bool.{cases_eq}
use Rattle.std.proofs.lemmas.List.{append_assoc}
use Rattle.gier_text.specs.TablesModel.{TablesModel}
use Rattle.gier_pass3.specs.Lists.{PreservesLists}
use Rattle.gier_symbol.specs.declared.symbol.Symbol.{Symbol}
use Rattle.gier_text.specs.Lists.{TableList}
use Rattle.gier_text.specs.Outbox.{symbol_at, if_any, outbox_symbols_until}
use Rattle.gier_text.proofs.OutboxSymbols.{until_more}

pub one_more : (list : TableList) (at : ℕ) → outbox_symbols_until list (at + 1) ≡ outbox_symbols_until list at ++ if_any (symbol_at list at)
one_more list at = until_more list at

pub still_fewer : (list : TableList) (at n : ℕ) → at < n → length (outbox_symbols_until list at) + length (if_any (symbol_at list at)) ≤ length (outbox_symbols_until list n)
still_fewer list at zero lt = absurd (omega arith)
still_fewer list at (suc n) lt = elim (cases_eq at n) [
  | inl e ↦ rw e (omega (arith, length-append (outbox_symbols_until list n) (if_any (symbol_at list n))))
  | inr ne ↦ omega (arith, still_fewer list at n (omega arith), length-append (outbox_symbols_until list n) (if_any (symbol_at list n)))
]

pub ready_more : (old loop new : List Symbol) (list : TableList) (at : ℕ) → loop ≡ old ++ outbox_symbols_until list at → new ≡ loop ++ if_any (symbol_at list at) → new ≡ old ++ outbox_symbols_until list (at + 1)
ready_more old loop new list at before now = now ∙ ap (λ l. l ++ if_any (symbol_at list at)) before ∙ append_assoc old (outbox_symbols_until list at) (if_any (symbol_at list at)) ∙ ap (λ l. old ++ l) (sym (one_more list at))

pub keeps_more : (t u v : TablesModel) → PreservesLists t u → PreservesLists u v → PreservesLists t v
keeps_more t u v first second = record {
  lists = second.lists;
  stack_room = second.stack_room ∙ first.stack_room;
  lookahead_room = second.lookahead_room ∙ first.lookahead_room;
  ready_room = second.ready_room ∙ first.ready_room;
  limit = second.limit ∙ first.limit;
  faults = second.faults ∙ first.faults;
}
