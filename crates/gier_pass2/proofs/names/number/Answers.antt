use Rattle.std.proofs.Common.{inl, inr, arith, ap, subst, sym, ◌+◌, ◌∙◌, ◌<◌, ◌≡◌, ◌⊎◌, ℕ}
use Rattle.gier_text.specs.TablesModel.{tables_model}
use Rattle.gier_text.specs.Lists.{word_at, with_word}
use Rattle.gier_pass2.specs.Tree.{nodes_of, IsNumberOf}
use Rattle.gier_pass2.proofs.NodeWords.{nodes_set}
use Rattle.gier_pass2.proofs.Numbering.{new_number, no_number}
use Rattle.gier_pass2.proofs.names.number.Goals as goal
use Rattle.gier_pass2.proofs.names.number.Goals.{else-known-ne0-via-then-known-ne0+else-known-from, else-known-ne0-via-else-known-ne0}

pub returns-clause-number : goal.returns-clause-number
returns-clause-number c = λ tree list knows.
    let old = tables_model c.args.tables.now in
    let nodes = nodes_of (tables_model c.args.tables.now) in
    let out : (word_at nodes c.args.node 4 ≡ 0) ⊎ (c.args.names.now < word_at nodes c.args.node 4) = elim c.else-known-ne0.branch [
      | else-known-ne0-via-then-known-ne0+else-known-from w ↦ inr
          (omega (arith, w.if-known-from.false, w.from.ensures, c.word-known.ensures.word))
      | else-known-ne0-via-else-known-ne0 w ↦ inl (omega (arith, w.if-known-ne0.false, c.word-known.ensures.word))
    ] in
    let next : c.from-2.result + 1 ≡ c.args.names.now + 1 = omega (arith, c.from-2.ensures) in
    let set : nodes_of (tables_model c.set_word.new.self) ≡ with_word nodes c.args.node 4 (c.args.names.now + 1) = ap nodes_of c.set_word.ensures
    ∙ nodes_set old (with_word nodes c.args.node 4 (c.from-2.result + 1)) c.requires.nodes.lists ∙ ap
    (λ (n : ℕ). with_word nodes c.args.node 4 n) next in
    subst (λ (n : ℕ). IsNumberOf (tables_model c.set_word.new.self) tree (c.args.names.now + 1) list (tree.name c.args.node) n)
    (sym c.from-3.ensures)
    (new_number old (tables_model c.set_word.new.self) tree c.args.node c.args.names.now list knows c.requires.node
    (no_number old tree c.args.node c.args.names.now list knows c.requires.node out) set)
