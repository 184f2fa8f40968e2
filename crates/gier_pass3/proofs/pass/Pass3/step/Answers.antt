use Rattle.std.proofs.Common.{◌∙◌, sym, subst}
use Rattle.gier_tree.specs.Signs.{sign_of, sign_tag}
use Rattle.gier_symbol.specs.declared.tag.Tag.{Tag}
use Rattle.gier_text.specs.TablesModel.{tables_model}
use Rattle.gier_pass3.specs.Refinement.{RefinesMeet}
use Rattle.std.proofs.lemmas.Bool.{false≢true}
use Rattle.gier_pass3.proofs.Bare.{kind_of_sign, some_tag}
use Rattle.gier_pass3.proofs.pass.Pass3.step.Goals as goal
use Rattle.gier_pass3.proofs.pass.Pass3.step.Goals.{then-not-self+in-Some, then-not-self+in_default, else-not-self}

pub returns-clause-follows : goal.returns-clause-follows
returns-clause-follows c = λ going bare items.
    elim c.if-not-self.branch [
      | then-not-self+in-Some w ↦
          let kind = kind_of_sign c.args.s w.in-Some.kind w.in-Some.ensures.some c.requires.symbol.letter bare in
          rw (w.self-is, w.tables-is) (w.meet.ensures.follows kind items)
      | then-not-self+in_default w ↦ absurd (w.in_default.ensures.none _ (some_tag c.args.s.tag c.requires.symbol.letter))
      | else-not-self w ↦ absurd (false≢true (sym going ∙ w.if-not-self.false))
    ]

pub returns-clause-wrote : goal.returns-clause-wrote
returns-clause-wrote c = λ going bare items.
    let inner : RefinesMeet (sign_tag (sign_of c.args.s)) c.args.s c.args.self.now (tables_model c.args.tables.now) c.if-not-self.self (tables_model c.if-not-self.tables) = elim c.if-not-self.branch [
      | then-not-self+in-Some w ↦
          let kind = kind_of_sign c.args.s w.in-Some.kind w.in-Some.ensures.some c.requires.symbol.letter bare in
          rw (w.self-is, w.tables-is) (subst (λ (k : Tag). RefinesMeet k c.args.s c.args.self.now (tables_model c.args.tables.now) w.meet.new.self (tables_model w.meet.new.tables)) (sym kind) (w.meet.ensures.wrote items))
      | then-not-self+in_default w ↦ absurd (w.in_default.ensures.none _ (some_tag c.args.s.tag c.requires.symbol.letter))
      | else-not-self w ↦ absurd (false≢true (sym going ∙ w.if-not-self.false))
    ] in
    inner
