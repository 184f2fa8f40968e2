use Rattle.gier_pass3.proofs.pass.Pass3.write_mark.Goals as goal

pub write-requires-clause-fit : goal.write-requires-clause-fit
write-requires-clause-fit c = c.symbol_of.ensures.fit c.args.self.now.bytes
