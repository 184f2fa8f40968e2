use Rattle.std.proofs.lemmas.List.Elements.{All-set}
use Rattle.gier_pass2.specs.Letters.{IsWritable}
use Rattle.gier_pass2.proofs.token_buffer.TokenBuffer.push.Goals as goal

pub invariant_of-self-clause-writable : goal.invariant_of-self-clause-writable
invariant_of-self-clause-writable c = All-set (IsWritable c.args.self.now.bytes) c.args.self.now.symbols c.args.self.now.count c.args.s c.requires.writable c.args.self.now.writable
