use Rattle.std.proofs.Common.{arith}
use Rattle.text.proofs.Sure.{fault_written}
use Rattle.patterns.proofs.answer.Lists.put_fault.Goals as goal

pub unwrap-requires : goal.unwrap-requires
unwrap-requires c = fault_written _ _ _ _ _ _ (let e = c.deref_mut.ensures.len in let w = c.args.self.now.wide in omega arith) c.write_fault.ensures
