-- `Writes` is the contract in the source: what a caller of `recording_write::write` learns is what the promises ask, and no more.
-- Assumes nothing.
use contract.Lifetimes.{Lfts}
use denote.Triple.Clauses.{AtExit}
use borrow.Fn.Kinds.{Dens, res_t, ended_of}
use Rattle.recording_write.proofs.write.Kinds.{ps, r}
use Rattle.recording_write.proofs.write.Reads.{Learnt}
use Rattle.recording_write_demands.specs.Ensured.{Writes}

-- a call: `given` are the kind that is told, and the numbers of tasks, links and events, and the buffer that are lent, a is the answer, and `left`
-- is what the four then hold
module _ (κs : Lfts 4) (given : Dens κs ps) (a : (res_t r κs).Denot) (left : AtExit (ended_of 4 ps r) κs) where
  pub learnt_ensured :
      Learnt κs given a left → Writes given.0 given.1.0.now given.1.1.0.now given.1.1.1.0.now given.1.1.1.1.0.now a left.1.1.1.1.0.now
  learnt_ensured learnt = record { answer = learnt.0; buffer = learnt.1.0; numbers = learnt.1.1 }

  pub ensured_learnt :
      Writes given.0 given.1.0.now given.1.1.0.now given.1.1.1.0.now given.1.1.1.1.0.now a left.1.1.1.1.0.now → Learnt κs given a left
  ensured_learnt said = (said.answer, (said.buffer, said.numbers))
