-- `Replays` is the contract in the source: what a caller of `recording::replay` learns is what the promises ask, and no more.
-- Assumes nothing.
use contract.Lifetimes.{Lfts}
use denote.Triple.Clauses.{AtExit}
use borrow.Fn.Kinds.{Dens, res_t, ended_of}
use Rattle.recording.proofs.replay.Kinds.{ps, r}
use Rattle.recording.proofs.replay.Reads.{Learnt}
use Rattle.recording_demands.specs.Ensured.{Replays}

-- a call: `given` are the bytes and the list that are lent, a is the answer, and `left` is what the two then hold
module _ (κs : Lfts 2) (given : Dens κs ps) (a : (res_t r κs).Denot) (left : AtExit (ended_of 2 ps r) κs) where
  pub learnt_ensured : Learnt κs given a left → Replays given.0.now given.1.0.now a left.1.0.now
  learnt_ensured learnt = record { answer = learnt.0; whole = learnt.1.0; bytes = learnt.1.1 }

  pub ensured_learnt : Replays given.0.now given.1.0.now a left.1.0.now → Learnt κs given a left
  ensured_learnt said = (said.answer, (said.whole, said.bytes))
