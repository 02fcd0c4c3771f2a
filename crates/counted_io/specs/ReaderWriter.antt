-- Readers and writers as contracts see them: a value before each call and a value after it.
use Rattle.std.specs.Prelude.{ℕ, List, Option}

-- a writer's counts: failed calls, nonempty writes that wrote 0 bytes, and flushes, including failed ones
pub record WriteCounts : Type 0 where
  pub failed : ℕ
  pub empty : ℕ
  pub flushes : ℕ

-- a reader: its remaining bytes, if known, and its count of failed reads
pub record Reader : Type 0 where
  pub left : Option (List ℕ)
  pub failed : ℕ

-- a writer: the bytes that it holds, if known, and its counts
pub record Writer : Type 0 where
  pub held : Option (List ℕ)
  pub counts : WriteCounts
