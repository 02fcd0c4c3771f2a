-- The number of bytes that loads and stores reach (RFC 9669, sections 5.1 and 5.2).
use Rattle.std.specs.Prelude.{ℕ}
use Rattle.bpf_insn.specs.declared.instruction.LoadFormat.{LoadFormat}
use Rattle.bpf_insn.specs.declared.instruction.LoadFormat.TheVariants.{Byte, HalfWord, Word, DoubleWord, SignedByte, SignedHalfWord, SignedWord}
use Rattle.bpf_insn.specs.declared.instruction.StoreSize.{StoreSize}
use Rattle.bpf_insn.specs.declared.instruction.StoreSize.TheVariants as store_size

abbrev pub load_length : LoadFormat → ℕ
load_length Byte = 1
load_length HalfWord = 2
load_length Word = 4
load_length DoubleWord = 8
load_length SignedByte = 1
load_length SignedHalfWord = 2
load_length SignedWord = 4

abbrev pub store_length : StoreSize → ℕ
store_length store_size.Byte = 1
store_length store_size.HalfWord = 2
store_length store_size.Word = 4
store_length store_size.DoubleWord = 8
