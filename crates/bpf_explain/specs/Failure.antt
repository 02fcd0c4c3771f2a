-- Why an instruction is refused, in words: the check that fails, and what is known about the parts that it checks.
use Rattle.std.specs.Prelude.{ℕ, List, [], ◌∷◌, ◌++◌, get_or, codes, decimal, Option, Some, None, if◌then◌else◌}
use Rattle.std.specs.Int.{w32, cast_unsigned}
use Rattle.std.specs.List.{flat_map}
use Rattle.bpf_helpers.specs.Helper.{signature}
use Rattle.bpf_helpers.specs.declared.helper.Helper.{Helper}
use Rattle.bpf_helpers.specs.declared.signature.Argument.{Argument}
use Rattle.bpf_helpers.specs.declared.signature.Argument.TheVariants as argument
use Rattle.bpf_insn.specs.declared.instruction.Insn.{Insn}
use Rattle.bpf_insn.specs.declared.instruction.Insn.TheVariants.{Call}
use Rattle.bpf_kinds.specs.declared.interval.Interval.{Interval}
use Rattle.bpf_meaning.specs.declared.cause.Cause.{Cause}
use Rattle.bpf_meaning.specs.declared.cause.Cause.TheVariants as cause
use Rattle.bpf_verify.specs.declared.abstract_state.AbstractState.{AbstractState}
use Rattle.listing_notes.specs.Facts.{facts_text}
use Rattle.listing_notes.specs.Notation.{fact_text, is_any}
use Rattle.listing_notes.specs.Reads.{helper_of, registers_read, slots_read}
use Rattle.listing_notes.specs.declared.notation.Part.{Part}
use Rattle.bpf_explain.specs.Arithmetic.{arithmetic_text}
use Rattle.bpf_explain.specs.Access.{access_text, base_text, offset_if, register_fact}
use Rattle.bpf_explain.specs.Reach.{outside, unwritten}

-- further facts, each after a comma
unfoldable pub more_facts : AbstractState → List Part → List ℕ
more_facts known parts = flat_map (λ part. codes ", " ++ fact_text known part) parts

unfoldable pub registers_text : AbstractState → Insn → List ℕ
registers_text known insn = facts_text known (registers_read known insn)

unfoldable pub slots_text : AbstractState → Insn → List ℕ
slots_text known insn = more_facts known (slots_read known insn)

-- the number of the helper function that is called
unfoldable pub called_number : Insn → List ℕ
called_number (Call immediate) = decimal (cast_unsigned w32 immediate)
called_number insn = []

-- the helper function's requirement on its argument with this number, counted from 1
abbrev pub requirement_of : Option Helper → ℕ → Argument
requirement_of None number = argument.Unused
requirement_of (Some helper) number = get_or (argument.Unused ∷ (signature helper).arguments) number argument.Unused

unfoldable pub requirement : Insn → ℕ → Argument
requirement (Call immediate) number = requirement_of (helper_of immediate) number
requirement insn number = argument.Unused

abbrev pub numbers_text : Interval → List ℕ
numbers_text x = if is_any x then codes "any number" else codes "a number from " ++ decimal x.low ++ codes " to " ++ decimal x.high

unfoldable pub requirement_text : Argument → List ℕ
requirement_text argument.Unused = codes "anything"
requirement_text (argument.Number x) = numbers_text x
requirement_text argument.Frame = codes "a pointer into the frame"

-- an argument that doesn't meet the helper function's signature
unfoldable pub argument_text : AbstractState → Insn → ℕ → List ℕ
argument_text known insn number =
    decimal number ++ codes " must be " ++ requirement_text (requirement insn number) ++ codes ": " ++ register_fact known number

-- The words of the check that fails, by its cause. The first two causes occur only in runs: no check of the verifier fails with them. Pointer
-- arithmetic, and bytes that are outside an area or aren't written, have words of their own.
abbrev pub failure_words : Cause → List ℕ
failure_words cause.OutOfProgram = []
failure_words cause.IntoWide = []
failure_words (cause.ReadsNothing register) = codes "reads r"
failure_words cause.PointerArithmetic = []
failure_words cause.LeavesArea = codes "moves a pointer to an offset outside -32768..32767: "
failure_words cause.NotPointer = codes "the base is no pointer: "
failure_words cause.OutOfBounds = []
failure_words cause.UnwrittenFrame = []
failure_words cause.WritesRecord = codes "writes to the record, which is read-only: "
failure_words cause.StoresPointer = codes "a pointer is stored only by stxdw, at one known offset divisible by 8: "
failure_words cause.ComparesPointer = codes "compares a pointer: "
failure_words cause.UnknownHelper = codes "there is no helper function "
failure_words (cause.BadArgument number) = codes "argument "
failure_words cause.ExitNotNumber = codes "exits with a pointer: "

-- the facts that follow the words
abbrev pub failure_facts : AbstractState → Insn → Cause → List ℕ
failure_facts known insn cause.OutOfProgram = []
failure_facts known insn cause.IntoWide = []
failure_facts known insn (cause.ReadsNothing register) = decimal register ++ codes ", of which nothing is known"
failure_facts known insn cause.PointerArithmetic = arithmetic_text known insn ++ registers_text known insn
failure_facts known insn cause.LeavesArea = registers_text known insn
failure_facts known insn cause.NotPointer = base_text known insn
failure_facts known insn cause.OutOfBounds = outside known insn
failure_facts known insn cause.UnwrittenFrame = unwritten known insn ++ slots_text known insn
failure_facts known insn cause.WritesRecord = access_text known insn
failure_facts known insn cause.StoresPointer = registers_text known insn ++ offset_if insn
failure_facts known insn cause.ComparesPointer = registers_text known insn
failure_facts known insn cause.UnknownHelper = called_number insn
failure_facts known insn (cause.BadArgument number) = argument_text known insn number
failure_facts known insn cause.ExitNotNumber = register_fact known 0

unfoldable pub failure_text : AbstractState → Insn → Cause → List ℕ
failure_text known insn cause = failure_words cause ++ failure_facts known insn cause
