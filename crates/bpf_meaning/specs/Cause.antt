-- The refusal of a cause, without the place where the program is stuck.
use Rattle.std.specs.Prelude.{Some, codes}
use Rattle.refusals.specs.Refusal.{RefusalParts, detailed, refused}
use Rattle.bpf_meaning.specs.declared.cause.Cause.{Cause}
use Rattle.bpf_meaning.specs.declared.cause.Cause.TheVariants.{OutOfProgram, IntoWide, ReadsNothing, PointerArithmetic, LeavesArea, NotPointer, OutOfBounds, UnwrittenFrame, WritesRecord, StoresPointer, ComparesPointer, UnknownHelper, BadArgument, ExitNotNumber}

abbrev pub refusal : Cause → RefusalParts
refusal OutOfProgram = refused 31 (codes "OutOfProgram")
refusal IntoWide = refused 32 (codes "IntoWide")
refusal (ReadsNothing register) = detailed 40 (codes "ReadsNothing") (Some register)
refusal PointerArithmetic = refused 41 (codes "PointerArithmetic")
refusal LeavesArea = refused 42 (codes "LeavesArea")
refusal NotPointer = refused 43 (codes "NotPointer")
refusal OutOfBounds = refused 44 (codes "OutOfBounds")
refusal UnwrittenFrame = refused 45 (codes "UnwrittenFrame")
refusal WritesRecord = refused 46 (codes "WritesRecord")
refusal StoresPointer = refused 47 (codes "StoresPointer")
refusal ComparesPointer = refused 48 (codes "ComparesPointer")
refusal UnknownHelper = refused 49 (codes "UnknownHelper")
refusal (BadArgument argument) = detailed 50 (codes "BadArgument") (Some argument)
refusal ExitNotNumber = refused 51 (codes "ExitNotNumber")
