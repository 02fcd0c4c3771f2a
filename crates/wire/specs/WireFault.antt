-- The refusal for a connection.
use Rattle.std.specs.Prelude.{codes}
use Rattle.refusals.specs.Refusal.{RefusalParts, io, refused}
use Rattle.counted_io.specs.declared.writing.WriteFault.{WriteFault}
use Rattle.counted_io.specs.declared.writing.WriteFault.TheVariants as write_fault
use Rattle.wire.specs.declared.fault.WireFault.{WireFault}
use Rattle.wire.specs.declared.fault.WireFault.TheVariants.{Closed, Read, Write, WriteZero}

abbrev pub of_write : WriteFault → WireFault
of_write write_fault.Write = Write
of_write write_fault.WriteZero = WriteZero

abbrev pub refusal : WireFault → RefusalParts
refusal Closed = refused 80 (codes "Closed")
refusal Read = io 81 (codes "Read")
refusal Write = io 82 (codes "Write")
refusal WriteZero = io 83 (codes "WriteZero")
