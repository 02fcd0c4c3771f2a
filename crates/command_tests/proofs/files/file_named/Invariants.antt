use Rattle.std.proofs.Common.{◌≡◌, drop}
use Rattle.command_tests.specs.Memory.{bytes_named}
use Rattle.command_tests.proofs.files.file_named.Given as goal

-- none of the files so far has the name
abbrev pub invariant-loop-file : goal.invariant-loop-file
invariant-loop-file l = bytes_named l.files l.name ≡ bytes_named (drop l.file-index l.files) l.name
