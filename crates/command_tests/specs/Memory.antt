-- The bytes of files in memory.
use Rattle.std.specs.Prelude.{ℕ, List, [], ◌∷◌, if◌then◌else◌}
use Rattle.std.specs.Str.{bytes_eq}
use Rattle.command_tests.specs.declared.files.MemoryFile.{MemoryFile}
use Rattle.command_tests.specs.declared.files.MemoryFiles.{MemoryFiles}
use Rattle.named_files.specs.Files.{ReadCounts}

-- the bytes of the first file of this name; a file that isn't there has none
abbrev pub bytes_named : List MemoryFile → List ℕ → List ℕ
bytes_named [] name = []
bytes_named (file ∷ files) name = if bytes_eq file.name.now name then file.bytes.items else bytes_named files name

-- the counts of failed reads: one number for the file with the given access, and one for all other names
abbrev pub read_counts : MemoryFiles → ReadCounts
read_counts files name = if bytes_eq files.name.now name then files.failed_reads else files.other_failed_reads
