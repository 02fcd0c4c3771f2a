-- What opening, reading and closing files counts.
use Rattle.std.proofs.Common.{◌≡◌, ◌≢◌, ℕ, List, Option, Result, Ok, Err, IfErr, MatchResult, inr, subst, sym, ◌∙◌, arith}
use Rattle.std.specs.Io.KnownBytes.{Keeps}
use Rattle.named_files.specs.Files.{CountsClose, CountsProgramFault, Disk, HasFailedRead, IsUnfailed, KeepsCounts, OpenResults, ReadCounts}
use Rattle.named_files.specs.Files.{CountsFileResult, CountsProgramUse, CountsUseResult, IsProgramUseFault, IsUseFault}
use Rattle.named_files.specs.declared.files.FileFault.{FileFault}
use Rattle.named_files.specs.declared.files.FileFault.TheVariants.{Unusable, Memory}
use Rattle.named_files.specs.declared.files.ProgramInputFault.{ProgramInputFault}
use Rattle.named_files.specs.declared.files.ProgramInputFault.TheVariants.{File, Code}

-- what is known stays the same over two calls
pub preserves_both : (a b c : Option (List ℕ)) → Keeps a b → Keeps b c → Keeps a c
preserves_both a b c first second = grind (arith, first, second)

-- a reader is closed, with or without a failed read
pub sound_close : (name : List ℕ) {before after : ℕ} {failed failed' : ReadCounts} → before ≡ 0 → CountsClose name after failed failed'
    → after ≡ before → KeepsCounts failed failed'
sound_close name unread closes same = closes.0 (same ∙ unread)

pub broken_close : {name : List ℕ} {before after : ℕ} {failed failed' : ReadCounts} → before ≡ 0 → CountsClose name after failed failed'
    → after ≢ before → failed' name ≢ failed name
broken_close unread closes changed = closes.1 (λ none. changed (none ∙ sym unread))

pub keeps_both : {first second third : ReadCounts} → KeepsCounts first second → KeepsCounts second third → KeepsCounts first third
keeps_both before after name = after name ∙ before name

-- a file is closed, and after it others none of whose reads failed
pub close_then : {name : List ℕ} {reads : ℕ} {first second third : ReadCounts} → CountsClose name reads first second → KeepsCounts second third
    → CountsClose name reads first third
close_then {name} closes same = (λ none. keeps_both (closes.0 none) same, λ some as_before. closes.1 some (sym (same name) ∙ as_before))

pub unfailed_both : {first second third : Disk} → IsUnfailed first second → IsUnfailed second third → IsUnfailed first third
unfailed_both before after = record { opens = after.opens ∙ before.opens; reads = keeps_both before.reads after.reads }

-- a file is closed under an equal name
pub named_close : {path name : List ℕ} {reads : ℕ} {failed failed' : ReadCounts} → path ≡ name → CountsClose path reads failed failed'
    → CountsClose name reads failed failed'
named_close {reads} {failed} {failed'} is = subst (λ (name : List ℕ). CountsClose name reads failed failed') is

module _ (name : List ℕ) (disk disk' : Disk) {before after : ℕ} {between : ReadCounts} (opens : disk'.failed_opens ≡ disk.failed_opens)
    (unread : before ≡ 0) (same : KeepsCounts disk.failed_reads between) (closes : CountsClose name after between disk'.failed_reads) where
  sound_use : after ≡ before → IsUnfailed disk disk'
  sound_use none = record { opens = opens; reads = keeps_both same (sound_close name unread closes none) }

  pub broken_use : after ≢ before → HasFailedRead name disk disk'
  broken_use changed as_before = broken_close unread closes changed (as_before ∙ sym (same name))

  -- a file is opened, read and closed
  pub used : {T : Type 0} (result : Result T FileFault) → CountsFileResult result before after → CountsUseResult name result disk disk'
  used (Ok value) reads = sound_use reads
  used (Err (Unusable error)) reads = inr (broken_use reads)
  used (Err Memory) reads = sound_use reads

  -- the same for a program
  pub used_program : {T : Type 0} (result : Result T ProgramInputFault)
      → MatchResult result (λ _. after ≡ before) (λ of. CountsProgramFault of before after) → CountsProgramUse name result disk disk'
  used_program (Ok program) reads = sound_use reads
  used_program (Err (File (Unusable error))) reads = inr (broken_use reads)
  used_program (Err (File Memory)) reads = sound_use reads
  used_program (Err (Code fault)) reads = sound_use reads

  -- if the file can't be used, a read of it failed
  module _ {R : Type 0} (open_results : OpenResults R) (reader : R) (opened : open_results name (Ok reader)) where
    pub read_fault : {T : Type 0} (result : Result T FileFault) → CountsFileResult result before after
        → IfErr result (IsUseFault open_results name disk disk')
    read_fault (Ok bytes) reads = tt
    read_fault (Err (Unusable error)) reads = inr (reader, opened, broken_use reads)
    read_fault (Err Memory) reads = tt

    -- the same for a program
    pub read_program_fault : {T : Type 0} (result : Result T ProgramInputFault)
        → MatchResult result (λ _. after ≡ before) (λ of. CountsProgramFault of before after)
        → IfErr result (IsProgramUseFault open_results name disk disk')
    read_program_fault (Ok program) reads = tt
    read_program_fault (Err (File (Unusable error))) reads = inr (reader, opened, broken_use reads)
    read_program_fault (Err (File Memory)) reads = tt
    read_program_fault (Err (Code fault)) reads = tt
