-- Files in memory, looked up by name.
use Rattle.std.proofs.Common.{◌≡◌, ◌<◌, ◌+◌, ℕ, suc, List, get_or, drop, length, true, false, ap, sym, ◌∙◌, arith}
use Rattle.std.specs.Prelude.{if◌then◌else◌}
use Rattle.std.proofs.Math.Seq.{drop-cons}
use Rattle.std.specs.Str.{bytes_eq}
use Rattle.command_tests.specs.Memory.{bytes_named}
use Rattle.command_tests.specs.declared.files.MemoryFile.{MemoryFile}

module _ (files : List MemoryFile) (i : ℕ) (file : MemoryFile) (name : List ℕ) (inside : i < length files) (is : file ≡ get_or files i file) where
  next_named : bytes_named (drop i files) name
      ≡ (if bytes_eq file.name.now name then file.bytes.items else bytes_named (drop (suc i) files) name)
  next_named =
      ap (λ (files : List MemoryFile). bytes_named files name) (drop-cons files i file inside)
      ∙ ap (λ (next : MemoryFile). if bytes_eq next.name.now name then next.bytes.items else bytes_named (drop (suc i) files) name) (sym is)

  -- the next file has the name
  pub named_here : bytes_eq file.name.now name ≡ true → bytes_named (drop i files) name ≡ file.bytes.items
  named_here same = next_named ∙ ap (λ same. if same then file.bytes.items else bytes_named (drop (suc i) files) name) same

  -- it has another name
  pub named_later : bytes_eq file.name.now name ≡ false → bytes_named (drop i files) name ≡ bytes_named (drop (i + 1) files) name
  named_later other =
      let next : suc i ≡ i + 1 = omega arith in
      next_named ∙ ap (λ same. if same then file.bytes.items else bytes_named (drop (suc i) files) name) other
      ∙ ap (λ (i : ℕ). bytes_named (drop i files) name) next
