use Rattle.std.proofs.Common.{◌≡◌, ℕ, List, take}
use Rattle.layers.specs.LayerParts.{parts_of}
use Rattle.named_files.specs.Files.{IsUnfailed}
use Rattle.commands.specs.Select.{WritesCounties, selection}
use Rattle.commands.proofs.CountiesLemmas.{texts}
use Rattle.commands.proofs.select.select_counties.Given as goal

-- the extracts of the counties of the codes so far were written; what is known of the files stays the same, and no open and no read failed
abbrev pub invariant-loop-code : goal.invariant-loop-code
invariant-loop-code g l = record {
  written : WritesCounties (selection (g.F.Files.disk l.initial.files).known l.folder (parts_of l.layer) l.program.code)
      (g.W.CountedWrite.writer l.initial.out) (texts (take l.code-index l.codes))
      (g.W.CountedWrite.writer l.out);
  stay : (other : List ℕ) → (g.F.Files.disk l.files).known other ≡ (g.F.Files.disk l.initial.files).known other;
  counts : IsUnfailed (g.F.Files.disk l.initial.files) (g.F.Files.disk l.files);
}
