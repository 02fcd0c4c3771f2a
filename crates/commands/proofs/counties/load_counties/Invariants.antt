use Rattle.std.proofs.Common.{◌≡◌, ℕ, List, map, take}
use Rattle.commands.specs.Counties.{AreCountiesOf}
use Rattle.named_files.specs.Files.{IsUnfailed}
use Rattle.commands.proofs.counties.load_counties.Given as goal

-- the counties of the codes so far are loaded; what is known of the files stays the same, and no open and no read failed
abbrev pub invariant-loop-code : goal.invariant-loop-code
invariant-loop-code g l = record {
  loaded : AreCountiesOf l.shapes (g.F.Files.disk l.initial.files).known l.folder (map (λ code. code.now) (take l.code-index l.codes)) l.counties.items;
  stay : (other : List ℕ) → (g.F.Files.disk l.files).known other ≡ (g.F.Files.disk l.initial.files).known other;
  counts : IsUnfailed (g.F.Files.disk l.initial.files) (g.F.Files.disk l.files);
}
