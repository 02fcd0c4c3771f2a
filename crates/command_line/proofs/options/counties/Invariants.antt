use Rattle.std.proofs.Common.{◌≡◌, true}
use Rattle.std.specs.Prelude.{take}
use Rattle.std.specs.List.{list_all}
use Rattle.command_line.specs.Values.{is_code}
use Rattle.command_line.proofs.options.counties.Given as goal

-- the arguments so far are codes, and were copied
abbrev pub invariant-loop-code : goal.invariant-loop-code
invariant-loop-code l =
    (l.codes.items ≡ take l.code-index l.given) × (list_all (λ code. is_code code.now) (take l.code-index l.given) ≡ true)
