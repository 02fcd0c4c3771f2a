use Rattle.std.proofs.Common.{◌≡◌, ◌++◌, take}
use Rattle.std.specs.String.{string_bytes}
use Rattle.bpf_explain.specs.Failure.{more_facts}
use Rattle.bpf_explain.proofs.failure.push_more_facts.Given as goal

-- the facts so far
abbrev pub invariant-loop-part : goal.invariant-loop-part
invariant-loop-part g l = string_bytes l.text ≡ string_bytes l.initial.text ++ more_facts l.known (take l.part-index l.parts)
