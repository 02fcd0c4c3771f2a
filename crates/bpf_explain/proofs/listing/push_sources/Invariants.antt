use Rattle.std.proofs.Common.{◌≡◌, ◌++◌, take}
use Rattle.std.specs.List.{flat_map}
use Rattle.std.specs.String.{string_bytes}
use Rattle.listing_lines.specs.SourceLines.{line_of, source_text}
use Rattle.bpf_explain.proofs.listing.push_sources.Given as goal

-- the lines so far
abbrev pub invariant-loop-line : goal.invariant-loop-line
invariant-loop-line g l = string_bytes l.text ≡ string_bytes l.initial.text ++ flat_map (λ line. source_text (line_of line)) (take l.line-index l.lines)
