use Rattle.std.proofs.Common.{◌++◌, ◌∙◌, ap, append_assoc, List, ℕ}
use Rattle.std.specs.Prelude.{codes, decimal}
use Rattle.std.specs.String.{string_bytes}
use Rattle.bpf_explain.specs.Reach.{last_of, limit_text}
use Rattle.listing_notes.proofs.LoopLemmas.{appended-last, appended-twice}
use Rattle.bpf_explain.proofs.reach.push_limit.Goals as goal

pub returns : goal.returns
unfolding limit_text
returns g c =
    let old : List ℕ = string_bytes c.args.text.now in
    let words : List ℕ = codes ", which has 0.." in
    let number : List ℕ = decimal (last_of c.args.area) in
    let first_two = appended-twice old words number c.in_ok-push_str.ensures.bytes c.in_ok-push_last.ensures in
    appended-last c.push_str-2.result (string_bytes c.push_last.new.text) (codes ": ") _ c.push_str-2.ensures.bytes
    (ap (λ (text : List ℕ). text ++ codes ": ") first_two ∙ append_assoc old (words ++ number) (codes ": ")
    ∙ ap (λ (text : List ℕ). old ++ text) (append_assoc words number (codes ": ")))
